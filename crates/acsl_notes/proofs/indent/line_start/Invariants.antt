use Rattle.std.proofs.Common.{◌≡◌, ◌≤◌, [], drop, take}
use Rattle.acsl_notes.specs.Texts.{last_line}
use Rattle.acsl_notes.proofs.indent.line_start.Given as goal

abbrev pub invariant-loop-index : goal.invariant-loop-index
invariant-loop-index l = record {
  within : l.start ≤ l.index;
  line : last_line (drop l.start (take l.index l.text)) (drop l.index l.text) ≡ last_line [] l.text;
}
