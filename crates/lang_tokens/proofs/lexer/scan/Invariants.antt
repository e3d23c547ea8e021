use Rattle.std.proofs.Common.{◌-◌, ◌≤◌, length, drop}
use Rattle.lang_tokens.proofs.reading.Growth.{ReadsBehind}
use Rattle.lang_tokens.proofs.lexer.scan.Given as goal

abbrev pub invariant-loop-at : goal.invariant-loop-at
invariant-loop-at l = record {
  reads : ReadsBehind l.lexicon l.text l.at l.tokens.items (drop l.at l.text) l.before;
  within : l.at ≤ length l.text;
}

abbrev pub decreases-loop-at : goal.decreases-loop-at
decreases-loop-at l = length l.text - l.at
