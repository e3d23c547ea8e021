use Rattle.std.proofs.Common.{◌≡◌, ◌+◌, ◌≤◌, [], drop, length}
use Rattle.source_meaning.specs.Walk.{distinct}
use Rattle.source_tokens.specs.View.{tokens_of}
use Rattle.source_file.specs.declared.width.Place.TheVariants.{Heading}
use Rattle.source_file.specs.Width.{declared_from, depth_of}
use Rattle.source_file.proofs.choice.Repeats.{texts}
use Rattle.source_file.proofs.width.counted.Given as goal

abbrev pub invariant-loop-index : goal.invariant-loop-index
invariant-loop-index l = record {
  counted : distinct (texts l.before.keys) (declared_from l.place (tokens_of [] l.text (drop l.index l.tokens))) + length l.before.keys
      ≡ distinct [] (declared_from Heading (tokens_of [] l.text l.tokens));
  depth : depth_of l.place ≤ l.index;
}
