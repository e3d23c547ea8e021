use Rattle.std.proofs.Common.{◌≡◌, map, drop}
use Rattle.source_grammar.specs.Machine.{start}
use Rattle.source_grammar.specs.Verdicts.{scan}
use Rattle.source_grammar.specs.View.{token_of}
use Rattle.source_grammar.specs.Goals.{stack_of}
use Rattle.source_grammar.proofs.machine.recognise.Given as goal

abbrev pub invariant-loop-piece : goal.invariant-loop-piece
invariant-loop-piece l = scan (stack_of l.stack.items) (map token_of (drop l.piece-index l.pieces))
    ≡ scan start (map token_of l.pieces)
