use Rattle.std.proofs.Common.{◌≡◌, length}
use Rattle.source_grammar.specs.Verdicts.{verdict}
use Rattle.source_grammar.specs.Symbols.{symbol_kind}
use Rattle.source_grammar.specs.Goals.{stack_of}
use Rattle.source_grammar.proofs.machine.advance.Given as goal

abbrev pub invariant-loop-goal : goal.invariant-loop-goal
invariant-loop-goal l = verdict (stack_of l.fn.stack.items) (symbol_kind l.fn.symbol)
    ≡ verdict (stack_of l.stack.items) (symbol_kind l.symbol)

abbrev pub decreases-loop-goal : goal.decreases-loop-goal
decreases-loop-goal l = length l.stack.items
