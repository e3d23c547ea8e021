use Rattle.std.proofs.Common.{◌≡◌, map, drop}
use Rattle.lang_grammar.specs.Reaches.{expression_start, longer_by, reach}
use Rattle.lang_grammar.specs.View.{plain_token}
use Rattle.lang_grammar.specs.Goals.{stack_of}
use Rattle.lang_grammar.proofs.expression.reach.Given as goal

abbrev pub invariant-loop-count : goal.invariant-loop-count
invariant-loop-count l = longer_by l.count (reach (stack_of l.stack.items) (map plain_token (drop l.count l.tokens)))
    ≡ reach expression_start (map plain_token l.tokens)
