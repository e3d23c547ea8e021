use Rattle.std.proofs.Common.{◌∙◌, sym, arith}
use Rattle.lang_grammar.specs.Goals.{stack_of}
use Rattle.lang_grammar.proofs.phrase.Turns.{turn_ends, turn_stops, turn_nests, turn_out}
use Rattle.lang_grammar.proofs.expression.reach.Goals as goal

pub returns-then-ends_before : goal.returns-then-ends_before
returns-then-ends_before c =
    sym (turn_ends c.args.tokens.now c.loop-count.count _ (omega arith) c.loop-count.stack.items c.as_slice.result.now
    c.as_slice.ensures.value c.ends_before.result
    c.ends_before.ensures c.if-ends_before.true)
    ∙ c.loop-count.invariant

pub returns-in-Refused : goal.returns-in-Refused
returns-in-Refused c =
    sym (turn_stops c.args.tokens.now c.loop-count.count _ (omega arith) c.loop-count.stack.items c.as_slice.result.now
    c.as_slice.ensures.value
    c.ends_before.result c.ends_before.ensures c.if-ends_before.false c.in_ok-advance.field-0 _ c.in_ok-advance.ensures c.in-Refused.is)
    ∙ c.loop-count.invariant

pub returns-in-TooDeep : goal.returns-in-TooDeep
returns-in-TooDeep c =
    sym (turn_nests c.args.tokens.now c.loop-count.count _ (omega arith) c.loop-count.stack.items c.as_slice.result.now
    c.as_slice.ensures.value
    c.ends_before.result c.ends_before.ensures c.if-ends_before.false c.in_ok-advance.field-0 _ c.in_ok-advance.ensures c.in-TooDeep.is)
    ∙ c.loop-count.invariant

pub returns : goal.returns
returns c = sym (turn_out c.args.tokens.now c.loop-count.count (stack_of c.loop-count.stack.items) (omega arith)) ∙ c.loop-count.invariant
