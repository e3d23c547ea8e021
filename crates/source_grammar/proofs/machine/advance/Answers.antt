use Rattle.source_grammar.specs.Symbols.{symbol_kind}
use Rattle.source_grammar.proofs.machine.Tokens.{went}
use Rattle.source_grammar.proofs.machine.advance.Goals as goal

pub returns-in_default-enter : goal.returns-in_default-enter
returns-in_default-enter c = went _ c.loop-goal.stack.items c.pop.new.self.items c.in-Some.goal c.enter.result
    (symbol_kind c.args.symbol) _ c.loop-goal.invariant c.in-Some.ensures.items c.enter.ensures c.in_default-enter.not-Skips
    c.in_default-enter.not-Stops c.in_default-enter.not-Deep c.in_ok-add-in_default-enter.ensures
