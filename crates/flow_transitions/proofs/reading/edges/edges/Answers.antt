use Rattle.std.proofs.Common.{◌∙◌, sym, rules}
use Rattle.std.proofs.lemmas.Bool.{not-false}
use denote.Enum.Bare.{same_true}
use Rattle.flow_transitions.specs.contracts.reading.symbol.Symbol.{the_type}
use Rattle.flow_transitions.proofs.progress.EdgeSteps.{ends}
use Rattle.flow_transitions.proofs.reading.edges.edges.Goals as goal

pub returns-clause-reads : goal.returns-clause-reads
returns-clause-reads c = λ answer h.
    let end = sym c.symbol.ensures.symbol ∙ same_true the_type (search rules) _ _ (not-false _ (sym c.ne.ensures ∙ c.edges-test.false)) in
    c.edges.invariant.goes answer (ends c.args.text.now c.args.tokens.now c.args.names.now c.args.points.now c.edges.edges.items c.edges.at
    end answer h)
