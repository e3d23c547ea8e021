use Rattle.std.proofs.Common.{◌∙◌, sym, subst}
use Rattle.solve_offers.specs.Known.{AreNumbersOf, KeepsOthers}
use Rattle.solve_rounds.specs.Growth.{growth_at}
use Rattle.solve_rounds.proofs.evaluation.RoundMade.{named_numbers_of}
use Rattle.solve_rounds.proofs.solving.advance.Goals as goal

pub forget-requires-clause-numbers : goal.forget-requires-clause-numbers
forget-requires-clause-numbers g c =
    let system = c.args.system.now in
    let progress = c.args.progress in
    subst (AreNumbersOf system) (sym (c.as_slice.ensures ∙ c.in_ok-grown.ensures.raised))
    (named_numbers_of system (growth_at system progress.bounds progress.pick))

pub returns-clause-known : goal.returns-clause-known
returns-clause-known g c =
    let grown = c.in_ok-grown.grown in
    c.forget.ensures c.args.progress.bounds grown.bounds c.requires.known
    (subst (λ l. KeepsOthers l c.args.progress.bounds grown.bounds) (sym c.as_slice.ensures) c.in_ok-grown.ensures.others)
