use Rattle.std.proofs.Common.{◌∙◌, ap, sym, map, neg_ℤ}
use Rattle.std.proofs.lemmas.List.{take_all}
use Rattle.flow_edges.proofs.guard.GuardLemmas.{are_numbers-negated}
use Rattle.flow_edges.proofs.guard.opposites.Goals as goal

pub new-requires : goal.new-requires
new-requires c =
    let items = c.as_slice-coeff-items in
    let whole = take_all c.loop-coeff.coeff-index items.result.now c.loop-coeff-test.false in
    rw (c.loop-coeff.invariant ∙ ap (map neg_ℤ) whole) (are_numbers-negated items.result.now
    (rw (sym items.ensures.list) at items.ensures.numbers))
