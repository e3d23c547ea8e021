use Rattle.std.proofs.Common.{◌∙◌, ap, sym, map, neg_ℤ}
use Rattle.std.proofs.lemmas.List.{take_all}
use Rattle.flow_rationals.proofs.made.Within.{negated_pushed, number_same}
use Rattle.flow_rationals.proofs.edges.sum_form.Goals as goal

pub new-requires : goal.new-requires
new-requires c =
    let items = c.as_slice-coeff-items in
    let whole = take_all c.loop-coeff.coeff-index items.result.now c.loop-coeff-test.false in
    let d = c.args.sum.now.den in
    negated_pushed items.result.now _ _ _ d (c.loop-coeff.invariant ∙ ap (map neg_ℤ) whole) c.in_ok-push-2.ensures.items
    (number_same d c.requires.den)
    (rw (sym items.ensures.list) at items.ensures.numbers) c.requires.den
