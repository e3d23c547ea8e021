use Rattle.std.proofs.Common.{◌∙◌, ◌<◌, length, map, get_or, ap, ap₂, sym, subst}
use Rattle.std.specs.Prelude.{slice_set}
use Rattle.std.proofs.lemmas.List.{get_or-map, length-map}
use Rattle.base_numbers.specs.Extended.{pos_inf}
use Rattle.solve_rounds.proofs.putting.Puts.{length-puts, puts-none, puts-more}
use Rattle.solve_rounds.proofs.putting.put_tops.Goals as goal

pub loop-k-init : goal.loop-k-init
loop-k-init c = sym (puts-none (λ k. pos_inf) (map (λ rate. rate.unknown) c.args.rates.now) c.args.bounds.now)

pub set-requires : goal.set-requires
set-requires c =
    let rates = c.args.rates.now in
    let k = c.loop-k.k in
    let list = map (λ rate. rate.unknown) rates in
    let size = ap length c.loop-k.invariant ∙ length-puts (λ k. pos_inf) list c.args.bounds.now k in
    let l = length-map rates (λ rate. rate.unknown) in
    subst (λ n. (get_or rates k c.index-rates-k.result).unknown < n) (sym size)
    (subst (λ u. u < length c.args.bounds.now) (get_or-map (λ rate. rate.unknown) rates k c.index-rates-k.result 0 c.loop-k-test.true)
    (c.requires k (subst (λ n. k < n) (sym l) c.loop-k-test.true)))

pub loop-k-preserved : goal.loop-k-preserved
loop-k-preserved c =
    let rates = c.args.rates.now in
    let k = c.loop-k.k in
    let list = map (λ rate. rate.unknown) rates in
    c.set.ensures
    ∙ ap₂ (λ bs u. slice_set bs u pos_inf) c.loop-k.invariant (sym (get_or-map (λ rate. rate.unknown) rates k c.index-rates-k.result 0
    c.loop-k-test.true))
    ∙ sym (puts-more (λ k. pos_inf) list c.args.bounds.now k)
