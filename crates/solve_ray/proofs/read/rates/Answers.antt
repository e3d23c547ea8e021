use Rattle.std.proofs.Common.{◌∙◌, ◌+◌, ◌<◌, ◌≤◌, List, ◌∷◌, [], length, get_or, ap, refl, sym, subst}
use Rattle.std.proofs.lemmas.Result.{err_from_is_err_and}
use Rattle.solve_ray.specs.Ranges.{IsWithin}
use Rattle.solve_ray.specs.declared.rate.RateOf.{RateOf}
use Rattle.solve_ray.specs.declared.rate.Rates.{Rates}
use Rattle.solve_ray.specs.Reading.{named_rates, named_operations}
use Rattle.solve_ray.proofs.answers.Gathered.{IsRead, read_more, read_wide, read_all, fault_of}
use Rattle.solve_ray.proofs.reading.NamedRates.{within_at, adds_rate}
use Rattle.solve_ray.proofs.read.rates.Goals as goal

pub add_rate-requires : goal.add_rate-requires
add_rate-requires c =
    let same = c.as_slice-rise-items.ensures in
    let x = c.rise-item.result in
    let i = c.loop-rise.rise-index in
    let width = length c.args.ray.now in
    let e = c.rise-item.is ∙ ap (λ rs. get_or rs i x) same in
    subst (IsWithin width) (sym e) (within_at width c.args.layout.now.rises i x c.requires
    (subst (λ rs. i < length rs) same c.loop-rise-test.true))

pub returns-in_err-add_rate : goal.returns-in_err-add_rate
returns-in_err-add_rate c =
    let p = err_from_is_err_and c.from_residual.result c.from_residual.ensures.1 in
    let same = c.as_slice-rise-items.ensures in
    let ray = c.args.ray.now in
    let rises = c.args.layout.now.rises in
    let x = c.rise-item.result in
    let i = c.loop-rise.rise-index in
    rw (p.1, p.2)
    (fault_of (named_operations ray (x ∷ [])) (named_operations ray rises) c.in_err-add_rate.field-0.0
    (λ o. read_wide (named_rates ray) (named_operations ray) rises i c.loop-rise.list.items x c.loop-rise.invariant
    (subst (λ rs. i < length rs) same c.loop-rise-test.true) (c.rise-item.is ∙ ap (λ rs. get_or rs i x) same) (named_rates ray (x ∷ []))
    (named_operations ray (x ∷ [])) (adds_rate ray x) o) c.in_err-add_rate.ensures)

pub loop-rise-preserved : goal.loop-rise-preserved
loop-rise-preserved c =
    let same = c.as_slice-rise-items.ensures in
    let ray = c.args.ray.now in
    let rises = c.args.layout.now.rises in
    let x = c.rise-item.result in
    let i = c.loop-rise.rise-index in
    let e = c.in_ok-add_rate.ensures in
    subst (IsRead (named_rates ray) (named_operations ray) rises (i + 1)) (sym e.0)
    (read_more (named_rates ray) (named_operations ray) rises i c.loop-rise.list.items x c.loop-rise.invariant
    (subst (λ rs. i < length rs) same c.loop-rise-test.true) (c.rise-item.is ∙ ap (λ rs. get_or rs i x) same) (named_rates ray (x ∷ []))
    (named_operations ray (x ∷ [])) (adds_rate ray x) e.1)

pub returns : goal.returns
returns c =
    let ray = c.args.ray.now in
    let rises = c.args.layout.now.rises in
    let a = read_all (named_rates ray) (named_operations ray) rises c.loop-rise.rise-index c.loop-rise.list.items refl refl
    (subst (λ rs. length rs ≤ c.loop-rise.rise-index) c.as_slice-rise-items.ensures c.loop-rise-test.false) c.loop-rise.invariant in
    let P : List RateOf → Rates = λ ys. record { list = ys } in
    (ap P (c.new.ensures ∙ a.0), a.1)
