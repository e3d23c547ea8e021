use Rattle.std.proofs.Common.{◌≡◌, ◌∙◌, ◌<◌, ℕ, List, map, get_or, length, ap, sym, subst}
use Rattle.base_facts.specs.Elements.{In}
use Rattle.base_numbers.specs.Rational.{zero_ℚ}
use Rattle.base_numbers.specs.Extended.{pos_inf}
use Rattle.solve_ray.specs.declared.rate.RateOf.{RateOf}
use Rattle.solve_ray.specs.declared.rate.Rates.{Rates}
use Rattle.solve_joint.specs.declared.joined.Joined.TheVariants.{Ray}
use Rattle.solve_rounds.specs.Lows.{no_trace, IsRaised}
use Rattle.solve_rounds.specs.Turning.{HasSizes}
use Rattle.solve_rounds.proofs.putting.Puts.{length-puts}
use Rattle.solve_rounds.proofs.turning.TurnItems.{each_unknown}
use Rattle.solve_rounds.proofs.turning.take.Goals as goal

no_rate : RateOf
no_rate = record { unknown = 0; rate = zero_ℚ; direction = no_trace }

-- what holds of each of the list holds of each unknown with a rate
each_rate : (P : ℕ → Type 0) (list : List ℕ) (rates : Rates) (shown : List RateOf) → shown ≡ rates.list → HasSizes list (Ray rates)
    → ((k : ℕ) → k < length list → P (get_or list k 0)) →
    (k : ℕ) → k < length (map (λ (rate : RateOf). rate.unknown) shown) → P (get_or (map (λ (rate : RateOf). rate.unknown) shown) k 0)
each_rate P list rates shown e within h = each_unknown P (λ (rate : RateOf). rate.unknown) shown no_rate list h
    (λ x m. within x (subst (λ s. In s x) e m))

pub ray_items-requires : goal.ray_items-requires
ray_items-requires c =
    each_rate (IsRaised c.args.raises.now c.args.places.now) c.args.list.now c.in-Ray.rates c.as_slice-in-Ray.result.now
    c.as_slice-in-Ray.ensures (subst (HasSizes c.args.list.now) c.in-Ray.is c.requires.sizes) c.requires.raised

pub put_tops-requires : goal.put_tops-requires
put_tops-requires c =
    each_rate (λ u. u < length c.args.turning.now.bounds) c.args.list.now c.in-Ray.rates c.as_slice-in-Ray-2.result.now
    c.as_slice-in-Ray-2.ensures (subst (HasSizes c.args.list.now) c.in-Ray.is c.requires.sizes) c.requires.within

pub finite-requires : goal.finite-requires
finite-requires c k l =
    let rates = c.as_slice-in-Ray-2.result.now in
    subst (λ n. get_or c.args.list.now k 0 < n) (sym (ap length c.put_tops.ensures
    ∙ length-puts (λ k. pos_inf) (map (λ (rate : RateOf). rate.unknown) rates) c.args.turning.now.bounds (length rates)))
    (c.requires.within k l)
