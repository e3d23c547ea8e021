-- A ray whose step is valid has the facts of a turn.
use Rattle.std.proofs.Common.{◌≡◌, ◌∙◌, ℕ, ◌/◌, ◌%◌, ◌<◌, List, length, get_or, map, sym, ap, subst}
use Rattle.std.proofs.lemmas.List.{length-map}
use Rattle.base_facts.specs.Elements.{In}
use Rattle.base_facts.proofs.elements.Membership.{in_map, of_map}
use Rattle.base_numbers.specs.Rational.{zero_ℚ}
use Rattle.base_numbers.specs.Extended.{Ext as Extended}
use Rattle.flow_systems.specs.Equations.{Equations, Vector}
use Rattle.flow_systems.specs.View.{equations_of}
use Rattle.flow_systems.specs.declared.system.System.{System}
use Rattle.theory_validity.specs.Steps.{Item, RayItem}
use Rattle.cert_types.specs.declared.step.Step.{Step as CodeStep}
use Rattle.cert_types.specs.Certificates.{ray_item}
use Rattle.solve_ray.specs.declared.rate.RateOf.{RateOf}
use Rattle.theory_strategy.specs.Round.{SameItem, RayFacts}
use Rattle.solve_offers.specs.AtBounds.{vector_at}
use Rattle.solve_rounds.specs.Lows.{no_trace, item_in, raise_at, IsRaised, AreRaised, items_at}
use Rattle.solve_rounds.specs.Guessed.{IsValidRay}
use Rattle.solve_rounds.specs.Turning.{ray_item_of}
use Rattle.solve_rounds.proofs.lows.ListedLows.{item_is}
use Rattle.solve_rounds.proofs.turning.TurnItems.{place_of, in_place}
use Rattle.solve_rounds.proofs.turning.Turned.{no_item}

-- a rate that stands where there is none
pub no_rate : RateOf
no_rate = record { unknown = 0; rate = zero_ℚ; direction = no_trace }

module _ (system : System) (raises : List CodeStep) (places list : List ℕ) (raised : AreRaised raises places list)
    (bounds : List Extended) (rates : List RateOf) (ray : IsValidRay system raises places bounds list rates) where
  abbrev rows : ℕ
  rows = length system.template

  abbrev eqs : Equations
  eqs = equations_of system

  abbrev V : Vector
  V = vector_at system bounds

  abbrev items : List Item
  items = items_at rows raises places list

  abbrev its : List Item
  its = map (ray_item rows) (map (ray_item_of raises places) rates)

  -- each item is that of a rate
  rate_of : (v : Item) → In its v → (rate : RateOf) × In rates rate × (ray_item rows (ray_item_of raises places rate) ≡ v)
  rate_of v m =
      let a = of_map (ray_item rows) (map (ray_item_of raises places) rates) v m in
      let b = of_map (ray_item_of raises places) rates a.0 a.1 in
      (b.0, b.1, ap (ray_item rows) b.2 ∙ a.2)

  -- which is for the unknown of its raise
  same : (rate : RateOf) → In list rate.unknown
      → SameItem (item_in rows (raise_at raises places rate.unknown)) (ray_item rows (ray_item_of raises places rate))
  same rate m =
      let k = place_of list rate.unknown 0 m in
      let r = subst (IsRaised raises places) k.2 (raised k.0 k.1) in
      let i = item_is rows (raise_at raises places rate.unknown) r.filled in
      record {
        point = i.point ∙ ap (λ u. u / rows) r.unknown;
        row = i.row ∙ ap (λ u. u % rows) r.unknown;
        edge = i.edge;
        low = i.low;
      }

  listed : (v : Item) → In its v → (u : Item) × In items u × SameItem u v
  listed v m =
      let r = rate_of v m in
      let l = ray.listed r.0 r.1 in
      let u = item_in rows (raise_at raises places r.0.unknown) in
      (u, in_map (λ n. item_in rows (raise_at raises places n)) list r.0.unknown l, subst (SameItem u) r.2 (same r.0 l))

  some : 0 < length its
  some = subst (λ n. 0 < n) (sym (length-map (map (ray_item_of raises places) rates) (ray_item rows)
      ∙ length-map rates (ray_item_of raises places))) ray.some

  valid : (v : Item) → In its v → RayItem eqs V its v
  valid v m = ray.valid.valid v m

  -- the facts of the turn
  pub ray_facts : RayFacts eqs V items its
  ray_facts = record {
    distinct = ray.valid.distinct;
    listed = listed;
    first = get_or its 0 no_item;
    some = in_place its no_item 0 some;
    size = λ v m. (valid v m).direction_size;
    rate = λ v m. (valid v m).rate;
    named = λ v m. (valid v m).named;
    others = λ v m. (valid v m).others;
    falls = λ v m. (valid v m).falls;
    gains = λ v m. (valid v m).gains;
  }
