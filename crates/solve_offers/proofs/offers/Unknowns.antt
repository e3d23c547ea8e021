-- What becomes of an unknown by its offer.
use Rattle.std.proofs.Common.{◌≡◌, ℕ, zero, suc, ◌*◌, ◌/◌, ◌%◌, ◌<◌, mul-zero, true, false, List, [], ◌∷◌, length, get_or, refl, sym, subst}
use Rattle.std.proofs.Common.{arith}
use Rattle.std.proofs.Math.Nat.{mod-lt, div-lt_iff_lt-mul}
use Rattle.std.specs.Prelude.{Option, Some}
use Rattle.base_facts.specs.Elements.{In}
use Rattle.flow_systems.specs.Equations.{Equations, Vector}
use Rattle.theory_strategy.specs.Policy.{offers}
use Rattle.theory_transformers.specs.EdgeProblems.{transformer}
use Rattle.solve_offers.specs.declared.offer.Offer.{Offer}
use Rattle.solve_offers.specs.Offers.{Exceeds, SomeExceeds, is_top}
use Rattle.solve_offers.specs.Improvement.{IsOffer, Becomes, IsListed, UnknownBecomes}
use Rattle.solve_offers.proofs.offers.Offered.{top_is}
use Rattle.solve_offers.proofs.offers.NextPick.{nothing_offered, nothing_at_top, taken_in, taken_becomes}

-- the row of an unknown is one of the template
pub row_within : (u points rows : ℕ) → u < points * rows → u % rows < rows
row_within u points zero h = (let none : points * zero ≡ zero = mul-zero points in absurd (omega (arith, h, none)))
row_within u points (suc n) h = mod-lt u (omega arith)

-- its point is one of the points
pub point_within : (u points rows : ℕ) → u < points * rows → u / rows < points
point_within u points zero h = (let none : points * zero ≡ zero = mul-zero points in absurd (omega (arith, h, none)))
point_within u points (suc n) h = (div-lt_iff_lt-mul (omega arith)).1 h

module _ (system : Equations) (z : Vector) (policy : Offer → ℕ → Type 0) (u : ℕ) (before after : Option ℕ) (offer : Offer)
    (row : u % length system.template < length system.template)
    (is_offer : IsOffer system (transformer system) z (u / length system.template) (u % length system.template) offer) where
  -- the policy's answer is taken
  pub unknown_taken : (position : ℕ) → policy offer position → Exceeds offer position → after ≡ Some (get_or offer.edges position 0)
      → UnknownBecomes system z policy u before after true
  unknown_taken position answers exceeds is =
      record {
        becomes = subst (Becomes system (transformer system) z policy (u / length system.template) (u % length system.template)
            (offers system (transformer system) z (u / length system.template) (u % length system.template)) before) (sym is)
            (taken_becomes system (transformer system) z policy (u / length system.template) (u % length system.template) offer position
            before row is_offer answers exceeds);
        told = by (offers system (transformer system) z (u / length system.template) (u % length system.template))
            (taken_in system (transformer system) z policy (u / length system.template) (u % length system.template) offer position row
            is_offer exceeds);
      }
    where
      by : (os : List ℕ) → In os (get_or offer.edges position 0) → IsListed os true
      by [] m = absurd m
      by (k ∷ ks) m = refl

  -- nothing exceeds the bound
  pub unknown_kept : (SomeExceeds offer → ⊥) → after ≡ before → UnknownBecomes system z policy u before after false
  unknown_kept none is =
      let e = nothing_offered system (transformer system) z policy (u / length system.template) (u % length system.template) offer row
      is_offer none in
      record {
        becomes = subst (λ os. Becomes system (transformer system) z policy (u / length system.template) (u % length system.template)
            os before after) (sym e) is;
        told = subst (λ os. IsListed os false) (sym e) refl;
      }

-- nothing is offered to an unknown at +∞
pub unknown_at_top : (system : Equations) (z : Vector) (policy : Offer → ℕ → Type 0) (u : ℕ) (before after : Option ℕ)
    → u % length system.template < length system.template →
    is_top (z (u / length system.template) (u % length system.template)) ≡ true → after ≡ before
    → UnknownBecomes system z policy u before after false
unknown_at_top system z policy u before after row top is =
    let e = nothing_at_top system (transformer system) z policy (u / length system.template) (u % length system.template) row
    (top_is (z (u / length system.template) (u % length system.template)) top) in
    record {
      becomes = subst (λ os. Becomes system (transformer system) z policy (u / length system.template) (u % length system.template)
          os before after) (sym e) is;
      told = subst (λ os. IsListed os false) (sym e) refl;
    }
