-- Unknowns that are offered no edge.
use Rattle.std.proofs.Common.{◌≡◌, ◌∙◌, inl, ℕ, ◌+◌, ◌-◌, ◌*◌, ◌/◌, ◌%◌, ◌<◌, ◌≤◌, Bool, true, false, true≢false, List, [], ◌∷◌, length}
use Rattle.std.proofs.Common.{get_or, refl, sym, ap, subst, arith}
use Rattle.std.specs.Prelude.{Option, None}
use Rattle.std.proofs.lemmas.Nat.{div-add-mod', div-mul-add, mul-add-lt}
use Rattle.std.proofs.lemmas.List.{get_or_default}
use Rattle.std.proofs.lemmas.List.Elements.{Contains-get_or}
use Rattle.base_facts.specs.Elements.{In}
use Rattle.base_facts.proofs.elements.Membership.{contains_from_in}
use Rattle.base_numbers.specs.Extended.{Ext as Extended, ◌≤ᴱ◌}
use Rattle.base_numbers.proofs.extended.ExtendedLaws.{ext_not_le_of_lt}
use Rattle.flow_edges.specs.declared.edge.Edge.{Edge}
use Rattle.flow_systems.specs.declared.system.System.{System}
use Rattle.flow_systems.specs.View.{equations_of}
use Rattle.theory_validity.proofs.certificates.Needs.{in_of_contains}
use Rattle.theory_strategy.specs.Policy.{offers}
use Rattle.solve_offers.specs.declared.offer.Offer.{Offer}
use Rattle.solve_offers.specs.AtBounds.{transformers, vector_at, edge_at, row_at}
use Rattle.solve_offers.specs.Improvement.{AreImproved, Becomes, IsListed, UnknownBecomes}
use Rattle.solve_offers.specs.Known.{IsSettled}
use Rattle.solve_offers.proofs.offers.Unknowns.{row_within}
use Rattle.solve_offers.proofs.offers.NextPick.{ends_there, unlisted, offers_at}

-- nothing is listed where nothing is told
none_told : (os : List ℕ) → IsListed os false → os ≡ []
none_told [] t = refl
none_told (k ∷ ks) t = absurd (true≢false (sym t))

module _ (system : System) (bounds : List Extended) (policy : Offer → ℕ → Type 0) (u : ℕ)
    (within : u < length system.flow.points * length system.template) (before after : Option ℕ) where
  abbrev p : ℕ
  p = u / length system.template

  abbrev r : ℕ
  r = u % length system.template

  abbrev offered : List ℕ
  offered = offers (equations_of system) (transformers system) (vector_at system bounds) p r

  row : r < length system.template
  row = row_within u (length system.flow.points) (length system.template) within

  -- an unknown that is offered none is settled
  pub settled_from : UnknownBecomes (equations_of system) (vector_at system bounds) policy u before after false → IsSettled system bounds u
  settled_from becomes edge l to = unlisted (equations_of system) (transformers system) (vector_at system bounds) policy p r 0
      system.flow.edges
      (sym (offers_at (equations_of system) (transformers system) (vector_at system bounds) policy p r row)
      ∙ none_told offered becomes.told)
      (edge_at system edge) (in_of_contains system.flow.edges (edge_at system edge) (Contains-get_or system.flow.edges edge _ l)) to

  none_offered : IsSettled system bounds u → offered ≡ []
  none_offered settled = by offered refl
    where
      by : (os : List ℕ) → offered ≡ os → offered ≡ []
      by [] e = e
      by (k ∷ ks) e =
          let found = ends_there (equations_of system) (transformers system) (vector_at system bounds) policy p r 0 system.flow.edges k
          (subst (λ os. In os k) (sym (sym (offers_at (equations_of system) (transformers system) (vector_at system bounds) policy p r row)
          ∙ e)) (inl refl)) in
          let c = contains_from_in system.flow.edges found.0 found.1 in
          let same : edge_at system c.0 ≡ found.0 =
          get_or_default system.flow.edges c.0 (record { from = 0; to = 0; actions = [] }) found.0 c.1 ∙ c.2 in
          absurd (ext_not_le_of_lt (vector_at system bounds p r)
          (transformers system (vector_at system bounds) found.0 (row_at system r)) found.3
          (subst (λ (x : Edge). transformers system (vector_at system bounds) x (row_at system r) ≤ᴱ vector_at system bounds p r) same
          (settled c.0 c.1 (ap (λ (x : Edge). x.to) same ∙ found.2))))

  -- one that is settled keeps its edge
  pub settled_keeps : IsSettled system bounds u → after ≡ before
      → UnknownBecomes (equations_of system) (vector_at system bounds) policy u before after false
  settled_keeps settled is =
      let e = none_offered settled in
      record {
        becomes = subst (λ os. Becomes (equations_of system) (transformers system) (vector_at system bounds) policy p r os before after)
            (sym e) is;
        told = subst (λ os. IsListed os false) (sym e) refl;
      }

is_false : (b : Bool) → (b ≡ true → false ≡ true) → b ≡ false
is_false true none = sym (none refl)
is_false false none = refl

module _ (system : System) (bounds : List Extended) (policy : Offer → ℕ → Type 0) (point : ℕ)
    (is_point : point < length system.flow.points) where
  -- an unknown of the point is in its range
  in_range : (u : ℕ) → u < length system.flow.points * length system.template → u / length system.template ≡ point
      → (point * length system.template ≤ u) × (u < point * length system.template + length system.template)
  in_range u l e =
      let r = row_within u (length system.flow.points) (length system.template) l in
      let same : point * length system.template + u % length system.template ≡ u =
      ap (λ q. q * length system.template + u % length system.template) (sym e) ∙ div-add-mod' u (length system.template) in
      (omega (arith, r, same), omega (arith, r, same))

  -- one in its range is an unknown of the point
  of_range : (u : ℕ) → point * length system.template ≤ u → u < point * length system.template + length system.template
      → (u < length system.flow.points * length system.template) × (u / length system.template ≡ point)
  of_range u l b =
      let row = u - point * length system.template in
      let below : row < length system.template = omega (arith, l, b) in
      let same : point * length system.template + row ≡ u = omega (arith, l) in
      let within = mul-add-lt point (length system.template) row (length system.flow.points) is_point below in
      (omega (arith, within, same), ap (λ k. k / length system.template) (sym same) ∙ div-mul-add point (length system.template) row below)

  -- the unknowns of a point that are settled keep their edges
  pub point_keeps : (pick : List (Option ℕ)) → ((u : ℕ) → u < length system.flow.points * length system.template
      → u / length system.template ≡ point → IsSettled system bounds u)
      → AreImproved (equations_of system) (vector_at system bounds) policy (point * length system.template) (length system.template)
      pick pick false
  point_keeps pick settled = record {
    each = λ k l b. let of = of_range k l b in (
      false,
      settled_keeps system bounds policy k of.0 (get_or pick k None) (get_or pick k None) (settled k of.0 of.1) refl,
      λ e. absurd (true≢false (sym e)),
    );
    others = λ k apart. refl;
    some = λ e. absurd (true≢false (sym e));
  }

  -- the unknowns of a point that are offered none are settled
  pub point_settled : (old new : List (Option ℕ))
      → AreImproved (equations_of system) (vector_at system bounds) policy (point * length system.template) (length system.template)
      old new false
      → (u : ℕ) → u < length system.flow.points * length system.template → u / length system.template ≡ point → IsSettled system bounds u
  point_settled old new improved u l e =
      let range = in_range u l e in
      let o = improved.each u range.0 range.1 in
      settled_from system bounds policy u l (get_or old u None) (get_or new u None)
      (subst (UnknownBecomes (equations_of system) (vector_at system bounds) policy u (get_or old u None) (get_or new u None))
      (is_false o.0 o.2) o.1)
