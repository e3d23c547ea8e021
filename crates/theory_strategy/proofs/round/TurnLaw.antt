-- The turns of a part: valid steps, after which each of its unknowns has risen to its transformer.
use Rattle.std.proofs.Common.{◌≡◌, ◌∙◌, ◌⊎◌, inl, inr, ⊎_elim, ℕ, suc, ◌<◌, ◌≤◌, List, [], ◌∷◌, length, sym, ap, subst, subst₂, arith}
use Rattle.std.specs.Prelude.{get_or, Some}
use Rattle.base_facts.specs.Elements.{In}
use Rattle.base_numbers.specs.Rational.{◌<ℚ◌}
use Rattle.flow_edges.specs.declared.edge.Edge.{Edge}
use Rattle.flow_systems.specs.Equations.{Equations, Vector}
use Rattle.theory_validity.specs.Words.{free_count}
use Rattle.theory_validity.specs.Steps.{Runs, end_value, Item, edge_of, row_of, Unnamed, Distinct, word}
use Rattle.theory_validity.proofs.steps.Puts.{named_or_not, not_unnamed}
use Rattle.theory_strategy.specs.Picks.{Pick}
use Rattle.theory_strategy.specs.RoundFacts.{Listed}
use Rattle.theory_strategy.specs.Round.{SameItem, without}
use Rattle.theory_strategy.proofs.growth.RaiseStep.{SameChoice, at_same}

-- the unknown and edge of an item
pub choice_of : (u v : Item) → SameItem u v → SameChoice u v
choice_of u v s = record { point = s.point; row = s.row; edge = s.edge }

-- an item with the same low word is listed too
pub listed_same : (system : Equations) (pick : Pick) (z : Vector) (u v : Item) → SameItem u v → Listed system pick z u
    → Listed system pick z v
unfolding edge_of row_of
listed_same system pick z u v s h =
    let edges = system.edges in
    let rows = system.template in
    let none : Edge = record { from = 0; to = 0; actions = [] } in
    record {
      picked = subst (λ k. pick v.point v.row ≡ Some k) s.edge (subst₂ (λ p r. pick p r ≡ Some u.edge) s.point s.row h.picked);
      bound = h.bound;
      finite = sym (at_same z u v (choice_of u v s)) ∙ h.finite;
      size = subst₂ (λ k t. (length t.start ≡ system.variables) × (length t.free ≡ free_count (get_or edges k none).actions)) s.edge s.low
          h.size;
      runs = subst₂ (λ k t. Runs system z (get_or edges k none) (word t)) s.edge s.low h.runs;
      exceeds = subst (λ r. h.bound <ℚ end_value system (get_or edges v.edge none) (get_or rows r []) (word v.low)) s.row
          (subst₂ (λ k t. h.bound <ℚ end_value system (get_or edges k none) (get_or rows u.row []) (word t)) s.edge s.low h.exceeds);
    }

-- ---- lists without named unknowns
-- an unknown of the list that no item names is in the rest
pub in_without : (items us : List Item) (u : Item) → In us u → Unnamed items u.point u.row → In (without items us) u
unfolding without
in_without items [] u m n = absurd m
in_without items (v ∷ us) u m n = by (named_or_not items v.point v.row) (λ k. in_without items us u k n)
  where
    by : (o : ((i : Item) × In items i × (i.point ≡ v.point) × (i.row ≡ v.row)) ⊎ Unnamed items v.point v.row)
        → (In us u → In (without items us) u) →
        In (⊎_elim (λ h. without items us) (λ h. v ∷ without items us) o) u
    by (inl h) rec = ⊎_elim
        (λ e. absurd (not_unnamed items h.0 h.1 (subst₂ (λ p r. Unnamed items p r) (sym (h.2 ∙ ap (λ i. i.point) e))
        (sym (h.3 ∙ ap (λ i. i.row) e)) n)))
        (λ k. rec k) m
    by (inr h) rec = ⊎_elim (λ e. inl e) (λ k. inr (rec k)) m

-- and only such a one
pub of_without : (items us : List Item) (u : Item) → In (without items us) u → In us u × Unnamed items u.point u.row
unfolding without
of_without items [] u m = absurd m
of_without items (v ∷ us) u m = by (named_or_not items v.point v.row) m (λ k. of_without items us u k)
  where
    by : (o : ((i : Item) × In items i × (i.point ≡ v.point) × (i.row ≡ v.row)) ⊎ Unnamed items v.point v.row)
        → In (⊎_elim (λ h. without items us) (λ h. v ∷ without items us) o) u →
        (In (without items us) u → In us u × Unnamed items u.point u.row) → In (v ∷ us) u × Unnamed items u.point u.row
    by (inl h) m rec = let r = rec m in (inr r.0, r.1)
    by (inr h) m rec = ⊎_elim (λ e. (inl e, subst (λ i. Unnamed items i.point i.row) e h)) (λ k. let r = rec k in (inr r.0, r.1)) m

-- a list names no unknown that none of its items has
pub unnamed_by_all : (us : List Item) (p r : ℕ) → ((u : Item) → In us u → u.point ≡ p → u.row ≡ r → ⊥) → Unnamed us p r
unnamed_by_all us p r h = ⊎_elim (λ n. absurd (h n.0 n.1 n.2 n.3)) (λ n. n) (named_or_not us p r)

-- the rest of distinct unknowns is distinct
pub distinct_without : (items us : List Item) → Distinct us → Distinct (without items us)
unfolding without
distinct_without items [] d = tt
distinct_without items (v ∷ us) d = by (named_or_not items v.point v.row) (distinct_without items us d.1) (λ k m. of_without items us k m)
  where
    by : (o : ((i : Item) × In items i × (i.point ≡ v.point) × (i.row ≡ v.row)) ⊎ Unnamed items v.point v.row) → Distinct (without items us)
        →
        ((u : Item) → In (without items us) u → In us u × Unnamed items u.point u.row)
        → Distinct (⊎_elim (λ h. without items us) (λ h. v ∷ without items us) o)
    by (inl h) rest from = rest
    by (inr h) rest from = (
      unnamed_by_all (without items us) v.point v.row (λ u m e f.
          not_unnamed us u (from u m).0 (subst₂ (λ p r. Unnamed us p r) (sym e) (sym f) d.0)),
      rest,
    )

-- and shorter where an item names one of them
pub fewer_without : (items us : List Item) (u : Item) (i : Item) → In us u → In items i → i.point ≡ u.point → i.row ≡ u.row
    → length (without items us) < length us
unfolding without
fewer_without items [] u i m k e f = absurd m
fewer_without items (v ∷ us) u i m k e f = by (named_or_not items v.point v.row) (no_more items us)
    (λ j. fewer_without items us u i j k e f)
  where
    no_more : (items us : List Item) → length (without items us) ≤ length us
    no_more items [] = omega arith
    no_more items (v ∷ us) = step (named_or_not items v.point v.row) (no_more items us)
      where
        step : (o : ((i : Item) × In items i × (i.point ≡ v.point) × (i.row ≡ v.row)) ⊎ Unnamed items v.point v.row)
            → length (without items us) ≤ length us →
            length (⊎_elim (λ h. without items us) (λ h. v ∷ without items us) o) ≤ suc (length us)
        step (inl h) l = omega arith
        step (inr h) l = omega arith

    by : (o : ((i : Item) × In items i × (i.point ≡ v.point) × (i.row ≡ v.row)) ⊎ Unnamed items v.point v.row)
        → length (without items us) ≤ length us →
        (In us u → length (without items us) < length us) → length (⊎_elim (λ h. without items us) (λ h. v ∷ without items us) o)
        < suc (length us)
    by (inl h) l rec = omega arith
    by (inr h) l rec = ⊎_elim
        (λ g. absurd (not_unnamed items i k (subst₂ (λ p r. Unnamed items p r) (sym (e ∙ ap (λ j. j.point) (sym g)))
        (sym (f ∙ ap (λ j. j.row) (sym g))) h)))
        (λ j. let x = rec j in omega arith) m
