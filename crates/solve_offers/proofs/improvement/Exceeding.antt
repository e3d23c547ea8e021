-- The offers of the theory and the offers that policies are asked with.
use Rattle.std.proofs.Common.{◌≡◌, ◌⊎◌, inl, inr, ⊎_elim, ℕ, zero, suc, eqb, Bool, true, false, List, [], ◌∷◌, map, get_or, refl}
use Rattle.std.proofs.Common.{if◌then◌else◌}
use Rattle.base_facts.specs.Elements.{In}
use Rattle.base_numbers.specs.Extended.{Ext, neg_inf, ◌≤ᴱ◌, ◌<ᴱ◌}
use Rattle.base_numbers.proofs.extended.ExtendedLaws.{ext_le_or_lt, ext_not_le_of_lt}
use Rattle.flow_edges.specs.declared.edge.Edge.{Edge}
use Rattle.flow_systems.specs.Equations.{Equations, Vector}
use Rattle.theory_validity.specs.Certificates.{edges_into}
use Rattle.theory_strategy.specs.Picks.{Transformer}
use Rattle.theory_strategy.specs.Policy.{exceeding}
use Rattle.solve_offers.specs.Improvement.{numbers_into}
use Rattle.solve_offers.proofs.offers.Offered.{none_below}

module _ (system : Equations) (T : Transformer) (z : Vector) (p r : ℕ) where
  -- an edge's transformer of the row
  abbrev pub at : Edge → Ext
  at edge = T z edge (get_or system.template r [])

  -- the transformers of the edges into the point
  abbrev pub all : List Edge → List Ext
  all edges = map at (edges_into p edges)

  -- where no value exceeds the bound, no edge is listed
  pub none_listed : (k : ℕ) (edges : List Edge) → ((j : ℕ) → z p r <ᴱ get_or (all edges) j neg_inf → ⊥)
      → exceeding system T z p r k edges ≡ []
  unfolding exceeding edges_into
  none_listed k [] none = refl
  none_listed k (edge ∷ edges) none = by (eqb edge.to p) none (λ h. none_listed (suc k) edges h)
    where
      by : (b : Bool) → ((j : ℕ) → z p r <ᴱ get_or (map at (if b then edge ∷ edges_into p edges else edges_into p edges)) j neg_inf → ⊥) →
          (((j : ℕ) → z p r <ᴱ get_or (all edges) j neg_inf → ⊥) → exceeding system T z p r (suc k) edges ≡ []) →
          (if b then ⊎_elim (λ h. exceeding system T z p r (suc k) edges) (λ h. k ∷ exceeding system T z p r (suc k) edges)
          (ext_le_or_lt (T z edge (get_or system.template r [])) (z p r)) else exceeding system T z p r (suc k) edges) ≡ []
      by false h rec = rec h
      by true h rec = test (ext_le_or_lt (T z edge (get_or system.template r [])) (z p r))
        where
          test : (o : (at edge ≤ᴱ z p r) ⊎ (z p r <ᴱ at edge)) → ⊎_elim (λ h. exceeding system T z p r (suc k) edges)
              (λ h. k ∷ exceeding system T z p r (suc k) edges) o ≡ []
          test (inl l) = rec (λ j. h (suc j))
          test (inr l) = absurd (h 0 l)

  -- a value that exceeds the bound has its edge listed
  pub listed : (k : ℕ) (edges : List Edge) (j : ℕ) → z p r <ᴱ get_or (all edges) j neg_inf
      → In (exceeding system T z p r k edges) (get_or (numbers_into p k edges) j 0)
  unfolding exceeding edges_into numbers_into
  listed k [] j h = absurd (none_below (z p r) h)
  listed k (edge ∷ edges) j h = by (eqb edge.to p) j h (λ i l. listed (suc k) edges i l)
    where
      by : (b : Bool) (j : ℕ) → z p r <ᴱ get_or (map at (if b then edge ∷ edges_into p edges else edges_into p edges)) j neg_inf →
          ((i : ℕ) → z p r <ᴱ get_or (all edges) i neg_inf → In (exceeding system T z p r (suc k) edges)
          (get_or (numbers_into p (suc k) edges) i 0)) →
          In (if b then ⊎_elim (λ h. exceeding system T z p r (suc k) edges) (λ h. k ∷ exceeding system T z p r (suc k) edges)
          (ext_le_or_lt (T z edge (get_or system.template r [])) (z p r)) else exceeding system T z p r (suc k) edges)
          (get_or (if b then k ∷ numbers_into p (suc k) edges else numbers_into p (suc k) edges) j 0)
      by false j h rec = rec j h
      by true j h rec = test (ext_le_or_lt (T z edge (get_or system.template r [])) (z p r)) j h
        where
          test : (o : (at edge ≤ᴱ z p r) ⊎ (z p r <ᴱ at edge)) (j : ℕ) → z p r <ᴱ get_or (at edge ∷ all edges) j neg_inf →
              In (⊎_elim (λ h. exceeding system T z p r (suc k) edges) (λ h. k ∷ exceeding system T z p r (suc k) edges) o)
              (get_or (k ∷ numbers_into p (suc k) edges) j 0)
          test (inl l) zero h = absurd (ext_not_le_of_lt (z p r) (at edge) h l)
          test (inl l) (suc j) h = rec j h
          test (inr l) zero h = inl refl
          test (inr l) (suc j) h = inr (rec j h)
