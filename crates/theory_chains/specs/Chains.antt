-- Chains of improvements by a policy: what each pick is, what each vector is, and where a chain ends.
use Rattle.std.specs.Prelude.{◌≡◌, ℕ, suc, ℤ, List, ◌<◌, length, slice_get, Option, Some, None}
use Rattle.base_numbers.specs.Extended.{neg_inf, pos_inf, ◌≤ᴱ◌}
use Rattle.flow_edges.specs.declared.edge.Edge.{Edge}
use Rattle.flow_systems.specs.Equations.{Equations, Vector}
use Rattle.theory_chains.specs.Transformers.{IsUpper}
use Rattle.theory_chains.specs.Offers.{Offer, IsOffer, Exceeds, SomeExceeds}

-- the number of the edge that is picked for each unknown, if any
abbrev pub Pick : Type 0
Pick = ℕ → ℕ → Option ℕ

-- one vector is at most another
abbrev pub IsUnder : Equations → Vector → Vector → Type 0
IsUnder system v w = (p r : ℕ) → r < length system.template → v p r ≤ᴱ w p r

-- at each picked unknown the bound is at least every value at the end of the picked edge, and so at least its transformer
abbrev pub IsClosed : Equations → Pick → Vector → Type 0
IsClosed system pick v = (p r k : ℕ) (edge : Edge) (row : List ℤ) →
    pick p r ≡ Some k → slice_get system.edges k ≡ Some edge → slice_get system.template r ≡ Some row → IsUpper system v edge row (v p r)

-- ---- one improvement
-- the next edge of an unknown: where a transformer exceeds the bound one that the policy may choose and that exceeds it, elsewhere the old
-- one
pub record IsNextEdge (system : Equations) (policy : Offer → ℕ → Type 0) (v : Vector) (p r : ℕ) (old new : Option ℕ) : Type 0 where
  pub offer : Offer
  pub is_offer : IsOffer system v p r offer
  pub taken : SomeExceeds offer → (j : ℕ) × policy offer j × Exceeds offer j × (new ≡ slice_get offer.edges j)
  pub kept : (SomeExceeds offer → ⊥) → new ≡ old

-- the next pick at a vector
abbrev pub IsNextPick : Equations → (Offer → ℕ → Type 0) → Vector → Pick → Pick → Type 0
IsNextPick system policy v old new = (p r : ℕ) → r < length system.template → IsNextEdge system policy v p r (old p r) (new p r)

-- the least of all vectors at least the last one that are closed under the pick
pub record IsNextVector (system : Equations) (pick : Pick) (last next : Vector) : Type 0 where
  pub over : IsUnder system last next
  pub closed : IsClosed system pick next
  pub least : (w : Vector) → IsUnder system last w → IsClosed system pick w → IsUnder system next w

-- some transformer exceeds its bound
pub record IsExceeded (system : Equations) (v : Vector) : Type 0 where
  pub point : ℕ
  pub row : ℕ
  pub is_row : row < length system.template
  pub offer : Offer
  pub is_offer : IsOffer system v point row offer
  pub exceeds : SomeExceeds offer

-- none does
abbrev pub IsEnd : Equations → Vector → Type 0
IsEnd system v = (p r : ℕ) → r < length system.template → (offer : Offer) × IsOffer system v p r offer × (SomeExceeds offer → ⊥)

-- ---- chains
-- n improvements: the first vector is +inf at the entry and -inf elsewhere, and nothing is picked;
-- at each vector but the last some transformer exceeds its bound, and the next pick and the next vector follow
pub record IsChain (system : Equations) (policy : Offer → ℕ → Type 0) (n : ℕ) (vectors : ℕ → Vector) (picks : ℕ → Pick) : Type 0 where
  pub entry : (r : ℕ) → r < length system.template → vectors 0 0 r ≡ pos_inf
  pub others : (p r : ℕ) → 0 < p → r < length system.template → vectors 0 p r ≡ neg_inf
  pub unpicked : (p r : ℕ) → r < length system.template → picks 0 p r ≡ None
  pub goes : (k : ℕ) → k < n → IsExceeded system (vectors k)
  pub next_pick : (k : ℕ) → k < n → IsNextPick system policy (vectors k) (picks k) (picks (suc k))
  pub next_vector : (k : ℕ) → k < n → IsNextVector system (picks (suc k)) (vectors k) (vectors (suc k))

-- a chain of n improvements leads to a vector, and ends there
pub record EndsAfter (system : Equations) (policy : Offer → ℕ → Type 0) (n : ℕ) (v : Vector) : Type 0 where
  pub vectors : ℕ → Vector
  pub picks : ℕ → Pick
  pub chain : IsChain system policy n vectors picks
  pub ended : IsEnd system (vectors n)
  pub same : (p r : ℕ) → p < system.points → r < length system.template → v p r ≡ vectors n p r

-- a chain of n improvements goes on
pub record GoesOnAfter (system : Equations) (policy : Offer → ℕ → Type 0) (n : ℕ) : Type 0 where
  pub vectors : ℕ → Vector
  pub picks : ℕ → Pick
  pub chain : IsChain system policy n vectors picks
  pub exceeded : IsExceeded system (vectors n)
