-- What an unknown is offered, and what a policy chooses of it.
use Rattle.std.specs.Prelude.{◌≡◌, ℕ, suc, ◌<◌, eqb, List, [], ◌∷◌, length, get_or, slice_get, if◌then◌else◌, Some}
use Rattle.base_numbers.specs.Extended.{Ext, neg_inf, ◌≤ᴱ◌, ◌<ᴱ◌}
use Rattle.flow_edges.specs.declared.edge.Edge.{Edge}
use Rattle.flow_systems.specs.Equations.{Equations, Vector}
use Rattle.theory_chains.specs.Transformers.{IsTransformerOf}

-- the bound of an unknown, and edges by number with their transformers
pub record Offer : Type 0 where
  pub bound : Ext
  pub edges : List ℕ
  pub values : List Ext

-- the numbers from k on of the edges that end at a point
abbrev pub numbers_into : ℕ → ℕ → List Edge → List ℕ
numbers_into p k [] = []
numbers_into p k (edge ∷ edges) = if eqb edge.to p then k ∷ numbers_into p (suc k) edges else numbers_into p (suc k) edges

-- the offer of the unknown of a point and a row: all edges into the point in order, each with its transformer of the row
pub record IsOffer (system : Equations) (v : Vector) (p r : ℕ) (offer : Offer) : Type 0 where
  pub bound : offer.bound ≡ v p r
  pub edges : offer.edges ≡ numbers_into p 0 system.edges
  pub count : length offer.values ≡ length offer.edges
  pub values : (j k : ℕ) (number : Ext) →
      slice_get offer.edges j ≡ Some k → slice_get offer.values j ≡ Some number → IsTransformerOf system v k r number

-- the transformer at this position exceeds the bound
abbrev pub Exceeds : Offer → ℕ → Type 0
Exceeds offer j = offer.bound <ᴱ get_or offer.values j neg_inf

-- some transformer does
abbrev pub SomeExceeds : Offer → Type 0
SomeExceeds offer = (j : ℕ) × Exceeds offer j

-- ---- policies: the positions that may be answered of an offer
-- the one that a function of the offer gives
abbrev pub By : (Offer → ℕ) → Offer → ℕ → Type 0
By answer offer j = j ≡ answer offer

-- the first position of the greatest transformer
pub record Best (offer : Offer) (j : ℕ) : Type 0 where
  pub within : j < length offer.values
  pub greatest : (i : ℕ) → get_or offer.values i neg_inf ≤ᴱ get_or offer.values j neg_inf
  pub first : (i : ℕ) → i < j → get_or offer.values i neg_inf <ᴱ get_or offer.values j neg_inf

-- the first position whose transformer exceeds the bound
pub record First (offer : Offer) (j : ℕ) : Type 0 where
  pub exceeds : Exceeds offer j
  pub first : (i : ℕ) → i < j → get_or offer.values i neg_inf ≤ᴱ offer.bound
