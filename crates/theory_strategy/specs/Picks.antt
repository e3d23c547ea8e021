-- Picks: for each unknown no edge, or one edge into its point. An item stands for a picked unknown by its point, row and edge.
use Rattle.std.specs.Prelude.{◌≡◌, ℕ, ◌<◌, ◌⊎◌, ℤ, List, [], ◌∷◌, length, Option, Some, None, flat_map}
use Rattle.std.specs.List.{range_with_len}
use Rattle.base_numbers.specs.Rational.{zero_ℚ}
use Rattle.base_numbers.specs.Extended.{Ext, neg_inf, pos_inf, ◌≤ᴱ◌, ◌<ᴱ◌}
use Rattle.flow_edges.specs.declared.edge.Edge.{Edge}
use Rattle.flow_systems.specs.Equations.{Equations, Vector}
use Rattle.theory_validity.specs.Steps.{Below, Item, edge_of, row_of, Placed}

-- the number of the edge picked for each unknown, if any
abbrev pub Pick : Type 0
Pick = ℕ → ℕ → Option ℕ

-- the transformer of an edge and a row at a vector
abbrev pub Transformer : Type 0
Transformer = Vector → Edge → List ℤ → Ext

-- the transformer of an item's edge and row
abbrev pub value_at : Equations → Transformer → Vector → Item → Ext
value_at system T z u = T z (edge_of system u) (row_of system u)

-- the pick has the item's edge for the item's unknown
abbrev pub Picks : Pick → Item → Type 0
Picks pick u = pick u.point u.row ≡ Some u.edge

-- each picked edge is there and ends at its unknown's point, and no unknown of the entry is picked
abbrev pub IsPick : Equations → Pick → Type 0
IsPick system pick = (u : Item) → Picks pick u → Placed system u

-- +∞ at the entry, -∞ at the other unpicked unknowns; at the picked ones the transformer is above -∞ and at least the bound
pub record Supported (system : Equations) (T : Transformer) (d : Vector) (pick : Pick) : Type 0 where
  pub is_pick : IsPick system pick
  pub entry : (r : ℕ) → r < length system.template → d 0 r ≡ pos_inf
  pub unpicked : (p r : ℕ) → 0 < p → r < length system.template → pick p r ≡ None → d p r ≡ neg_inf
  pub above : (u : Item) → Picks pick u → neg_inf <ᴱ value_at system T d u
  pub rises : (u : Item) → Picks pick u → d u.point u.row ≤ᴱ value_at system T d u

-- and the transformer is the bound
pub record Tight (system : Equations) (T : Transformer) (d : Vector) (pick : Pick) : Type 0 where
  pub supported : Supported system T d pick
  pub same : (u : Item) → Picks pick u → value_at system T d u ≡ d u.point u.row

-- each picked transformer is at most the bound
abbrev pub Closed : Equations → Transformer → Vector → Pick → Type 0
Closed system T q pick = (u : Item) → Picks pick u → value_at system T q u ≤ᴱ q u.point u.row

-- the least closed vector that is at least d
pub record Above (system : Equations) (T : Transformer) (d : Vector) (pick : Pick) (e : Vector) : Type 0 where
  pub over : Below system d e
  pub closed : Closed system T e pick
  pub least : (q : Vector) → Below system d q → Closed system T q pick → Below system e q

-- a pick that differs only at unknowns where its edge's transformer exceeds the bound
abbrev pub Improves : Equations → Transformer → Vector → Pick → Pick → Type 0
Improves system T d pick better =
    (p r : ℕ) → (better p r ≡ pick p r) ⊎ ((u : Item) × (u.point ≡ p) × (u.row ≡ r) × Picks better u × (d p r <ᴱ value_at system T d u))

-- an item that stands for an unknown and an edge
unfoldable pub choice : ℕ → ℕ → ℕ → Item
choice p r k = record {
  point = p;
  row = r;
  edge = k;
  low = record { start = []; free = [] };
  second =
      record { start = []; free = [] };
  number = zero_ℚ;
}

-- the choice at an unknown, if any
unfoldable pub choice_at : ℕ → ℕ → Option ℕ → List Item
choice_at p r (Some k) = choice p r k ∷ []
choice_at p r None = []

-- a pick's choices, in order of unknowns
unfoldable pub choices : Equations → Pick → List Item
choices system pick = flat_map (λ p. flat_map (λ r. choice_at p r (pick p r)) (range_with_len 0 (length system.template)))
    (range_with_len 0 system.points)
