-- Which unknowns of a list are in one part, by the places of the parts' first members.
use Rattle.std.specs.Prelude.{◌≡◌, ◌⊎◌, ℕ, ◌<◌, ◌≤◌, ◌==◌, ◌&&◌, Bool, true, false, List, map, length, get_or, Option, Some, None}
use Rattle.std.specs.List.{filter, range_with_len}
use Rattle.solve_joint.specs.declared.node.Node.{Node}
use Rattle.solve_joint.specs.Tables.{cell}
use Rattle.solve_joint.specs.Cuts.{are_one_part}

-- the unknown at a place of a list
abbrev pub node_at : List Node → ℕ → Node
node_at nodes i = get_or nodes i (record { unknown = 0; point = 0; source = 0 })

-- each of two points reaches the other
abbrev pub are_mutual : List (List Bool) → ℕ → ℕ → Bool
are_mutual rows p q = cell rows p q && cell rows q p

-- the lowest point that a point reaches and that reaches it
pub record IsHome (rows : List (List Bool)) (p h : ℕ) : Type 0 where
  pub low : h ≤ p
  pub there : are_mutual rows p h ≡ true
  pub first : (k : ℕ) → k < h → are_mutual rows p k ≡ false

-- that of each of so many points
pub record AreHomes (points : ℕ) (rows : List (List Bool)) (homes : List ℕ) : Type 0 where
  pub size : length homes ≡ points
  pub each : (p : ℕ) → p < points → IsHome rows p (get_or homes p 0)

-- the place that a point has from now on: the one that it had, or else this one
pub record IsFirstPlace (old : List (Option ℕ)) (p place : ℕ) (new : List (Option ℕ)) (first : ℕ) : Type 0 where
  pub size : length new ≡ length old
  pub here : get_or new p None ≡ Some first
  pub keeps : (q f : ℕ) → get_or old q None ≡ Some f → get_or new q None ≡ Some f
  pub only : (q f : ℕ) → get_or new q None ≡ Some f → (get_or old q None ≡ Some f) ⊎ ((q ≡ p) × (f ≡ place))

-- a place for each unknown of a list, that of one and the same member of its part and not behind its own: the same exactly for the
-- members of a part
pub record AreClasses (rows : List (List Bool)) (nodes : List Node) (classes : List ℕ) : Type 0 where
  pub size : length classes ≡ length nodes
  pub low : (i : ℕ) → i < length nodes → get_or classes i 0 ≤ i
  pub head : (i : ℕ) → i < length nodes → get_or classes (get_or classes i 0) 0 ≡ get_or classes i 0
  pub same : (i k : ℕ) → i < length nodes → k < length nodes
      → are_one_part rows (node_at nodes i) (node_at nodes k) ≡ (get_or classes i 0 == get_or classes k 0)

-- the places of a list at which a key stands, rising
abbrev pub places_of : List ℕ → ℕ → List ℕ
places_of keys k = filter (λ i. get_or keys i 0 == k) (range_with_len 0 (length keys))

-- those of each of so many keys
abbrev pub groups_by : ℕ → List ℕ → List (List ℕ)
groups_by count keys = map (places_of keys) (range_with_len 0 count)

-- the places of the unknowns that stand at a point
abbrev pub standing_at : List Node → ℕ → List ℕ
standing_at nodes p = places_of (map (λ (a : Node). a.point) nodes) p
