-- Lists of unknowns over the points alone that occur in them, numbered anew.
use Rattle.std.specs.Prelude.{◌≡◌, ◌⊎◌, ℕ, ◌<◌, List, map, Option, Some, IsSome}
use Rattle.std.specs.Option.{unwrap_or}
use Rattle.std.specs.BTreeMap.{BTreeMap, get}
use Rattle.std.specs.Ordering.{nat_cmp}
use Rattle.base_facts.specs.Elements.{In}
use Rattle.solve_joint.specs.declared.node.Node.{Node}

-- an unknown of the list stands at the point, or its picked edge comes from there
abbrev pub Occurs : List Node → ℕ → Type 0
Occurs nodes p = (a : Node) × In nodes a × ((a.point ≡ p) ⊎ (a.source ≡ p))

-- some points have numbers below a count, no two of them the same
pub record AreNumbered (count : ℕ) (number : ℕ → Option ℕ) : Type 0 where
  pub within : (p n : ℕ) → number p ≡ Some n → n < count
  pub apart : (p q n : ℕ) → number p ≡ Some n → number q ≡ Some n → p ≡ q

-- a point has a number, and those that had one keep it
pub record HasMore (p : ℕ) (old new : ℕ → Option ℕ) : Type 0 where
  pub has : IsSome (new p)
  pub keeps : (q n : ℕ) → old q ≡ Some n → new q ≡ Some n

-- the number of a point by a map, 0 if it has none
abbrev pub number_at : BTreeMap ℕ ℕ → ℕ → ℕ
number_at numbers p = unwrap_or (get nat_cmp numbers p) 0

-- an unknown over points with these numbers
abbrev pub renumbered : (ℕ → ℕ) → Node → Node
renumbered number a = record { unknown = a.unknown; point = number a.point; source = number a.source }

-- the same unknowns over so many points: each point that occurs has a number of its own
pub record AreNearby (nodes : List Node) (count : ℕ) (near : List Node) : Type 0 where
  pub number : ℕ → ℕ
  pub are : near ≡ map (renumbered number) nodes
  pub within : (p : ℕ) → Occurs nodes p → number p < count
  pub apart : (p q : ℕ) → Occurs nodes p → Occurs nodes q → number p ≡ number q → p ≡ q
