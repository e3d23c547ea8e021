-- Groups of variables, and which variables stand together.
use Rattle.std.specs.Prelude.{◌≡◌, ◌==◌, ◌&&◌, not, ℕ, Bool, List}
use Rattle.std.specs.List.{list_any}

-- a variable is one of the group
abbrev pub has : List ℕ → ℕ → Bool
has g x = list_any (λ y. y == x) g

-- two variables are in one of the groups
abbrev pub share : List (List ℕ) → ℕ → ℕ → Bool
share gs x y = list_any (λ g. has g x && has g y) gs

-- two variables are together: they are different, and in one of the groups
abbrev pub are_together : List (List ℕ) → ℕ → ℕ → Bool
are_together gs x y = not (x == y) && share gs x y

-- two groups have the same variables
pub record SameMembers (g h : List ℕ) : Type 0 where
  pub same : (x : ℕ) → has g x ≡ has h x

-- the same variables are together
pub record SameTogether (gs hs : List (List ℕ)) : Type 0 where
  pub same : (x y : ℕ) → are_together gs x y ≡ are_together hs x y
