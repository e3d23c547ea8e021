-- A trace by its start and the values that its free assignments take.
use Rattle.std.specs.Prelude.{◌≡◌, ◌↔◌, ℕ, suc, List, [], ◌∷◌, length}
use Rattle.base_numbers.specs.Rational.{ℚ, zero_ℚ, ◌≤ℚ◌}
use Rattle.lang_tree.specs.Meaning.{put}
use Rattle.flow_edges.specs.declared.edge.Action.{Action}
use Rattle.flow_edges.specs.declared.edge.Action.TheVariants.{Guard, Assign, Havoc, Check}
use Rattle.flow_systems.specs.States.{RationalState, valueℚ, Traces}

-- how many free assignments there are
abbrev pub free_count : List Action → ℕ
free_count [] = 0
free_count (Guard form ∷ actions) = free_count actions
free_count (Assign var form ∷ actions) = free_count actions
free_count (Havoc var ∷ actions) = suc (free_count actions)
free_count (Check about ∷ actions) = free_count actions

-- the trace from one state to another that takes these values at the free assignments, in order
abbrev pub Follows : List Action → RationalState → List ℚ → RationalState → Type 0
Follows [] x [] y = y ≡ x
Follows [] x (q ∷ free) y = ⊥
Follows (Guard form ∷ actions) x free y = (valueℚ form x ≤ℚ zero_ℚ) × Follows actions x free y
Follows (Assign var form ∷ actions) x free y = Follows actions (put zero_ℚ x var (valueℚ form x)) free y
Follows (Havoc var ∷ actions) x [] y = ⊥
Follows (Havoc var ∷ actions) x (q ∷ free) y = Follows actions (put zero_ℚ x var q) free y
Follows (Check about ∷ actions) x free y = Follows actions x free y

-- each trace along the actions takes some values, one for each free assignment, and these determine its end
pub record IsFollowed (actions : List Action) : Type 0 where
  pub trace : (x y : RationalState) → Traces actions x y ↔ ((free : List ℚ) × Follows actions x free y)
  pub count : (x : RationalState) (free : List ℚ) (y : RationalState) → Follows actions x free y → length free ≡ free_count actions
  pub determined : (x : RationalState) (free : List ℚ) (y z : RationalState) → Follows actions x free y → Follows actions x free z → y ≡ z

-- along any actions
abbrev pub TracesAreFollowed : Type 0
TracesAreFollowed = (actions : List Action) → IsFollowed actions
