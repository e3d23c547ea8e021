-- What a code's loop needs of the two indexes: its number of steps is at most the index, and less where it goes on. The goal never falls.
use Rattle.std.proofs.Common.{ℕ}
use Rattle.base_numbers.specs.Rational.{◌≤ℚ◌}
use Rattle.base_numbers.proofs.rational.Laws.{≤ℚ_refl}
use Rattle.lp_theory.specs.Dictionary.{Dict}
use Rattle.lp_theory.specs.Bland.{Choice, optimal, ray, step, choose, take_step, next, ChoiceIs, IsGood}
use Rattle.lp_theory.proofs.search.Steps.{choose_is, step_goal}

goal_at : (g n : ℕ) (D : Dict) → IsGood n D → (x : Choice) → ChoiceIs g n D x → D.const g ≤ℚ (take_step D x).const g
goal_at g n D d optimal h = ≤ℚ_refl (D.const g)
goal_at g n D d (ray c) h = ≤ℚ_refl (D.const g)
goal_at g n D d (step c r) h = step_goal g n D d.feasible c r h.0 h.1

-- a step of the rule does not lower the goal
pub next_goal : (g n : ℕ) (D : Dict) → IsGood n D → D.const g ≤ℚ (next g n D).const g
unfolding next
next_goal g n D d = goal_at g n D d (choose g n D) (choose_is g n D)
