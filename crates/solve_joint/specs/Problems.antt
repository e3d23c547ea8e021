-- The joint problem that the code builds.
use Rattle.std.specs.Prelude.{◌≡◌, ℕ, List, length, Option}
use Rattle.base_numbers.specs.Rational.{ℚ}
use Rattle.base_numbers.specs.Extended.{Ext}
use Rattle.flow_systems.specs.declared.system.System.{System}
use Rattle.flow_systems.specs.View.{equations_of, vector_of}
use Rattle.lp_theory.specs.Problem.{Problem}
use Rattle.lp_theory.specs.Listed.{list_problem}
use Rattle.theory_transformers.specs.JointProblems.{joint_problem}
use Rattle.solve_joint.specs.Numbers.{all_listed}

-- the joint problem of a list of unknowns, given by their numbers, at a base
abbrev pub problem_of : System → List (Option ℕ) → List Ext → List ℕ → Problem
problem_of system pick base list = joint_problem (equations_of system) (vector_of (length system.template) base)
    (all_listed system pick list)

-- lists of coefficients, sides and a goal that make this problem, with one coefficient in each row for each entry of the goal
pub record MakeProblem (problem : Problem) (rows : List (List ℚ)) (sides goal : List ℚ) : Type 0 where
  pub same : list_problem (length goal) rows sides goal ≡ problem
  pub count : length rows ≡ length sides
