-- The two phases over exact rationals, as total functions. Name 0 is the auxiliary variable, then come the columns and the slacks.
-- The problem's goal is the row after the last name, and the negated auxiliary variable is the row after that.
use Rattle.std.specs.Prelude.{◌≡◌, ℕ, ◌<◌, zero, suc, ◌+◌, ◌-◌, ◌^◌, Bool, true, false, not, cond, ltb, eqb, ◌||◌}
use Rattle.base_numbers.specs.Rational.{ℚ, zero_ℚ, one_ℚ, neg_ℚ, ◌+ℚ◌, ◌-ℚ◌, lt_ℚ}
use Rattle.lp_theory.specs.Problem.{Problem, left, value_at, Outcome, best, unbounded, empty}
use Rattle.lp_theory.specs.Dictionary.{delta, Dict, pivot, drop_zero}
use Rattle.lp_theory.specs.Search.{Search, none, found, first, least}
use Rattle.lp_theory.specs.Bland.{Choice, optimal, ray, step, choose, after, stops, index_of, stop_index}

-- how many names there are
abbrev pub names : Problem → ℕ
names P = suc (P.rows + P.cols)

-- the row of the problem's goal, and of the negated auxiliary variable
abbrev pub main_row : Problem → ℕ
main_row P = names P

-- the row of the negated auxiliary variable
abbrev pub aux_row : Problem → ℕ
aux_row P = suc (names P)

-- the name of a row's slack
abbrev pub slack_name : Problem → ℕ → ℕ
slack_name P r = suc (r + P.cols)

-- the values of the columns
abbrev pub columns : (ℕ → ℚ) → ℕ → ℚ
columns V j = V (suc j)

-- what the first dictionary says of the values V: each slack is its side without the row's sum, with the auxiliary variable
pub record Equations (P : Problem) (V : ℕ → ℚ) : Type 0 where
  pub slacks : (r : ℕ) → r < P.rows → V (slack_name P r) ≡ P.side r -ℚ left P r (columns V) +ℚ V 0
  pub main : V (main_row P) ≡ value_at P (columns V)
  pub aux : V (aux_row P) ≡ neg_ℚ (V 0)

-- what a name stands for
pub data Role : Type 0 where
  auxiliary : Role
  column : ℕ → Role
  slack : ℕ → Role
  main_goal : Role
  aux_goal : Role
  nothing : Role

-- the goals after the slacks
abbrev pub role_goal : ℕ → ℕ → Role
role_goal R m = cond (eqb m R) main_goal (cond (eqb m (suc R)) aux_goal nothing)

-- the slacks and the goals
abbrev pub role_rest : ℕ → ℕ → Role
role_rest R m = cond (ltb m R) (slack m) (role_goal R m)

-- what follows the auxiliary variable
abbrev pub role_named : ℕ → ℕ → ℕ → Role
role_named C R k = cond (ltb k C) (column k) (role_rest R (k - C))

-- what the name stands for
unfoldable pub role : Problem → ℕ → Role
role P zero = auxiliary
role P (suc k) = role_named P.cols P.rows k

-- basic at first
abbrev pub is_basic : Role → Bool
is_basic auxiliary = false
is_basic (column j) = false
is_basic (slack r) = true
is_basic main_goal = true
is_basic aux_goal = true
is_basic nothing = true

-- the coefficient in the row of a slack, of the goals
abbrev pub slack_coef : Problem → ℕ → Role → ℚ
slack_coef P r auxiliary = one_ℚ
slack_coef P r (column j) = neg_ℚ (P.coef r j)
slack_coef P r (slack s) = zero_ℚ
slack_coef P r main_goal = zero_ℚ
slack_coef P r aux_goal = zero_ℚ
slack_coef P r nothing = zero_ℚ

-- a coefficient of the problem's goal
abbrev pub main_coef : Problem → Role → ℚ
main_coef P auxiliary = zero_ℚ
main_coef P (column j) = P.goal j
main_coef P (slack s) = zero_ℚ
main_coef P main_goal = zero_ℚ
main_coef P aux_goal = zero_ℚ
main_coef P nothing = zero_ℚ

-- a coefficient of the first goal
abbrev pub aux_coef : Role → ℚ
aux_coef auxiliary = neg_ℚ one_ℚ
aux_coef (column j) = zero_ℚ
aux_coef (slack s) = zero_ℚ
aux_coef main_goal = zero_ℚ
aux_coef aux_goal = zero_ℚ
aux_coef nothing = zero_ℚ

-- a coefficient of the first dictionary, d where the row is free
abbrev pub first_coef : Problem → Role → ℚ → Role → ℚ
first_coef P auxiliary d k = d
first_coef P (column j) d k = d
first_coef P (slack r) d k = slack_coef P r k
first_coef P main_goal d k = main_coef P k
first_coef P aux_goal d k = aux_coef k
first_coef P nothing d k = zero_ℚ

-- a constant of the first dictionary
abbrev pub first_const : Problem → Role → ℚ
first_const P auxiliary = zero_ℚ
first_const P (column j) = zero_ℚ
first_const P (slack r) = P.side r
first_const P main_goal = zero_ℚ
first_const P aux_goal = zero_ℚ
first_const P nothing = zero_ℚ

-- each slack is its side without the row's sum, with the auxiliary variable
unfoldable pub first_dict : Problem → Dict
first_dict P = record {
  basic = λ k. is_basic (role P k);
  coef = λ i k. first_coef P (role P i) (delta i k) (role P k);
  const = λ i. first_const P (role P i);
}

-- the row of the least side below 0, the first on ties
unfoldable pub lowest : Problem → Search
lowest P = least (λ r. lt_ℚ (P.side r) zero_ℚ) P.side P.rows

-- the special first pivot: the auxiliary variable enters in the row r
abbrev pub entered : Problem → ℕ → Dict
entered P r = pivot (first_dict P) (slack_name P r) 0

-- phase 1 is over: the rule stops or the auxiliary variable has left
abbrev pub is_over : Problem → Dict → ℕ → Bool
is_over P D j = stops (aux_row P) (names P) (after (aux_row P) (names P) D j) || not ((after (aux_row P) (names P) D j).basic 0)

-- how many steps phase 1 takes
unfoldable pub phase_one_index : Problem → Dict → ℕ
phase_one_index P D = index_of (first (is_over P D) (2 ^ names P))

-- the negated coefficients of the slacks in a goal
abbrev pub multipliers : Problem → Dict → ℕ → ℕ → ℚ
multipliers P D g r = neg_ℚ (D.coef g (slack_name P r))

-- the columns' values in the basic solution
abbrev pub point_of : Dict → ℕ → ℚ
point_of D j = D.const (suc j)

-- the columns' coefficients of the entering name
abbrev pub ray_of : Dict → ℕ → ℕ → ℚ
ray_of D c j = D.coef (suc j) c

-- the outcome of phase 2 at its last dictionary
abbrev pub outcome_at : Problem → Dict → Choice → Outcome
outcome_at P D optimal = best (point_of D) (D.const (main_row P)) (multipliers P D (main_row P))
outcome_at P D (ray c) = unbounded (point_of D) (ray_of D c)
outcome_at P D (step c r) = empty (λ r. zero_ℚ)

-- the last dictionary of phase 2 from D, and its outcome
unfoldable pub last_of : Problem → Dict → Dict
last_of P D = after (main_row P) (names P) D (stop_index (main_row P) (names P) D)

-- the outcome of phase 2 from D
unfoldable pub phase_two : Problem → Dict → Outcome
phase_two P D = outcome_at P (last_of P D) (choose (main_row P) (names P) (last_of P D))

-- the last dictionary of phase 1 from D
unfoldable pub last_of_one : Problem → Dict → Dict
last_of_one P D = after (aux_row P) (names P) D (phase_one_index P D)

-- the outcome after phase 1, by whether the auxiliary variable is basic
abbrev pub after_one : Problem → Dict → Bool → Outcome
after_one P D true = empty (multipliers P D (aux_row P))
after_one P D false = phase_two P (drop_zero D)

-- the outcome of phase 1 from D and what follows
unfoldable pub phase_one : Problem → Dict → Outcome
phase_one P D = after_one P (last_of_one P D) ((last_of_one P D).basic 0)

-- the outcome from the row of the least side, if it is below 0
abbrev pub lp_from : Problem → Search → Outcome
lp_from P none = phase_two P (drop_zero (first_dict P))
lp_from P (found r) = phase_one P (entered P r)

-- the outcome of a problem
unfoldable pub lp : Problem → Outcome
lp P = lp_from P (lowest P)
