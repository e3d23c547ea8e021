-- Linear programs over columns of any sign, put with two columns for each: the positive one and then the negative one.
use Rattle.std.specs.Prelude.{◌≡◌, ℕ, zero, suc, ◌<◌, ◌+◌}
use Rattle.base_numbers.specs.Rational.{ℚ, zero_ℚ, neg_ℚ, ◌-ℚ◌, ◌≤ℚ◌, ◌<ℚ◌}
use Rattle.lp_theory.specs.Problem.{Problem, left, value_at, mixed, mixed_side, Outcome, best, unbounded, empty}
use Rattle.lp_theory.specs.Simplex.{lp}

-- each coefficient and its negation
abbrev pub split : (ℕ → ℚ) → ℕ → ℚ
split f zero = f 0
split f (suc zero) = neg_ℚ (f 0)
split f (suc (suc k)) = split (λ j. f (suc j)) k

-- the problem with two columns for each
unfoldable pub split_problem : Problem → Problem
split_problem P = record { cols = P.cols + P.cols; rows = P.rows; coef = λ r. split (P.coef r); side = P.side; goal = split P.goal }

-- the positive column minus the negative one
abbrev pub unsplit : (ℕ → ℚ) → ℕ → ℚ
unsplit x j = x (j + j) -ℚ x (suc (j + j))

-- w meets each row
pub record IsFreePoint (P : Problem) (w : ℕ → ℚ) : Type 0 where
  pub meets : (r : ℕ) → r < P.rows → left P r w ≤ℚ P.side r

-- evidence of best
pub record IsFreeBest (P : Problem) (w : ℕ → ℚ) (v : ℚ) (y : ℕ → ℚ) : Type 0 where
  pub point : IsFreePoint P w
  pub value : value_at P w ≡ v
  pub multiplier : (r : ℕ) → r < P.rows → zero_ℚ ≤ℚ y r
  pub covers : (j : ℕ) → j < P.cols → mixed P y j ≡ P.goal j
  pub bound : mixed_side P y ≡ v

-- evidence of unbounded
pub record IsFreeUnbounded (P : Problem) (w d : ℕ → ℚ) : Type 0 where
  pub point : IsFreePoint P w
  pub keeps : (r : ℕ) → r < P.rows → left P r d ≤ℚ zero_ℚ
  pub gains : zero_ℚ <ℚ value_at P d

-- evidence of empty
pub record IsFreeEmpty (P : Problem) (y : ℕ → ℚ) : Type 0 where
  pub multiplier : (r : ℕ) → r < P.rows → zero_ℚ ≤ℚ y r
  pub covers : (j : ℕ) → j < P.cols → mixed P y j ≡ zero_ℚ
  pub below : mixed_side P y <ℚ zero_ℚ

-- the outcome's evidence is right
abbrev pub IsFreeOutcome : Problem → Outcome → Type 0
IsFreeOutcome P (best w v y) = IsFreeBest P w v y
IsFreeOutcome P (unbounded w d) = IsFreeUnbounded P w d
IsFreeOutcome P (empty y) = IsFreeEmpty P y

-- the outcome in the columns of any sign
abbrev pub unsplit_outcome : Outcome → Outcome
unsplit_outcome (best x v y) = best (unsplit x) v y
unsplit_outcome (unbounded x d) = unbounded (unsplit x) (unsplit d)
unsplit_outcome (empty y) = empty y

-- the outcome of a problem over columns of any sign
unfoldable pub free_lp : Problem → Outcome
free_lp P = unsplit_outcome (lp (split_problem P))
