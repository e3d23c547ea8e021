-- Linear programs over the rational numbers, and the three kinds of evidence of an outcome.
-- Coefficients, sides and points are functions of an index; only the indexes below the problem's bounds count.
use Rattle.std.specs.Prelude.{◌≡◌, ℕ, ◌<◌}
use Rattle.base_numbers.specs.Rational.{ℚ, zero_ℚ, ◌+ℚ◌, ◌*ℚ◌, ◌≤ℚ◌, ◌<ℚ◌}
use Rattle.base_numbers.specs.Vector.{sum_to}

-- maximize the sum of goal j times x j over the columns, where for each row the sum of coef r j times x j is at most side r
pub record Problem : Type 0 where
  pub cols : ℕ
  pub rows : ℕ
  pub coef : ℕ → ℕ → ℚ
  pub side : ℕ → ℚ
  pub goal : ℕ → ℚ

-- a row's sum at x
abbrev pub left : Problem → ℕ → (ℕ → ℚ) → ℚ
left P r x = sum_to P.cols (λ j. P.coef r j *ℚ x j)

-- the goal at x
abbrev pub value_at : Problem → (ℕ → ℚ) → ℚ
value_at P x = sum_to P.cols (λ j. P.goal j *ℚ x j)

-- the sum of a column's coefficients, each times the row's multiplier
abbrev pub mixed : Problem → (ℕ → ℚ) → ℕ → ℚ
mixed P y j = sum_to P.rows (λ r. y r *ℚ P.coef r j)

-- the sum of the sides, each times the row's multiplier
abbrev pub mixed_side : Problem → (ℕ → ℚ) → ℚ
mixed_side P y = sum_to P.rows (λ r. y r *ℚ P.side r)

-- x is at least 0 and meets each row
pub record IsPoint (P : Problem) (x : ℕ → ℚ) : Type 0 where
  pub nonneg : (j : ℕ) → j < P.cols → zero_ℚ ≤ℚ x j
  pub meets : (r : ℕ) → r < P.rows → left P r x ≤ℚ P.side r

-- the point x has the value v, and the multipliers y show that no point has more
pub record IsBest (P : Problem) (x : ℕ → ℚ) (v : ℚ) (y : ℕ → ℚ) : Type 0 where
  pub point : IsPoint P x
  pub value : value_at P x ≡ v
  pub multiplier : (r : ℕ) → r < P.rows → zero_ℚ ≤ℚ y r
  pub covers : (j : ℕ) → j < P.cols → P.goal j ≤ℚ mixed P y j
  pub bound : mixed_side P y ≡ v

-- from the point x the ray d leads to points of any value
pub record IsUnbounded (P : Problem) (x d : ℕ → ℚ) : Type 0 where
  pub point : IsPoint P x
  pub nonneg : (j : ℕ) → j < P.cols → zero_ℚ ≤ℚ d j
  pub keeps : (r : ℕ) → r < P.rows → left P r d ≤ℚ zero_ℚ
  pub gains : zero_ℚ <ℚ value_at P d

-- the multipliers y show that there is no point
pub record IsEmpty (P : Problem) (y : ℕ → ℚ) : Type 0 where
  pub multiplier : (r : ℕ) → r < P.rows → zero_ℚ ≤ℚ y r
  pub covers : (j : ℕ) → j < P.cols → zero_ℚ ≤ℚ mixed P y j
  pub below : mixed_side P y <ℚ zero_ℚ

-- an outcome with what shows it
pub data Outcome : Type 0 where
  best : (ℕ → ℚ) → ℚ → (ℕ → ℚ) → Outcome
  unbounded : (ℕ → ℚ) → (ℕ → ℚ) → Outcome
  empty : (ℕ → ℚ) → Outcome

-- the outcome's evidence is right
abbrev pub IsOutcome : Problem → Outcome → Type 0
IsOutcome P (best x v y) = IsBest P x v y
IsOutcome P (unbounded x d) = IsUnbounded P x d
IsOutcome P (empty y) = IsEmpty P y

-- x moved by t along d
abbrev pub moved : (ℕ → ℚ) → ℚ → (ℕ → ℚ) → ℕ → ℚ
moved x t d j = x j +ℚ t *ℚ d j

-- two outcomes of one kind, with the same value where they are best
abbrev pub SameKind : Outcome → Outcome → Type 0
SameKind (best x v y) (best x' v' y') = v ≡ v'
SameKind (best x v y) (unbounded x' d') = ⊥
SameKind (best x v y) (empty y') = ⊥
SameKind (unbounded x d) (best x' v' y') = ⊥
SameKind (unbounded x d) (unbounded x' d') = Unit {0}
SameKind (unbounded x d) (empty y') = ⊥
SameKind (empty y) (best x' v' y') = ⊥
SameKind (empty y) (unbounded x' d') = ⊥
SameKind (empty y) (empty y') = Unit {0}
