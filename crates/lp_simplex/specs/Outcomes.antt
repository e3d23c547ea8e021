-- What the outcomes of the code stand for.
use Rattle.std.specs.Prelude.{◌≡◌, ℕ, ◌<◌, List, length, map, get_or}
use Rattle.base_numbers.specs.Rational.{ℚ, zero_ℚ, ◌≤ℚ◌, ◌<ℚ◌}
use Rattle.lp_theory.specs.Problem as lp
use Rattle.lp_theory.specs.Listed.{at}
use Rattle.lp_simplex.specs.declared.outcome.Outcome.{Outcome}
use Rattle.lp_simplex.specs.declared.outcome.Outcome.TheVariants.{Best, Unbounded, Empty}

-- the list has the first n values of f
pub record IsListed {F : Type 0} (m : F → ℚ) (n : ℕ) (f : ℕ → ℚ) (xs : List F) : Type 0 where
  pub size : length xs ≡ n
  pub each : (j : ℕ) → j < n → get_or (map m xs) j zero_ℚ ≡ f j

-- the outcome is that of the theory: of the same kind and with the same numbers
abbrev pub IsOutcomeOf : {F : Type 0} → (F → ℚ) → lp.Problem → lp.Outcome → Outcome F → Type 0
IsOutcomeOf m P (lp.best x v y) (Best point value multipliers) = IsListed m P.cols x point.items × (m value ≡ v)
    × IsListed m P.rows y multipliers.items
IsOutcomeOf m P (lp.best x v y) (Unbounded point ray) = ⊥
IsOutcomeOf m P (lp.best x v y) (Empty multipliers) = ⊥
IsOutcomeOf m P (lp.unbounded x d) (Best point value multipliers) = ⊥
IsOutcomeOf m P (lp.unbounded x d) (Unbounded point ray) = IsListed m P.cols x point.items × IsListed m P.cols d ray.items
IsOutcomeOf m P (lp.unbounded x d) (Empty multipliers) = ⊥
IsOutcomeOf m P (lp.empty y) (Best point value multipliers) = ⊥
IsOutcomeOf m P (lp.empty y) (Unbounded point ray) = ⊥
IsOutcomeOf m P (lp.empty y) (Empty multipliers) = IsListed m P.rows y multipliers.items

-- the evidence of the outcome is right
abbrev pub HasEvidence : {F : Type 0} → (F → ℚ) → lp.Problem → Outcome F → Type 0
HasEvidence m P (Best point value multipliers) = lp.IsBest P (at (map m point.items)) (m value) (at (map m multipliers.items))
HasEvidence m P (Unbounded point ray) = lp.IsUnbounded P (at (map m point.items)) (at (map m ray.items))
HasEvidence m P (Empty multipliers) = lp.IsEmpty P (at (map m multipliers.items))

-- what the outcome says of the values of points: the value is reached and none is greater; each number is exceeded; there is no point
abbrev pub SaysSupremum : {F : Type 0} → (F → ℚ) → lp.Problem → Outcome F → Type 0
SaysSupremum m P (Best point value multipliers) =
    lp.IsPoint P (at (map m point.items)) × (lp.value_at P (at (map m point.items)) ≡ m value)
    × ((x : ℕ → ℚ) → lp.IsPoint P x → lp.value_at P x ≤ℚ m value)
SaysSupremum m P (Unbounded point ray) = (b : ℚ) → (x : ℕ → ℚ) × lp.IsPoint P x × (b <ℚ lp.value_at P x)
SaysSupremum m P (Empty multipliers) = (x : ℕ → ℚ) → lp.IsPoint P x → ⊥
