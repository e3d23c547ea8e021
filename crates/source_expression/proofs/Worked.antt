-- What signs make of sides that were read.
use Rattle.std.proofs.Common.{◌≡◌, ◌∙◌, ℕ, Bool, true, false, Result, Ok, Err, refl, ap}
use Rattle.std.specs.Result.{IsErrAnd}
use Rattle.source_tree.specs.Expressions.{Expression}
use Rattle.source_core.specs.Elaborated.{elaborated, tested}
use Rattle.source_core.specs.Fits.{fits, tested_fits}
use Rattle.source_grammar.specs.Tokens as g
use Rattle.source_grammar.specs.Tokens.{Op}
use Rattle.source_meaning.specs.Results.{◌>>=◌}
use Rattle.source_meaning.specs.Names.{State}
use Rattle.source_meaning.specs.Expressions as meaning
use Rattle.source_meaning.specs.Expressions.{as_condition, behind_side, first_of, joins_conditions, operated, read, right_of, side}
use Rattle.source_value.specs.declared.fault.OperationFault.{OperationFault}
use Rattle.source_value.specs.declared.site.Site.{Site}
use Rattle.source_value.specs.declared.value.Value.{Value}
use Rattle.source_value.specs.declared.value.Number.{Number}
use Rattle.source_value.specs.declared.value.Tested.{Tested}
use Rattle.source_value.specs.Answers as value
use Rattle.source_value.specs.Stands.{Stands, StandsTested}
use Rattle.source_reader.specs.declared.stop.Stop.{Stop}
use Rattle.source_reader.specs.Answers.{Answers}
use Rattle.source_reader.specs.Placed.{placed}
use Rattle.source_expression.specs.Signs.{asks_conditions, work_in}
use Rattle.source_expression.specs.declared.sides.Side.{Side}
use Rattle.source_expression.specs.declared.sides.Side.TheVariants as side_of
use Rattle.source_expression.specs.Sides.{IsRead, IsNumberOf, IsTestedOf, StandsSide, sides_worked, worked}
use Rattle.source_expression.specs.Joins.{Join, joined_with}
use Rattle.source_reader.proofs.Placing.{placed_answers}
use Rattle.source_expression.proofs.Answering.{handed}
use Rattle.source_expression.proofs.Joined.{bind_same}
use Rattle.base_integers.specs.declared.integers.Integers.{Integers}

-- a sign asks for conditions where the definition does
pub asks_same : (integers : Integers) (line : ℕ) (o : Op) → joins_conditions integers line o ≡ asks_conditions (work_in o)
asks_same integers line g.or_op = refl
asks_same integers line g.and_op = refl
asks_same integers line (g.compare_op r) = refl
asks_same integers line g.plus_op = refl
asks_same integers line g.minus_op = refl
asks_same integers line g.times_op = refl
asks_same integers line g.over_op = refl
asks_same integers line g.remainder_op = refl

-- and makes what it makes
pub worked_same : (integers : Integers) (line : ℕ) (o : Op) (sign h : ℕ) (x y : Expression)
    → operated integers line o sign h x y ≡ worked integers line (work_in o) sign h x y
worked_same integers line g.or_op sign h x y = refl
worked_same integers line g.and_op sign h x y = refl
worked_same integers line (g.compare_op r) sign h x y = refl
worked_same integers line g.plus_op sign h x y = refl
worked_same integers line g.minus_op sign h x y = refl
worked_same integers line g.times_op sign h x y = refl
worked_same integers line g.over_op sign h x y = refl
worked_same integers line g.remainder_op sign h x y = refl

-- what is wanted of one sign with its right side, by what the sign does
pub joined_same : (integers : Integers) (line : ℕ) (st : State) (first h : ℕ) (x : Expression) (j : Join)
    → joined_with integers line st first x j h
    ≡ (side integers line (asks_conditions (work_in j.op)) first h x
    >>= λ x. read integers line (right_of (asks_conditions (work_in j.op)) st) j.right
    (behind_side integers line (asks_conditions (work_in j.op)) x h)
    >>= λ y. sides_worked integers line (work_in j.op) j.at (first_of j.right) h x y)
joined_same integers line st first h x j = by (joins_conditions integers line j.op) (asks_same integers line j.op) where
  by : (b : Bool) → b ≡ asks_conditions (work_in j.op)
      → (side integers line b first h x
      >>= λ x. read integers line (right_of b st) j.right (behind_side integers line b x h)
      >>= λ y. side integers line b (first_of j.right) (behind_side integers line b x h) y
      >>= λ y. operated integers line j.op j.at h x y)
      ≡ (side integers line (asks_conditions (work_in j.op)) first h x
      >>= λ x. read integers line (right_of (asks_conditions (work_in j.op)) st) j.right
      (behind_side integers line (asks_conditions (work_in j.op)) x h)
      >>= λ y. sides_worked integers line (work_in j.op) j.at (first_of j.right) h x y)
  by b e = ap (λ b. side integers line b first h x >>= λ x. read integers line (right_of b st) j.right (behind_side integers line b x h)
      >>= λ y. side integers line b (first_of j.right) (behind_side integers line b x h) y >>= λ y. operated integers line j.op j.at h x
      y) e
      ∙ bind_same (side integers line (asks_conditions (work_in j.op)) first h x) _ _ (λ x.
      bind_same (read integers line (right_of (asks_conditions (work_in j.op)) st) j.right
      (behind_side integers line (asks_conditions (work_in j.op)) x h)) _ _ (λ y.
      bind_same (side integers line (asks_conditions (work_in j.op)) (first_of j.right)
      (behind_side integers line (asks_conditions (work_in j.op)) x h) y) _ _ (λ y. worked_same integers line j.op j.at h x y)))

module _ (site : Site) (h : ℕ) (x : Expression) where
  -- a value as a condition
  pub tested_answers : (r : Result Tested OperationFault) (first : ℕ)
      → value.Answers (StandsTested site.variables) tested_fits r (tested (elaborated site.integers site.line x h))
      → Answers (IsTestedOf site h) (placed first r) (as_condition site.integers site.line first h x)
  tested_answers r first a =
      placed_answers (StandsTested site.variables) tested_fits (λ x. tested (elaborated site.integers site.line x h)) r first x a
      (λ v s. s.numbers)

  -- an operation whose numbers have to be in range
  pub ranged_answers : (r : Result Value OperationFault) (sign : ℕ)
      → value.Answers (Stands site.variables) fits r (elaborated site.integers site.line x h)
      → Answers (IsRead site h) (placed sign r) (meaning.ranged site.integers site.line sign h x)
  ranged_answers r sign a =
      placed_answers (Stands site.variables) fits (λ x. elaborated site.integers site.line x h) r sign x a (λ v s. s.numbers)

  -- a side that is a condition
  pub condition_side : (b : Bool) (first : ℕ) (v : Tested) → b ≡ true
      → Answers (IsTestedOf site h) (Ok v) (as_condition site.integers site.line first h x)
      → Answers (StandsSide site.integers site.variables site.line b h) (Ok (side_of.Condition v))
      (side site.integers site.line b first h x)
  condition_side true first v e a = a
  condition_side false first v e a = cc

  -- where it has a fault
  pub condition_fault : (b : Bool) (first : ℕ) (r : Result Side Stop) (s : Stop) → b ≡ true → IsErrAnd r (λ z. z ≡ s)
      → Answers (IsTestedOf site h) (Err s) (as_condition site.integers site.line first h x)
      → Answers (StandsSide site.integers site.variables site.line b h) r (side site.integers site.line b first h x)
  condition_fault true first r s e k a = handed (IsTestedOf site h) (StandsSide site.integers site.variables site.line true h) r s
      (as_condition site.integers site.line first h x) k a
  condition_fault false first r s e k a = cc

  -- a side that is a number
  pub number_side : (b : Bool) (first : ℕ) (v : Number) → b ≡ false → IsNumberOf site h v x
      → Answers (StandsSide site.integers site.variables site.line b h) (Ok (side_of.Number v)) (side site.integers site.line b first h x)
  number_side true first v e a = cc
  number_side false first v e a = (x, refl, a)
