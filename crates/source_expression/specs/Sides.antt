-- What values stand for that were read.
use Rattle.std.specs.Prelude.{ℕ, Bool, true, false, Result, Ok}
use Rattle.source_tree.specs.Expressions.{Expression, Expressions, Subscripts, both, either, compared, joined}
use Rattle.source_core.specs.Elaborated.{elaborated, evaluated, indexed, numbered, tested}
use Rattle.source_meaning.specs.declared.fault.FunctionFault.{FunctionFault}
use Rattle.source_meaning.specs.Expressions.{ranged, side, behind_side}
use Rattle.source_meaning.specs.Results.{◌>>=◌}
use Rattle.source_value.specs.Operations.{operation_of}
use Rattle.source_value.specs.declared.site.Site.{Site}
use Rattle.source_value.specs.declared.value.Value.{Value}
use Rattle.source_value.specs.declared.value.Number.{Number}
use Rattle.source_value.specs.declared.value.Tested.{Tested}
use Rattle.source_value.specs.declared.value.Evaluated.{Evaluated}
use Rattle.source_value.specs.Stands.{Stands, StandsNumber, StandsTested, StandsEvaluated}
use Rattle.source_expression.specs.declared.signs.Work.{Work}
use Rattle.source_expression.specs.declared.signs.Work.TheVariants as work
use Rattle.source_expression.specs.Signs.{asks_conditions}
use Rattle.source_expression.specs.declared.sides.Side.{Side}
use Rattle.source_expression.specs.declared.sides.Side.TheVariants as side_of
use Rattle.base_integers.specs.declared.integers.Integers.{Integers}

-- hidden variables are taken from h on, in the statement at this site
module _ (site : Site) (h : ℕ) where
  -- a value stands for an expression
  abbrev pub IsRead : Value → Expression → Type 0
  IsRead v x = Stands site.variables v (elaborated site.integers site.line x h)

  -- a number does
  abbrev pub IsNumberOf : Number → Expression → Type 0
  IsNumberOf v x = StandsNumber site.variables v (numbered site.integers site.line (elaborated site.integers site.line x h))

  -- a condition does
  abbrev pub IsTestedOf : Tested → Expression → Type 0
  IsTestedOf v x = StandsTested site.variables v (tested (elaborated site.integers site.line x h))

  -- a prelude stands for expressions that are evaluated
  abbrev pub IsEvaluatedOf : Evaluated → Expressions → Type 0
  IsEvaluatedOf v xs = StandsEvaluated site.variables v (evaluated site.integers site.line xs h)

  -- a prelude stands for indexes
  abbrev pub IsIndexedOf : Evaluated → Subscripts → Type 0
  IsIndexedOf v ys = StandsEvaluated site.variables v (indexed site.integers site.line ys h)

-- a side of an operation stands for an expression, as a condition or as a number
abbrev pub StandsSide : (integers : Integers) (n line : ℕ) → (condition : Bool) → (h : ℕ) → Side → Expression → Type 0
StandsSide integers n line true h (side_of.Condition v) x = StandsTested n v (tested (elaborated integers line x h))
StandsSide integers n line false h (side_of.Number v) x = StandsNumber n v (numbered integers line (elaborated integers line x h))
StandsSide integers n line true h (side_of.Number v) x = ⊥
StandsSide integers n line false h (side_of.Condition v) x = ⊥

-- the next hidden variable behind a side
abbrev pub next_of : Side → ℕ
next_of (side_of.Number v) = v.next
next_of (side_of.Condition v) = v.next

-- what a sign at this place makes of its sides
abbrev pub worked : (integers : Integers) (line : ℕ) → Work → (sign h : ℕ) → (x y : Expression) → Result Expression FunctionFault
worked integers line work.Either sign h x y = Ok (either x y)
worked integers line work.Both sign h x y = Ok (both x y)
worked integers line (work.Compare rel) sign h x y = ranged integers line sign h (compared rel sign x y)
worked integers line (work.Operate o) sign h x y = ranged integers line sign h (joined (operation_of o) sign x y)

-- and of one side that was read and of the value of the other, whose first token is at this place
abbrev pub sides_worked : (integers : Integers) (line : ℕ) → Work → (sign first h : ℕ) → (x y : Expression)
    → Result Expression FunctionFault
sides_worked integers line w sign first h x y =
    side integers line (asks_conditions w) first (behind_side integers line (asks_conditions w) x h) y
    >>= λ y. worked integers line w sign h x y
