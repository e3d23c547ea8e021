-- Expressions of parts that were read.
use Rattle.std.proofs.Common.{◌≡◌, ◌≤◌, ℕ, Bool, true, false, Option, Some, None, Result, Ok, Err, refl, ap}
use Rattle.std.proofs.Common.{subst}
use Rattle.source_tree.specs.Expressions as made
use Rattle.source_tree.specs.Expressions.{Expression, Expressions}
use Rattle.source_core.specs.Elaborated.{Elaborated, Evaluated, elaborated, evaluated, numbered, tested, choice}
use Rattle.source_core.specs.Elaborated as core
use Rattle.source_core.specs.Fits.{fits}
use Rattle.source_grammar.specs.Grammar.{Expr}
use Rattle.source_meaning.specs.declared.fault.FunctionFault.{FunctionFault}
use Rattle.source_meaning.specs.declared.fault.FunctionFault.TheVariants.{WrongKind}
use Rattle.source_meaning.specs.Results.{◌>>=◌}
use Rattle.source_meaning.specs.Names.{State, Thing, as_called, passable}
use Rattle.source_meaning.specs.Expressions.{as_condition, behind, behind_number, behind_side, first_of, ranged, read}
use Rattle.source_meaning.specs.Expressions.{right_of, side}
use Rattle.source_value.specs.declared.fault.OperationFault.{OperationFault}
use Rattle.source_value.specs.declared.site.Site.{Site}
use Rattle.source_value.specs.declared.value.Value.{Value}
use Rattle.source_value.specs.declared.value.Number.{Number}
use Rattle.source_value.specs.declared.value.Tested.{Tested}
use Rattle.source_value.specs.Answers as value
use Rattle.source_value.specs.Stands.{Stands, StandsNumber, StandsTested}
use Rattle.source_reader.specs.declared.stop.Stop.{Stop}
use Rattle.source_reader.specs.Answers.{Answers}
use Rattle.source_reader.specs.Placed.{placed}
use Rattle.source_expression.specs.Signs.{asks_conditions, work_in}
use Rattle.source_expression.specs.declared.signs.Work.{Work}
use Rattle.source_expression.specs.declared.sides.Side.{Side}
use Rattle.source_expression.specs.declared.sides.Side.TheVariants as side_of
use Rattle.source_expression.specs.Sides.{IsRead, IsNumberOf, IsTestedOf, StandsSide, next_of, sides_worked}
use Rattle.source_expression.specs.Joins.{Join, chosen_with, joined_with}
use Rattle.source_expression.proofs.Answering.{ok_then, wanted_of}
use Rattle.source_expression.proofs.Grows.{grows, numbers_grow}
use Rattle.source_expression.proofs.Worked.{joined_same, ranged_answers}
use Rattle.base_integers.specs.declared.integers.Integers.{Integers}

-- ---- calls
-- a name that may be called may be called
pub called_ok : {A : Type 0} (at : ℕ) (o : Option Thing) (y : A) (u : Unit {0}) → Ok u ≡ as_called at o u → as_called at o y ≡ Ok y
called_ok at None y u h = refl
called_ok at (Some t) y u h = cc

-- one that may not has the same fault
pub called_err : {A : Type 0} (at : ℕ) (o : Option Thing) (y : A) (u : Unit {0}) (f : FunctionFault) → Err f ≡ as_called at o u
    → Err f ≡ as_called at o y
called_err at None y u f h = cc
called_err at (Some t) y u f h = let k : f ≡ WrongKind at = cc in ap Err k

-- ---- operations on conditions and numbers
module _ (site : Site) (h : ℕ) (x y : Expression) where
  -- the sides of an operation are read one behind the other
  pub conditions_grow : (tested (elaborated site.integers site.line x h)).next ≤ (tested (elaborated site.integers site.line y
      (behind site.integers site.line x h))).next
  conditions_grow = grows site.integers site.line y (behind site.integers site.line x h)

  -- likewise of numbers
  pub numbers_ordered : (numbered site.integers site.line (elaborated site.integers site.line x h)).next
      ≤ (numbered site.integers site.line (elaborated site.integers site.line y (behind_number site.integers site.line x h))).next
  numbers_ordered = numbers_grow site.integers site.line y (behind_number site.integers site.line x h)

-- behind a side comes the next hidden variable
pub side_next : (integers : Integers) (n line : ℕ) (b : Bool) (h : ℕ) (s : Side) (x : Expression) → StandsSide integers n line b h s x
    → next_of s ≡ behind_side integers line b x h
side_next integers n line true h (side_of.Condition v) x i = i.next
side_next integers n line false h (side_of.Number v) x i = i.next
side_next integers n line true h (side_of.Number v) x i = absurd i
side_next integers n line false h (side_of.Condition v) x i = absurd i

-- ---- what is wanted in steps
module _ (integers : Integers) {C : Type 0} (line : ℕ) (st : State) (As : C → Expression → Type 0) (out : Result C Stop) where
  -- of a choice
  pub chosen_steps : (first sign : ℕ) (x : Expression) (e f : Expr) (h : ℕ) (u y z : Expression)
      → as_condition integers line first h x ≡ Ok u
      → read integers line (passable st) e (behind integers line u h) ≡ Ok y
      → read integers line (passable st) f (behind_number integers line y (behind integers line u h)) ≡ Ok z
      → Answers As out (ranged integers line sign h (made.chosen sign u y z))
      → Answers As out (chosen_with integers line st first sign x e f h)
  chosen_steps first sign x e f h u y z p q r a = ok_then As out (as_condition integers line first h x) u _ p
      (ok_then As out (read integers line (passable st) e (behind integers line u h)) y _ q
      (ok_then As out (read integers line (passable st) f (behind_number integers line y (behind integers line u h))) z _ r a))

  -- of a sign with its right side
  pub joined_steps : (first h : ℕ) (x : Expression) (j : Join) (w : Work) (u y : Expression) → w ≡ work_in j.op
      → side integers line (asks_conditions w) first h x ≡ Ok u
      → read integers line (right_of (asks_conditions w) st) j.right (behind_side integers line (asks_conditions w) u h) ≡ Ok y
      → Answers As out (sides_worked integers line w j.at (first_of j.right) h u y)
      → Answers As out (joined_with integers line st first x j h)
  joined_steps first h x j w u y e p q a = wanted_of As out _ _ (joined_same integers line st first h x j)
      (subst (λ w. Answers As out (side integers line (asks_conditions w) first h x
      >>= λ x. read integers line (right_of (asks_conditions w) st) j.right (behind_side integers line (asks_conditions w) x h)
      >>= λ y. sides_worked integers line w j.at (first_of j.right) h x y)) e
      (ok_then As out (side integers line (asks_conditions w) first h x) u _ p
      (ok_then As out (read integers line (right_of (asks_conditions w) st) j.right (behind_side integers line (asks_conditions w) u h)) y
      _ q a)))

-- a choice of what was read
pub choice_answers : (site : Site) (h sign : ℕ) (u y z : Expression) (r : Result Value OperationFault) (c : Tested) (f g : Number)
    → IsTestedOf site h c u → IsNumberOf site (behind site.integers site.line u h) f y
    → IsNumberOf site (behind_number site.integers site.line y (behind site.integers site.line u h)) g z
    → ((a : core.Tested) (b d : core.Numbered) → a.next ≤ b.next → b.next ≤ d.next → StandsTested site.variables c a
    → StandsNumber site.variables f b → StandsNumber site.variables g d
    → value.Answers (Stands site.variables) fits r (choice site.line a b d))
    → Answers (IsRead site h) (placed sign r) (ranged site.integers site.line sign h (made.chosen sign u y z))
choice_answers site h sign u y z r c f g i j k m =
    let n = behind site.integers site.line u h in
    ranged_answers site h (made.chosen sign u y z) r sign (m (tested (elaborated site.integers site.line u h))
    (numbered site.integers site.line
    (elaborated site.integers site.line y n))
    (numbered site.integers site.line (elaborated site.integers site.line z (behind_number site.integers site.line y n)))
    (numbers_grow site.integers site.line y n)
    (numbers_grow site.integers site.line z (behind_number site.integers site.line y n)) i j k)
