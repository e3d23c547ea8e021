-- All numbers of a change that is read are in their ranges.
use Rattle.std.proofs.Common.{ℕ, true, [], ◌∷◌, ◌++◌, IsTrue, Ok, refl}
use Rattle.std.proofs.lemmas.Bool.{and_from, and_parts}
use Rattle.lang_tree.specs.Limits.{has_numbers}
use Rattle.lang_tree.specs.Tree.{Deed}
use Rattle.lang_tree.specs.Tree as core
use Rattle.source_grammar.specs.Tokens as g
use Rattle.source_grammar.specs.Grammar as tree
use Rattle.source_grammar.specs.Grammar.{Expr, Place, place, no_index, index, Effect, assigns, steps}
use Rattle.source_tree.specs.Expressions.{Expression, Expressions, variable, joined, none, more, plus, minus, times, over}
use Rattle.source_tree.specs.Expressions.{remainder}
use Rattle.source_tree.specs.Statements.{Change, evaluates}
use Rattle.source_core.specs.Elaborated.{Result as Value, a_form, a_truth, any, Elaborated, elaborated, numbered}
use Rattle.source_core.specs.Core.{taken_any, taken, change_deeds}
use Rattle.source_core.specs.Fits.{deed_fits, deeds_fit, fits}
use Rattle.source_meaning.specs.Results.{◌>>=◌}
use Rattle.source_meaning.specs.Names.{State, variable_of}
use Rattle.source_meaning.specs.Expressions.{read, ranged, behind, behind_number}
use Rattle.source_meaning.specs.Changes.{stepped, right_side, written, affected, evaluated_by, read_element, changed}
use Rattle.source_meaning.proofs.results.Values.{OnValue, on_bind}
use Rattle.source_meaning.proofs.expressions.Over.{anything}
use Rattle.source_meaning.proofs.expressions.Fits.{all_then, held_fits, numbered_fit, prelude_fits, ranged_fits, read_fits}
use Rattle.base_integers.specs.declared.integers.Integers.{Integers}

-- a variable takes a number in range
pub taken_fits : (integers : Integers) (var line : ℕ) (e : Elaborated) → IsTrue (fits e)
    → IsTrue (deeds_fit (taken integers var line e e.result))
taken_fits integers var line e h = by e.result where
  a_number : IsTrue (deeds_fit ((numbered integers line e).prelude ++ (core.sets var (numbered integers line e).form line ∷ [])))
  a_number = let p = and_parts (deeds_fit (numbered integers line e).prelude) (has_numbers (numbered integers line e).form)
      (numbered_fit integers line e h) in
      all_then deed_fits (numbered integers line e).prelude (core.sets var (numbered integers line e).form line ∷ []) p.0
      (and_from (has_numbers (numbered integers line e).form) true p.1 refl)

  by : (r : Value) → IsTrue (deeds_fit (taken integers var line e r))
  by (a_form f) = a_number
  by (a_truth c) = a_number
  by any = all_then deed_fits e.prelude (taken_any integers var line) (prelude_fits e h) (held_fits integers line var)

-- the deeds of a change have numbers in their ranges
abbrev pub ChangeFits : (integers : Integers) → ℕ → Change → Type 0
ChangeFits integers n g = IsTrue (deeds_fit (change_deeds integers n g))

-- one value, and two, that are evaluated
pub one_evaluated : (integers : Integers) (n line : ℕ) (x : Expression) → IsTrue (fits (elaborated integers line x n))
    → ChangeFits integers n (evaluates (more x none) line)
one_evaluated integers n line x h =
    all_then deed_fits (elaborated integers line x n).prelude [] (prelude_fits (elaborated integers line x n) h) refl

two_evaluated : (integers : Integers) (n line : ℕ) (x y : Expression) → IsTrue (fits (elaborated integers line x n))
    → IsTrue (fits (elaborated integers line y (behind integers line x n)))
    → ChangeFits integers n (evaluates (more x (more y none)) line)
two_evaluated integers n line x y h k =
    all_then deed_fits (elaborated integers line x n).prelude ((elaborated integers line y (behind integers line x n)).prelude ++ [])
    (prelude_fits (elaborated integers line x n) h)
    (all_then deed_fits (elaborated integers line y (behind integers line x n)).prelude []
    (prelude_fits (elaborated integers line y (behind integers line x n)) k) refl)

module _ (integers : Integers) (n line : ℕ) (st : State) where
  abbrev Fit : Expression → Type 0
  Fit x = IsTrue (fits (elaborated integers line x n))

  operation : (make : Expression → Expression) (sign h : ℕ) (e : Expr)
      → OnValue Fit (read integers line st e h >>= λ x. ranged integers line sign n (make x))
  operation make sign h e = on_bind (λ x. Unit {0}) Fit (read integers line st e h) _ (anything (read integers line st e h))
      (λ x u. ranged_fits integers line sign n (make x))

  right_fits : (c : g.Change) (sign : ℕ) (old : Expression) (e : Expr) → OnValue Fit (right_side integers n line st c sign old e)
  right_fits g.replaces sign old e = read_fits integers line st e n
  right_fits g.adds sign old e = operation (λ x. joined plus sign old x) sign n e
  right_fits g.subtracts sign old e = operation (λ x. joined minus sign old x) sign n e
  right_fits g.multiplies sign old e = operation (λ x. joined times sign old x) sign n e
  right_fits g.divides sign old e = operation (λ x. joined over sign old x) sign n e
  right_fits g.remains sign old e = operation (λ x. joined remainder sign old x) sign n e

  abbrev AllFit : Expressions → Type 0
  AllFit es = ChangeFits integers n (evaluates es line)

  write : (make : Expression → Expression) (sign h : ℕ) (e : Expr)
      → OnValue AllFit (read integers line st e h >>= λ x. ranged integers line sign n (make x) >>= λ y. Ok (more y none))
  write make sign h e = on_bind (λ x. Unit {0}) AllFit (read integers line st e h) _ (anything (read integers line st e h))
      (λ x u. on_bind Fit AllFit (ranged integers line sign n (make x)) _ (ranged_fits integers line sign n (make x))
      (λ y k. one_evaluated integers n line y k))

  written_fits : (c : g.Change) (sign : ℕ) (old : Expression) (e : Expr) → Fit old
      → OnValue AllFit (written integers n line st c sign old e)
  written_fits g.replaces sign old e h =
      on_bind (λ x. IsTrue (fits (elaborated integers line x (behind integers line old n)))) AllFit
      (read integers line st e (behind integers line old n)) _
      (read_fits integers line st e (behind integers line old n)) (λ x k. two_evaluated integers n line old x h k)
  written_fits g.adds sign old e h = write (λ x. joined plus sign old x) sign (behind_number integers line old n) e
  written_fits g.subtracts sign old e h = write (λ x. joined minus sign old x) sign (behind_number integers line old n) e
  written_fits g.multiplies sign old e h = write (λ x. joined times sign old x) sign (behind_number integers line old n) e
  written_fits g.divides sign old e h = write (λ x. joined over sign old x) sign (behind_number integers line old n) e
  written_fits g.remains sign old e h = write (λ x. joined remainder sign old x) sign (behind_number integers line old n) e

  affected_fits : (i at : ℕ) (f : Effect) → OnValue (ChangeFits integers n) (affected integers n line st i at f)
  affected_fits i at (assigns c sign e) = on_bind Fit (ChangeFits integers n) (right_side integers n line st c sign (variable i at) e) _
      (right_fits c sign (variable i at) e) (λ x k. taken_fits integers i line (elaborated integers line x n) k)
  affected_fits i at (steps d sign) = on_bind Fit (ChangeFits integers n) (ranged integers line sign n (stepped d sign (variable i at))) _
      (ranged_fits integers line sign n (stepped d sign (variable i at)))
      (λ x k. taken_fits integers i line (elaborated integers line x n) k)

  evaluated_fits : (old : Expression) (f : Effect) → Fit old → OnValue (ChangeFits integers n) (evaluated_by integers n line st old f)
  evaluated_fits old (assigns c sign e) h = on_bind AllFit (ChangeFits integers n) (written integers n line st c sign old e) _
      (written_fits c sign old e h) (λ xs k. k)
  evaluated_fits old (steps d sign) h = on_bind Fit (ChangeFits integers n) (ranged integers line sign n (stepped d sign old)) _
      (ranged_fits integers line sign n (stepped d sign old)) (λ x k. one_evaluated integers n line x k)

  -- the change of a place
  pub changed_fits : (p : Place) (f : Effect)
      → OnValue (λ g. IsTrue (deeds_fit (change_deeds integers n g))) (changed integers n line st p f)
  changed_fits (place x a no_index) f =
      on_bind (λ i. Unit {0}) (ChangeFits integers n) (variable_of x a st) _ (anything (variable_of x a st))
      (λ i u. affected_fits i a f)
  changed_fits (place x a (index is)) f =
      on_bind Fit (ChangeFits integers n) (read_element integers n line st x a is) _
      (read_fits integers line st (tree.element x a is) n)
      (λ old k. evaluated_fits old f k)
