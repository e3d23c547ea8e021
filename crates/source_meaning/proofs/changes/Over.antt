-- The variables of a change that is read are those of the function.
use Rattle.std.proofs.Common.{◌≤◌, ◌<◌, ℕ, true, IsTrue, length, Ok, refl, arith}
use Rattle.std.specs.Prelude.{◌&&◌, nat_lt}
use Rattle.std.proofs.lemmas.Bool.{lt-ltb, and_from}
use Rattle.source_grammar.specs.Tokens as g
use Rattle.source_grammar.specs.Grammar as tree
use Rattle.source_grammar.specs.Grammar.{Expr, Place, place, no_index, index, Effect, assigns, steps}
use Rattle.source_tree.specs.Expressions.{Expression, Expressions, variable, joined, none, more, plus, minus, times, over}
use Rattle.source_tree.specs.Expressions.{remainder}
use Rattle.source_tree.specs.Statements.{Change}
use Rattle.source_core.specs.Laws.{is_over, are_over}
use Rattle.source_core.specs.RunLaws.{is_change_over}
use Rattle.source_meaning.specs.Results.{◌>>=◌}
use Rattle.source_meaning.specs.Names.{State, variable_of}
use Rattle.source_meaning.specs.Expressions.{read, ranged, behind, behind_number}
use Rattle.source_meaning.specs.Changes.{stepped, right_side, written, affected, evaluated_by, read_element, changed}
use Rattle.source_meaning.proofs.results.Values.{OnValue, on_bind}
use Rattle.source_meaning.proofs.names.Sound.{Sound, variable_below}
use Rattle.source_meaning.proofs.expressions.Over.{ranged_has, read_over}
use Rattle.base_integers.specs.declared.integers.Integers.{Integers}

module _ (integers : Integers) (n line : ℕ) (st : State) (s : Sound st) (few : length st.variables ≤ n) where
  abbrev Over : Expression → Type 0
  Over e = IsTrue (is_over n e)

  abbrev AllOver : Expressions → Type 0
  AllOver es = IsTrue (are_over n es)

  abbrev ChangeOver : Change → Type 0
  ChangeOver g = IsTrue (is_change_over n g)

  expression_over : (e : Expr) (h : ℕ) → OnValue Over (read integers line st e h)
  expression_over e h = read_over integers n line st s few e h

  one_over : (x : Expression) → Over x → AllOver (more x none)
  one_over x o = and_from (is_over n x) true o refl

  -- an operation on the old value and the right side
  operation : (old : Expression) (e : Expr) (h : ℕ) (sign : ℕ) (make : Expression → Expression)
      → ((x : Expression) → Over x → Over (make x)) → OnValue Over (read integers line st e h >>= λ x. ranged integers line sign n (make x))
  operation old e h sign make f = on_bind Over Over (read integers line st e h) _ (expression_over e h)
      (λ x o. ranged_has integers line Over sign n (make x) (f x o))

  right_over : (c : g.Change) (sign : ℕ) (old : Expression) (e : Expr) → Over old
      → OnValue Over (right_side integers n line st c sign old e)
  right_over c sign old e o = by c (λ x p. and_from (is_over n old) (is_over n x) o p) where
    by : (c : g.Change) → ((x : Expression) → Over x → IsTrue (is_over n old && is_over n x))
        → OnValue Over (right_side integers n line st c sign old e)
    by g.replaces f = expression_over e n
    by g.adds f = operation old e n sign (λ x. joined plus sign old x) f
    by g.subtracts f = operation old e n sign (λ x. joined minus sign old x) f
    by g.multiplies f = operation old e n sign (λ x. joined times sign old x) f
    by g.divides f = operation old e n sign (λ x. joined over sign old x) f
    by g.remains f = operation old e n sign (λ x. joined remainder sign old x) f

  written_over : (c : g.Change) (sign : ℕ) (old : Expression) (e : Expr) → Over old
      → OnValue AllOver (written integers n line st c sign old e)
  written_over c sign old e o = by c (λ x p. and_from (is_over n old) (is_over n x) o p) where
    with : (make : Expression → Expression) → ((x : Expression) → Over x → Over (make x))
        → OnValue AllOver (read integers line st e (behind_number integers line old n) >>= λ x. ranged integers line sign n (make x)
        >>= λ y. Ok (more y none))
    with make f = on_bind Over AllOver (read integers line st e (behind_number integers line old n)) _
        (expression_over e (behind_number integers line old n))
        (λ x p. on_bind Over AllOver (ranged integers line sign n (make x)) _ (ranged_has integers line Over sign n (make x) (f x p))
        (λ y q. one_over y q))

    by : (c : g.Change) → ((x : Expression) → Over x → IsTrue (is_over n old && is_over n x))
        → OnValue AllOver (written integers n line st c sign old e)
    by g.replaces f = on_bind Over AllOver (read integers line st e (behind integers line old n)) _
        (expression_over e (behind integers line old n))
        (λ x p. and_from (is_over n old) (is_over n x && true) o (and_from (is_over n x) true p refl))
    by g.adds f = with (λ x. joined plus sign old x) f
    by g.subtracts f = with (λ x. joined minus sign old x) f
    by g.multiplies f = with (λ x. joined times sign old x) f
    by g.divides f = with (λ x. joined over sign old x) f
    by g.remains f = with (λ x. joined remainder sign old x) f

  stepped_over : (d : g.Direction) (sign : ℕ) (old : Expression) → Over old → Over (stepped d sign old)
  stepped_over g.up sign old o = and_from (is_over n old) true o refl
  stepped_over g.down sign old o = and_from (is_over n old) true o refl

  affected_over : (i at : ℕ) (f : Effect) → IsTrue (nat_lt i n) → OnValue ChangeOver (affected integers n line st i at f)
  affected_over i at (assigns c sign e) l = on_bind Over ChangeOver (right_side integers n line st c sign (variable i at) e) _
      (right_over c sign (variable i at) e l) (λ x o. and_from (nat_lt i n) (is_over n x) l o)
  affected_over i at (steps d sign) l = on_bind Over ChangeOver (ranged integers line sign n (stepped d sign (variable i at))) _
      (ranged_has integers line Over sign n (stepped d sign (variable i at)) (stepped_over d sign (variable i at) l))
      (λ x o. and_from (nat_lt i n) (is_over n x) l o)

  evaluated_over : (old : Expression) (f : Effect) → Over old → OnValue ChangeOver (evaluated_by integers n line st old f)
  evaluated_over old (assigns c sign e) o =
      on_bind AllOver ChangeOver (written integers n line st c sign old e) _ (written_over c sign old e o)
      (λ xs p. p)
  evaluated_over old (steps d sign) o = on_bind Over ChangeOver (ranged integers line sign n (stepped d sign old)) _
      (ranged_has integers line Over sign n (stepped d sign old) (stepped_over d sign old o)) (λ x p. one_over x p)

  -- the change of a place
  pub changed_over : (p : Place) (f : Effect) → OnValue (λ g. IsTrue (is_change_over n g)) (changed integers n line st p f)
  changed_over (place x a no_index) f = on_bind (λ i. i < length st.variables) ChangeOver (variable_of x a st) _ (variable_below x a st s)
      (λ i l. affected_over i a f (lt-ltb i n (omega (arith, l, few))))
  changed_over (place x a (index is)) f = on_bind Over ChangeOver (read_element integers n line st x a is) _
      (expression_over (tree.element x a is) n)
      (λ old o. evaluated_over old f o)
