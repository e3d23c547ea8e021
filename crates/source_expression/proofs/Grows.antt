-- Hidden variables are taken upwards.
use Rattle.std.proofs.Common.{◌≤◌, ℕ, List, arith}
use Rattle.lang_tree.specs.Tree.{Deed}
use Rattle.base_integers.specs.declared.integers.Integers.{Integers}
use Rattle.source_tree.specs.Expressions.{Expression, Expressions, Subscripts}
use Rattle.source_core.specs.Elaborated.{Result, a_form, a_truth, any, Elaborated, as_number, numbered, elaborated, evaluated, indexed}
use Rattle.source_core.proofs.expressions.Lacking.{lacking, grows_in, grows_at}

module _ (integers : Integers) (line : ℕ) where
  as_number_grows : (ds : List Deed) (h : ℕ) (r : Result) → h ≤ (as_number integers line ds h r).next
  as_number_grows ds h (a_form f) = omega arith
  as_number_grows ds h (a_truth c) = omega arith
  as_number_grows ds h any = omega arith

  -- a number takes them upwards
  pub number_grows : (e : Elaborated) → e.next ≤ (numbered integers line e).next
  number_grows e = as_number_grows e.prelude e.next e.result

  -- what is behind h as a value is as a number
  pub as_numbers : (e : Elaborated) (h : ℕ) → h ≤ e.next → h ≤ (numbered integers line e).next
  as_numbers e h l = let k = number_grows e in omega (arith, l, k)

  -- so does an expression
  pub grows : (e : Expression) (h : ℕ) → h ≤ (elaborated integers line e h).next
  grows e h = (lacking integers line e h).grows

  -- and several
  pub all_grow : (es : Expressions) (h : ℕ) → h ≤ (evaluated integers line es h).next
  all_grow es h = grows_in integers line es h

  -- and indexes
  pub indexes_grow : (is : Subscripts) (h : ℕ) → h ≤ (indexed integers line is h).next
  indexes_grow is h = grows_at integers line is h

  -- an expression as a number takes them upwards
  pub numbers_grow : (e : Expression) (h : ℕ) → h ≤ (numbered integers line (elaborated integers line e h)).next
  numbers_grow e h = as_numbers (elaborated integers line e h) h (grows e h)
