-- Deeds and conditions that keep to the limits: their variables are there, their numbers in range, their leaves few.
use Rattle.std.proofs.Common.{◌≤◌, ◌<◌, ◌+◌, ℕ, true, List, [], ◌∷◌, ◌++◌, length, IsTrue, refl, arith}
use Rattle.std.specs.Prelude.{nat_abs, nat_le, nat_lt}
use Rattle.std.specs.List.{list_all}
use Rattle.std.proofs.lemmas.Bool.{and_from, and_parts, le-leb, lt-ltb, ltb-true}
use Rattle.lang_tree.specs.declared.form.Form.{Form}
use Rattle.lang_tree.specs.Limits.{has_numbers, is_form, is_condition, is_tested, is_deed}
use Rattle.lang_tree.specs.Tree.{Condition, free, compare, negation, both, either, leaf_count, Deed, sets, havocs, wheres, checks}
use Rattle.lang_tree.specs.Tree as core
use Rattle.source_tree.specs.Expressions.{Expression}
use Rattle.source_tree.specs.Statements.{Change, sets as sets_change, evaluates}
use Rattle.source_core.specs.Elaborated.{Result, a_form, a_truth, any, Elaborated, elaborated, evaluated, held, numbered}
use Rattle.source_core.specs.Core.{taken_any, taken, change_deeds, condition_of}
use Rattle.source_core.specs.Fits.{condition_fits, deed_fits, deeds_fit, tested_fits}
use Rattle.source_core.specs.Laws.{is_over}
use Rattle.source_core.specs.RunLaws.{is_change_over}
use Rattle.source_core.proofs.forms.Over.{FormOver, over_more, ConditionOver, condition_over_more}
use Rattle.source_meaning.specs.Limits.{is_small, is_small_deed}
use Rattle.source_meaning.specs.Changes.{behind_taken, behind_change}
use Rattle.source_meaning.proofs.expressions.Fits.{held_fits}
use Rattle.source_meaning.proofs.expressions.Within.{DeedOver, DeedsOver, deeds_more, deeds_then, IsWithin, held_over, numbered_within}
use Rattle.source_meaning.proofs.expressions.Within.{condition_over, elaborated_within, evaluated_within}
use Rattle.base_integers.specs.declared.integers.Integers.{Integers}
use Rattle.base_integers.specs.declared.integers.Integers.TheVariants.{Mathematical, Machine}

form_good : (m : ℕ) (f : Form) → FormOver m f → IsTrue (has_numbers f) → IsTrue (is_form m f)
form_good m f o h = and_from (nat_le (length f.coeffs) m) (has_numbers f) (le-leb (length f.coeffs) m o) h

compared_good : (m : ℕ) (c : Condition) → ConditionOver m c → IsTrue (condition_fits c) → IsTrue (is_condition m c)
compared_good m free o h = refl
compared_good m (compare rel f) o h =
    let p = and_parts (has_numbers f) (nat_le (nat_abs f.constant + 1) 9223372036854775807) h in
    and_from (is_form m f) (nat_le (nat_abs f.constant + 1) 9223372036854775807) (form_good m f o p.0) p.1
compared_good m (negation c) o h = compared_good m c o h
compared_good m (both c d) o h = let p = and_parts (condition_fits c) (condition_fits d) h in
    and_from (is_condition m c) (is_condition m d) (compared_good m c o.0 p.0) (compared_good m d o.1 p.1)
compared_good m (either c d) o h = let p = and_parts (condition_fits c) (condition_fits d) h in
    and_from (is_condition m c) (is_condition m d) (compared_good m c o.0 p.0) (compared_good m d o.1 p.1)

-- a condition over m variables, with numbers in range and few leaves
pub tested_good : (m : ℕ) (c : Condition) → ConditionOver m c → IsTrue (condition_fits c) → IsTrue (is_small c) → IsTrue (is_tested m c)
tested_good m c o h s = and_from (nat_le (leaf_count c) 64) (is_condition m c) s (compared_good m c o h)

deed_good : (m : ℕ) (d : Deed) → DeedOver m d → IsTrue (deed_fits d) → IsTrue (is_small_deed d) → IsTrue (is_deed m d)
deed_good m (sets var f line) o h s = and_from (nat_lt var m) (is_form m f) (lt-ltb var m o.0) (form_good m f o.1 h)
deed_good m (havocs var line) o h s = lt-ltb var m o
deed_good m (wheres c line) o h s = tested_good m c o h s
deed_good m (checks about c line) o h s = tested_good m c o h s

-- deeds likewise
pub deeds_good : (m : ℕ) (ds : List Deed) → DeedsOver m ds → IsTrue (deeds_fit ds) → IsTrue (list_all is_small_deed ds)
    → IsTrue (list_all (is_deed m) ds)
deeds_good m [] o h s = refl
deeds_good m (d ∷ ds) o h s =
    let p = and_parts (deed_fits d) (deeds_fit ds) h in
    let q = and_parts (is_small_deed d) (list_all is_small_deed ds) s in
    and_from (is_deed m d) (list_all (is_deed m) ds) (deed_good m d o.0 p.0 q.0) (deeds_good m ds o.1 p.1 q.1)

held_small : (integers : Integers) (line var : ℕ) → IsTrue (list_all is_small_deed (held integers line var))
held_small Mathematical line var = refl
held_small (Machine width) line var = refl

-- a variable that takes any of the integers
pub any_good : (integers : Integers) (m var line : ℕ) → var < m → IsTrue (list_all (is_deed m) (taken_any integers var line))
any_good integers m var line l =
    deeds_good m (taken_any integers var line) (l, held_over integers m line var l) (held_fits integers line var)
    (held_small integers line var)

-- the prelude of a condition and the condition itself
pub condition_limited : (integers : Integers) (n m line : ℕ) (e : Expression) → IsTrue (is_over n e)
    → IsTrue (tested_fits (condition_of integers n line e))
    → (condition_of integers n line e).next ≤ m → IsTrue (list_all is_small_deed (condition_of integers n line e).prelude)
    → IsTrue (list_all is_small ((condition_of integers n line e).condition ∷ []))
    → IsTrue (list_all (is_deed m) (condition_of integers n line e).prelude)
    × IsTrue (is_tested m (condition_of integers n line e).condition)
condition_limited integers n m line e o h l s t =
    let c = condition_of integers n line e in
    let w = elaborated_within integers line e n n (omega arith) o in
    let p = and_parts (deeds_fit c.prelude) (condition_fits c.condition) h in (
      deeds_good m c.prelude (deeds_more c.next m c.prelude l w.within.deeds) p.0 s,
      tested_good m c.condition
          (condition_over_more c.next m c.condition l (condition_over c.next (elaborated integers line e n).result w.over)) p.1
          (and_parts (is_small c.condition) true t).0,
    )

taken_over : (integers : Integers) (n m var line : ℕ) (e : Elaborated) → var < m → IsWithin n e → behind_taken integers line e e.result ≤ m
    → DeedsOver m (taken integers var line e e.result)
taken_over integers n m var line e v w l = by e.result l where
  a_number : (numbered integers line e).next ≤ m
      → DeedsOver m ((numbered integers line e).prelude ++ (core.sets var (numbered integers line e).form line ∷ []))
  a_number k = let a = numbered_within integers line n e w in
      deeds_then m (numbered integers line e).prelude (core.sets var (numbered integers line e).form line ∷ [])
      (deeds_more (numbered integers line e).next m (numbered integers line e).prelude k a.within.deeds)
      ((v, over_more (numbered integers line e).next m (numbered integers line e).form k a.over), tt)

  by : (r : Result) → behind_taken integers line e r ≤ m → DeedsOver m (taken integers var line e r)
  by (a_form f) k = a_number k
  by (a_truth c) k = a_number k
  by any k = deeds_then m e.prelude (taken_any integers var line) (deeds_more e.next m e.prelude k w.within.deeds)
      (v, held_over integers m line var v)

change_over : (integers : Integers) (n m line : ℕ) (g : Change) → n ≤ m → IsTrue (is_change_over n g) → behind_change integers n line g ≤ m
    → DeedsOver m (change_deeds integers n g)
change_over integers n m line (sets_change var e k) s o l =
    let p = and_parts (nat_lt var n) (is_over n e) o in
    taken_over integers n m var k (elaborated integers k e n) (omega (arith, ltb-true var n p.0, s))
    (elaborated_within integers k e n n (omega arith) p.1) l
change_over integers n m line (evaluates es k) s o l =
    deeds_more (evaluated integers k es n).next m (evaluated integers k es n).prelude l
    (evaluated_within integers k es n n (omega arith) o).deeds

-- the deeds of a change
pub change_limited : (integers : Integers) (n m line : ℕ) (g : Change) → n ≤ m → IsTrue (is_change_over n g)
    → IsTrue (deeds_fit (change_deeds integers n g))
    → behind_change integers n line g ≤ m → IsTrue (list_all is_small_deed (change_deeds integers n g))
    → IsTrue (list_all (is_deed m) (change_deeds integers n g))
change_limited integers n m line g s o h l t = deeds_good m (change_deeds integers n g) (change_over integers n m line g s o l) h t
