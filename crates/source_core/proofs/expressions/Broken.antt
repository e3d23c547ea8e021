-- Where an operation may have no value, the check of it may be false on the way through the prelude.
use Rattle.std.proofs.Common.{◌≡◌, ⊎_elim, ◌<◌, ◌≤◌, ◌+◌, ℕ, Bool, true, false, List, [], ◌∷◌, ◌++◌}
use Rattle.std.proofs.Common.{refl, sym, subst, ◌∙◌, arith, get_or}
use Rattle.std.specs.Prelude.{ℤ, pos, ◌-ℤ◌, neg_ℤ, ◌&&◌, IsTrue}
use Rattle.std.proofs.lemmas.Int.{ints}
use Rattle.std.proofs.lemmas.Bool.{ltb-true}
use Rattle.lang_tree.specs.declared.form.Form.{Form}
use Rattle.lang_tree.specs.declared.check.Check.{Check}
use Rattle.lang_tree.specs.declared.check.CheckKind.TheVariants.{Index, Range}
use Rattle.lang_tree.specs.Tree as tree
use Rattle.lang_tree.specs.Meaning.{State, value}
use Rattle.lang_tree.specs.Tree.{Deed, checks}
use Rattle.source_tree.specs.Expressions.{Expression, Expressions, number, variable, unknown, call, element, grouped, negative, positive}
use Rattle.source_tree.specs.Expressions.{stepped, inverse, joined, compared, both, either, chosen, none, more}
use Rattle.source_tree.specs.Expressions.{Subscripts, no_subscript, subscript}
use Rattle.source_tree.specs.Expressions.{Direction, Moment}
use Rattle.source_tree.specs.Values.{May, Breaks, SomeBreaks, IndexBreaks, Overflows, step_by}
use Rattle.source_core.specs.Preludes.{AllLeave, MayFail, all_under}
use Rattle.source_core.specs.Laws.{is_over, are_over, are_indexes_over, Agree, AreIn, occurrences}
use Rattle.source_core.specs.Laws.{all_steps, are_steps_certain, has_no_step}
use Rattle.source_core.specs.Elaborated.{elaborated, evaluated, indexed, numbered, tested}
use Rattle.source_core.specs.Elaborated.{operated, operation_on, step_behind, operation_held, is_held, ranged, form_behind, is_index}
use Rattle.source_core.specs.Forms.{opposite, constant_form, variable_form}
use Rattle.base_integers.specs.declared.integers.Integers.TheVariants.{Mathematical, Machine}
use Rattle.base_integers.specs.Integers.{Has}
use Rattle.source_core.proofs.preludes.Held.{held-false}
use Rattle.source_core.proofs.expressions.Ranges.{may-in, left-in}
use Rattle.source_core.proofs.expressions.Failing.{fail-number, fail-operated, fail-zero, fail-last, fail-ranged, fail-number_at, no_index}
use Rattle.source_core.proofs.expressions.Overflowing.{fail-overflow}
use Rattle.source_core.proofs.forms.Tests.{both_of}
use Rattle.source_core.proofs.forms.Forms.{value-opposite, value-variable, value-constant}
use Rattle.source_core.proofs.forms.Over.{condition_over_more, may_be-agrees}
use Rattle.source_core.proofs.preludes.Preludes.{leave-agrees, hidden-agrees, fail-before, fail-behind, fail-under, leave-under}
use Rattle.source_core.proofs.expressions.Apart.{Stepped, counts, Apart, ApartIn, ApartAt, occurs_in, apart-none, apart-first, apart-second}
use Rattle.source_core.proofs.expressions.Apart.{apart-head, apart-later, apart-index, apart-next}
use Rattle.source_core.proofs.expressions.Pairs.{as-number, as-truth, writes-alone, number-alone, two-numbers}
use Rattle.source_core.proofs.expressions.Stepping.{StepOf, step-operands}
use Rattle.source_core.proofs.expressions.Kept.{kept}
use Rattle.source_core.proofs.expressions.Operated.{leave-check}
use Rattle.base_integers.specs.declared.integers.Integers.{Integers}

-- the opposite of a number that is none of the integers
fail-opposite : (integers : Integers) (line at : ℕ) (ds : List Deed) (h : ℕ) (f : Form) (x y : State) (a : ℤ) → AllLeave ds x y
    → a ≡ value f y → ¬ (Has integers (neg_ℤ a))
    → MayFail (ranged integers line at is_held (form_behind ds h (opposite f))).prelude x record { kind = Range; at = at }
fail-opposite Mathematical line at ds h f x y a l e out = absurd (out tt)
fail-opposite (Machine width) line at ds h f x y a l e out =
    fail-last ds record { kind = Range; at = at } (is_held width (opposite f)) line x y l
    (held-false width (opposite f) y (neg_ℤ a) (negates a (value f y) _ e (value-opposite f y)) out)
  where
    negates : (a v w : ℤ) → a ≡ v → w ≡ pos 0 -ℤ v → neg_ℤ a ≡ w
    negates a v w p q = omega (arith, ints, p, q)

-- a step that overflows
fail-step : (integers : Integers) (line n h : ℕ) (test : ℕ → Bool) (direction : Direction) (moment : Moment) (i sign : ℕ) → n ≤ h → i < n
    → (x t : State) → Agree n x t → AreIn integers n x → (about : Check)
    → Overflows integers (step_by direction) sign about (get_or x i (pos 0)) (pos 1)
    → MayFail (step_behind integers line direction moment i sign h).prelude t about
fail-step integers line n h test direction moment i sign s l x t g k about m =
    let one = constant_form (pos 1) in
    let S = Stepped n test (λ j. occurs_in j i) in
    fail-before (operation_on integers line (step_by direction) sign [] h (variable_form i) one).prelude _ t about
    (fail-overflow integers line n S h (step_by direction) sign (StepOf i) [] h (variable_form i) one (step-operands n S h i s l) x x t t
    (get_or x i (pos 0)) (pos 1) g (refl, refl, refl) refl (g i l ∙ sym (value-variable i t)) (sym (value-constant (pos 1) t)) (k i l)
    about m)

mutual
  -- where an operation of an expression may have no value, its check may be false on the way through the prelude
  pub broken : (integers : Integers) (line : ℕ) (e : Expression) (n h : ℕ) (test : ℕ → Bool) → n ≤ h → IsTrue (is_over n e) → Apart test e
      → (x t : State) → Agree n x t → AreIn integers n x → (about : Check) → Breaks integers e x about
      → MayFail (elaborated integers line e h).prelude t about
  broken integers line (number v at) n h test s o a x t g i about m = fail-number_at integers line v at h t about m
  broken integers line (variable k at) n h test s o a x t g i about m = absurd m
  broken integers line (unknown at) n h test s o a x t g i about m = absurd m
  broken integers line (call es at) n h test s o a x t g i about m = some_broken integers line es n h test s o a x t g i about m
  broken integers line (element is at) n h test s o a x t g i about m = index_broken integers line is n h test s o a x t g i about m
  broken integers line (stepped direction moment j sign at) n h test s o a x t g i about m =
      fail-step integers line n h test direction moment j sign s (ltb-true j n o) x t g i about m
  broken integers line (grouped at e) n h test s o a x t g i about m = broken integers line e n h test s o a x t g i about m
  broken integers line (negative at e) n h test s o a x t g i about m =
      let b = elaborated integers line e h in
      let k = as-number integers line n h test e (kept integers line e n h test s o a) in
      let v = numbered integers line b in
      let inner = form_behind v.prelude v.next (opposite v.form) in
      ⊎_elim
      (λ q. fail-ranged integers line at is_held inner t about
      (fail-number integers line b t about (broken integers line e n h test s o a x t g i about q)))
      (λ q.
      let r = k.keeps x t q.0 q.1 g q.2 in
      subst (λ (c : Check). MayFail (elaborated integers line (negative at e) h).prelude t c) (sym q.3.0)
      (fail-opposite integers line at v.prelude v.next v.form t r.0 q.0 r.1 r.3 q.3.1)) m
  broken integers line (positive at e) n h test s o a x t g i about m = fail-number integers line (elaborated integers line e h) t about
      (broken integers line e n h test s o a x t g i about m)
  broken integers line (inverse at e) n h test s o a x t g i about m = broken integers line e n h test s o a x t g i about m
  broken integers line (joined k sign e f) n h test s o a x t g i about m =
      let p = both_of (is_over n e) (is_over n f) o in
      let ae = apart-first test e (all_steps test f) (are_steps_certain f) (counts f) a.0 a.1 a.2 in
      let af = apart-second test e f a.0 a.1 a.2 in
      let b = elaborated integers line e h in
      let ke = kept integers line e n h test s p.0 ae in
      let one = as-number integers line n h test e ke in
      let u = numbered integers line b in
      let d = elaborated integers line f u.next in
      let later : n ≤ u.next = omega (arith, s, one.fits.grows) in
      let kf = kept integers line f n u.next test later p.1 af in
      let w = numbered integers line d in
      let S = Stepped n test (λ j. occurrences j e + occurrences j f) in
      let two = two-numbers integers line n h test e f a.2 ke kf in
      let inner = operated integers line k sign (u.prelude ++ w.prelude) w.next u.form w.form in
      let behind = fail-ranged integers line sign (λ width r. operation_held width k u.form w.form r) inner t about in
      let first = λ (q : MayFail (u.prelude ++ w.prelude) t about).
      behind (fail-operated integers line k sign (u.prelude ++ w.prelude) w.next u.form w.form t about q) in
      ⊎_elim (λ q. first (fail-before u.prelude w.prelude t about (fail-number integers line b t about
      (broken integers line e n h test s p.0 ae x t g i about q))))
      (λ q. ⊎_elim
      (λ r.
      let y = one.keeps x t r.0 r.1 g r.2 in
      first (fail-behind u.prelude w.prelude t y.0 about y.1
      (fail-number integers line d y.0 about (broken integers line f n u.next test later p.1 af r.1 y.0 y.2
      (left-in integers e n x r.0 r.1 p.0 i r.2) about r.3))))
      (λ r.
      let y = two.keeps x t r.2 r.3 r.1 g (r.0, r.4, r.5) in
      ⊎_elim
      (λ z. behind (fail-zero integers line k sign (u.prelude ++ w.prelude) w.next u.form w.form t y.0 r.3 about y.1 y.4 z))
      (λ z. fail-overflow integers line n S h k sign
      (λ x c d y. (v : State) × May integers e x c v × May integers f v d y) (u.prelude ++ w.prelude) w.next
      u.form w.form two x r.1 t y.0 r.2 r.3 g (r.0, r.4, r.5) y.1 y.3 y.4 (may-in integers e n x r.2 r.0 p.0 i r.4) about z) r.6) q) m
  broken integers line (compared rel sign e f) n h test s o a x t g i about m =
      let p = both_of (is_over n e) (is_over n f) o in
      let ae = apart-first test e (all_steps test f) (are_steps_certain f) (counts f) a.0 a.1 a.2 in
      let b = elaborated integers line e h in
      let one = as-number integers line n h test e (kept integers line e n h test s p.0 ae) in
      let u = numbered integers line b in
      let d = elaborated integers line f u.next in
      let later : n ≤ u.next = omega (arith, s, one.fits.grows) in
      let w = numbered integers line d in
      ⊎_elim (λ q. fail-before u.prelude w.prelude t about (fail-number integers line b t about
      (broken integers line e n h test s p.0 ae x t g i about q)))
      (λ r.
      let y = one.keeps x t r.0 r.1 g r.2 in
      fail-behind u.prelude w.prelude t y.0 about y.1
      (fail-number integers line d y.0 about (broken integers line f n u.next test later p.1 (apart-second test e f a.0 a.1 a.2) r.1 y.0 y.2
      (left-in integers e n x r.0 r.1 p.0 i r.2) about r.3))) m
  broken integers line (both c d) n h test s o a x t g i about m =
      let p = both_of (is_over n c) (is_over n d) o in
      let certain = both_of (are_steps_certain c) (has_no_step d) a.1 in
      let ac = apart-first test c (all_steps test d) (has_no_step d) (counts d) a.0 a.1 a.2 in
      let ad = apart-none d certain.1 in
      let u = elaborated integers line c h in
      let one = as-truth integers line n h test c (kept integers line c n h test s p.0 ac) in
      let b = elaborated integers line d u.next in
      let later : n ≤ u.next = omega (arith, s, one.fits.grows) in
      let alone = writes-alone integers line n u.next d (kept integers line d n u.next (λ j. false) later p.1 ad) in
      let con = (tested u).condition in
      ⊎_elim (λ q. fail-before u.prelude (all_under con b.prelude) t about (broken integers line c n h test s p.0 ac x t g i about q))
      (λ r.
      let y = one.keeps x t r.0 r.1 g r.2 in
      fail-behind u.prelude (all_under con b.prelude) t y.0 about y.1
      (fail-under u.next con b.prelude y.0 about one.over alone (y.3 true r.3)
      (broken integers line d n u.next (λ j. false) later p.1 ad r.1 y.0 y.2 (left-in integers c n x r.0 r.1 p.0 i r.2) about r.4))) m
  broken integers line (either c d) n h test s o a x t g i about m =
      let p = both_of (is_over n c) (is_over n d) o in
      let certain = both_of (are_steps_certain c) (has_no_step d) a.1 in
      let ac = apart-first test c (all_steps test d) (has_no_step d) (counts d) a.0 a.1 a.2 in
      let ad = apart-none d certain.1 in
      let u = elaborated integers line c h in
      let one = as-truth integers line n h test c (kept integers line c n h test s p.0 ac) in
      let b = elaborated integers line d u.next in
      let later : n ≤ u.next = omega (arith, s, one.fits.grows) in
      let alone = writes-alone integers line n u.next d (kept integers line d n u.next (λ j. false) later p.1 ad) in
      let con = tree.negation (tested u).condition in
      ⊎_elim (λ q. fail-before u.prelude (all_under con b.prelude) t about (broken integers line c n h test s p.0 ac x t g i about q))
      (λ r.
      let y = one.keeps x t (pos 0) r.0 g r.1 in
      fail-behind u.prelude (all_under con b.prelude) t y.0 about y.1
      (fail-under u.next con b.prelude y.0 about one.over alone (y.3 false refl)
      (broken integers line d n u.next (λ j. false) later p.1 ad r.0 y.0 y.2 (left-in integers c n x (pos 0) r.0 p.0 i r.1) about r.2))) m
  broken integers line (chosen sign c e f) n h test s o a x t g i about m =
      let p = both_of (is_over n c) (is_over n e && is_over n f) o in
      let q = both_of (is_over n e) (is_over n f) p.1 in
      let certain = both_of (are_steps_certain c) (has_no_step e && has_no_step f) a.1 in
      let sides = both_of (has_no_step e) (has_no_step f) certain.1 in
      let ac = apart-first test c (all_steps test e && all_steps test f) (has_no_step e && has_no_step f)
      (λ j. occurrences j e + occurrences j f) a.0 a.1 a.2 in
      let ae = apart-none e sides.0 in
      let af = apart-none f sides.1 in
      let v = elaborated integers line c h in
      let one = as-truth integers line n h test c (kept integers line c n h test s p.0 ac) in
      let b = elaborated integers line e v.next in
      let later : n ≤ v.next = omega (arith, s, one.fits.grows) in
      let ke = kept integers line e n v.next (λ j. false) later q.0 ae in
      let two = as-number integers line n v.next (λ j. false) e ke in
      let alone = number-alone integers line n v.next e ke in
      let u = numbered integers line b in
      let d = elaborated integers line f u.next in
      let last : n ≤ u.next = omega (arith, later, two.fits.grows) in
      let alone_no = number-alone integers line n u.next f (kept integers line f n u.next (λ j. false) last q.1 af) in
      let w = numbered integers line d in
      let con = (tested v).condition in
      ⊎_elim (λ r. fail-before v.prelude _ t about (broken integers line c n h test s p.0 ac x t g i about r))
      (λ r. ⊎_elim
      (λ k.
      let y = one.keeps x t k.0 k.1 g k.2 in
      fail-behind v.prelude _ t y.0 about y.1 (fail-before (all_under con u.prelude) _ y.0 about
      (fail-under v.next con u.prelude y.0 about one.over alone (y.3 true k.3)
      (fail-number integers line b y.0 about (broken integers line e n v.next (λ j. false) later q.0 ae k.1 y.0 y.2
      (left-in integers c n x k.0 k.1 p.0 i k.2) about k.4)))))
      (λ k.
      let y = one.keeps x t (pos 0) k.0 g k.1 in
      let z = two.fits.goes y.0 in
      let over_c = condition_over_more v.next u.next con two.fits.grows one.over in
      fail-behind v.prelude _ t y.0 about y.1 (fail-behind (all_under con u.prelude) _ y.0 z.0 about (leave-under con u.prelude y.0 z.0 z.1)
      (fail-before (all_under (tree.negation con) w.prelude) _ z.0 about
      (fail-under u.next (tree.negation con) w.prelude z.0 about over_c alone_no
      (may_be-agrees v.next false con y.0 z.0 one.over (leave-agrees v.next u.prelude y.0 z.0 alone z.1) (y.3 false refl))
      (fail-number integers line d z.0 about (broken integers line f n u.next (λ j. false) last q.1 af k.0 z.0
      (hidden-agrees n v.next u.prelude k.0 y.0 z.0 later alone y.2 z.1)
      (left-in integers c n x (pos 0) k.0 p.0 i k.1) about k.2)))))) r) m

  -- the same of the operations in some expressions
  pub some_broken : (integers : Integers) (line : ℕ) (es : Expressions) (n h : ℕ) (test : ℕ → Bool) → n ≤ h → IsTrue (are_over n es)
      → ApartIn test es → (x t : State) → Agree n x t → AreIn integers n x → (about : Check)
      → SomeBreaks integers es x about → MayFail (evaluated integers line es h).prelude t about
  some_broken integers line none n h test s o a x t g i about m = absurd m
  some_broken integers line (more e es) n h test s o a x t g i about m =
      let p = both_of (is_over n e) (are_over n es) o in
      let ae = apart-head test e es a in
      let v = elaborated integers line e h in
      let k = kept integers line e n h test s p.0 ae in
      let later : n ≤ v.next = omega (arith, s, k.fits.grows) in
      let b = evaluated integers line es v.next in
      ⊎_elim (λ q. fail-before v.prelude b.prelude t about (broken integers line e n h test s p.0 ae x t g i about q))
      (λ r.
      let y = k.keeps x t r.0 r.1 g r.2 in
      fail-behind v.prelude b.prelude t y.0 about y.1
      (some_broken integers line es n v.next test later p.1 (apart-later test e es a) r.1 y.0 y.2
      (left-in integers e n x r.0 r.1 p.0 i r.2) about r.3)) m

  -- and of those in some indexes, and of the indexes
  pub index_broken : (integers : Integers) (line : ℕ) (is : Subscripts) (n h : ℕ) (test : ℕ → Bool) → n ≤ h
      → IsTrue (are_indexes_over n is) → ApartAt test is → (x t : State) → Agree n x t → AreIn integers n x → (about : Check)
      → IndexBreaks integers is x about → MayFail (indexed integers line is h).prelude t about
  index_broken integers line no_subscript n h test s o a x t g i about m = absurd m
  index_broken integers line (subscript extent bracket e is) n h test s o a x t g i about m =
      let p = both_of (is_over n e) (are_indexes_over n is) o in
      let ae = apart-index test extent bracket e is a in
      let b = elaborated integers line e h in
      let v = numbered integers line b in
      let k = as-number integers line n h test e (kept integers line e n h test s p.0 ae) in
      let it : Check = record { kind = Index; at = bracket } in
      let con = is_index extent v.form in
      let first = v.prelude ++ checks it con line ∷ [] in
      let later : n ≤ v.next = omega (arith, s, k.fits.grows) in
      let w = indexed integers line is v.next in
      ⊎_elim (λ q. fail-before first w.prelude t about (fail-before v.prelude _ t about
      (fail-number integers line b t about (broken integers line e n h test s p.0 ae x t g i about q))))
      (λ q. ⊎_elim
      (λ r.
      let y = k.keeps x t r.0 r.1 g r.2 in
      fail-before first w.prelude t about (subst (λ (c : Check). MayFail first t c) (sym r.4)
      (fail-last v.prelude it con line t y.0 y.1 (no_index extent v.form y.0 r.0 y.3 r.3))))
      (λ r.
      let y = k.keeps x t r.0 r.1 g r.2 in
      let l = leave-check v.prelude it con line t y.0 y.1 in
      fail-behind first w.prelude t y.0 about l
      (index_broken integers line is n v.next test later p.1 (apart-next test extent bracket e is a) r.1 y.0 y.2
      (left-in integers e n x r.0 r.1 p.0 i r.2) about r.4)) q) m
