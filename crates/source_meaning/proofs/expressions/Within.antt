-- Which variables the deeds and the result of an expression have: those of the function, and the hidden ones that it takes.
use Rattle.std.proofs.Common.{◌≤◌, ◌<◌, ℕ, suc, ℤ, pos, negsuc, Bool, true, false, List, [], ◌∷◌, ◌++◌, arith, cond, IsTrue}
use Rattle.std.specs.Prelude.{◌&&◌, ◌||◌, ◌-ℤ◌, int_div, int_rem, nat_abs}
use Rattle.std.specs.Ordering.{int_eq}
use Rattle.std.proofs.lemmas.Bool.{and_parts, ltb-true}
use Rattle.lang_tree.specs.declared.form.Form.{Form}
use Rattle.lang_tree.specs.declared.cond.Rel.TheVariants.{Ne}
use Rattle.lang_tree.specs.declared.check.CheckKind.TheVariants.{Divisor, Index, Range}
use Rattle.lang_tree.specs.Tree.{Condition, Deed, sets, havocs, wheres, checks}
use Rattle.lang_tree.specs.Tree as core
use Rattle.source_tree.specs.Expressions.{Operation, plus, minus, times, over, remainder}
use Rattle.source_tree.specs.Expressions.{Expression, Expressions, number, variable, unknown, call, element, grouped, negative, positive}
use Rattle.source_tree.specs.Expressions.{stepped, Direction, Moment, inverse, joined, compared, both, either, chosen, none, more}
use Rattle.source_tree.specs.Expressions.{Extent, endless, elements, Subscripts, no_subscript, subscript}
use Rattle.source_core.specs.Forms.{constant_form, variable_form, opposite, scaled, is_constant}
use Rattle.source_core.specs.Forms as form
use Rattle.source_core.specs.Preludes.{under, all_under}
use Rattle.source_core.specs.Laws.{is_over, are_over, are_indexes_over}
use Rattle.source_core.specs.Elaborated.{Result, a_form, a_truth, any, Elaborated, Numbered, Tested, related, selects, divides}
use Rattle.source_core.specs.Elaborated.{is_index, is_unit, as_condition, tested, is_divisor, as_number, numbered, havocked, checked}
use Rattle.source_core.specs.Elaborated.{quotient_behind, unless_zero, operated, choice}
use Rattle.source_core.specs.Elaborated.{is_held, is_divided, operation_held, form_in, form_behind, held, ranged, number_at}
use Rattle.source_tree.specs.Values.{step_by}
use Rattle.source_core.specs.Elaborated.{operation_on, step_behind}
use Rattle.source_core.specs.Elaborated.{has, index_behind, elaborated, evaluated, indexed}
use Rattle.source_core.proofs.forms.Over.{FormOver, over_more, over_plus, over_scaled, over_minus, over_constant, over_variable}
use Rattle.source_core.proofs.forms.Over.{ConditionOver, condition_over_more}
use Rattle.source_core.proofs.preludes.Parts.{ResultOver}
use Rattle.source_core.proofs.expressions.Stepping.{step-over}
use Rattle.base_integers.specs.declared.integers.Integers.{Integers}
use Rattle.base_integers.specs.declared.integers.Integers.TheVariants.{Mathematical, Machine}
use Rattle.base_integers.specs.declared.integers.Width.{Width}
use Rattle.base_integers.specs.Integers.{greatest}

-- ---- deeds
-- a deed has no variables but the first n
abbrev pub DeedOver : ℕ → Deed → Type 0
DeedOver n (sets var f line) = (var < n) × FormOver n f
DeedOver n (havocs var line) = var < n
DeedOver n (wheres c line) = ConditionOver n c
DeedOver n (checks about c line) = ConditionOver n c

-- nor have deeds in order
abbrev pub DeedsOver : ℕ → List Deed → Type 0
DeedsOver n [] = Unit {0}
DeedsOver n (d ∷ ds) = DeedOver n d × DeedsOver n ds

deed_more : (n m : ℕ) (d : Deed) → n ≤ m → DeedOver n d → DeedOver m d
deed_more n m (sets var f line) l h = (omega (arith, h.0, l), over_more n m f l h.1)
deed_more n m (havocs var line) l h = omega (arith, h, l)
deed_more n m (wheres c line) l h = condition_over_more n m c l h
deed_more n m (checks about c line) l h = condition_over_more n m c l h

-- deeds over some variables are over more
pub deeds_more : (n m : ℕ) (ds : List Deed) → n ≤ m → DeedsOver n ds → DeedsOver m ds
deeds_more n m [] l h = tt
deeds_more n m (d ∷ ds) l h = (deed_more n m d l h.0, deeds_more n m ds l h.1)

-- so are deeds one behind the other
pub deeds_then : (n : ℕ) (ds es : List Deed) → DeedsOver n ds → DeedsOver n es → DeedsOver n (ds ++ es)
deeds_then n [] es h k = k
deeds_then n (d ∷ ds) es h k = (h.0, deeds_then n ds es h.1 k)

one_under : (n : ℕ) (c : Condition) (d : Deed) → ConditionOver n c → DeedOver n d → DeedOver n (under c d)
one_under n c (sets var f line) o h = h
one_under n c (havocs var line) o h = h
one_under n c (wheres e line) o h = h
one_under n c (checks about e line) o h = (o, h)

deeds_under : (n : ℕ) (c : Condition) (ds : List Deed) → ConditionOver n c → DeedsOver n ds → DeedsOver n (all_under c ds)
deeds_under n c [] o h = tt
deeds_under n c (d ∷ ds) o h = (one_under n c d o h.0, deeds_under n c ds o h.1)

-- deeds that take the hidden variables from one number up to another
pub record Within (h : ℕ) (ds : List Deed) (next : ℕ) : Type 0 where
  -- they are taken upwards
  pub grows : h ≤ next
  -- the deeds have no variables behind these
  pub deeds : DeedsOver next ds

within_none : (h : ℕ) → Within h [] h
within_none h = record { grows = omega arith; deeds = tt }

within_then : (h m k : ℕ) (ds es : List Deed) → Within h ds m → Within m es k → Within h (ds ++ es) k
within_then h m k ds es a b = record {
  grows = omega (arith, a.grows, b.grows);
  deeds = deeds_then k ds es (deeds_more m k ds b.grows a.deeds) b.deeds;
}

within_under : (h k : ℕ) (c : Condition) (ds : List Deed) → ConditionOver h c → Within h ds k → Within h (all_under c ds) k
within_under h k c ds o w = record { grows = w.grows; deeds = deeds_under k c ds (condition_over_more h k c w.grows o) w.deeds }

-- ---- results
-- a result behind such deeds
pub record IsWithin (h : ℕ) (e : Elaborated) : Type 0 where
  -- the prelude takes the hidden variables up to the next one
  pub within : Within h e.prelude e.next
  -- the result has no variables behind these
  pub over : ResultOver e.next e.result

-- a number behind such deeds
pub record NumberWithin (h : ℕ) (a : Numbered) : Type 0 where
  -- the prelude takes the hidden variables up to the next one
  pub within : Within h a.prelude a.next
  -- the form has no variables behind these
  pub over : FormOver a.next a.form

-- a condition of a result has its variables
pub condition_over : (n : ℕ) (r : Result) → ResultOver n r → ConditionOver n (as_condition r)
condition_over n (a_form f) o = o
condition_over n (a_truth c) o = o
condition_over n any o = tt

selects_within : (line h : ℕ) (c : Condition) (f g : Form) → ConditionOver h c → FormOver h f → FormOver h g
    → Within h (havocs h line ∷ wheres (selects c h f g) line ∷ []) (suc h)
selects_within line h c f g o p q =
    let l : h ≤ suc h = omega arith in
    let v = over_variable (suc h) h (omega arith) in
    let c' = condition_over_more h (suc h) c l o in
    record {
      grows = omega arith;
      deeds = (
        omega arith,
        (
          (
            (c', over_minus (suc h) (variable_form h) f v (over_more h (suc h) f l p)),
            (c', over_minus (suc h) (variable_form h) g v (over_more h (suc h) g l q)),
          ),
          tt,
        ),
      );
    }

-- what holds of both choices holds of the one that a test takes
cond_has : {A : Type 0} (P : A → Type 0) (b : Bool) (x y : A) → P x → P y → P (cond b x y)
cond_has P true x y p q = p
cond_has P false x y p q = q

-- ---- integers of a width
is_held_over : (n : ℕ) (width : Width) (f : Form) → FormOver n f → ConditionOver n (is_held width f)
is_held_over n width f o =
    let least = constant_form (negsuc (greatest width)) in
    let most = constant_form (pos (greatest width)) in
    (over_minus n least f (over_constant n (negsuc (greatest width))) o, over_minus n f most o (over_constant n (pos (greatest width))))

is_divided_over : (n : ℕ) (width : Width) (f g : Form) → FormOver n f → FormOver n g → ConditionOver n (is_divided width f g)
is_divided_over n width f g o p =
    let least = constant_form (negsuc (greatest width)) in
    let unit = constant_form (negsuc 0) in
    (over_minus n f least o (over_constant n (negsuc (greatest width))), over_minus n g unit p (over_constant n (negsuc 0)))

operation_held_over : (n : ℕ) (width : Width) (o : Operation) (f g r : Form) → FormOver n f → FormOver n g → FormOver n r
    → ConditionOver n (operation_held width o f g r)
operation_held_over n width plus f g r p q k = is_held_over n width r k
operation_held_over n width minus f g r p q k = is_held_over n width r k
operation_held_over n width times f g r p q k =
    cond_has (ConditionOver n) (is_constant f || is_constant g) _ _ (is_held_over n width r k) (over_constant n (pos 0))
operation_held_over n width over f g r p q k =
    cond_has (ConditionOver n) (is_divisor g) _ _ (is_held_over n width r k) (is_divided_over n width f g p q)
operation_held_over n width remainder f g r p q k =
    cond_has (ConditionOver n) (is_divisor g) _ _
    (cond_has (ConditionOver n) (int_eq g.constant (negsuc 0)) _ _
    (is_held_over n width (opposite f) (over_scaled n (negsuc 0) f p)) (is_held_over n width r k))
    (is_divided_over n width f g p q)

form_in_over : (n : ℕ) (r : Result) → ResultOver n r → FormOver n (form_in r)
form_in_over n (a_form f) o = o
form_in_over n (a_truth c) o = over_constant n (pos 0)
form_in_over n any o = over_constant n (pos 0)

-- the deeds behind a variable that takes any of the integers have no other variable
pub held_over : (integers : Integers) (n line i : ℕ) → i < n → DeedsOver n (held integers line i)
held_over Mathematical n line i l = tt
held_over (Machine width) n line i l = (is_held_over n width (variable_form i) (over_variable n i l), tt)

check_within : (h : ℕ) (d : Deed) → DeedOver h d → Within h (d ∷ []) h
check_within h d o = record { grows = omega arith; deeds = (o, tt) }

-- an operation with a check behind it that its result is one of the integers
ranged_within : (integers : Integers) (line h place : ℕ) (holds : Width → Form → Condition) (e : Elaborated) → IsWithin h e
    → ((width : Width) → ConditionOver e.next (holds width (form_in e.result))) → IsWithin h (ranged integers line place holds e)
ranged_within Mathematical line h place holds e w o = w
ranged_within (Machine width) line h place holds e w o =
    let d = checked line Range place (holds width (form_in e.result)) in
    record { within = within_then h e.next e.next e.prelude (d ∷ []) w.within (check_within e.next d (o width)); over = w.over }

number_at_within : (integers : Integers) (line : ℕ) (v : ℤ) (at h : ℕ) → IsWithin h (number_at integers line v at h)
number_at_within Mathematical line v at h = record { within = within_none h; over = over_constant h v }
number_at_within (Machine width) line v at h =
    let d = checked line Range at (is_held width (constant_form v)) in
    cond_has (IsWithin h) (has width v) _ _ (record { within = within_none h; over = over_constant h v })
    (record {
      within = check_within h d (is_held_over h width (constant_form v) (over_constant h v));
      over = over_constant h v;
    })

-- ---- numbers
havoc_within : (integers : Integers) (line h : ℕ) → Within h (havocs h line ∷ held integers line h) (suc h)
havoc_within integers line h = record {
  grows = omega arith;
  deeds = (omega arith, held_over integers (suc h) line h (omega arith));
}

number_within : (integers : Integers) (line h : ℕ) (ds : List Deed) (next : ℕ) (r : Result) → Within h ds next → ResultOver next r
    → NumberWithin h (as_number integers line ds next r)
number_within integers line h ds next (a_form f) w o = record { within = w; over = o }
number_within integers line h ds next (a_truth c) w o =
    let one = constant_form (pos 1) in
    let zero = constant_form (pos 0) in
    record {
      within = within_then h next (suc next) ds (havocs next line ∷ wheres (selects c next one zero) line ∷ []) w
          (selects_within line next c one zero o (over_constant next (pos 1)) (over_constant next (pos 0)));
      over = over_variable (suc next) next (omega arith);
    }
number_within integers line h ds next any w o = record {
  within = within_then h next (suc next) ds (havocs next line ∷ held integers line next) w (havoc_within integers line next);
  over = over_variable (suc next) next (omega arith);
}

-- a result is one as a number
pub numbered_within : (integers : Integers) (line h : ℕ) (e : Elaborated) → IsWithin h e → NumberWithin h (numbered integers line e)
numbered_within integers line h e w = number_within integers line h e.prelude e.next e.result w.within w.over

-- ---- operations
havocked_within : (integers : Integers) (line h : ℕ) (ds : List Deed) (next : ℕ) → Within h ds next
    → IsWithin h (havocked integers line ds next)
havocked_within integers line h ds next w = record {
  within = within_then h next (suc next) ds (havocs next line ∷ held integers line next) w (havoc_within integers line next);
  over = over_variable (suc next) next (omega arith);
}

divides_over : (h : ℕ) (f : Form) (c : ℤ) → FormOver h f → ConditionOver (suc h) (divides f c h)
divides_over h f c o =
    let l : h ≤ suc h = omega arith in
    let m = suc h in
    let v = over_variable m h (omega arith) in
    let p = over_more h m f l o in
    let rest = form.minus f (scaled c (variable_form h)) in
    let r = over_minus m f (scaled c (variable_form h)) p (over_scaled m c (variable_form h) v) in
    let against : (g : Form) → FormOver m g → (z : ℤ) → FormOver m (form.minus g (constant_form z)) =
    λ g k z. over_minus m g (constant_form z) k (over_constant m z) in (
      ((against f p (pos 0), against rest r (pos 0)), against rest r (pos (nat_abs c) -ℤ pos 1)),
      ((against f p (negsuc 0), against rest r (pos 0)), against rest r (pos 1 -ℤ pos (nat_abs c))),
    )

quotient_within : (line h : ℕ) (ds : List Deed) (next : ℕ) (f : Form) (c : ℤ) → Within h ds next → FormOver next f
    → Within h (quotient_behind line ds next f c) (suc next)
quotient_within line h ds next f c w o =
    within_then h next (suc next) ds (havocs next line ∷ wheres (divides f c next) line ∷ []) w
    (record { grows = omega arith; deeds = (omega arith, (divides_over next f c o, tt)) })

unless_within : (integers : Integers) (line h : ℕ) (ds : List Deed) (next sign : ℕ) (g : Form) → Within h ds next → FormOver next g
    → IsWithin h (unless_zero integers line ds next sign g)
unless_within integers line h ds next sign g w q =
    let d = checked line Divisor sign (related Ne g (constant_form (pos 0))) in
    havocked_within integers line h (ds ++ d ∷ []) next
    (within_then h next next ds (d ∷ []) w (check_within next d (over_minus next g (constant_form (pos 0)) q (over_constant next (pos 0)))))

operated_within : (integers : Integers) (line h : ℕ) (o : Operation) (sign : ℕ) (ds : List Deed) (next : ℕ) (f g : Form)
    → Within h ds next → FormOver next f
    → FormOver next g → IsWithin h (operated integers line o sign ds next f g)
operated_within integers line h plus sign ds next f g w p q = record { within = w; over = over_plus next f g p q }
operated_within integers line h minus sign ds next f g w p q = record { within = w; over = over_minus next f g p q }
operated_within integers line h times sign ds next f g w p q =
    cond_has (IsWithin h) (is_constant f) _ _ (record { within = w; over = over_scaled next f.constant g q })
    (cond_has (IsWithin h) (is_constant g) _ _ (record { within = w; over = over_scaled next g.constant f p })
    (havocked_within integers line h ds next w))
operated_within integers line h over sign ds next f g w p q =
    cond_has (IsWithin h) (is_divisor g) _ _
    (cond_has (IsWithin h) (is_unit g.constant) _ _ (record { within = w; over = over_scaled next g.constant f p })
    (cond_has (IsWithin h) (is_constant f) _ _ (record { within = w; over = over_constant next (int_div f.constant g.constant) })
    (record { within = quotient_within line h ds next f g.constant w p; over = over_variable (suc next) next (omega arith) })))
    (unless_within integers line h ds next sign g w q)
operated_within integers line h remainder sign ds next f g w p q =
    cond_has (IsWithin h) (is_divisor g) _ _
    (cond_has (IsWithin h) (is_unit g.constant) _ _ (record { within = w; over = over_constant next (pos 0) })
    (cond_has (IsWithin h) (is_constant f) _ _ (record { within = w; over = over_constant next (int_rem f.constant g.constant) })
    (record {
      within = quotient_within line h ds next f g.constant w p;
      over = over_minus (suc next) f (scaled g.constant (variable_form next)) (over_more next (suc next) f (omega arith) p)
          (over_scaled (suc next) g.constant (variable_form next) (over_variable (suc next) next (omega arith)));
    })))
    (unless_within integers line h ds next sign g w q)

-- an operation takes hidden variables upwards from the next one
operated_grows : (integers : Integers) (line : ℕ) (o : Operation) (sign : ℕ) (ds : List Deed) (next : ℕ) (f g : Form)
    → next ≤ (operated integers line o sign ds next f g).next
operated_grows integers line o sign ds next f g = by o where
  Grows : Elaborated → Type 0
  Grows e = next ≤ e.next

  by : (o : Operation) → next ≤ (operated integers line o sign ds next f g).next
  by plus = omega arith
  by minus = omega arith
  by times = cond_has Grows (is_constant f) _ _ (omega arith) (cond_has Grows (is_constant g) _ _ (omega arith) (omega arith))
  by over = cond_has Grows (is_divisor g) _ _ (cond_has Grows (is_unit g.constant) _ _ (omega arith)
      (cond_has Grows (is_constant f) _ _ (omega arith) (omega arith))) (omega arith)
  by remainder = cond_has Grows (is_divisor g) _ _ (cond_has Grows (is_unit g.constant) _ _ (omega arith)
      (cond_has Grows (is_constant f) _ _ (omega arith) (omega arith))) (omega arith)

operation_within : (integers : Integers) (line h : ℕ) (o : Operation) (sign : ℕ) (ds : List Deed) (next : ℕ) (f g : Form) → Within h ds next
    → FormOver next f → FormOver next g → IsWithin h (operation_on integers line o sign ds next f g)
operation_within integers line h o sign ds next f g w p q =
    let e = operated integers line o sign ds next f g in
    let k = operated_within integers line h o sign ds next f g w p q in
    let l = operated_grows integers line o sign ds next f g in
    ranged_within integers line h sign (λ width r. operation_held width o f g r) e k
    (λ width. operation_held_over e.next width o f g (form_in e.result) (over_more next e.next f l p) (over_more next e.next g l q)
    (form_in_over e.next e.result k.over))

choice_within : (line h : ℕ) (c : Tested) (f g : Numbered) → Within h c.prelude c.next → ConditionOver c.next c.condition
    → NumberWithin c.next f → NumberWithin f.next g → IsWithin h (choice line c f g)
choice_within line h c f g w o p q =
    let to_f = condition_over_more c.next f.next c.condition p.within.grows o in
    let to_g = condition_over_more f.next g.next c.condition q.within.grows to_f in
    let l = selects_within line g.next c.condition f.form g.form to_g (over_more f.next g.next f.form q.within.grows p.over) q.over in
    record {
      within = within_then h c.next (suc g.next) c.prelude _ w
          (within_then c.next f.next (suc g.next) (all_under c.condition f.prelude) _
          (within_under c.next f.next c.condition f.prelude o p.within)
          (within_then f.next g.next (suc g.next) (all_under (core.negation c.condition) g.prelude) _
          (within_under f.next g.next (core.negation c.condition) g.prelude to_f q.within) l));
      over = over_variable (suc g.next) g.next (omega arith);
    }

-- ---- indexes
is_index_over : (h : ℕ) (extent : Extent) (f : Form) → FormOver h f → ConditionOver h (is_index extent f)
is_index_over h endless f o = over_minus h (constant_form (pos 0)) f (over_constant h (pos 0)) o
is_index_over h (elements size) f o =
    let last = constant_form (pos size -ℤ pos 1) in
    (over_minus h (constant_form (pos 0)) f (over_constant h (pos 0)) o, over_minus h f last o (over_constant h (pos size -ℤ pos 1)))

index_within : (line h : ℕ) (extent : Extent) (bracket : ℕ) (i : Numbered) → NumberWithin h i
    → Within h (index_behind line extent bracket i).prelude i.next
index_within line h extent bracket i k =
    let d = checked line Index bracket (is_index extent i.form) in
    within_then h i.next i.next i.prelude (d ∷ []) k.within (check_within i.next d (is_index_over i.next extent i.form k.over))

-- ---- steps
step_within : (integers : Integers) (line n h : ℕ) (direction : Direction) (moment : Moment) (i sign : ℕ) → n ≤ h → i < n
    → IsWithin h (step_behind integers line direction moment i sign h)
step_within integers line n h direction moment i sign s l =
    let one = constant_form (pos 1) in
    let a = operation_on integers line (step_by direction) sign [] h (variable_form i) one in
    let k = operation_within integers line h (step_by direction) sign [] h (variable_form i) one (within_none h)
    (over_variable h i (omega (arith, l, s))) (over_constant h (pos 1)) in
    let low : i < a.next = omega (arith, l, s, k.within.grows) in
    record {
      within = within_then h a.next a.next a.prelude (sets i (form_in a.result) line ∷ []) k.within record {
        grows = omega arith;
        deeds = ((low, form_in_over a.next a.result k.over), tt);
      };
      over = step-over a.next i direction moment low;
    }

-- ---- expressions
mutual
  -- what an expression over the first n variables is in the core has these and the hidden ones that it takes
  pub elaborated_within : (integers : Integers) (line : ℕ) (e : Expression) (n h : ℕ) → n ≤ h → IsTrue (is_over n e)
      → IsWithin h (elaborated integers line e h)
  elaborated_within integers line (number v at) n h s o = number_at_within integers line v at h
  elaborated_within integers line (variable i at) n h s o = let l = ltb-true i n o in
      record { within = within_none h; over = over_variable h i (omega (arith, l, s)) }
  elaborated_within integers line (unknown at) n h s o = record { within = within_none h; over = tt }
  elaborated_within integers line (call es at) n h s o = record { within = evaluated_within integers line es n h s o; over = tt }
  elaborated_within integers line (element is at) n h s o = record { within = indexed_within integers line is n h s o; over = tt }
  elaborated_within integers line (stepped direction moment i sign at) n h s o =
      step_within integers line n h direction moment i sign s (ltb-true i n o)
  elaborated_within integers line (grouped at e) n h s o = elaborated_within integers line e n h s o
  elaborated_within integers line (negative at e) n h s o =
      let a = numbered integers line (elaborated integers line e h) in
      let k = numbered_within integers line h (elaborated integers line e h) (elaborated_within integers line e n h s o) in
      let o = over_scaled a.next (negsuc 0) a.form k.over in
      ranged_within integers line h at is_held (form_behind a.prelude a.next (opposite a.form)) (record { within = k.within; over = o })
      (λ width. is_held_over a.next width (opposite a.form) o)
  elaborated_within integers line (positive at e) n h s o =
      let k = numbered_within integers line h (elaborated integers line e h) (elaborated_within integers line e n h s o) in
      record { within = k.within; over = k.over }
  elaborated_within integers line (inverse at e) n h s o =
      let k = elaborated_within integers line e n h s o in
      record { within = k.within; over = condition_over (elaborated integers line e h).next (elaborated integers line e h).result k.over }
  elaborated_within integers line (joined op sign e f) n h s o =
      let p = and_parts (is_over n e) (is_over n f) o in
      let a = numbered integers line (elaborated integers line e h) in
      let k = numbered_within integers line h (elaborated integers line e h) (elaborated_within integers line e n h s p.0) in
      let b = numbered integers line (elaborated integers line f a.next) in
      let m = numbered_within integers line a.next (elaborated integers line f a.next)
      (elaborated_within integers line f n a.next (omega (arith, s, k.within.grows)) p.1) in
      operation_within integers line h op sign (a.prelude ++ b.prelude) b.next a.form b.form
      (within_then h a.next b.next a.prelude b.prelude k.within m.within) (over_more a.next b.next a.form m.within.grows k.over) m.over
  elaborated_within integers line (compared rel sign e f) n h s o =
      let p = and_parts (is_over n e) (is_over n f) o in
      let a = numbered integers line (elaborated integers line e h) in
      let k = numbered_within integers line h (elaborated integers line e h) (elaborated_within integers line e n h s p.0) in
      let b = numbered integers line (elaborated integers line f a.next) in
      let m = numbered_within integers line a.next (elaborated integers line f a.next)
      (elaborated_within integers line f n a.next (omega (arith, s, k.within.grows)) p.1) in
      record {
        within = within_then h a.next b.next a.prelude b.prelude k.within m.within;
        over = over_minus b.next a.form b.form (over_more a.next b.next a.form m.within.grows k.over) m.over;
      }
  elaborated_within integers line (both c d) n h s o =
      let p = and_parts (is_over n c) (is_over n d) o in
      let a = tested (elaborated integers line c h) in
      let k = elaborated_within integers line c n h s p.0 in
      let b = tested (elaborated integers line d a.next) in
      let m = elaborated_within integers line d n a.next (omega (arith, s, k.within.grows)) p.1 in
      let u = condition_over a.next (elaborated integers line c h).result k.over in
      let v = condition_over b.next (elaborated integers line d a.next).result m.over in
      record {
        within = within_then h a.next b.next a.prelude (all_under a.condition b.prelude) k.within
            (within_under a.next b.next a.condition b.prelude u m.within);
        over = (condition_over_more a.next b.next a.condition m.within.grows u, v);
      }
  elaborated_within integers line (either c d) n h s o =
      let p = and_parts (is_over n c) (is_over n d) o in
      let a = tested (elaborated integers line c h) in
      let k = elaborated_within integers line c n h s p.0 in
      let b = tested (elaborated integers line d a.next) in
      let m = elaborated_within integers line d n a.next (omega (arith, s, k.within.grows)) p.1 in
      let u = condition_over a.next (elaborated integers line c h).result k.over in
      let v = condition_over b.next (elaborated integers line d a.next).result m.over in
      record {
        within = within_then h a.next b.next a.prelude (all_under (core.negation a.condition) b.prelude) k.within
            (within_under a.next b.next (core.negation a.condition) b.prelude u m.within);
        over = (condition_over_more a.next b.next a.condition m.within.grows u, v);
      }
  elaborated_within integers line (chosen sign c e f) n h s o =
      let p = and_parts (is_over n c) (is_over n e && is_over n f) o in
      let q = and_parts (is_over n e) (is_over n f) p.1 in
      let a = elaborated integers line c h in
      let k = elaborated_within integers line c n h s p.0 in
      let b = elaborated integers line e a.next in
      let x = numbered integers line b in
      let after : n ≤ a.next = omega (arith, s, k.within.grows) in
      let m = numbered_within integers line a.next b (elaborated_within integers line e n a.next after q.0) in
      let d = elaborated integers line f x.next in
      let l = numbered_within integers line x.next d
      (elaborated_within integers line f n x.next (omega (arith, after, m.within.grows)) q.1) in
      choice_within line h (tested a) x (numbered integers line d) k.within (condition_over a.next a.result k.over) m l

  -- so has the prelude of arguments
  pub evaluated_within : (integers : Integers) (line : ℕ) (es : Expressions) (n h : ℕ) → n ≤ h → IsTrue (are_over n es)
      → Within h (evaluated integers line es h).prelude (evaluated integers line es h).next
  evaluated_within integers line none n h s o = within_none h
  evaluated_within integers line (more e es) n h s o =
      let p = and_parts (is_over n e) (are_over n es) o in
      let a = elaborated integers line e h in
      let k = elaborated_within integers line e n h s p.0 in
      let b = evaluated integers line es a.next in
      within_then h a.next b.next a.prelude b.prelude k.within
      (evaluated_within integers line es n a.next (omega (arith, s, k.within.grows)) p.1)

  -- and that of indexes
  pub indexed_within : (integers : Integers) (line : ℕ) (is : Subscripts) (n h : ℕ) → n ≤ h → IsTrue (are_indexes_over n is)
      → Within h (indexed integers line is h).prelude (indexed integers line is h).next
  indexed_within integers line no_subscript n h s o = within_none h
  indexed_within integers line (subscript extent bracket e is) n h s o =
      let p = and_parts (is_over n e) (are_indexes_over n is) o in
      let a = elaborated integers line e h in
      let i = numbered integers line a in
      let k = numbered_within integers line h a (elaborated_within integers line e n h s p.0) in
      let c = index_behind line extent bracket i in
      let b = indexed integers line is i.next in
      within_then h i.next b.next c.prelude b.prelude (index_within line h extent bracket i k)
      (indexed_within integers line is n i.next (omega (arith, s, k.within.grows)) p.1)
