-- What is kept of a step.
use Rattle.std.proofs.Common.{◌≡◌, inl, ◌<◌, ◌≤◌, ℕ, Bool, [], ◌∷◌, get_or, refl, sym, ap, subst, ◌∙◌, arith}
use Rattle.std.specs.Prelude.{ℤ, pos, ◌+ℤ◌, ◌-ℤ◌, IsTrue}
use Rattle.std.proofs.lemmas.Int.{ints}
use Rattle.lang_tree.specs.declared.form.Form.{Form}
use Rattle.lang_tree.specs.Tree.{sets}
use Rattle.lang_tree.specs.Meaning.{State, put, value}
use Rattle.lang_tree.proofs.Put.{get_or-put_same}
use Rattle.base_integers.specs.declared.integers.Integers.{Integers}
use Rattle.base_integers.specs.declared.integers.Integers.TheVariants.{Mathematical, Machine}
use Rattle.base_integers.specs.Integers.{Has}
use Rattle.source_tree.specs.Expressions.{Direction, up, down, Moment, before, behind, stepped}
use Rattle.source_tree.specs.Values.{Gives, IsHeld, May, step_by, value_at}
use Rattle.source_core.specs.Forms.{constant_form, variable_form}
use Rattle.source_core.specs.Forms as form
use Rattle.source_core.specs.Laws.{Agree, MayResult}
use Rattle.source_core.specs.Elaborated.{a_form, operation_on, step_form, form_in, step_behind}
use Rattle.source_core.proofs.forms.Forms.{value-plus, value-minus, value-constant, value-variable}
use Rattle.source_core.proofs.forms.Over.{FormOver, over_variable, over_constant, over_plus, over_minus}
use Rattle.source_core.proofs.preludes.Preludes.{leave-then, put-agree}
use Rattle.source_core.proofs.preludes.Parts.{fits-none, fits-then, Keeps}
use Rattle.source_core.proofs.expressions.Operated.{Both, keeps-operation_on}
use Rattle.source_core.proofs.expressions.Apart.{Stepped, occurs-itself, occurs_in}

-- the form that a step gives a variable
abbrev pub moved : Direction → ℕ → Form
moved up i = form.plus (variable_form i) (constant_form (pos 1))
moved down i = form.minus (variable_form i) (constant_form (pos 1))

-- the result of a step's operation is this form
pub step-result : (integers : Integers) (line : ℕ) (direction : Direction) (sign h i : ℕ)
    → (operation_on integers line (step_by direction) sign [] h (variable_form i) (constant_form (pos 1))).result
    ≡ a_form (moved direction i)
step-result Mathematical line up sign h i = refl
step-result Mathematical line down sign h i = refl
step-result (Machine width) line up sign h i = refl
step-result (Machine width) line down sign h i = refl

-- so a value that it may have is that of the form
pub step-value : (integers : Integers) (line : ℕ) (direction : Direction) (sign h i : ℕ) (t : State) (w : ℤ)
    → MayResult integers (operation_on integers line (step_by direction) sign [] h (variable_form i) (constant_form (pos 1))).result t w
    → w ≡ value (form_in (operation_on integers line (step_by direction) sign [] h (variable_form i) (constant_form (pos 1))).result) t
step-value integers line direction sign h i t w m =
    let e = step-result integers line direction sign h i in
    subst (λ r. w ≡ value (form_in r) t) (sym e) (subst (λ r. MayResult integers r t w) e m)

step-held : (integers : Integers) (direction : Direction) (a b w : ℤ) → Has integers w → IsHeld integers (step_by direction) a b w
step-held integers up a b w h = h
step-held integers down a b w h = h

-- the operands of a step: the variable and 1
abbrev pub StepOf : ℕ → State → ℤ → ℤ → State → Type 0
StepOf i x u v y = (u ≡ get_or x i (pos 0)) × (v ≡ pos 1) × (y ≡ x)

-- they are kept
pub step-operands : (n : ℕ) (S : ℕ → Type 0) (h i : ℕ) → n ≤ h → i < n
    → Both n S h (StepOf i) [] h (variable_form i) (constant_form (pos 1))
step-operands n S h i s l = record {
  fits = fits-none n S h s;
  first_over = over_variable h i (omega (arith, s, l));
  second_over = over_constant h (pos 1);
  keeps = λ x t u v y a m. (
    t,
    refl,
    subst (λ w. Agree n w t) (sym m.2) a,
    m.0 ∙ a i l ∙ sym (value-variable i t),
    m.1 ∙ sym (value-constant (pos 1) t),
  );
}

-- its form has the variable alone
pub step-over : (h i : ℕ) (direction : Direction) (moment : Moment) → i < h → FormOver h (step_form direction moment i)
step-over h i direction before l = over_variable h i l
step-over h i up behind l = over_minus h (variable_form i) (constant_form (pos 1)) (over_variable h i l) (over_constant h (pos 1))
step-over h i down behind l = over_plus h (variable_form i) (constant_form (pos 1)) (over_variable h i l) (over_constant h (pos 1))

-- behind a step its form has the step's value
pub step-leaves : (direction : Direction) (moment : Moment) (i : ℕ) (old new : ℤ) (t : State) → Gives (step_by direction) old (pos 1) new
    → value_at moment old new ≡ value (step_form direction moment i) (put (pos 0) t i new)
step-leaves direction before i old new t g =
    sym (value-variable i (put (pos 0) t i new) ∙ get_or-put_same (pos 0) t i new (pos 0))
step-leaves up behind i old new t g =
    let y = put (pos 0) t i new in
    let is = value-variable i y ∙ get_or-put_same (pos 0) t i new (pos 0) in
    let one = value-constant (pos 1) y in
    back old new _ _ _ g is one (value-minus (variable_form i) (constant_form (pos 1)) y)
  where
    back : (old new a b c : ℤ) → new ≡ old +ℤ pos 1 → a ≡ new → b ≡ pos 1 → c ≡ a -ℤ b → old ≡ c
    back old new a b c g p q r = omega (arith, ints, g, p, q, r)
step-leaves down behind i old new t g =
    let y = put (pos 0) t i new in
    let is = value-variable i y ∙ get_or-put_same (pos 0) t i new (pos 0) in
    let one = value-constant (pos 1) y in
    forth old new _ _ _ g is one (value-plus (variable_form i) (constant_form (pos 1)) y)
  where
    forth : (old new a b c : ℤ) → new ≡ old -ℤ pos 1 → a ≡ new → b ≡ pos 1 → c ≡ a +ℤ b → old ≡ c
    forth old new a b c g p q r = omega (arith, ints, g, p, q, r)

-- the value of a step is that of its form behind its prelude
pub keeps-step : (integers : Integers) (line n h : ℕ) (test : ℕ → Bool) (direction : Direction) (moment : Moment) (i sign at : ℕ) → n ≤ h
    → i < n → IsTrue (test i)
    → Keeps integers n (Stepped n test (λ j. occurs_in j i)) h (May integers (stepped direction moment i sign at))
    (step_behind integers line direction moment i sign h)
keeps-step integers line n h test direction moment i sign at s l passes =
    let S = Stepped n test (λ j. occurs_in j i) in
    let a = operation_on integers line (step_by direction) sign [] h (variable_form i) (constant_form (pos 1)) in
    let f = form_in a.result in
    let k = keeps-operation_on integers line n S h (step_by direction) sign (StepOf i) [] h (variable_form i) (constant_form (pos 1))
    (step-operands n S h i s l) in
    let itself = occurs-itself i in
    record {
      fits = fits-then n S h a.next a.next a.prelude (sets i f line ∷ []) k.fits record {
        above = omega (arith, s, k.fits.grows);
        grows = omega arith;
        writes = (inl (l, passes, omega (arith, itself)), tt);
        goes = λ x. (put (pos 0) x i (value f x), (put (pos 0) x i (value f x), refl, refl));
      };
      over = step-over a.next i direction moment (omega (arith, s, l, k.fits.grows));
      keeps = λ x t z y agree m.
          let old = get_or x i (pos 0) in
          let r = k.keeps x t m.0 x agree (old, pos 1, (refl, refl, refl), m.1, step-held integers direction old (pos 1) m.0 m.2) in
          let v = step-value integers line direction sign h i r.0 m.0 r.3 in
          let w = put (pos 0) r.0 i (value f r.0) in (
            w,
            leave-then a.prelude (sets i f line ∷ []) t r.0 w r.1 (w, refl, refl),
            subst (λ u. Agree n u w) (sym m.4)
                (subst (λ u. Agree n (put (pos 0) x i m.0) (put (pos 0) r.0 i u)) v (put-agree n i x r.0 m.0 r.2)),
            m.3 ∙ step-leaves direction moment i old m.0 r.0 m.1
                ∙ ap (λ u. value (step_form direction moment i) (put (pos 0) r.0 i u)) v,
          );
    }
