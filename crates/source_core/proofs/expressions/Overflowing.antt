-- Where the exact result of an operation is none of a machine's integers, the check of it may be false behind the operation.
use Rattle.std.proofs.Common.{◌≡◌, ◌≢◌, inr, ℕ, suc, Bool, true, false, List, [], ◌∷◌, ◌++◌}
use Rattle.std.proofs.Common.{refl, sym, ap, ap₂, subst, ◌∙◌, arith, true≢false}
use Rattle.std.specs.Prelude.{ℤ, pos, negsuc, ◌+ℤ◌, ◌-ℤ◌, ◌*ℤ◌, neg_ℤ, int_div, int_rem, ◌||◌, if◌then◌else◌}
use Rattle.std.specs.Ordering.{int_eq}
use Rattle.std.proofs.lemmas.Int.{ints}
use Rattle.std.proofs.lemmas.Bool.Decides.{Decides-int_eq}
use Rattle.std.proofs.Math.IntN.{*ℤ_comm}
use Rattle.lang_tree.specs.declared.form.Form.{Form}
use Rattle.lang_tree.specs.declared.check.Check.{Check}
use Rattle.lang_tree.specs.declared.check.CheckKind.TheVariants.{Divisor, Range}
use Rattle.lang_tree.specs.declared.cond.Rel.TheVariants.{Eq, Ne}
use Rattle.lang_tree.specs.Tree.{Condition, Deed, havocs, checks}
use Rattle.lang_tree.specs.Meaning.{State, value, MayBe}
use Rattle.base_integers.specs.declared.integers.Width.{Width}
use Rattle.base_integers.specs.declared.integers.Integers.{Integers}
use Rattle.base_integers.specs.declared.integers.Integers.TheVariants.{Mathematical, Machine}
use Rattle.base_integers.specs.Integers.{greatest, Has}
use Rattle.source_tree.specs.Expressions.{Operation, plus, minus, times, over, remainder}
use Rattle.source_tree.specs.Values.{Gives, IsHeld, Overflows}
use Rattle.source_core.specs.Forms.{constant_form, variable_form, opposite, scaled, is_constant}
use Rattle.source_core.specs.Forms as form
use Rattle.source_core.specs.Preludes.{AllLeave, MayFail}
use Rattle.source_core.specs.Elaborated.{Result, a_form, Elaborated, form_behind, form_in, havocked, held, is_divided, is_divisor, is_held}
use Rattle.source_core.specs.Elaborated.{is_unit, never, operation_on, quotient_behind, quotient_by, ranged}
use Rattle.source_core.specs.Elaborated.{related, remainder_by, unless_zero}
use Rattle.source_core.specs.Laws.{Agree, MayResult}
use Rattle.source_core.proofs.forms.Forms.{value-plus, value-minus, value-opposite, value-constant, value-is_constant}
use Rattle.source_core.proofs.forms.Over.{value-agrees}
use Rattle.source_core.proofs.forms.Quotients.{wide, quotient_in, remainder_in, least_alone}
use Rattle.source_core.proofs.preludes.Preludes.{leave-then, leave-agrees}
use Rattle.source_core.proofs.preludes.Held.{fits-any, writes-any, held-false}
use Rattle.source_core.proofs.expressions.Operated.{Both, is_divisor_of, keeps-quotient}
use Rattle.source_core.proofs.expressions.Operated.{leave-check, quotient_by_unit, times_constant}
use Rattle.source_core.proofs.expressions.Exact.{held_by_all}
use Rattle.source_core.proofs.expressions.Failing.{fail-last}

-- ---- when a quotient overflows
opposite_of : (u : ℤ) → negsuc 0 *ℤ u ≡ neg_ℤ u
opposite_of u = omega (arith, ints)

-- it does where the least integer is divided by -1, and nowhere else
least_by_minus_one : (width : Width) (u v : ℤ) → Has (Machine width) u → ¬ (Has (Machine width) (int_div u v))
    → (u ≡ negsuc (greatest width)) × (v ≡ negsuc 0)
least_by_minus_one width u v h n = by (int_eq v (negsuc 0)) refl
  where
    by : (t : Bool) → int_eq v (negsuc 0) ≡ t → (u ≡ negsuc (greatest width)) × (v ≡ negsuc 0)
    by true e =
        let is = (Decides-int_eq v (negsuc 0)).0 e in (
          least_alone (greatest width) u (int_div u v) h
              (ap (λ k. int_div u k) is ∙ quotient_by_unit u (negsuc 0) (inr refl) ∙ opposite_of u) n,
          is,
        )
    by false e = absurd (n (quotient_in (greatest width) u v (wide width) h
        (λ is. true≢false (sym ((Decides-int_eq v (negsuc 0)).1 is) ∙ e))))

-- ---- results that are forms
abbrev IsForm : Result → Type 0
IsForm r = (f : Form) × (r ≡ a_form f)

one_form : (t : Bool) (a b : Elaborated) → IsForm a.result → IsForm b.result → IsForm (if t then a else b).result
one_form true a b p q = p
one_form false a b p q = q

form_value : (r : Result) (y : State) (z : ℤ) → IsForm r → MayResult Mathematical r y z → z ≡ value (form_in r) y
form_value r y z is m =
    subst (λ k. z ≡ value (form_in k) y) (sym is.1) (subst (λ k. MayResult Mathematical k y z) is.1 m)

quotient_form : (line : ℕ) (ds : List Deed) (h : ℕ) (f : Form) (c : ℤ) → IsForm (quotient_by line ds h f c).result
quotient_form line ds h f c = one_form (is_unit c) _ _ (_, refl) (one_form (is_constant f) _ _ (_, refl) (_, refl))

remainder_form : (line : ℕ) (ds : List Deed) (h : ℕ) (f : Form) (c : ℤ) → IsForm (remainder_by line ds h f c).result
remainder_form line ds h f c = one_form (is_unit c) _ _ (_, refl) (one_form (is_constant f) _ _ (_, refl) (_, refl))

-- ---- each operation
no_difference : (z a k : ℤ) → z ≡ a -ℤ k → a ≡ k → z ≡ pos 0
no_difference z a k p q = omega (arith, ints, p, q)

equal_to : (f : Form) (k : ℤ) (y : State) → value f y ≡ k → MayBe true (related Eq f (constant_form k)) y
equal_to f k y e = no_difference _ (value f y) k
    (value-minus f (constant_form k) y ∙ ap (λ (c : ℤ). value f y -ℤ c) (value-constant k y)) e

never_may : (y : State) → MayBe false never y
never_may y = λ d. d (value-constant (pos 0) y)

module _ (width : Width) (line n : ℕ) (S : ℕ → Type 0) (low sign : ℕ) (R : State → ℤ → ℤ → State → Type 0) (ds : List Deed) (h : ℕ)
    (f g : Form) (b : Both n S low R ds h f g) (p q x y : State) (u v : ℤ) (agree : Agree n p x) (r : R p u v q) (l : AllLeave ds x y)
    (fy : u ≡ value f y) (gy : v ≡ value g y) (inside : Has (Machine width) u) where
  abbrev about : Check
  about = record { kind = Range; at = sign }

  -- where the condition of the check may be false behind an operation
  fails : (holds : Width → Form → Condition) (e : Elaborated) (w : State) → AllLeave e.prelude x w
      → MayBe false (holds width (form_in e.result)) w → MayFail (ranged (Machine width) line sign holds e).prelude x about
  fails holds e w k m = fail-last e.prelude about (holds width (form_in e.result)) line x w k m

  -- behind any number the forms have their values
  any_value : (more : List Deed) (w : State) → AllLeave more x y
      → (t : State) × AllLeave (more ++ havocs h line ∷ held (Machine width) line h) x t × (u ≡ value f t) × (v ≡ value g t)
  any_value more w k =
      let any = fits-any (Machine width) line n S h (omega (arith, b.fits.above, b.fits.grows)) in
      let t = any.goes y in
      let same = leave-agrees h (havocs h line ∷ held (Machine width) line h) y t.0 (writes-any (Machine width) line h) t.1 in (
        t.0,
        leave-then more (havocs h line ∷ held (Machine width) line h) x y t.0 k t.1,
        fy ∙ value-agrees h f y t.0 b.first_over same,
        gy ∙ value-agrees h g y t.0 b.second_over same,
      )

  product_fails : (z : ℤ) → z ≡ u *ℤ v → ¬ (Has (Machine width) z)
      → MayFail (operation_on (Machine width) line times sign ds h f g).prelude x about
  product_fails z e none = by (is_constant f) (is_constant g) refl refl
    where
      by : (s t : Bool) → is_constant f ≡ s → is_constant g ≡ t
          → MayFail (ranged (Machine width) line sign (λ width r. if s || t then is_held width r else never)
          (if s then form_behind ds h (scaled f.constant g)
          else (if t then form_behind ds h (scaled g.constant f) else havocked (Machine width) line ds h))).prelude x about
      by true t c d = fails (λ width r. is_held width r) (form_behind ds h (scaled f.constant g)) y l
          (held-false width (scaled f.constant g) y z (times_constant f g y u v z c fy gy e) none)
      by false true c d = fails (λ width r. is_held width r) (form_behind ds h (scaled g.constant f)) y l
          (held-false width (scaled g.constant f) y z (times_constant g f y v u z d gy fy (e ∙ *ℤ_comm u v)) none)
      by false false c d = let t = any_value ds y l in fails (λ width r. never) (havocked (Machine width) line ds h) t.0 t.1 (never_may t.0)

  -- an operation that a hidden variable stands for, of which the quotient is none of the integers
  divided_fails : ¬ (Has (Machine width) (int_div u v)) → (holds : Width → Form → Condition)
      → ((k : Form) → holds width k ≡ is_divided width f g)
      → MayFail (ranged (Machine width) line sign holds (unless_zero (Machine width) line ds h sign g)).prelude x about
  divided_fails none holds is =
      let zero : Check = record { kind = Divisor; at = sign } in
      let c = related Ne g (constant_form (pos 0)) in
      let t = any_value (ds ++ checks zero c line ∷ []) y (leave-check ds zero c line x y l) in
      let k = least_by_minus_one width u v inside none in
      fails holds (unless_zero (Machine width) line ds h sign g) t.0 t.1
      (subst (λ (c : Condition). MayBe false c t.0) (sym (is _))
      (equal_to f (negsuc (greatest width)) t.0 (sym t.2 ∙ k.0), equal_to g (negsuc 0) t.0 (sym t.3 ∙ k.1)))

  quotient_fails : (z : ℤ) → (v ≢ pos 0) × (z ≡ int_div u v) → ¬ (Has (Machine width) z)
      → MayFail (operation_on (Machine width) line over sign ds h f g).prelude x about
  quotient_fails z e none = by (is_divisor g) refl
    where
      by : (t : Bool) → is_divisor g ≡ t
          → MayFail (ranged (Machine width) line sign (λ width r. if t then is_held width r else is_divided width f g)
          (if t then quotient_by line ds h f g.constant else unless_zero (Machine width) line ds h sign g)).prelude x about
      by true d =
          let k = keeps-quotient Mathematical line n S low R ds h f g d b in
          let w = k.keeps p x z q agree (u, v, r, e, tt) in
          fails (λ width r. is_held width r) (quotient_by line ds h f g.constant) w.0 w.1
          (held-false width (form_in (quotient_by line ds h f g.constant).result) w.0 z
          (form_value (quotient_by line ds h f g.constant).result w.0 z (quotient_form line ds h f g.constant) w.3) none)
      by false d = divided_fails (λ q. none (subst (λ k. Has (Machine width) k) (sym e.1) q)) (λ width r. is_divided width f g) (λ k. refl)

  remainder_fails : ¬ (Has (Machine width) (int_div u v))
      → MayFail (operation_on (Machine width) line remainder sign ds h f g).prelude x about
  remainder_fails none = by (is_divisor g) (int_eq g.constant (negsuc 0)) (is_unit g.constant) refl refl refl
    where
      two : (u ≡ negsuc (greatest width)) × (v ≡ negsuc 0)
      two = least_by_minus_one width u v inside none

      minus_one : is_divisor g ≡ true → g.constant ≡ negsuc 0
      minus_one d = sym (value-is_constant g y (is_divisor_of g d).0) ∙ sym gy ∙ two.1

      by : (t s p : Bool) → is_divisor g ≡ t → int_eq g.constant (negsuc 0) ≡ s → is_unit g.constant ≡ p
          → MayFail (ranged (Machine width) line sign
          (λ width r. if t then (if s then is_held width (opposite f) else is_held width r) else is_divided width f g)
          (if t then (if p then form_behind ds h (constant_form (pos 0))
          else (if is_constant f then form_behind ds h (constant_form (int_rem f.constant g.constant))
          else form_behind (quotient_behind line ds h f g.constant) (suc h)
          (form.minus f (scaled g.constant (variable_form h)))))
          else unless_zero (Machine width) line ds h sign g)).prelude x about
      by true true true d i p = fails (λ width r. is_held width (opposite f)) (form_behind ds h (constant_form (pos 0))) y l
          (held-false width (opposite f) y (int_div u v) quotient none)
        where
          quotient : int_div u v ≡ value (opposite f) y
          quotient =
              let q : negsuc 0 *ℤ u ≡ pos 0 -ℤ value f y = (let e = fy in omega (arith, ints, e)) in
              ap (λ k. int_div u k) two.1 ∙ quotient_by_unit u (negsuc 0) (inr refl) ∙ q ∙ sym (value-opposite f y)
      by true true false d i p = absurd (true≢false (sym (unit (minus_one d)) ∙ p))
        where
          unit : g.constant ≡ negsuc 0 → is_unit g.constant ≡ true
          unit q = ap is_unit q
      by true false p d i q = absurd (true≢false (sym ((Decides-int_eq g.constant (negsuc 0)).1 (minus_one d)) ∙ i))
      by false s p d i q = divided_fails none (λ width r. is_divided width f g) (λ k. refl)

  -- a sum or a difference
  sum_fails : (k : Form) (z : ℤ) → z ≡ value k y → ¬ (Has (Machine width) z)
      → MayFail (ranged (Machine width) line sign (λ width r. is_held width r) (form_behind ds h k)).prelude x about
  sum_fails k z e none = fails (λ width r. is_held width r) (form_behind ds h k) y l (held-false width k y z e none)

  failing : (o : Operation) (z : ℤ) → Gives o u v z → ¬ (IsHeld (Machine width) o u v z)
      → MayFail (operation_on (Machine width) line o sign ds h f g).prelude x about
  failing plus z e none =
      sum_fails (form.plus f g) z (e ∙ ap₂ (λ (a b : ℤ). a +ℤ b) fy gy ∙ sym (value-plus f g y)) none
  failing minus z e none =
      sum_fails (form.minus f g) z (e ∙ ap₂ (λ (a b : ℤ). a -ℤ b) fy gy ∙ sym (value-minus f g y)) none
  failing times z e none = product_fails z e none
  failing over z e none = quotient_fails z e none
  failing remainder z e none = remainder_fails
      (λ q. none (q, subst (λ k. Has (Machine width) k) (sym e.1) (remainder_in (greatest width) u v inside)))

-- an operation overflows
pub fail-overflow : (integers : Integers) (line n : ℕ) (S : ℕ → Type 0) (low : ℕ) (o : Operation) (sign : ℕ)
    (R : State → ℤ → ℤ → State → Type 0) (ds : List Deed) (h : ℕ) (f g : Form) → Both n S low R ds h f g → (p q x y : State) (u v : ℤ)
    → Agree n p x → R p u v q → AllLeave ds x y → u ≡ value f y → v ≡ value g y
    → Has integers u → (about : Check) → Overflows integers o sign about u v
    → MayFail (operation_on integers line o sign ds h f g).prelude x about
fail-overflow Mathematical line n S low o sign R ds h f g b p q x y u v a r l fy gy inside c m =
    absurd (m.1.2 (held_by_all o u v m.1.0))
fail-overflow (Machine width) line n S low o sign R ds h f g b p q x y u v a r l fy gy inside c m =
    subst (λ k. MayFail (operation_on (Machine width) line o sign ds h f g).prelude x k) (sym m.0)
    (failing width line n S low sign R ds h f g b p q x y u v a r l fy gy inside o m.1.0 m.1.1 m.1.2)
