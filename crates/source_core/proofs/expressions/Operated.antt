-- Operations on two forms give the values that they have by C.
use Rattle.std.proofs.Common.{◌≡◌, ◌≢◌, ◌⊎◌, inl, inr, ◌/◌, ◌≤◌, ℕ, suc, Bool, true, false, List, [], ◌∷◌, ◌++◌}
use Rattle.std.proofs.Common.{refl, sym, ap, ap₂, subst, ◌∙◌, arith, ◌*◌, true≢false}
use Rattle.std.specs.Prelude.{ℤ, pos, negsuc, ◌+ℤ◌, ◌-ℤ◌, ◌*ℤ◌, neg_ℤ, int_div, int_rem, IsTrue, ◌||◌, if◌then◌else◌}
use Rattle.std.specs.Ordering.{int_eq}
use Rattle.std.proofs.lemmas.Int.{ints}
use Rattle.std.proofs.lemmas.Bool.Decides.{Decides-int_eq}
use Rattle.std.proofs.Math.IntN.{*ℤ_comm}
use Rattle.std.proofs.Math.Nat.{div-one}
use Rattle.lang_tree.specs.declared.form.Form.{Form}
use Rattle.lang_tree.specs.Meaning.{State, put, value}
use Rattle.lang_tree.specs.Tree.{Deed, havocs, wheres, checks}
use Rattle.source_tree.specs.Expressions.{Operation, plus, minus, times, over, remainder}
use Rattle.source_tree.specs.Values.{Gives, IsHeld}
use Rattle.source_core.specs.Forms as form
use Rattle.source_core.specs.Forms.{constant_form, variable_form, scaled, is_constant}
use Rattle.source_core.specs.Preludes.{AllLeave}
use Rattle.source_core.specs.Laws.{Agree}
use Rattle.source_core.specs.Elaborated.{operated, product, quotient_by, remainder_by, unless_zero, quotient_behind, is_divisor}
use Rattle.source_core.specs.Elaborated.{held, checked, Elaborated, form_in, is_held, is_unit, divides, havocked, number_at, ranged}
use Rattle.source_core.specs.Elaborated.{has, operation_held, operation_on, form_behind, related}
use Rattle.lang_tree.specs.Tree.{Condition}
use Rattle.lang_tree.specs.declared.check.Check.{Check}
use Rattle.lang_tree.specs.declared.check.CheckKind.TheVariants.{Divisor, Range}
use Rattle.lang_tree.specs.declared.cond.Rel.TheVariants.{Ne}
use Rattle.source_core.proofs.forms.Tests.{both_of}
use Rattle.source_core.proofs.forms.Forms.{value-plus, value-minus, value-scaled, value-constant, value-is_constant}
use Rattle.source_core.proofs.forms.Over.{FormOver, over_more, over_plus, over_minus, over_scaled, over_constant, over_variable}
use Rattle.source_core.proofs.forms.Over.{value-agrees}
use Rattle.source_core.proofs.preludes.Preludes.{leave-then, leave-agrees, hidden-agrees}
use Rattle.source_core.proofs.expressions.Division.{rest_is, quotient_divides}
use Rattle.source_core.proofs.preludes.Parts.{Fits, fits-none, fits-then, hidden-is, Keeps}
use Rattle.source_core.proofs.preludes.Held.{take-any, fits-any, writes-any}
use Rattle.base_integers.specs.declared.integers.Width.{Width}
use Rattle.base_integers.specs.declared.integers.Integers.TheVariants.{Mathematical, Machine}
use Rattle.base_integers.specs.Integers.{Has}
use Rattle.base_integers.specs.declared.integers.Integers.{Integers}

-- two operands whose values are those of two forms behind a prelude
pub record Both (n : ℕ) (S : ℕ → Type 0) (h : ℕ) (R : State → ℤ → ℤ → State → Type 0) (ds : List Deed) (m : ℕ) (f g : Form) : Type 0 where
  -- the prelude takes the hidden variables from h up to m
  pub fits : Fits n S h ds m
  -- the first form has no variables but those that are taken
  pub first_over : FormOver m f
  -- nor has the second
  pub second_over : FormOver m g
  -- behind the prelude the forms may have each two values of the operands
  pub keeps : (x s : State) (u v : ℤ) (y : State) → Agree n x s → R x u v y
      → (t : State) × AllLeave ds s t × Agree n y t × (u ≡ value f t) × (v ≡ value g t)

-- the number that an operation gives
abbrev pub Given : Integers → Operation → (State → ℤ → ℤ → State → Type 0) → State → ℤ → State → Type 0
Given integers o R x z y = (u v : ℤ) × R x u v y × Gives o u v z × IsHeld integers o u v z

-- which is one of the integers
pub held-result : (integers : Integers) (o : Operation) (u v z : ℤ) → IsHeld integers o u v z → Has integers z
held-result integers plus u v z h = h
held-result integers minus u v z h = h
held-result integers times u v z h = h
held-result integers over u v z h = h
held-result integers remainder u v z h = h.1

-- ---- any number
any_number : (integers : Integers) (line n : ℕ) (S : ℕ → Type 0) (h : ℕ) (P : State → ℤ → State → Type 0) (ds : List Deed) (m : ℕ)
    → Fits n S h ds m
    → ((x s : State) (z : ℤ) (y : State) → Agree n x s → P x z y → (t : State) × AllLeave ds s t × Agree n y t)
    → ((x : State) (z : ℤ) (y : State) → P x z y → Has integers z) → Keeps integers n S h P (havocked integers line ds m)
any_number integers line n S h P ds m fits keeps has =
    let more = havocs m line ∷ held integers line m in
    let above : n ≤ m = omega (arith, fits.above, fits.grows) in
    record {
      fits = fits-then n S h m (suc m) ds more fits (fits-any integers line n S m above);
      over = over_variable (suc m) m (omega arith);
      keeps = λ x s z y a p.
          let k = keeps x s z y a p in
          let t = put (pos 0) k.0 m z in
          let l = take-any integers line m k.0 z (has x z y p) in (
            t,
            leave-then ds more s k.0 t k.1 l,
            hidden-agrees n m more y k.0 t above (writes-any integers line m) k.2 l,
            sym (hidden-is m k.0 z),
          );
    }

-- ---- products
-- a product with a constant is a multiple
pub times_constant : (f g : Form) (y : State) (u v z : ℤ) → IsTrue (is_constant f) → u ≡ value f y → v ≡ value g y → z ≡ u *ℤ v
    → z ≡ value (scaled f.constant g) y
times_constant f g y u v z c p q e =
    e ∙ ap₂ (λ (a b : ℤ). a *ℤ b) (p ∙ value-is_constant f y c) q ∙ sym (value-scaled f.constant g y)

keeps-product : (integers : Integers) (line n : ℕ) (S : ℕ → Type 0) (low : ℕ) (R : State → ℤ → ℤ → State → Type 0)
    (ds : List Deed) (h : ℕ) (f g : Form) → Both n S low R ds h f g
    → Keeps integers n S low (Given integers times R) (product integers line ds h f g)
keeps-product integers line n S low R ds h f g b = by (is_constant f) (is_constant g) refl refl
  where
    by : (s t : Bool) → is_constant f ≡ s → is_constant g ≡ t
        → Keeps integers n S low (Given integers times R) (if s then form_behind ds h (scaled f.constant g)
        else (if t then form_behind ds h (scaled g.constant f) else havocked integers line ds h))
    by true t c d = record {
      fits = b.fits;
      over = over_scaled h f.constant g b.second_over;
      keeps = λ x s z y a p. let k = b.keeps x s p.0 p.1 y a p.2 in
          (k.0, k.1, k.2, times_constant f g k.0 p.0 p.1 z c k.3 k.4 p.3);
    }
    by false true c d = record {
      fits = b.fits;
      over = over_scaled h g.constant f b.first_over;
      keeps = λ x s z y a p. let k = b.keeps x s p.0 p.1 y a p.2 in
          (k.0, k.1, k.2, times_constant g f k.0 p.1 p.0 z d k.4 k.3 (p.3 ∙ *ℤ_comm p.0 p.1));
    }
    by false false c d =
        any_number integers line n S low (Given integers times R) ds h b.fits
        (λ x s z y a p. let k = b.keeps x s p.0 p.1 y a p.2 in (k.0, k.1, k.2)) (λ x z y p. p.4)

-- ---- quotients and remainders by 1 and -1
-- a number that passes as a unit is 1 or -1
pub is_unit_of : (c : ℤ) → IsTrue (is_unit c) → (c ≡ pos 1) ⊎ (c ≡ negsuc 0)
is_unit_of c h = by (int_eq c (pos 1)) refl h
  where
    by : (t : Bool) → int_eq c (pos 1) ≡ t → IsTrue (t || int_eq c (negsuc 0)) → (c ≡ pos 1) ⊎ (c ≡ negsuc 0)
    by true e k = inl ((Decides-int_eq c (pos 1)).0 e)
    by false e k = inr ((Decides-int_eq c (negsuc 0)).0 k)

by_one : (a : ℕ) → a / 1 ≡ 1 * a
by_one a = let d = div-one a in omega (arith, d)

quotient_by_one : (u : ℤ) → int_div u (pos 1) ≡ pos 1 *ℤ u
quotient_by_one (pos a) = ap pos (by_one a)
quotient_by_one (negsuc a) = ap (λ k. neg_ℤ (pos k)) (by_one (suc a))

quotient_by_minus_one : (u : ℤ) → int_div u (negsuc 0) ≡ negsuc 0 *ℤ u
quotient_by_minus_one (pos a) = ap (λ k. neg_ℤ (pos k)) (by_one a)
quotient_by_minus_one (negsuc a) = ap pos (by_one (suc a))

-- a quotient by 1 or -1 is the product with it
pub quotient_by_unit : (u c : ℤ) → (c ≡ pos 1) ⊎ (c ≡ negsuc 0) → int_div u c ≡ c *ℤ u
quotient_by_unit u c (inl e) = subst (λ k. int_div u k ≡ k *ℤ u) (sym e) (quotient_by_one u)
quotient_by_unit u c (inr e) = subst (λ k. int_div u k ≡ k *ℤ u) (sym e) (quotient_by_minus_one u)

square_one : (u : ℤ) → u -ℤ pos 1 *ℤ (pos 1 *ℤ u) ≡ pos 0
square_one u =
    let q : pos 1 *ℤ u ≡ u = omega (arith, ints) in
    let t = ap (λ k. pos 1 *ℤ k) q in omega (arith, ints, q, t)

square_minus_one : (u : ℤ) → u -ℤ negsuc 0 *ℤ (negsuc 0 *ℤ u) ≡ pos 0
square_minus_one u =
    let q : negsuc 0 *ℤ u ≡ neg_ℤ u = omega (arith, ints) in
    let r : negsuc 0 *ℤ neg_ℤ u ≡ u = omega (arith, ints) in
    let t = ap (λ k. negsuc 0 *ℤ k) q in omega (arith, ints, q, r, t)

-- a remainder by 1 or -1 is 0
pub remainder_by_unit : (u c : ℤ) → (c ≡ pos 1) ⊎ (c ≡ negsuc 0) → int_rem u c ≡ pos 0
remainder_by_unit u c h = sym (rest_is u c) ∙ ap (λ q. u -ℤ c *ℤ q) (quotient_by_unit u c h) ∙ same h
  where
    same : (c ≡ pos 1) ⊎ (c ≡ negsuc 0) → u -ℤ c *ℤ (c *ℤ u) ≡ pos 0
    same (inl e) = subst (λ k. u -ℤ k *ℤ (k *ℤ u) ≡ pos 0) (sym e) (square_one u)
    same (inr e) = subst (λ k. u -ℤ k *ℤ (k *ℤ u) ≡ pos 0) (sym e) (square_minus_one u)

-- ---- other ones
-- a hidden variable is given the quotient
given_quotient : (line h : ℕ) (f : Form) (c : ℤ) (x : State) → c ≢ pos 0 → FormOver h f
    → (y : State) × AllLeave (havocs h line ∷ wheres (divides f c h) line ∷ []) x y × (value (variable_form h) y ≡ int_div (value f x) c)
    × (value f x ≡ value f y)
given_quotient line h f c x n o =
    let z = int_div (value f x) c in
    let y = put (pos 0) x h z in
    let same = value-agrees h f x y o (leave-agrees h (havocs h line ∷ []) x y (omega arith, tt) (y, (z, refl), refl)) in
    let is = hidden-is h x z in
    (y, (y, (z, refl), (y, (quotient_divides f c h y n (is ∙ ap (λ v. int_div v c) same), refl), refl)), is, same)

fits-quotient : (line n : ℕ) (S : ℕ → Type 0) (low : ℕ) (ds : List Deed) (h : ℕ) (f : Form) (c : ℤ) → c ≢ pos 0 → FormOver h f
    → Fits n S low ds h → Fits n S low (quotient_behind line ds h f c) (suc h)
fits-quotient line n S low ds h f c d o fits =
    fits-then n S low h (suc h) ds (havocs h line ∷ wheres (divides f c h) line ∷ []) fits record {
      above = omega (arith, fits.above, fits.grows);
      grows = omega arith;
      writes = (inr (omega arith), tt);
      goes = λ x. let g = given_quotient line h f c x d o in (g.0, g.1);
    }

-- the quotient that is given behind a prelude
behind_quotient : (line n : ℕ) (ds : List Deed) (h : ℕ) (f : Form) (c : ℤ) (x y t : State) (u : ℤ) → n ≤ h → c ≢ pos 0 → FormOver h f
    → AllLeave ds x t → Agree n y t → u ≡ value f t
    → (w : State) × AllLeave (quotient_behind line ds h f c) x w × Agree n y w × (value (variable_form h) w ≡ int_div u c) × (u ≡ value f w)
behind_quotient line n ds h f c x y t u above d o l a e =
    let more = havocs h line ∷ wheres (divides f c h) line ∷ [] in
    let g = given_quotient line h f c t d o in (
      g.0,
      leave-then ds more x t g.0 l g.1,
      hidden-agrees n h more y t g.0 above (omega arith, tt) a g.1,
      g.2 ∙ ap (λ k. int_div k c) (sym e),
      e ∙ g.3,
    )

-- a form that passes as a divisor is a constant, and not 0
pub is_divisor_of : (g : Form) → IsTrue (is_divisor g) → IsTrue (is_constant g) × (g.constant ≢ pos 0)
is_divisor_of g h = let b = both_of (is_constant g) _ h in (b.0, by (int_eq g.constant (pos 0)) refl b.1)
  where
    by : (t : Bool) → int_eq g.constant (pos 0) ≡ t → IsTrue (if t then false else true) → g.constant ≢ pos 0
    by true e k = absurd (true≢false (sym k))
    by false e k = λ z. true≢false (sym ((Decides-int_eq g.constant (pos 0)).1 z) ∙ e)

-- a quotient by a constant
pub keeps-quotient : (integers : Integers) (line n : ℕ) (S : ℕ → Type 0) (low : ℕ) (R : State → ℤ → ℤ → State → Type 0)
    (ds : List Deed) (h : ℕ) (f g : Form) → IsTrue (is_divisor g)
    → Both n S low R ds h f g → Keeps integers n S low (Given integers over R) (quotient_by line ds h f g.constant)
keeps-quotient integers line n S low R ds h f g divisor b = by (is_unit g.constant) (is_constant f) refl refl
  where
    c : ℤ
    c = g.constant

    d : IsTrue (is_constant g) × (g.constant ≢ pos 0)
    d = is_divisor_of g divisor

    by : (s t : Bool) → is_unit g.constant ≡ s → is_constant f ≡ t
        → Keeps integers n S low (Given integers over R) (if s then form_behind ds h (scaled g.constant f)
        else (if t then form_behind ds h (constant_form (int_div f.constant g.constant))
        else form_behind (quotient_behind line ds h f g.constant) (suc h) (variable_form h)))
    by true t p q = record {
      fits = b.fits;
      over = over_scaled h g.constant f b.first_over;
      keeps = λ x s z y a m.
          let k = b.keeps x s m.0 m.1 y a m.2 in
          let v = k.4 ∙ value-is_constant g k.0 d.0 in (
            k.0,
            k.1,
            k.2,
            m.3.1 ∙ ap₂ int_div k.3 v ∙ quotient_by_unit (value f k.0) g.constant (is_unit_of g.constant p)
                ∙ sym (value-scaled g.constant f k.0),
          );
    }
    by false true p q = record {
      fits = b.fits;
      over = over_constant h (int_div f.constant g.constant);
      keeps = λ x s z y a m.
          let k = b.keeps x s m.0 m.1 y a m.2 in
          let v = k.4 ∙ value-is_constant g k.0 d.0 in
          let c = value-constant (int_div f.constant g.constant) k.0 in
          (k.0, k.1, k.2, m.3.1 ∙ ap₂ int_div (k.3 ∙ value-is_constant f k.0 q) v ∙ sym c);
    }
    by false false p q = record {
      fits = fits-quotient line n S low ds h f g.constant d.1 b.first_over b.fits;
      over = over_variable (suc h) h (omega arith);
      keeps = λ x s z y a m.
          let k = b.keeps x s m.0 m.1 y a m.2 in
          let v = k.4 ∙ value-is_constant g k.0 d.0 in
          let w = behind_quotient line n ds h f g.constant s y k.0 m.0 (omega (arith, b.fits.above, b.fits.grows)) d.1 b.first_over
          k.1 k.2 k.3 in
          (w.0, w.1, w.2, m.3.1 ∙ ap (λ r. int_div m.0 r) v ∙ sym w.3);
    }

-- a remainder by one
pub keeps-remainder : (integers : Integers) (line n : ℕ) (S : ℕ → Type 0) (low : ℕ) (R : State → ℤ → ℤ → State → Type 0)
    (ds : List Deed) (h : ℕ) (f g : Form) → IsTrue (is_divisor g)
    → Both n S low R ds h f g → Keeps integers n S low (Given integers remainder R) (remainder_by line ds h f g.constant)
keeps-remainder integers line n S low R ds h f g divisor b = by (is_unit g.constant) (is_constant f) refl refl
  where
    d : IsTrue (is_constant g) × (g.constant ≢ pos 0)
    d = is_divisor_of g divisor

    by : (s t : Bool) → is_unit g.constant ≡ s → is_constant f ≡ t
        → Keeps integers n S low (Given integers remainder R) (if s then form_behind ds h (constant_form (pos 0))
        else (if t then form_behind ds h (constant_form (int_rem f.constant g.constant))
        else form_behind (quotient_behind line ds h f g.constant) (suc h) (form.minus f (scaled g.constant (variable_form h)))))
    by true t p q = record {
      fits = b.fits;
      over = over_constant h (pos 0);
      keeps = λ x s z y a m.
          let k = b.keeps x s m.0 m.1 y a m.2 in
          let v = k.4 ∙ value-is_constant g k.0 d.0 in (
            k.0,
            k.1,
            k.2,
            m.3.1 ∙ ap (λ r. int_rem m.0 r) v ∙ remainder_by_unit m.0 g.constant (is_unit_of g.constant p)
                ∙ sym (value-constant (pos 0) k.0),
          );
    }
    by false true p q = record {
      fits = b.fits;
      over = over_constant h (int_rem f.constant g.constant);
      keeps = λ x s z y a m.
          let k = b.keeps x s m.0 m.1 y a m.2 in
          let v = k.4 ∙ value-is_constant g k.0 d.0 in
          let c = value-constant (int_rem f.constant g.constant) k.0 in
          (k.0, k.1, k.2, m.3.1 ∙ ap₂ int_rem (k.3 ∙ value-is_constant f k.0 q) v ∙ sym c);
    }
    by false false p q = record {
      fits = fits-quotient line n S low ds h f g.constant d.1 b.first_over b.fits;
      over = over_minus (suc h) f (scaled g.constant (variable_form h)) (over_more h (suc h) f (omega arith) b.first_over)
          (over_scaled (suc h) g.constant (variable_form h) (over_variable (suc h) h (omega arith)));
      keeps = λ x s z y a m.
          let k = b.keeps x s m.0 m.1 y a m.2 in
          let v = k.4 ∙ value-is_constant g k.0 d.0 in
          let w = behind_quotient line n ds h f g.constant s y k.0 m.0 (omega (arith, b.fits.above, b.fits.grows)) d.1 b.first_over
          k.1 k.2 k.3 in
          let rest = value-minus f (scaled g.constant (variable_form h)) w.0
          ∙ ap₂ (λ (a b : ℤ). a -ℤ b) (sym w.4) (value-scaled g.constant (variable_form h) w.0 ∙ ap (λ r. g.constant *ℤ r) w.3)
          ∙ rest_is m.0 g.constant in
          (w.0, w.1, w.2, m.3.1 ∙ ap (λ r. int_rem m.0 r) v ∙ sym rest);
    }

-- ---- by any number
-- a check behind a prelude takes no hidden variable
pub fits-check : (n : ℕ) (S : ℕ → Type 0) (low : ℕ) (ds : List Deed) (h : ℕ) (about : Check) (c : Condition) (line : ℕ)
    → Fits n S low ds h → Fits n S low (ds ++ checks about c line ∷ []) h
fits-check n S low ds h about c line fits = fits-then n S low h h ds (checks about c line ∷ []) fits record {
  above = omega (arith, fits.above, fits.grows);
  grows = omega arith;
  writes = tt;
  goes = λ x. (x, (x, refl, refl));
}

-- a check behind deeds leaves what they do
pub leave-check : (ds : List Deed) (about : Check) (c : Condition) (line : ℕ) (x y : State) → AllLeave ds x y
    → AllLeave (ds ++ checks about c line ∷ []) x y
leave-check ds about c line x y h = leave-then ds (checks about c line ∷ []) x y y h (y, refl, refl)

keeps-unless_zero : (integers : Integers) (line n : ℕ) (S : ℕ → Type 0) (low : ℕ) (o : Operation) (R : State → ℤ → ℤ → State → Type 0)
    (ds : List Deed) (h sign : ℕ) (f g : Form)
    → Both n S low R ds h f g → Keeps integers n S low (Given integers o R) (unless_zero integers line ds h sign g)
keeps-unless_zero integers line n S low o R ds h sign f g b =
    let about : Check = record { kind = Divisor; at = sign } in
    let c = related Ne g (constant_form (pos 0)) in
    any_number integers line n S low (Given integers o R) (ds ++ checks about c line ∷ []) h (fits-check n S low ds h about c line b.fits)
    (λ x s z y a m. let k = b.keeps x s m.0 m.1 y a m.2 in (k.0, leave-check ds about c line s k.0 k.1, k.2))
    (λ x z y m. held-result integers o m.0 m.1 z m.4)

-- ---- all
-- each number that an operation gives is one that its result may be
pub keeps-operated : (integers : Integers) (line n : ℕ) (S : ℕ → Type 0) (low : ℕ) (o : Operation) (sign : ℕ)
    (R : State → ℤ → ℤ → State → Type 0) (ds : List Deed) (h : ℕ) (f g : Form)
    → Both n S low R ds h f g → Keeps integers n S low (Given integers o R) (operated integers line o sign ds h f g)
keeps-operated integers line n S low plus sign R ds h f g b = record {
  fits = b.fits;
  over = over_plus h f g b.first_over b.second_over;
  keeps = λ x s z y a m. let k = b.keeps x s m.0 m.1 y a m.2 in
      (k.0, k.1, k.2, m.3 ∙ ap₂ (λ (a b : ℤ). a +ℤ b) k.3 k.4 ∙ sym (value-plus f g k.0));
}
keeps-operated integers line n S low minus sign R ds h f g b = record {
  fits = b.fits;
  over = over_minus h f g b.first_over b.second_over;
  keeps = λ x s z y a m. let k = b.keeps x s m.0 m.1 y a m.2 in
      (k.0, k.1, k.2, m.3 ∙ ap₂ (λ (a b : ℤ). a -ℤ b) k.3 k.4 ∙ sym (value-minus f g k.0));
}
keeps-operated integers line n S low times sign R ds h f g b = keeps-product integers line n S low R ds h f g b
keeps-operated integers line n S low over sign R ds h f g b = by (is_divisor g) refl
  where
    by : (t : Bool) → is_divisor g ≡ t → Keeps integers n S low (Given integers over R)
        (if t then quotient_by line ds h f g.constant else unless_zero integers line ds h sign g)
    by true e = keeps-quotient integers line n S low R ds h f g e b
    by false e = keeps-unless_zero integers line n S low over R ds h sign f g b
keeps-operated integers line n S low remainder sign R ds h f g b = by (is_divisor g) refl
  where
    by : (t : Bool) → is_divisor g ≡ t → Keeps integers n S low (Given integers remainder R)
        (if t then remainder_by line ds h f g.constant else unless_zero integers line ds h sign g)
    by true e = keeps-remainder integers line n S low R ds h f g e b
    by false e = keeps-unless_zero integers line n S low remainder R ds h sign f g b

-- ---- checks that results are among the integers
-- what is kept of an operation is kept of it with such a check behind it
pub keeps-ranged : (integers : Integers) (line n : ℕ) (S : ℕ → Type 0) (h : ℕ) (P : State → ℤ → State → Type 0) (place : ℕ)
    (holds : Width → Form → Condition) (e : Elaborated) → Keeps integers n S h P e
    → Keeps integers n S h P (ranged integers line place holds e)
keeps-ranged Mathematical line n S h P place holds e k = k
keeps-ranged (Machine width) line n S h P place holds e k =
    let about : Check = record { kind = Range; at = place } in
    let c = holds width (form_in e.result) in
    record {
      fits = fits-check n S h e.prelude e.next about c line k.fits;
      over = k.over;
      keeps = λ x s z y a p. let r = k.keeps x s z y a p in (r.0, leave-check e.prelude about c line s r.0 r.1, r.2, r.3);
    }

-- each number that an operation gives, and that is one of the integers, is one that its result may be
pub keeps-operation_on : (integers : Integers) (line n : ℕ) (S : ℕ → Type 0) (low : ℕ) (o : Operation) (sign : ℕ)
    (R : State → ℤ → ℤ → State → Type 0) (ds : List Deed) (h : ℕ) (f g : Form) → Both n S low R ds h f g
    → Keeps integers n S low (Given integers o R) (operation_on integers line o sign ds h f g)
keeps-operation_on integers line n S low o sign R ds h f g b =
    keeps-ranged integers line n S low (Given integers o R) sign (λ width r. operation_held width o f g r)
    (operated integers line o sign ds h f g) (keeps-operated integers line n S low o sign R ds h f g b)

-- a number is its own result
pub keeps-number_at : (integers : Integers) (line n : ℕ) (S : ℕ → Type 0) (h : ℕ) (v : ℤ) (at : ℕ) → n ≤ h
    → Keeps integers n S h (λ x z y. (z ≡ v) × (y ≡ x)) (number_at integers line v at h)
keeps-number_at Mathematical line n S h v at above = record {
  fits = fits-none n S h above;
  over = over_constant h v;
  keeps = λ x s z y a m. (s, refl, subst (λ w. Agree n w s) (sym m.1) a, m.0 ∙ sym (value-constant v s));
}
keeps-number_at (Machine width) line n S h v at above = by (has width v)
  where
    by : (t : Bool) → Keeps (Machine width) n S h (λ x z y. (z ≡ v) × (y ≡ x)) (if t then form_behind [] h (constant_form v)
        else form_behind (checked line Range at (is_held width (constant_form v)) ∷ []) h (constant_form v))
    by true = record {
      fits = fits-none n S h above;
      over = over_constant h v;
      keeps = λ x s z y a m. (s, refl, subst (λ w. Agree n w s) (sym m.1) a, m.0 ∙ sym (value-constant v s));
    }
    by false = record {
      fits = fits-check n S h [] h record { kind = Range; at = at } (is_held width (constant_form v)) line (fits-none n S h above);
      over = over_constant h v;
      keeps = λ x s z y a m. (
        s,
        leave-check [] record { kind = Range; at = at } (is_held width (constant_form v)) line s s refl,
        subst (λ w. Agree n w s) (sym m.1) a,
        m.0 ∙ sym (value-constant v s),
      );
    }
