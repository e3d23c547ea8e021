-- Variables that take any of the integers, and conditions that a form is one of them.
use Rattle.std.proofs.Common.{◌≡◌, inl, inr, ◌≤◌, ℕ, suc, true, false, ◌∷◌, refl, sym, ap, ◌∙◌, arith}
use Rattle.std.specs.Prelude.{ℤ, pos, negsuc, ◌-ℤ◌, ◌≤ℤ◌, ◌<ℤ◌}
use Rattle.std.proofs.lemmas.Int.{ints, by_lt_z}
use Rattle.lang_tree.specs.declared.form.Form.{Form}
use Rattle.lang_tree.specs.Meaning.{State, put, value, MayBe}
use Rattle.lang_tree.specs.Tree.{havocs}
use Rattle.base_integers.specs.declared.integers.Width.{Width}
use Rattle.base_integers.specs.declared.integers.Integers.{Integers}
use Rattle.base_integers.specs.declared.integers.Integers.TheVariants.{Mathematical, Machine}
use Rattle.base_integers.specs.Integers.{greatest, Has}
use Rattle.source_core.specs.Forms.{constant_form, variable_form}
use Rattle.source_core.specs.Preludes.{AllLeave}
use Rattle.source_core.specs.Elaborated.{held, is_held}
use Rattle.source_core.proofs.forms.Forms.{value-minus, value-constant}
use Rattle.source_core.proofs.preludes.Preludes.{WritesFrom}
use Rattle.source_core.proofs.preludes.Parts.{Fits, hidden-is}

below : (d k v z : ℤ) → d ≡ k -ℤ v → z ≡ v → k ≤ℤ z → d ≤ℤ pos 0
below d k v z p q r = omega (arith, ints, p, q, r)

above : (d k v z : ℤ) → d ≡ v -ℤ k → z ≡ v → z ≤ℤ k → d ≤ℤ pos 0
above d k v z p q r = omega (arith, ints, p, q, r)

not_below : (d k v z : ℤ) → d ≡ k -ℤ v → z ≡ v → z <ℤ k → ¬ (d ≤ℤ pos 0)
not_below d k v z p q r = λ s. omega (arith, ints, p, q, r, s)

not_above : (d k v z : ℤ) → d ≡ v -ℤ k → z ≡ v → k <ℤ z → ¬ (d ≤ℤ pos 0)
not_above d k v z p q r = λ s. omega (arith, ints, p, q, r, s)

at_most : (a b : ℤ) → ¬ (b <ℤ a) → a ≤ℤ b
at_most a b n = by_lt_z b a (λ l. absurd (n l)) (λ g. g)

-- the difference of a number and a form
less_form : (k : ℤ) (f : Form) (y : State) → value (Rattle.source_core.specs.Forms.minus (constant_form k) f) y ≡ k -ℤ value f y
less_form k f y = value-minus (constant_form k) f y ∙ ap (λ (c : ℤ). c -ℤ value f y) (value-constant k y)

-- the difference of a form and a number
form_less : (k : ℤ) (f : Form) (y : State) → value (Rattle.source_core.specs.Forms.minus f (constant_form k)) y ≡ value f y -ℤ k
form_less k f y = value-minus f (constant_form k) y ∙ ap (λ (c : ℤ). value f y -ℤ c) (value-constant k y)

-- where a form is one of the integers the condition that it is may be true
pub held-true : (width : Width) (f : Form) (y : State) (z : ℤ) → z ≡ value f y → Has (Machine width) z → MayBe true (is_held width f) y
held-true width f y z e h = (
  below _ (negsuc (greatest width)) (value f y) z (less_form (negsuc (greatest width)) f y) e h.0,
  above _ (pos (greatest width)) (value f y) z (form_less (pos (greatest width)) f y) e h.1,
)

-- where it is none the condition may be false
pub held-false : (width : Width) (f : Form) (y : State) (z : ℤ) → z ≡ value f y → ¬ (Has (Machine width) z)
    → MayBe false (is_held width f) y
held-false width f y z e n = by_lt_z z (negsuc (greatest width))
    (λ b. inl (not_below _ (negsuc (greatest width)) (value f y) z (less_form (negsuc (greatest width)) f y) e b))
    (λ g. inr (not_above _ (pos (greatest width)) (value f y) z (form_less (pos (greatest width)) f y) e
    (by_lt_z (pos (greatest width)) z (λ a. a) (λ l. absurd (n (g, l))))))

-- 0 is one of the integers
pub has-zero : (integers : Integers) → Has integers (pos 0)
has-zero Mathematical = tt
has-zero (Machine width) = (omega (arith, ints), omega (arith, ints))

-- a variable may take each of the integers
pub take-any : (integers : Integers) (line h : ℕ) (x : State) (z : ℤ) → Has integers z
    → AllLeave (havocs h line ∷ held integers line h) x (put (pos 0) x h z)
take-any Mathematical line h x z m = (put (pos 0) x h z, (z, refl), refl)
take-any (Machine width) line h x z m =
    let y = put (pos 0) x h z in
    (y, (z, refl), (y, (held-true width (variable_form h) y z (sym (hidden-is h x z)) m, refl), refl))

-- a variable that takes any of the integers is written alone
pub writes-any : (integers : Integers) (line h : ℕ) → WritesFrom h (havocs h line ∷ held integers line h)
writes-any Mathematical line h = (omega arith, tt)
writes-any (Machine width) line h = (omega arith, tt)

-- so these deeds take this hidden variable alone
pub fits-any : (integers : Integers) (line n : ℕ) (S : ℕ → Type 0) (h : ℕ) → n ≤ h
    → Fits n S h (havocs h line ∷ held integers line h) (suc h)
fits-any Mathematical line n S h a = record {
  above = a;
  grows = omega arith;
  writes = (inr (omega arith), tt);
  goes = λ x. (put (pos 0) x h (pos 0), take-any Mathematical line h x (pos 0) tt);
}
fits-any (Machine width) line n S h a = record {
  above = a;
  grows = omega arith;
  writes = (inr (omega arith), tt);
  goes = λ x. (put (pos 0) x h (pos 0), take-any (Machine width) line h x (pos 0) (has-zero (Machine width)));
}
