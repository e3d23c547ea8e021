-- Which variables forms and conditions have, and states that agree on these.
use Rattle.std.proofs.Common.{◌≡◌, ◌⊎◌, inl, inr, ⊎_elim, ◌≤◌, ◌<◌, ℕ, zero, suc, Bool, true, false, not, List, [], ◌∷◌, ◌++◌, length}
use Rattle.std.proofs.Common.{refl, sym, ap, subst, ◌∙◌, arith, replicate, map}
use Rattle.std.specs.Prelude.{ℤ, pos, negsuc, ◌+ℤ◌, ◌*ℤ◌}
use Rattle.std.proofs.lemmas.Int.{ints}
use Rattle.lang_tree.specs.declared.form.Form.{Form}
use Rattle.lang_tree.specs.declared.cond.Rel.{Rel}
use Rattle.lang_tree.specs.declared.cond.Rel.TheVariants.{Eq, Ne, Lt, Le, Gt, Ge}
use Rattle.lang_tree.specs.Tree.{Condition, free, compare, negation, both, either}
use Rattle.lang_tree.specs.Meaning.{State, value, Relates, MayBe}
use Rattle.source_core.specs.Forms.{constant_form, variable_form, plus, scaled, opposite, minus}
use Rattle.source_core.specs.Laws.{Agree}
use Rattle.source_core.proofs.forms.Forms.{length-sums, dot-agrees}

-- ---- states that agree
-- a state agrees with itself
pub agree_refl : (n : ℕ) (x : State) → Agree n x x
agree_refl n x i l = refl

-- where a state agrees with another, that agrees with it
pub agree_sym : (n : ℕ) (x y : State) → Agree n x y → Agree n y x
agree_sym n x y h i l = sym (h i l)

-- where states agree one after another, the first agrees with the last
pub agree_trans : (n : ℕ) (x y z : State) → Agree n x y → Agree n y z → Agree n x z
agree_trans n x y z h k i l = h i l ∙ k i l

-- states that agree on some variables agree on fewer
pub agree_less : (n m : ℕ) (x y : State) → n ≤ m → Agree m x y → Agree n x y
agree_less n m x y s h i l = h i (omega (arith, s, l))

-- ---- forms
-- no coefficients but for the first n variables
abbrev pub FormOver : ℕ → Form → Type 0
FormOver n f = length f.coeffs ≤ n

-- a form has one value at states that agree on its variables
pub value-agrees : (n : ℕ) (f : Form) (x y : State) → FormOver n f → Agree n x y → value f x ≡ value f y
value-agrees n f x y o h =
    ap (λ d. d +ℤ f.constant) (dot-agrees f.coeffs x y (λ i l. h i (omega (arith, o, l))))

-- a form over some variables is over more
pub over_more : (n m : ℕ) (f : Form) → n ≤ m → FormOver n f → FormOver m f
over_more n m f s o = omega (arith, s, o)

-- a sum of forms over some variables is over these
pub over_plus : (n : ℕ) (f g : Form) → FormOver n f → FormOver n g → FormOver n (plus f g)
over_plus n f g o p = let e = length-sums f.coeffs g.coeffs in omega (arith, e, o, p)

length-map_times : (z : ℤ) (cs : List ℤ) → length (map (λ c. z *ℤ c) cs) ≡ length cs
length-map_times z [] = refl
length-map_times z (c ∷ cs) = ap suc (length-map_times z cs)

-- a multiple of a form over some variables is over these
pub over_scaled : (n : ℕ) (z : ℤ) (f : Form) → FormOver n f → FormOver n (scaled z f)
over_scaled n z f o = let e = length-map_times z f.coeffs in omega (arith, e, o)

-- a difference of forms over some variables is over these
pub over_minus : (n : ℕ) (f g : Form) → FormOver n f → FormOver n g → FormOver n (minus f g)
over_minus n f g o p = over_plus n f (opposite g) o (over_scaled n (negsuc 0) g p)

-- a constant is over any number of variables
pub over_constant : (n : ℕ) (z : ℤ) → FormOver n (constant_form z)
over_constant n z = omega arith

length-variable : (i : ℕ) → length (replicate i (pos 0) ++ (pos 1 ∷ [])) ≡ suc i
length-variable zero = refl
length-variable (suc i) = ap suc (length-variable i)

-- one of the first variables is over these
pub over_variable : (n i : ℕ) → i < n → FormOver n (variable_form i)
over_variable n i l = let e = length-variable i in omega (arith, e, l)

-- ---- conditions
-- no coefficients in the condition but for the first n variables
abbrev pub ConditionOver : ℕ → Condition → Type 0
ConditionOver n free = Unit {0}
ConditionOver n (compare rel f) = FormOver n f
ConditionOver n (negation c) = ConditionOver n c
ConditionOver n (both c d) = ConditionOver n c × ConditionOver n d
ConditionOver n (either c d) = ConditionOver n c × ConditionOver n d

-- a condition over some variables is over more
pub condition_over_more : (n m : ℕ) (c : Condition) → n ≤ m → ConditionOver n c → ConditionOver m c
condition_over_more n m free s o = tt
condition_over_more n m (compare rel f) s o = over_more n m f s o
condition_over_more n m (negation c) s o = condition_over_more n m c s o
condition_over_more n m (both c d) s o = (condition_over_more n m c s o.0, condition_over_more n m d s o.1)
condition_over_more n m (either c d) s o = (condition_over_more n m c s o.0, condition_over_more n m d s o.1)

-- a condition may have the same truths at states that agree on its variables
pub may_be-agrees : (n : ℕ) (t : Bool) (c : Condition) (x y : State) → ConditionOver n c → Agree n x y → MayBe t c x → MayBe t c y
may_be-agrees n t free x y o h m = tt
may_be-agrees n true (compare rel f) x y o h m = subst (λ v. Relates rel v) (value-agrees n f x y o h) m
may_be-agrees n false (compare rel f) x y o h m = subst (λ v. ¬ (Relates rel v)) (value-agrees n f x y o h) m
may_be-agrees n t (negation c) x y o h m = may_be-agrees n (not t) c x y o h m
may_be-agrees n true (both c d) x y o h m = (may_be-agrees n true c x y o.0 h m.0, may_be-agrees n true d x y o.1 h m.1)
may_be-agrees n false (both c d) x y o h m =
    ⊎_elim (λ k. inl (may_be-agrees n false c x y o.0 h k)) (λ k. inr (may_be-agrees n false d x y o.1 h k)) m
may_be-agrees n true (either c d) x y o h m =
    ⊎_elim (λ k. inl (may_be-agrees n true c x y o.0 h k)) (λ k. inr (may_be-agrees n true d x y o.1 h k)) m
may_be-agrees n false (either c d) x y o h m = (may_be-agrees n false c x y o.0 h m.0, may_be-agrees n false d x y o.1 h m.1)

-- each comparison holds or doesn't, so each condition may have a truth
related_or_not : (rel : Rel) (z : ℤ) → Relates rel z ⊎ ¬ (Relates rel z)
related_or_not Eq (pos zero) = inl refl
related_or_not Eq (pos (suc n)) = inr (λ e. omega (arith, ints, e))
related_or_not Eq (negsuc n) = inr (λ e. omega (arith, ints, e))
related_or_not Ne (pos zero) = inr (λ e. e refl)
related_or_not Ne (pos (suc n)) = inl (λ e. omega (arith, ints, e))
related_or_not Ne (negsuc n) = inl (λ e. omega (arith, ints, e))
related_or_not Lt (pos n) = inr (λ h. omega (arith, ints, h))
related_or_not Lt (negsuc n) = inl (omega (arith, ints))
related_or_not Le (pos zero) = inl (omega (arith, ints))
related_or_not Le (pos (suc n)) = inr (λ h. omega (arith, ints, h))
related_or_not Le (negsuc n) = inl (omega (arith, ints))
related_or_not Gt (pos zero) = inr (λ h. omega (arith, ints, h))
related_or_not Gt (pos (suc n)) = inl (omega (arith, ints))
related_or_not Gt (negsuc n) = inr (λ h. omega (arith, ints, h))
related_or_not Ge (pos n) = inl (omega (arith, ints))
related_or_not Ge (negsuc n) = inr (λ h. omega (arith, ints, h))

-- a condition may be true, or it may be false
pub has_truth : (c : Condition) (x : State) → (t : Bool) × MayBe t c x
has_truth free x = (true, tt)
has_truth (compare rel f) x = ⊎_elim (λ h. (true, h)) (λ h. (false, h)) (related_or_not rel (value f x))
has_truth (negation c) x = opposed (has_truth c x)
  where
    opposed : (t : Bool) × MayBe t c x → (t : Bool) × MayBe (not t) c x
    opposed (true, m) = (false, m)
    opposed (false, m) = (true, m)
has_truth (both c d) x = joint (has_truth c x) (has_truth d x)
  where
    joint : (t : Bool) × MayBe t c x → (t : Bool) × MayBe t d x → (t : Bool) × MayBe t (both c d) x
    joint (true, m) (true, k) = (true, (m, k))
    joint (true, m) (false, k) = (false, inr k)
    joint (false, m) k = (false, inl m)
has_truth (either c d) x = joint (has_truth c x) (has_truth d x)
  where
    joint : (t : Bool) × MayBe t c x → (t : Bool) × MayBe t d x → (t : Bool) × MayBe t (either c d) x
    joint (false, m) (false, k) = (false, (m, k))
    joint (false, m) (true, k) = (true, inr k)
    joint (true, m) k = (true, inl m)
