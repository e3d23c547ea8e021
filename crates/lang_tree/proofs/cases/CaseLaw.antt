-- A condition may have a truth exactly where all guards of some case hold.
use Rattle.std.proofs.Common.{◌≡◌, ◌≢◌, ◌∙◌, ◌↔◌, ◌⊎◌, inl, inr, ⊎_elim, zero, suc, Bool, true, false, List, [], ◌∷◌, ◌++◌, ◌*◌, map, arith}
use Rattle.std.proofs.Common.{refl, sym, ap}
use Rattle.std.specs.Prelude.{ℤ, pos, negsuc, ◌+ℤ◌, ◌*ℤ◌, ◌≤ℤ◌, ◌<ℤ◌, neg_ℤ}
use Rattle.std.proofs.lemmas.Int.{ints}
use Rattle.std.proofs.Math.IntN.{neg_ℤ-+ℤ, neg_ℤ-neg_ℤ, zero-*ℤ, negsuc-*ℤ-pos, negsuc-*ℤ-negsuc, pos-*ℤ-negsuc}
use Rattle.lang_tree.specs.declared.form.Form.{Form}
use Rattle.lang_tree.specs.declared.cond.Rel.{Rel}
use Rattle.lang_tree.specs.declared.cond.Rel.TheVariants.{Eq, Ne, Lt, Le, Gt, Ge}
use Rattle.lang_tree.specs.Tree.{free, compare, negation, both, either}
use Rattle.lang_tree.specs.Meaning.{State, dot, value, MayBe}
use Rattle.lang_tree.specs.Cases.{plus_one, negated, comparison_cases, crossed, cases_of, HoldAll, HoldSome, CasesAreTruth}

-- ---- the values of the guards
neg-times : (a b : ℤ) → neg_ℤ a *ℤ b ≡ neg_ℤ (a *ℤ b)
neg-times (pos zero) b = zero-*ℤ b ∙ ap neg_ℤ (sym (zero-*ℤ b))
neg-times (pos (suc n)) (pos m) = negsuc-*ℤ-pos n m
neg-times (pos (suc n)) (negsuc m) = negsuc-*ℤ-negsuc n m ∙ sym (neg_ℤ-neg_ℤ (pos (suc n * suc m)))
    ∙ ap neg_ℤ (sym (pos-*ℤ-negsuc (suc n) m))
neg-times (negsuc n) (pos m) = sym (neg_ℤ-neg_ℤ (pos (suc n * m))) ∙ ap neg_ℤ (sym (negsuc-*ℤ-pos n m))
neg-times (negsuc n) (negsuc m) = pos-*ℤ-negsuc (suc n) m ∙ ap neg_ℤ (sym (negsuc-*ℤ-negsuc n m))

dot-negated : (cs : List ℤ) (xs : State) → dot (map neg_ℤ cs) xs ≡ neg_ℤ (dot cs xs)
dot-negated [] xs = refl
dot-negated (c ∷ cs) [] = refl
dot-negated (c ∷ cs) (x ∷ xs) = rw (neg_ℤ-+ℤ, dot-negated cs xs, neg-times c x)

value-negated : (f : Form) (x : State) → value (negated f) x ≡ neg_ℤ (value f x)
value-negated f x = rw (dot-negated f.coeffs x) (sym (neg_ℤ-+ℤ (dot f.coeffs x) f.constant))

value-plus_one : (f : Form) (x : State) → value (plus_one f) x ≡ value f x +ℤ pos 1
value-plus_one f x = let d = dot f.coeffs x in omega (arith, ints)

-- ---- one guard, and the case of it alone
one : {A : Type 0} → A ↔ ((A × Unit {0}) ⊎ ⊥)
one {A} = ((λ a. inl (a, tt)), (λ h. ⊎_elim (λ p. p.0) (λ e. absurd e) h))

-- ---- what isn't so
not_below : (z : ℤ) → ¬ (z <ℤ pos 0) → pos 0 ≤ℤ z
not_below (pos n) h = omega (arith, ints)
not_below (negsuc n) h = absurd (h (omega (arith, ints)))

not_at_least : (z : ℤ) → ¬ (pos 0 ≤ℤ z) → z <ℤ pos 0
not_at_least (pos n) h = absurd (h (omega (arith, ints)))
not_at_least (negsuc n) h = omega (arith, ints)

not_at_most : (z : ℤ) → ¬ (z ≤ℤ pos 0) → pos 0 <ℤ z
not_at_most (pos zero) h = absurd (h (omega (arith, ints)))
not_at_most (pos (suc n)) h = omega (arith, ints)
not_at_most (negsuc n) h = absurd (h (omega (arith, ints)))

not_above : (z : ℤ) → ¬ (pos 0 <ℤ z) → z ≤ℤ pos 0
not_above (pos zero) h = omega (arith, ints)
not_above (pos (suc n)) h = absurd (h (omega (arith, ints)))
not_above (negsuc n) h = omega (arith, ints)

not_unequal : (z : ℤ) → ¬ (z ≢ pos 0) → z ≡ pos 0
not_unequal (pos zero) h = refl
not_unequal (pos (suc n)) h = absurd (h (λ e. omega (arith, ints)))
not_unequal (negsuc n) h = absurd (h (λ e. omega (arith, ints)))

apart : (z : ℤ) → z ≢ pos 0 → (z <ℤ pos 0) ⊎ (pos 0 <ℤ z)
apart (pos zero) h = absurd (h refl)
apart (pos (suc n)) h = inr (omega (arith, ints))
apart (negsuc n) h = inl (omega (arith, ints))

-- ---- equal to 0 and not
equal_out : (f : Form) (x : State) → value f x ≡ pos 0 → HoldSome x ((f ∷ (negated f ∷ [])) ∷ [])
equal_out f x h = let n = value-negated f x in inl (omega (arith, ints), (omega (arith, ints), tt))

equal_in : (f : Form) (x : State) → HoldSome x ((f ∷ (negated f ∷ [])) ∷ []) → value f x ≡ pos 0
equal_in f x (inl h) = let n = value-negated f x in let a = h.0 in let b = h.1.0 in omega (arith, ints)
equal_in f x (inr h) = absurd h

unequal_out : (f : Form) (x : State) → value f x ≢ pos 0 → HoldSome x ((plus_one f ∷ []) ∷ ((plus_one (negated f) ∷ []) ∷ []))
unequal_out f x h =
    let n = value-negated f x in
    let p = value-plus_one f x in
    let q = value-plus_one (negated f) x in
    ⊎_elim (λ b. inl (omega (arith, ints), tt)) (λ a. inr (inl (omega (arith, ints), tt))) (apart (value f x) h)

unequal_in : (f : Form) (x : State) → HoldSome x ((plus_one f ∷ []) ∷ ((plus_one (negated f) ∷ []) ∷ [])) → value f x ≢ pos 0
unequal_in f x (inl h) e = let p = value-plus_one f x in let a = h.0 in omega (arith, ints)
unequal_in f x (inr (inl h)) e = let n = value-negated f x in let q = value-plus_one (negated f) x in let a = h.0 in omega (arith, ints)
unequal_in f x (inr (inr h)) e = absurd h

-- ---- a comparison holds, or fails, exactly where all guards of one of its cases hold
comparison : (truth : Bool) (r : Rel) (f : Form) (x : State) → MayBe truth (compare r f) x ↔ HoldSome x (comparison_cases truth r f)
comparison true Lt f x = let p = value-plus_one f x in ((λ h. one.0 (omega (arith, ints))), (λ h. let k = one.1 h in omega (arith, ints)))
comparison false Lt f x = let n = value-negated f x in (
  (λ h. let k = not_below (value f x) h in one.0 (omega (arith, ints))),
  (λ h k. let g = one.1 h in omega (arith, ints)),
)
comparison true Le f x = one
comparison false Le f x =
    let n = value-negated f x in
    let p = value-plus_one (negated f) x in
    ((λ h. let k = not_at_most (value f x) h in one.0 (omega (arith, ints))), (λ h k. let g = one.1 h in omega (arith, ints)))
comparison true Gt f x =
    let n = value-negated f x in
    let p = value-plus_one (negated f) x in
    ((λ h. one.0 (omega (arith, ints))), (λ h. let g = one.1 h in omega (arith, ints)))
comparison false Gt f x = ((λ h. one.0 (not_above (value f x) h)), (λ h k. let g = one.1 h in omega (arith, ints)))
comparison true Ge f x = let n = value-negated f x in ((λ h. one.0 (omega (arith, ints))), (λ h. let g = one.1 h in omega (arith, ints)))
comparison false Ge f x = let p = value-plus_one f x in (
  (λ h. let k = not_at_least (value f x) h in one.0 (omega (arith, ints))),
  (λ h k. let g = one.1 h in omega (arith, ints)),
)
comparison true Eq f x = (equal_out f x, equal_in f x)
comparison false Eq f x = (unequal_out f x, unequal_in f x)
comparison true Ne f x = (unequal_out f x, unequal_in f x)
comparison false Ne f x = ((λ h. equal_out f x (not_unequal (value f x) h)), (λ h k. k (equal_in f x h)))

-- ---- lists of cases
hold-append : (x : State) (a b : List Form) → HoldAll x (a ++ b) ↔ (HoldAll x a × HoldAll x b)
hold-append x [] b = ((λ h. (tt, h)), (λ h. h.1))
hold-append x (g ∷ a) b = (
  (λ h. let r = (hold-append x a b).0 h.1 in ((h.0, r.0), r.1)),
  (λ h. (h.0.0, (hold-append x a b).1 (h.0.1, h.1))),
)

some-append : (x : State) (cs bs : List (List Form)) → HoldSome x (cs ++ bs) ↔ (HoldSome x cs ⊎ HoldSome x bs)
some-append x [] bs = ((λ h. inr h), (λ h. ⊎_elim (λ e. absurd e) (λ b. b) h))
some-append x (a ∷ cs) bs = (
  (λ h. ⊎_elim (λ k. inl (inl k)) (λ k. ⊎_elim (λ m. inl (inr m)) (λ m. inr m) ((some-append x cs bs).0 k)) h),
  (λ h. ⊎_elim (λ k. ⊎_elim (λ m. inl m) (λ m. inr ((some-append x cs bs).1 (inl m))) k) (λ k. inr ((some-append x cs bs).1 (inr k))) h),
)

-- a case followed by each of the others
some_after : (x : State) (a : List Form) (bs : List (List Form)) → HoldSome x (map (λ b. a ++ b) bs) ↔ (HoldAll x a × HoldSome x bs)
some_after x a [] = ((λ h. absurd h), (λ h. absurd h.1))
some_after x a (b ∷ bs) = (
  (λ h. ⊎_elim (λ k. let r = (hold-append x a b).0 k in (r.0, inl r.1)) (λ k. let r = (some_after x a bs).0 k in (r.0, inr r.1)) h),
  (λ h. ⊎_elim (λ k. inl ((hold-append x a b).1 (h.0, k))) (λ k. inr ((some_after x a bs).1 (h.0, k))) h.1),
)

some-crossed : (x : State) (cs bs : List (List Form)) → HoldSome x (crossed cs bs) ↔ (HoldSome x cs × HoldSome x bs)
some-crossed x [] bs = ((λ h. absurd h), (λ h. absurd h.0))
some-crossed x (a ∷ cs) bs = (
  (λ h.
      ⊎_elim (λ k. let r = (some_after x a bs).0 k in (inl r.0, r.1)) (λ k. let r = (some-crossed x cs bs).0 k in (inr r.0, r.1))
      ((some-append x (map (λ b. a ++ b) bs) (crossed cs bs)).0 h)),
  (λ h.
      (some-append x (map (λ b. a ++ b) bs) (crossed cs bs)).1
      (⊎_elim (λ k. inl ((some_after x a bs).1 (k, h.1))) (λ k. inr ((some-crossed x cs bs).1 (k, h.1))) h.0)),
)

-- ---- both and either
pairs : {A B C D : Type 0} → A ↔ C → B ↔ D → (A × B) ↔ (C × D)
pairs e f = ((λ h. (e.0 h.0, f.0 h.1)), (λ h. (e.1 h.0, f.1 h.1)))

sums : {A B C D : Type 0} → A ↔ C → B ↔ D → (A ⊎ B) ↔ (C ⊎ D)
sums e f = ((λ h. ⊎_elim (λ a. inl (e.0 a)) (λ b. inr (f.0 b)) h), (λ h. ⊎_elim (λ a. inl (e.1 a)) (λ b. inr (f.1 b)) h))

through : {A B C : Type 0} → A ↔ B → C ↔ B → A ↔ C
through e f = ((λ h. f.1 (e.0 h)), (λ h. e.1 (f.0 h)))

-- a condition may have a truth exactly where all guards of some case of it hold
pub cases_law : CasesAreTruth
cases_law true free x = ((λ h. inl tt), (λ h. tt))
cases_law false free x = ((λ h. inl tt), (λ h. tt))
cases_law true (compare r f) x = comparison true r f x
cases_law false (compare r f) x = comparison false r f x
cases_law true (negation c) x = cases_law false c x
cases_law false (negation c) x = cases_law true c x
cases_law true (both a b) x = through (pairs (cases_law true a x) (cases_law true b x)) (some-crossed x (cases_of true a) (cases_of true b))
cases_law false (both a b) x = through (sums (cases_law false a x) (cases_law false b x))
    (some-append x (cases_of false a) (cases_of false b))
cases_law true (either a b) x = through (sums (cases_law true a x) (cases_law true b x)) (some-append x (cases_of true a) (cases_of true b))
cases_law false (either a b) x = through (pairs (cases_law false a x) (cases_law false b x))
    (some-crossed x (cases_of false a) (cases_of false b))
