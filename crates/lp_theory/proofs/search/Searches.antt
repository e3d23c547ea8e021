-- What the searches below a bound find.
use Rattle.std.proofs.Common.{◌≡◌, ℕ, zero, suc, ◌<◌, ⊎_elim, Bool, true, false, cond, T, refl, ap, sym, ◌∙◌, subst, arith, true≢false}
use Rattle.std.proofs.lemmas.Bool.{cases_eq}
use Rattle.base_numbers.specs.Rational.{ℚ, lt_ℚ, ◌≤ℚ◌, ◌<ℚ◌}
use Rattle.base_numbers.proofs.rational.Laws.{≤ℚ_refl, ≤ℚ_trans, le_of_lt_ℚ, lt_of_lt_of_le_ℚ, le_of_not_lt_ℚ}
use Rattle.lp_theory.specs.Search.{Search, none, found, first, first_more, least, least_more}

-- a test that passed and one that failed
pub lt_yes : (a b : ℚ) → lt_ℚ a b ≡ true → a <ℚ b
lt_yes a b e = record { lt = subst T (sym e) tt }

-- a test that failed
pub lt_no : (a b : ℚ) → lt_ℚ a b ≡ false → b ≤ℚ a
lt_no a b e = le_of_not_lt_ℚ (λ h. subst T e h.lt)

-- a test that has to pass
pub lt_does : {a b : ℚ} → a <ℚ b → lt_ℚ a b ≡ true
lt_does {a} {b} h = by (lt_ℚ a b) h.lt
  where
    by : (t : Bool) → T t → t ≡ true
    by true u = refl
    by false u = absurd u

-- what `first p n` says
abbrev pub FirstIs : (ℕ → Bool) → ℕ → Search → Type 0
FirstIs p n none = (k : ℕ) → k < n → p k ≡ false
FirstIs p n (found k) = (k < n) × (p k ≡ true) × ((j : ℕ) → j < k → p j ≡ false)

first_step : (p : ℕ → Bool) (n : ℕ) (s : Search) → FirstIs p n s → (b : Bool) → p n ≡ b → FirstIs p (suc n) (first_more n s b)
first_step p n (found k) h b e = (omega (arith, h.0), h.1, h.2)
first_step p n none h true e = (omega arith, e, h)
first_step p n none h false e = λ k l. ⊎_elim (λ q. ap p q ∙ e) (λ q. h k (omega (arith, q))) (cases_eq k n)

-- `first` finds what it says
pub first_is : (p : ℕ → Bool) (n : ℕ) → FirstIs p n (first p n)
unfolding first
first_is p zero = λ k l. absurd (omega arith)
first_is p (suc n) = first_step p n (first p n) (first_is p n) (p n) refl

-- what `least p f n` says
pub record IsLeast (p : ℕ → Bool) (f : ℕ → ℚ) (n r : ℕ) : Type 0 where
  -- the index is below the bound
  pub below : r < n
  -- the test holds at the index
  pub wanted : p r ≡ true
  -- no index below the bound at which the test holds has a lesser value
  pub least : (i : ℕ) → i < n → p i ≡ true → f r ≤ℚ f i
  -- each earlier index at which the test holds has a greater value
  pub before : (i : ℕ) → i < r → p i ≡ true → f r <ℚ f i

-- what `least p f n` says
abbrev pub LeastIs : (ℕ → Bool) → (ℕ → ℚ) → ℕ → Search → Type 0
LeastIs p f n none = (k : ℕ) → k < n → p k ≡ false
LeastIs p f n (found r) = IsLeast p f n r

least_step : (p : ℕ → Bool) (f : ℕ → ℚ) (n : ℕ) (s : Search) → LeastIs p f n s → (b : Bool) → p n ≡ b
    → LeastIs p f (suc n) (least_more f n s b)
least_step p f n (found r) h true e = by (lt_ℚ (f n) (f r)) refl
  where
    by : (t : Bool) → lt_ℚ (f n) (f r) ≡ t → LeastIs p f (suc n) (cond t (found n) (found r))
    by true g =
        let l = lt_yes (f n) (f r) g in
        record {
          below = omega arith;
          wanted = e;
          least = λ i m w. ⊎_elim (λ q. subst (λ x. f n ≤ℚ f x) (sym q) (≤ℚ_refl (f n)))
              (λ q. ≤ℚ_trans (le_of_lt_ℚ l) (h.least i (omega (arith, q)) w)) (cases_eq i n);
          before = λ i m w. lt_of_lt_of_le_ℚ l (h.least i m w);
        }
    by false g =
        let l = lt_no (f n) (f r) g in
        record {
          below = omega (arith, h.below);
          wanted = h.wanted;
          least = λ i m w. ⊎_elim (λ q. subst (λ x. f r ≤ℚ f x) (sym q) l) (λ q. h.least i (omega (arith, q)) w) (cases_eq i n);
          before = h.before;
        }
least_step p f n (found r) h false e = record {
  below = omega (arith, h.below);
  wanted = h.wanted;
  least = λ i m w. ⊎_elim (λ q. absurd (true≢false (sym w ∙ ap p q ∙ e))) (λ q. h.least i (omega (arith, q)) w) (cases_eq i n);
  before = h.before;
}
least_step p f n none h true e = record {
  below = omega arith;
  wanted = e;
  least = λ i m w. ⊎_elim (λ q. subst (λ x. f n ≤ℚ f x) (sym q) (≤ℚ_refl (f n))) (λ q. absurd (true≢false (sym w ∙ h i (omega (arith, q)))))
      (cases_eq i n);
  before = λ i m w. absurd (true≢false (sym w ∙ h i m));
}
least_step p f n none h false e = λ k l. ⊎_elim (λ q. ap p q ∙ e) (λ q. h k (omega (arith, q))) (cases_eq k n)

-- `least` finds what it says
pub least_is : (p : ℕ → Bool) (f : ℕ → ℚ) (n : ℕ) → LeastIs p f n (least p f n)
unfolding least
least_is p f zero = λ k l. absurd (omega arith)
least_is p f (suc n) = least_step p f n (least p f n) (least_is p f n) (p n) refl
