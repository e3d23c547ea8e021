-- What a code's run shows of `lp`: the outcome from the dictionary at which each phase ends, however the run finds it.
use Rattle.std.proofs.Common.{◌≡◌, ℕ, ◌<◌, ⊎_elim, Bool, true, false, ◌||◌, refl, ap, sym, ◌∙◌, arith, true≢false}
use Rattle.std.proofs.lemmas.Bool.{cases_lt}
use Rattle.base_numbers.specs.Rational.{ℚ, zero_ℚ, lt_ℚ, ◌≤ℚ◌}
use Rattle.base_numbers.proofs.rational.Laws.{not_le_of_lt}
use Rattle.lp_theory.specs.Search.{Search, none, found}
use Rattle.lp_theory.proofs.search.Searches.{IsLeast, LeastIs, lt_yes}

or_false : (a b : Bool) → a ≡ false → b ≡ false → a || b ≡ false
or_false true b e f = absurd (true≢false e)
or_false false b e f = f

-- what the search finds is the least
pub least_same : (p : ℕ → Bool) (f : ℕ → ℚ) (n : ℕ) (s : Search) (r : ℕ) → LeastIs p f n s → IsLeast p f n r → s ≡ found r
least_same p f n none r h k = absurd (true≢false (sym k.wanted ∙ h r k.below))
least_same p f n (found q) r h k = ap found (⊎_elim
    (λ l. absurd (not_le_of_lt (k.before q l h.wanted) (h.least r k.below k.wanted)))
    (λ l. ⊎_elim (λ m. absurd (not_le_of_lt (h.before r m k.wanted) (k.least q h.below h.wanted))) (λ m. omega (arith, l, m))
    (cases_lt r q))
    (cases_lt q r))

-- the search finds none where none is wanted
pub least_none : (p : ℕ → Bool) (f : ℕ → ℚ) (n : ℕ) (s : Search) → LeastIs p f n s → ((i : ℕ) → i < n → p i ≡ false) → s ≡ none
least_none p f n none h k = refl
least_none p f n (found q) h k = absurd (true≢false (sym h.wanted ∙ k q h.below))

below_no : (x : ℚ) (b : Bool) → lt_ℚ x zero_ℚ ≡ b → zero_ℚ ≤ℚ x → b ≡ false
below_no x true e i = absurd (not_le_of_lt (lt_yes x zero_ℚ e) i)
below_no x false e i = refl

-- the test for a number below 0 fails
pub not_below : (x : ℚ) → zero_ℚ ≤ℚ x → lt_ℚ x zero_ℚ ≡ false
not_below x i = below_no x (lt_ℚ x zero_ℚ) refl i
