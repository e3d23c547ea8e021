-- The iteration of Bland's rule from a feasible dictionary stops, after `stop_index` steps.
use Rattle.std.proofs.Common.{◌≡◌, ℕ, zero, suc, ◌+◌, ◌-◌, ◌^◌, ◌<◌, ◌≤◌, ⊎_elim, true, false, refl, ap, sym, ◌∙◌, arith, true≢false}
use Rattle.std.proofs.lemmas.Bool.{cases_lt}
use Rattle.base_numbers.specs.Rational.{ℚ}
use Rattle.base_numbers.proofs.rational.Laws.{ne_of_lt_ℚ}
use Rattle.lp_theory.specs.Dictionary.{Dict, Models}
use Rattle.lp_theory.specs.Search.{Search, none, found, first}
use Rattle.lp_theory.specs.Bland.{Choice, optimal, ray, step, choose, take_step, next, after, is_stop, stops, index_of, stop_index}
use Rattle.lp_theory.specs.Bland.{ChoiceIs, IsStep, IsGood, IsStop, IsChain, enter_of, leave_of}
use Rattle.lp_theory.proofs.Pivots.{pivot_means, pivot_means_back}
use Rattle.lp_theory.proofs.search.Searches.{FirstIs, first_is}
use Rattle.lp_theory.proofs.search.Steps.{choose_is, enters_free, step_form, step_feasible}
use Rattle.lp_theory.proofs.NoRepeat.{no_repeat}
use Rattle.lp_theory.proofs.bland.Pigeons.{pigeonhole, code, code_below, code_same}

step_at : (g n : ℕ) (D : Dict) (x : Choice) → ChoiceIs g n D x → is_stop x ≡ false → IsStep g n D (take_step D x) (enter_of x) (leave_of x)
step_at g n D optimal h e = absurd (true≢false e)
step_at g n D (ray c) h e = absurd (true≢false e)
step_at g n D (step c r) h e = record { enters = h.0; leaves = h.1; is = refl }

-- where the rule does not stop, it makes a pivot
pub makes_step : (g n : ℕ) (D : Dict) → stops g n D ≡ false → IsStep g n D (next g n D) (enter_of (choose g n D)) (leave_of (choose g n D))
unfolding next
makes_step g n D e = step_at g n D (choose g n D) (choose_is g n D) e

good_at : (g n : ℕ) (D : Dict) → IsGood n D → (x : Choice) → ChoiceIs g n D x → IsGood n (take_step D x)
good_at g n D d optimal h = d
good_at g n D d (ray c) h = d
good_at g n D d (step c r) h = record { form = step_form g n D d.form c r h.0 h.1; feasible = step_feasible n D d.feasible c r h.1 }

means_at : (g n : ℕ) (D : Dict) (x : Choice) → ChoiceIs g n D x → (V : ℕ → ℚ) → Models n D V → Models n (take_step D x) V
means_at g n D optimal h V m = m
means_at g n D (ray c) h V m = m
means_at g n D (step c r) h V m = pivot_means n D r c h.1.name V m

means_back_at : (g n : ℕ) (D : Dict) → IsGood n D → (x : Choice) → ChoiceIs g n D x → (V : ℕ → ℚ) → Models n (take_step D x) V
    → Models n D V
means_back_at g n D d optimal h V m = m
means_back_at g n D d (ray c) h V m = m
means_back_at g n D d (step c r) h V m = pivot_means_back n D d.form r c h.1.name (enters_free g n D d.form c h.0.gains)
    (λ z. ne_of_lt_ℚ h.1.falls z) V m

-- each dictionary of the iteration is good
pub after_good : (g n : ℕ) (D : Dict) → IsGood n D → (j : ℕ) → IsGood n (after g n D j)
unfolding after next
after_good g n D d zero = d
after_good g n D d (suc j) = let E = after g n D j in good_at g n (after g n D j) (after_good g n D d j) (choose g n (after g n D j))
    (choose_is g n (after g n D j))

-- each dictionary of the iteration means all that the first one means
pub after_means : (g n : ℕ) (D : Dict) (V : ℕ → ℚ) → Models n D V → (j : ℕ) → Models n (after g n D j) V
unfolding after next
after_means g n D V m zero = m
after_means g n D V m (suc j) = means_at g n (after g n D j) (choose g n (after g n D j)) (choose_is g n (after g n D j)) V
    (after_means g n D V m j)

-- each dictionary of the iteration means no more
pub after_means_back : (g n : ℕ) (D : Dict) → IsGood n D → (V : ℕ → ℚ) (j : ℕ) → Models n (after g n D j) V → Models n D V
unfolding after next
after_means_back g n D d V zero m = m
after_means_back g n D d V (suc j) m = after_means_back g n D d V j (means_back_at g n (after g n D j) (after_good g n D d j)
    (choose g n (after g n D j)) (choose_is g n (after g n D j)) V m)

-- one more step
pub after-suc : (g n : ℕ) (D : Dict) (j : ℕ) → after g n D (suc j) ≡ next g n (after g n D j)
unfolding after
after-suc g n D j = refl

-- the dictionaries from number i on are a chain while the rule does not stop
pub chain_from : (g n : ℕ) (D : Dict) → IsGood n D → (i k : ℕ) → ((j : ℕ) → j < k + i → stops g n (after g n D j) ≡ false) →
    IsChain g n (λ l. after g n D (l + i)) (λ l. enter_of (choose g n (after g n D (l + i))))
    (λ l. leave_of (choose g n (after g n D (l + i)))) k
chain_from g n D d i k h = record {
  form = λ j l. (after_good g n D d (j + i)).form;
  feasible = λ j l. (after_good g n D d (j + i)).feasible;
  enters = λ j l. (makes_step g n (after g n D (j + i)) (h (j + i) (omega (arith, l)))).enters;
  leaves = λ j l. (makes_step g n (after g n D (j + i)) (h (j + i) (omega (arith, l)))).leaves;
  next = λ j l.
      let e : suc j + i ≡ suc (j + i) = omega arith in
      ap (after g n D) e ∙ after-suc g n D (j + i) ∙ (makes_step g n (after g n D (j + i)) (h (j + i) (omega (arith, l)))).is;
}

-- the rule does not go on for 2 ^ n steps
pub some_stop : (g n : ℕ) (D : Dict) → IsGood n D → ((j : ℕ) → j < 2 ^ n → stops g n (after g n D j) ≡ false) → ⊥
some_stop g n D d h =
    let w = pigeonhole (2 ^ n) (λ j. code (after g n D j).basic n) (λ j l. code_below (after g n D j).basic n) in
    clashes w.0 w.1 w.2 w.3 w.4
  where
    clashes : (i j : ℕ) → i < j → j ≤ 2 ^ n → code (after g n D i).basic n ≡ code (after g n D j).basic n → ⊥
    clashes i j l m e =
        let k = j - i in
        let s : (j - i) + i ≡ j = omega (arith, l) in
        let z : 0 + i ≡ i = omega arith in
        let p : 0 < j - i = omega (arith, l) in
        no_repeat g n (λ l. after g n D (l + i)) (λ l. enter_of (choose g n (after g n D (l + i))))
        (λ l. leave_of (choose g n (after g n D (l + i)))) (j - i)
        (chain_from g n D d i (j - i) (λ a b. h a (omega (arith, b, s, m))))
        p
        (λ q b. ap (λ x. (after g n D x).basic q) z ∙ code_same (after g n D i).basic (after g n D j).basic n e q b
        ∙ ap (λ x. (after g n D x).basic q) (sym s))

-- from a good dictionary the rule makes `stop_index` pivots and then stops
pub stop_index_is : (g n : ℕ) (D : Dict) → IsGood n D → IsStop g n D (stop_index g n D)
unfolding stop_index
stop_index_is g n D d = by (first (λ j. stops g n (after g n D j)) (2 ^ n)) (first_is (λ j. stops g n (after g n D j)) (2 ^ n))
  where
    by : (s : Search) → FirstIs (λ j. stops g n (after g n D j)) (2 ^ n) s → IsStop g n D (index_of s)
    by none h = absurd (some_stop g n D d h)
    by (found k) h = record { below = h.0; stop = h.1; before = h.2 }

-- an index at which the rule stops and before which it does not is the stop index
stop_index_only : (g n : ℕ) (D : Dict) → IsGood n D → (k : ℕ) → stops g n (after g n D k) ≡ true
    → ((j : ℕ) → j < k → stops g n (after g n D j) ≡ false) → stop_index g n D ≡ k
stop_index_only g n D d k s b =
    let w = stop_index_is g n D d in
    ⊎_elim (λ l. absurd (true≢false (sym w.stop ∙ b (stop_index g n D) l)))
    (λ l. ⊎_elim (λ m. absurd (true≢false (sym s ∙ w.before k m))) (λ m. omega (arith, l, m)) (cases_lt k (stop_index g n D)))
    (cases_lt (stop_index g n D) k)
