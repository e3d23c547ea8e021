-- Every linear program has an outcome, which `lp` computes with its evidence.
use Rattle.std.proofs.Common.{◌≡◌, ℕ, zero, suc, ◌+◌, ◌^◌, ◌<◌, Bool, true, false, not, ◌||◌, refl, ap, sym, ◌∙◌, subst, arith, true≢false}
use Rattle.std.proofs.lemmas.Bool.{or_parts}
use Rattle.base_numbers.specs.Rational.{zero_ℚ, lt_ℚ, ◌≤ℚ◌, ◌<ℚ◌}
use Rattle.lp_theory.specs.Problem.{Problem, IsOutcome}
use Rattle.lp_theory.specs.Dictionary.{Dict, drop_zero}
use Rattle.lp_theory.specs.Search.{Search, none, found, first}
use Rattle.lp_theory.specs.Bland.{after, stops, index_of, IsGood}
use Rattle.lp_theory.specs.Simplex.{names, aux_row, first_dict, entered, lowest, is_over, phase_one_index, last_of_one, after_one}
use Rattle.lp_theory.specs.Simplex.{phase_one, lp_from, lp}
use Rattle.lp_theory.proofs.search.Searches.{FirstIs, first_is, LeastIs, least_is, lt_no, lt_yes}
use Rattle.lp_theory.proofs.search.Stops.{makes_step, after-suc, some_stop}
use Rattle.lp_theory.proofs.dictionary.Drops.{drop_form, drop_feasible, drop_means, drop_value, drop_means_back}
use Rattle.lp_theory.proofs.simplex.Roles.{first_form, first_free}
use Rattle.lp_theory.proofs.simplex.ReadOff.{first_means}
use Rattle.lp_theory.proofs.simplex.Outcomes.{IsMain, phase_two_is}
use Rattle.lp_theory.proofs.bland.PhaseOne.{first_feasible, entered_positive, entered_aux, IsAux, after_aux, aux_stays_positive, aux_stop}
use Rattle.lp_theory.proofs.bland.PhaseOne.{empty_of}

either_true : (a b : Bool) → a || b ≡ true → b ≡ false → a ≡ true
either_true true b e f = refl
either_true false b e f = absurd (true≢false (sym e ∙ f))

-- phase 1 is over at k and not before
pub record IsOver (P : Problem) (D : Dict) (k : ℕ) : Type 0 where
  -- the number of steps is below 2 to the number of names
  pub below : k < 2 ^ names P
  -- after this number of steps phase 1 is over
  pub over : is_over P D k ≡ true
  -- after fewer steps phase 1 isn't over
  pub before : (j : ℕ) → j < k → is_over P D j ≡ false

-- phase 1 is over after the number of steps that `phase_one_index` says, and not before
pub phase_one_index_is : (P : Problem) (D : Dict) → IsGood (names P) D → IsOver P D (phase_one_index P D)
unfolding phase_one_index
phase_one_index_is P D d = by (first (is_over P D) (2 ^ names P)) (first_is (is_over P D) (2 ^ names P))
  where
    by : (s : Search) → FirstIs (is_over P D) (2 ^ names P) s → IsOver P D (index_of s)
    by none h = absurd (some_stop (aux_row P) (names P) D d (λ j l. (or_parts
        (stops (aux_row P) (names P) (after (aux_row P) (names P) D j)) (not ((after (aux_row P) (names P) D j).basic 0)) (h j l)).0))
    by (found k) h = record { below = h.0; over = h.1; before = h.2 }

-- before any step
pub after-zero : (g n : ℕ) (D : Dict) → after g n D 0 ≡ D
unfolding after
after-zero g n D = refl

-- while the auxiliary variable is basic it is above 0
aux_positive : (P : Problem) (D : Dict) → IsAux P D → zero_ℚ <ℚ D.const 0 → (j : ℕ) → ((i : ℕ) → i < j → is_over P D i ≡ false)
    → (after (aux_row P) (names P) D j).basic 0 ≡ true → zero_ℚ <ℚ (after (aux_row P) (names P) D j).const 0
aux_positive P D d p zero h b = subst (λ E. zero_ℚ <ℚ E.const 0) (sym (after-zero (aux_row P) (names P) D)) p
aux_positive P D d p (suc j) h b =
    let A = after (aux_row P) (names P) D j in
    let s = or_parts (stops (aux_row P) (names P) (after (aux_row P) (names P) D j)) (not ((after (aux_row P) (names P) D j).basic 0))
    (h j (omega arith)) in
    let e = after-suc (aux_row P) (names P) D j in
    subst (λ E. zero_ℚ <ℚ E.const 0) (sym e)
    (aux_stays_positive P (after (aux_row P) (names P) D j) _ (after_aux (aux_row P) P D d j) _ _
    (makes_step (aux_row P) (names P) (after (aux_row P) (names P) D j) s.0) (ap (λ E. E.basic 0) (sym e) ∙ b))

-- the auxiliary variable dropped
pub dropped_main : (P : Problem) (D : Dict) → IsAux P D → D.basic 0 ≡ false → IsMain P (drop_zero D)
dropped_main P D d f =
    let m = P.rows + P.cols in
    record {
      good = record { form = drop_form (names P) D d.good.form; feasible = drop_feasible (names P) D d.good.feasible };
      out = λ V h. first_means P V (d.out V (drop_means_back (P.rows + P.cols) D d.good.form f V h));
      zero_out = λ V h. drop_value (P.rows + P.cols) D d.good.form f V h;
      into = λ V h z. drop_means (P.rows + P.cols) D V z (d.into V h);
    }

-- the first dictionary of a problem with no side below 0
pub first_aux : (P : Problem) → ((r : ℕ) → r < P.rows → zero_ℚ ≤ℚ P.side r) → IsAux P (first_dict P)
first_aux P h = record { good = record { form = first_form P; feasible = first_feasible P h }; out = λ V m. m; into = λ V m. m }

-- phase 1 ends with right evidence
phase_one_is : (P : Problem) (D : Dict) → IsAux P D → zero_ℚ <ℚ D.const 0 → IsOutcome P (phase_one P D)
unfolding phase_one last_of_one
phase_one_is P D d p = by ((last_of_one P D).basic 0) refl
  where
    w : IsOver P D (phase_one_index P D)
    w = phase_one_index_is P D d.good

    aux : IsAux P (after (aux_row P) (names P) D (phase_one_index P D))
    aux = after_aux (aux_row P) P D d (phase_one_index P D)

    by : (b : Bool) → (after (aux_row P) (names P) D (phase_one_index P D)).basic 0 ≡ b
        → IsOutcome P (after_one P (after (aux_row P) (names P) D (phase_one_index P D)) b)
    by true e =
        empty_of P (after (aux_row P) (names P) D (phase_one_index P D)) aux
        (aux_positive P D d p (phase_one_index P D) w.before e)
        (aux_stop P (after (aux_row P) (names P) D (phase_one_index P D)) aux
        (either_true (stops (aux_row P) (names P) (after (aux_row P) (names P) D (phase_one_index P D)))
        (not ((after (aux_row P) (names P) D (phase_one_index P D)).basic 0)) w.over (ap not e)))
    by false e = phase_two_is P (drop_zero (after (aux_row P) (names P) D (phase_one_index P D)))
        (dropped_main P (after (aux_row P) (names P) D (phase_one_index P D)) aux e)

lp_from_is : (P : Problem) (s : Search) → LeastIs (λ r. lt_ℚ (P.side r) zero_ℚ) P.side P.rows s → IsOutcome P (lp_from P s)
lp_from_is P none h = phase_two_is P (drop_zero (first_dict P)) (dropped_main P (first_dict P)
    (first_aux P (λ r l. lt_no (P.side r) zero_ℚ (h r l))) (first_free P 0 (omega arith)))
lp_from_is P (found r) h = phase_one_is P (entered P r) (entered_aux P r h)
    (entered_positive P r h.below (lt_yes (P.side r) zero_ℚ h.wanted))

-- the value of `lp` is right evidence of its outcome
pub lp_is : (P : Problem) → IsOutcome P (lp P)
unfolding lp lowest
lp_is P = lp_from_is P (lowest P) (least_is (λ r. lt_ℚ (P.side r) zero_ℚ) P.side P.rows)
