-- Phase 1: the special first pivot, the auxiliary variable stays above 0 until it leaves, and the end.
use Rattle.std.proofs.Common.{◌≡◌, ◌≢◌, ℕ, suc, ◌<◌, ⊎_elim, true, [], ◌∷◌, ap, sym, ◌∙◌, subst, arith, true≢false}
use Rattle.std.proofs.lemmas.Bool.{cases_eq, cases_Bool}
use Rattle.base_numbers.specs.Rational.{ℚ, zero_ℚ, one_ℚ, ◌*ℚ◌, neg_ℚ, ◌-ℚ◌, lt_ℚ, ◌≤ℚ◌, ◌<ℚ◌}
use Rattle.base_numbers.proofs.rational.Laws.{one_ne_zero, not_le_of_lt, ≤ℚ_refl, *ℚ_pos}
use Rattle.base_numbers.proofs.tactics.Linear.{gap_lt}
use Rattle.base_numbers.proofs.tactics.Linarith.{lin_le, lin_lt, le, lt, eq, eq_times, lin_eq, gt0, reads_all}
use Rattle.lp_theory.specs.Problem.{Problem, mixed, mixed_side, IsEmpty}
use Rattle.lp_theory.specs.Dictionary.{delta, Dict, Models, IsDict, IsFeasible, share, pivot}
use Rattle.lp_theory.specs.Bland.{ratio_of, Enters, Choice, optimal, ray, step, choose, after, stops, is_stop, ChoiceIs, IsStep, IsGood}
use Rattle.lp_theory.specs.Simplex.{names, aux_row, slack_name, slack_coef, aux_coef, first_dict, multipliers, entered}
use Rattle.lp_theory.proofs.Sums.{delta_same, delta_other}
use Rattle.lp_theory.proofs.dictionary.Dictionaries.{along, along_models, basic_models}
use Rattle.lp_theory.proofs.Pivots.{pivot-const, pivot_leaves, share_times, pivot_form, pivot_means, pivot_means_back}
use Rattle.lp_theory.proofs.search.Searches.{lt_no, lt_yes, IsLeast}
use Rattle.lp_theory.proofs.search.Steps.{choose_is, ratio_times, const_moves, enters_free, leaves_basic}
use Rattle.lp_theory.proofs.search.Stops.{after_good, after_means, after_means_back}
use Rattle.lp_theory.proofs.simplex.Roles.{NameCase, is_zero, is_column, is_slack, name_cases, role-column, role-zero, first_form}
use Rattle.lp_theory.proofs.simplex.Roles.{first_free, first_basic, first-slack, first-aux, first-const_slack, first-const_aux}
use Rattle.lp_theory.proofs.simplex.ReadOff.{first_means, read_const, read_column}
use Rattle.lp_theory.proofs.simplex.Outcomes.{multipliers_nonneg}

-- the first dictionary is feasible where no side is below 0
pub first_feasible : (P : Problem) → ((r : ℕ) → r < P.rows → zero_ℚ ≤ℚ P.side r) → IsFeasible (names P) (first_dict P)
first_feasible P h = record { nonneg = λ i l. at i (name_cases P i l) }
  where
    at : (i : ℕ) → NameCase P i → zero_ℚ ≤ℚ (first_dict P).const i
    at i (is_zero e) = subst (λ x. zero_ℚ ≤ℚ x) (sym ((first_form P).still i (first_free P i (omega (arith, e))))) (≤ℚ_refl zero_ℚ)
    at i (is_column j l e) = subst (λ x. zero_ℚ ≤ℚ x) (sym ((first_form P).still i (first_free P i (omega (arith, e, l))))) (≤ℚ_refl zero_ℚ)
    at i (is_slack r l e) = subst (λ x. zero_ℚ ≤ℚ (first_dict P).const x) (sym e)
        (subst (λ x. zero_ℚ ≤ℚ x) (sym (first-const_slack P r l)) (h r l))

-- the entry of the special first pivot is 1
first_entry : (P : Problem) (r : ℕ) → r < P.rows → (first_dict P).coef (slack_name P r) 0 ≡ one_ℚ
first_entry P r l = first-slack P r 0 l ∙ ap (slack_coef P r) (role-zero P)

first_entry_not : (P : Problem) (r : ℕ) → r < P.rows → (first_dict P).coef (slack_name P r) 0 ≢ zero_ℚ
first_entry_not P r l e = one_ne_zero (sym (first_entry P r l) ∙ e)

-- its constants: the row's side is taken away as often as the auxiliary variable occurs
entered-const : (P : Problem) (r i : ℕ) → r < P.rows → (entered P r).const i ≡ (first_dict P).const i -ℚ (first_dict P).coef i 0 *ℚ P.side r
entered-const P r i l =
    let s = share_times (first_dict P) (slack_name P r) 0 i (first_entry_not P r l) in
    let o = first_entry P r l in
    let c = first-const_slack P r l in
    pivot-const (first_dict P) (slack_name P r) 0 i
    ∙ lin_eq ((first_dict P).const i ∷ share (first_dict P) (slack_name P r) 0 i ∷ (first_dict P).const (slack_name P r)
    ∷ (first_dict P).coef i 0 ∷ (first_dict P).coef (slack_name P r) 0 ∷ P.side r ∷ [])
    (eq_times (P.side r) s ∷ eq_times (share (first_dict P) (slack_name P r) 0 i *ℚ P.side r) o
    ∷ eq_times (share (first_dict P) (slack_name P r) 0 i) c ∷ []) (search reads_all depth 40 fits 9000) tt

-- the special first pivot keeps the form
entered_form : (P : Problem) (r : ℕ) → r < P.rows → IsDict (names P) (entered P r)
entered_form P r l = pivot_form (names P) (first_dict P) (first_form P) (slack_name P r) 0 (omega (arith, l)) (omega arith)
    (first_basic P (slack_name P r) (omega arith)) (first_free P 0 (omega arith)) (first_entry_not P r l)

-- the least side below 0 enters the auxiliary variable: feasible, and it is above 0
pub entered_good : (P : Problem) (r : ℕ) → IsLeast (λ r. lt_ℚ (P.side r) zero_ℚ) P.side P.rows r → IsGood (names P) (entered P r)
entered_good P r w = record {
  form = entered_form P r w.below;
  feasible =
      record { nonneg = λ i l. subst (λ x. zero_ℚ ≤ℚ x) (sym (entered-const P r i w.below)) (at i (name_cases P i l)) };
}
  where
    low : P.side r <ℚ zero_ℚ
    low = lt_yes (P.side r) zero_ℚ w.wanted

    least_side : (s : ℕ) → s < P.rows → P.side r ≤ℚ P.side s
    least_side s l = ⊎_elim (λ b. w.least s l b) (λ b. let a = lt_no (P.side s) zero_ℚ b in let d = low in
        lin_le (P.side r ∷ P.side s ∷ []) (le a ∷ lt d ∷ []) (search reads_all depth 40) tt) (cases_Bool (lt_ℚ (P.side s) zero_ℚ))

    at : (i : ℕ) → NameCase P i → zero_ℚ ≤ℚ (first_dict P).const i -ℚ (first_dict P).coef i 0 *ℚ P.side r
    at i (is_zero e) =
        let f = first_free P i (omega (arith, e)) in
        let c = (first_form P).still i f in
        let o : (first_dict P).coef i 0 ≡ one_ℚ = (first_form P).unit i 0 f ∙ ap (λ x. delta x 0) e ∙ delta_same 0 in
        let d = low in
        lin_le ((first_dict P).const i ∷ (first_dict P).coef i 0 ∷ P.side r ∷ []) (eq c ∷ eq_times (P.side r) o ∷ lt d ∷ [])
        (search reads_all depth 40) tt
    at i (is_column j l e) =
        let f = first_free P i (omega (arith, e, l)) in
        let c = (first_form P).still i f in
        let o : (first_dict P).coef i 0 ≡ zero_ℚ = (first_form P).unit i 0 f ∙ delta_other i 0 (λ q. omega (arith, e, q)) in
        lin_le ((first_dict P).const i ∷ (first_dict P).coef i 0 ∷ P.side r ∷ []) (eq c ∷ eq_times (P.side r) o ∷ [])
        (search reads_all depth 40) tt
    at i (is_slack s l e) =
        let c : (first_dict P).const i ≡ P.side s = ap (first_dict P).const e ∙ first-const_slack P s l in
        let o : (first_dict P).coef i 0 ≡ one_ℚ = ap (λ x. (first_dict P).coef x 0) e ∙ first_entry P s l in
        let m = least_side s l in
        lin_le ((first_dict P).const i ∷ (first_dict P).coef i 0 ∷ P.side r ∷ P.side s ∷ []) (eq c ∷ eq_times (P.side r) o ∷ le m ∷ [])
        (search reads_all depth 40) tt

-- after it the auxiliary variable is above 0
pub entered_positive : (P : Problem) (r : ℕ) → r < P.rows → P.side r <ℚ zero_ℚ → zero_ℚ <ℚ (entered P r).const 0
entered_positive P r l d =
    let f = first_free P 0 (omega arith) in
    let c = (first_form P).still 0 f in
    let o : (first_dict P).coef 0 0 ≡ one_ℚ = (first_form P).unit 0 0 f ∙ delta_same 0 in
    let e = entered-const P r 0 l in
    lin_lt ((entered P r).const 0 ∷ (first_dict P).const 0 ∷ (first_dict P).coef 0 0 ∷ P.side r ∷ [])
    (eq e ∷ eq c ∷ eq_times (P.side r) o ∷ lt d ∷ []) (search reads_all depth 40) tt

-- the dictionary is good, and says what the first one says
pub record IsAux (P : Problem) (D : Dict) : Type 0 where
  -- it has the form of a dictionary, and is feasible
  pub good : IsGood (names P) D
  -- what it says, the first dictionary says
  pub out : (V : ℕ → ℚ) → Models (names P) D V → Models (names P) (first_dict P) V
  -- what the first dictionary says, it says
  pub into : (V : ℕ → ℚ) → Models (names P) (first_dict P) V → Models (names P) D V

-- after it the dictionary says what the first one says
pub entered_aux : (P : Problem) (r : ℕ) → IsLeast (λ r. lt_ℚ (P.side r) zero_ℚ) P.side P.rows r → IsAux P (entered P r)
entered_aux P r w = record {
  good = entered_good P r w;
  out = λ V m. pivot_means_back (names P) (first_dict P) (first_form P) (slack_name P r) 0 (omega (arith, w.below))
      (first_free P 0 (omega arith)) (first_entry_not P r w.below) V m;
  into = λ V m. pivot_means (names P) (first_dict P) (slack_name P r) 0 (omega (arith, w.below)) V m;
}

-- the iteration keeps that
pub after_aux : (g : ℕ) (P : Problem) (D : Dict) → IsAux P D → (j : ℕ) → IsAux P (after g (names P) D j)
after_aux g P D d j = record {
  good = after_good g (names P) D d.good j;
  out = λ V m. d.out V (after_means_back g (names P) D d.good V j m);
  into = λ V m. after_means g (names P) D V (d.into V m) j;
}

-- the first goal is the negated row of the auxiliary variable
aux-const : (P : Problem) (D : Dict) → IsAux P D → D.const (aux_row P) ≡ neg_ℚ (D.const 0)
aux-const P D d = (first_means P D.const (d.out D.const (basic_models (names P) D d.good.form))).aux

-- the first goal's coefficients are the negated ones of the auxiliary variable
aux-coef : (P : Problem) (D : Dict) → IsAux P D → (k : ℕ) → k < names P → D.coef (aux_row P) k ≡ neg_ℚ (D.coef 0 k)
aux-coef P D d k l =
    let c = aux-const P D d in
    let e = (first_means P (along D k) (d.out (along D k) (along_models (names P) D d.good.form k l))).aux in
    lin_eq (D.const (aux_row P) ∷ D.const 0 ∷ D.coef (aux_row P) k ∷ D.coef 0 k ∷ []) (eq c ∷ eq e ∷ []) (search reads_all depth 40) tt

-- where a name enters in phase 1, the auxiliary variable's entry is below 0
aux_falls : (P : Problem) (D : Dict) → IsAux P D → (c : ℕ) → Enters (aux_row P) (names P) D c → D.coef 0 c <ℚ zero_ℚ
aux_falls P D d c e =
    let k = aux-coef P D d c e.name in
    let g = e.gains in
    lin_lt (D.coef (aux_row P) c ∷ D.coef 0 c ∷ []) (eq k ∷ lt g ∷ []) (search reads_all depth 40) tt

-- after a step in which it does not leave it is above 0
pub aux_stays_positive : (P : Problem) (D E : Dict) → IsAux P D → (c r : ℕ) → IsStep (aux_row P) (names P) D E c r → E.basic 0 ≡ true
    → zero_ℚ <ℚ E.const 0
aux_stays_positive P D E d c r s b =
    let f = aux_falls P D d c s.enters in
    let ne : 0 < r = positive in
    let q = s.leaves.before 0 ne f in
    let t = ratio_times D c 0 f in
    let m = const_moves D c r 0 s.leaves.falls in
    let p : zero_ℚ <ℚ (zero_ℚ -ℚ D.coef 0 c) *ℚ (ratio_of D c 0 -ℚ ratio_of D c r) = *ℚ_pos (gap_lt f) (gap_lt q) in
    subst (λ x. zero_ℚ <ℚ x) (sym (ap (λ F. F.const 0) s.is ∙ m))
    (lin_lt (D.const 0 ∷ D.coef 0 c ∷ ratio_of D c 0 ∷ ratio_of D c r ∷ []) (eq t ∷ gt0 p ∷ []) (search reads_all depth 40 fits 9000) tt)
  where
    apart : r ≢ c
    apart e = true≢false (sym (leaves_basic (names P) D d.good.form c r s.leaves.falls) ∙ ap D.basic e
        ∙ enters_free (aux_row P) (names P) D d.good.form c s.enters.gains)

    positive : 0 < r
    positive = ⊎_elim (λ z. absurd (true≢false (sym b ∙ ap (λ F. F.basic 0) s.is ∙ ap (pivot D r c).basic z ∙ pivot_leaves D r c apart)))
        (λ z. omega (arith, z)) (cases_eq 0 r)

-- the rule stops in phase 1 only where no coefficient is above 0
pub aux_stop : (P : Problem) (D : Dict) → IsAux P D → stops (aux_row P) (names P) D ≡ true → (k : ℕ) → k < names P
    → D.coef (aux_row P) k ≤ℚ zero_ℚ
aux_stop P D d e = by (choose (aux_row P) (names P) D) (choose_is (aux_row P) (names P) D) e
  where
    by : (x : Choice) → ChoiceIs (aux_row P) (names P) D x → is_stop x ≡ true → (k : ℕ) → k < names P → D.coef (aux_row P) k ≤ℚ zero_ℚ
    by optimal h e = h
    by (ray c) h e = absurd (not_le_of_lt (aux_falls P D d c h.0) (h.1 0 (omega arith)))
    by (step c r) h e = absurd (true≢false (sym e))

-- no positive coefficient with the auxiliary variable above 0: empty
pub empty_of : (P : Problem) (D : Dict) → IsAux P D → zero_ℚ <ℚ D.const 0 → ((k : ℕ) → k < names P → D.coef (aux_row P) k ≤ℚ zero_ℚ)
    → IsEmpty P (multipliers P D (aux_row P))
empty_of P D d p h = record {
  multiplier = multipliers_nonneg P D (aux_row P) h;
  covers = λ j l.
      let m = d.into (along (first_dict P) (suc j)) (along_models (names P) (first_dict P) (first_form P) (suc j) (omega (arith, l))) in
      let e = read_column P D (aux_row P) j l m in
      let u = first-const_aux P in
      let v : (first_dict P).coef (aux_row P) (suc j) ≡ zero_ℚ = first-aux P (suc j) ∙ ap aux_coef (role-column P j l) in
      let k = h (suc j) (omega (arith, l)) in
      let b = bound in
      lin_le ((first_dict P).const (aux_row P) ∷ (first_dict P).coef (aux_row P) (suc j) ∷ D.const (aux_row P) ∷ D.coef (aux_row P) (suc j)
      ∷ mixed_side P (multipliers P D (aux_row P)) ∷ mixed P (multipliers P D (aux_row P)) j ∷ [])
      (eq e ∷ eq u ∷ eq v ∷ eq b ∷ le k ∷ []) (search reads_all depth 40 fits 9000) tt;
  below =
      let b = bound in
      let c = aux-const P D d in
      let q = p in
      lin_lt (D.const 0 ∷ D.const (aux_row P) ∷ mixed_side P (multipliers P D (aux_row P)) ∷ []) (eq b ∷ eq c ∷ lt q ∷ [])
      (search reads_all depth 40) tt;
}
  where
    bound : mixed_side P (multipliers P D (aux_row P)) ≡ D.const (aux_row P)
    bound =
        let m = d.into (first_dict P).const (basic_models (names P) (first_dict P) (first_form P)) in
        let e = read_const P D (aux_row P) m in
        let u = first-const_aux P in
        lin_eq ((first_dict P).const (aux_row P) ∷ D.const (aux_row P) ∷ mixed_side P (multipliers P D (aux_row P)) ∷ []) (eq e ∷ eq u ∷ [])
        (search reads_all depth 40) tt
