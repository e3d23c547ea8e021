-- Evidence read from the last dictionary of phase 2.
use Rattle.std.proofs.Common.{refl, ◌≡◌, ℕ, suc, ◌<◌, true, [], ◌∷◌, ap, sym, ◌∙◌, arith, true≢false}
use Rattle.base_numbers.specs.Rational.{ℚ, zero_ℚ, ◌+ℚ◌, ◌*ℚ◌, ◌≤ℚ◌}
use Rattle.base_numbers.specs.Vector.{sum_to}
use Rattle.base_numbers.proofs.tactics.Ring.{ring, reads}
use Rattle.base_numbers.proofs.tactics.Linarith.{lin_le, lin_lt, le, lt, eq, lin_eq, ge0, reads_all}
use Rattle.base_numbers.proofs.vector.Vectors.{sum_to_same, sum_to-add}
use Rattle.lp_theory.specs.Problem.{Problem, left, value_at, mixed, mixed_side, IsPoint, IsBest, IsUnbounded, IsOutcome}
use Rattle.lp_theory.specs.Dictionary.{Dict, Models}
use Rattle.lp_theory.specs.Bland.{Enters, Choice, optimal, ray, step, choose, after, is_stop, stop_index, ChoiceIs, IsGood}
use Rattle.lp_theory.specs.Simplex.{names, main_row, slack_name, columns, Equations, main_coef, first_dict, multipliers, point_of, ray_of}
use Rattle.lp_theory.specs.Simplex.{outcome_at, last_of, phase_two}
use Rattle.lp_theory.proofs.Sums.{delta_other}
use Rattle.lp_theory.proofs.dictionary.Dictionaries.{along, along_free, along_models, basic_models}
use Rattle.lp_theory.proofs.simplex.Roles.{role-column, first_form, first_free, first-main, first-const_main}
use Rattle.lp_theory.proofs.search.Steps.{choose_is}
use Rattle.lp_theory.proofs.search.Stops.{after_good, after_means, after_means_back, stop_index_is}
use Rattle.lp_theory.proofs.simplex.ReadOff.{read_const, read_column}

-- D is good and says of the problem what the first dictionary says with the auxiliary variable at 0
pub record IsMain (P : Problem) (D : Dict) : Type 0 where
  -- it has the form of a dictionary, and is feasible
  pub good : IsGood (names P) D
  -- what it says has each slack at its side without the row's sum
  pub out : (V : ℕ → ℚ) → Models (names P) D V → Equations P V
  -- what it says has the auxiliary variable at 0
  pub zero_out : (V : ℕ → ℚ) → Models (names P) D V → V 0 ≡ zero_ℚ
  -- what the first dictionary says with the auxiliary variable at 0, it says
  pub into : (V : ℕ → ℚ) → Models (names P) (first_dict P) V → V 0 ≡ zero_ℚ → Models (names P) D V

-- the iteration keeps that
pub after_main : (g : ℕ) (P : Problem) (D : Dict) → IsMain P D → (j : ℕ) → IsMain P (after g (names P) D j)
after_main g P D d j = record {
  good = after_good g (names P) D d.good j;
  out = λ V m. d.out V (after_means_back g (names P) D d.good V j m);
  zero_out = λ V m. d.zero_out V (after_means_back g (names P) D d.good V j m);
  into = λ V m z. after_means g (names P) D V (d.into V m z) j;
}

-- the multiplier of a slack is at least 0 where the goal's coefficients are at most 0
pub multipliers_nonneg : (P : Problem) (D : Dict) (g : ℕ) → ((k : ℕ) → k < names P → D.coef g k ≤ℚ zero_ℚ) → (r : ℕ) → r < P.rows
    → zero_ℚ ≤ℚ multipliers P D g r
multipliers_nonneg P D g h r l = let a = h (slack_name P r) (omega (arith, l)) in
    lin_le (D.coef g (slack_name P r) ∷ []) (le a ∷ []) (search reads_all depth 40) tt

-- the basic solution is a point, with the goal's constant as value
main_point : (P : Problem) (D : Dict) → IsMain P D → IsPoint P (point_of D)
main_point P D d =
    let b = basic_models (names P) D d.good.form in
    record {
      nonneg = λ j l. d.good.feasible.nonneg (suc j) (omega (arith, l));
      meets = λ r l.
          let e = (d.out D.const b).slacks r l in
          let z = d.zero_out D.const b in
          let s = d.good.feasible.nonneg (slack_name P r) (omega (arith, l)) in
          lin_le (D.const (slack_name P r) ∷ P.side r ∷ left P r (point_of D) ∷ D.const 0 ∷ []) (eq e ∷ eq z ∷ ge0 s ∷ [])
          (search reads_all depth 40) tt;
    }

-- the point's value is the goal's constant
main_value : (P : Problem) (D : Dict) → IsMain P D → value_at P (point_of D) ≡ D.const (main_row P)
main_value P D d = sym ((d.out D.const (basic_models (names P) D d.good.form)).main)

-- no positive coefficient in the goal: best
best_of : (P : Problem) (D : Dict) → IsMain P D → ((k : ℕ) → k < names P → D.coef (main_row P) k ≤ℚ zero_ℚ)
    → IsBest P (point_of D) (D.const (main_row P)) (multipliers P D (main_row P))
best_of P D d h = record {
  point = main_point P D d;
  value = main_value P D d;
  multiplier = multipliers_nonneg P D (main_row P) h;
  covers = λ j l.
      let F = first_dict P in
      let f = first_form P in
      let z : along (first_dict P) (suc j) 0 ≡ zero_ℚ = along_free (names P) (first_dict P) f (suc j) 0 (first_free P 0 (omega arith))
      ∙ delta_other (suc j) 0 (λ e. omega (arith, e)) in
      let m = d.into (along (first_dict P) (suc j)) (along_models (names P) (first_dict P) f (suc j) (omega (arith, l))) z in
      let e = read_column P D (main_row P) j l m in
      let u = first-const_main P in
      let v : (first_dict P).coef (main_row P) (suc j) ≡ P.goal j = first-main P (suc j) ∙ ap (main_coef P) (role-column P j l) in
      let k = h (suc j) (omega (arith, l)) in
      let b = bound in
      lin_le ((first_dict P).const (main_row P) ∷ (first_dict P).coef (main_row P) (suc j) ∷ P.goal j ∷ D.const (main_row P)
      ∷ D.coef (main_row P) (suc j) ∷ mixed_side P (multipliers P D (main_row P)) ∷ mixed P (multipliers P D (main_row P)) j ∷ [])
      (eq e ∷ eq u ∷ eq v ∷ eq b ∷ le k ∷ []) (search reads_all depth 40 fits 9000) tt;
  bound = bound;
}
  where
    bound : mixed_side P (multipliers P D (main_row P)) ≡ D.const (main_row P)
    bound =
        let f = first_form P in
        let m = d.into (first_dict P).const (basic_models (names P) (first_dict P) f) (f.still 0 (first_free P 0 (omega arith))) in
        let e = read_const P D (main_row P) m in
        let u = first-const_main P in
        lin_eq ((first_dict P).const (main_row P) ∷ D.const (main_row P) ∷ mixed_side P (multipliers P D (main_row P)) ∷ [])
        (eq e ∷ eq u ∷ []) (search reads_all depth 40) tt

sum_both : (n : ℕ) (a x d : ℕ → ℚ) → sum_to n (λ j. a j *ℚ (x j +ℚ d j)) ≡ sum_to n (λ j. a j *ℚ x j) +ℚ sum_to n (λ j. a j *ℚ d j)
sum_both n a x d = sum_to_same n (λ j. a j *ℚ (x j +ℚ d j)) (λ j. a j *ℚ x j +ℚ a j *ℚ d j)
    (λ j l. ring (a j ∷ x j ∷ d j ∷ []) (search reads depth 40) refl) ∙ sum_to-add n (λ j. a j *ℚ x j) (λ j. a j *ℚ d j)

-- a name enters and no row has a negative entry: unbounded
unbounded_of : (P : Problem) (D : Dict) → IsMain P D → (c : ℕ) → Enters (main_row P) (names P) D c
    → ((i : ℕ) → i < names P → zero_ℚ ≤ℚ D.coef i c) → IsUnbounded P (point_of D) (ray_of D c)
unbounded_of P D d c e h =
    let b = basic_models (names P) D d.good.form in
    let a = along_models (names P) D d.good.form c e.name in
    record {
      point = main_point P D d;
      nonneg = λ j l. h (suc j) (omega (arith, l));
      keeps = λ r l.
          let u = (d.out D.const b).slacks r l in
          let v = (d.out (along D c) a).slacks r l in
          let w = sum_both P.cols (P.coef r) (point_of D) (ray_of D c) in
          let z = d.zero_out D.const b in
          let y = d.zero_out (along D c) a in
          let k = h (slack_name P r) (omega (arith, l)) in
          lin_le (D.const (slack_name P r) ∷ D.coef (slack_name P r) c ∷ P.side r ∷ left P r (point_of D) ∷ left P r (ray_of D c)
          ∷ left P r (columns (along D c)) ∷ D.const 0 ∷ D.coef 0 c ∷ [])
          (eq u ∷ eq v ∷ eq w ∷ eq z ∷ eq y ∷ ge0 k ∷ []) (search reads_all depth 40 fits 9000) tt;
      gains =
          let u = (d.out D.const b).main in
          let v = (d.out (along D c) a).main in
          let w = sum_both P.cols P.goal (point_of D) (ray_of D c) in
          let k = e.gains in
          lin_lt (D.const (main_row P) ∷ D.coef (main_row P) c ∷ value_at P (point_of D) ∷ value_at P (ray_of D c)
          ∷ value_at P (columns (along D c)) ∷ [])
          (eq u ∷ eq v ∷ eq w ∷ lt k ∷ []) (search reads_all depth 40 fits 9000) tt;
    }

outcome_is : (P : Problem) (D : Dict) → IsMain P D → (x : Choice) → ChoiceIs (main_row P) (names P) D x → is_stop x ≡ true
    → IsOutcome P (outcome_at P D x)
outcome_is P D d optimal h e = best_of P D d h
outcome_is P D d (ray c) h e = unbounded_of P D d c h.0 h.1
outcome_is P D d (step c r) h e = absurd (true≢false (sym e))

-- phase 2 ends with right evidence
pub phase_two_is : (P : Problem) (D : Dict) → IsMain P D → IsOutcome P (phase_two P D)
unfolding phase_two last_of
phase_two_is P D d =
    let E = last_of P D in
    outcome_is P (last_of P D) (after_main (main_row P) P D d (stop_index (main_row P) (names P) D))
    (choose (main_row P) (names P) (last_of P D)) (choose_is (main_row P) (names P) (last_of P D))
    (stop_index_is (main_row P) (names P) D d.good).stop
