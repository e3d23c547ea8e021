-- What is read from a table is what the dictionary says.
use Rattle.std.proofs.Common.{◌≡◌, ◌≢◌, ℕ, suc, ◌+◌, ◌<◌, ⊎_elim, false, List, ap, ap₂, sym, ◌∙◌}
use Rattle.std.proofs.Common.{arith, true≢false}
use Rattle.std.proofs.lemmas.Bool.{cases_eq, cases_Bool}
use Rattle.base_numbers.specs.Rational.{ℚ, neg_ℚ}
use Rattle.base_numbers.proofs.rational.Laws.{neg_ℚ-zero}
use Rattle.lp_theory.specs.Problem as lp
use Rattle.lp_theory.specs.Dictionary.{delta, Dict, IsDict}
use Rattle.lp_theory.specs.Simplex.{names, slack_name, multipliers, point_of, ray_of}
use Rattle.lp_theory.specs.Table.{Table, Shows}
use Rattle.lp_theory.specs.HasRows.{HasRows}
use Rattle.lp_theory.proofs.Sums.{delta_same, delta_other}
use Rattle.lp_simplex.specs.Placed.{IsPlaced}
use Rattle.lp_simplex.specs.Outcomes.{IsListed}
use Rattle.lp_simplex.specs.Answers.{IsDirection}

module _ {F : Type 0} (m : F → ℚ) (P : lp.Problem) (T : Table) (D : Dict) (h : Shows (names P) T D) (d : IsDict (names P) D)
    (k : HasRows (names P) T D) where
  -- a name that is not basic is of no row
  no_row : (q : ℕ) → D.basic q ≡ false → (i : ℕ) → i < T.rows → T.row_name i ≢ q
  no_row q f i l e = true≢false (sym (h.row_basic i (omega (arith, l))) ∙ ap D.basic e ∙ f)

  -- the values of the columns
  pub point_read : (xs : List F) → IsPlaced m T.row_name (λ i. T.entry i T.width) T.rows 0 P.cols xs → IsListed m P.cols (point_of D) xs
  point_read xs p = record {
    size = p.size;
    each = λ j l. let z : suc j ≡ suc (j + 0) = omega arith in ⊎_elim
        (λ b. let w = k.has (suc j) (omega (arith, l)) (λ e. omega (arith, e)) b in
        p.put w.0 j w.1 l (w.2 ∙ z) ∙ h.constants w.0 (let u = w.1 in omega (arith, u)) ∙ ap D.const w.2)
        (λ f. p.rest j l (λ i u e. no_row (suc j) f i u (e ∙ sym z)) ∙ sym (d.still (suc j) f))
        (cases_Bool (D.basic (suc j)));
  }

  -- the direction of an entering column
  pub ray_read : (c : ℕ) → c < T.width → (xs : List F) → IsDirection m T T.rows P.cols c xs → IsListed m P.cols (ray_of D (T.col_name c)) xs
  ray_read c c_in xs p = record {
    size = p.entering.size ∙ p.placed.size;
    each = λ j l. let z : suc j ≡ suc (j + 0) = omega arith in ⊎_elim
        (λ e. p.entering.put j (let s = p.placed.size in omega (arith, l, s)) e
        ∙ sym (d.unit (suc j) (T.col_name c) (ap D.basic (z ∙ sym e) ∙ h.col_free c c_in) ∙ ap (λ x. delta x (T.col_name c)) (z ∙ sym e)
        ∙ delta_same (T.col_name c)))
        (λ n. p.entering.kept j n ∙ ⊎_elim
        (λ b. let w = k.has (suc j) (omega (arith, l)) (λ e. omega (arith, e)) b in
        p.placed.put w.0 j w.1 l (w.2 ∙ z) ∙ h.entries w.0 c (let u = w.1 in omega (arith, u)) c_in
        ∙ ap (λ x. D.coef x (T.col_name c)) w.2)
        (λ f. p.placed.rest j l (λ i u e. no_row (suc j) f i u (e ∙ sym z))
        ∙ sym (d.unit (suc j) (T.col_name c) f ∙ delta_other (suc j) (T.col_name c) (λ e. n (sym e ∙ z))))
        (cases_Bool (D.basic (suc j))))
        (cases_eq (T.col_name c) (suc (j + 0)));
  }

  -- the multipliers of the rows
  pub multipliers_read : (g : ℕ) → T.row_name T.rows ≡ g → 0 < T.goals → (ys : List F)
      → IsPlaced m T.col_name (λ c. neg_ℚ (T.entry T.rows c)) T.width P.cols P.rows ys → IsListed m P.rows (multipliers P D g) ys
  multipliers_read g e goals ys p = record {
    size = p.size;
    each = λ r l. ⊎_elim
        (λ b. p.rest r l (λ i u f. true≢false (sym b ∙ ap D.basic (sym f) ∙ h.col_free i u))
        ∙ sym (ap neg_ℚ (d.column g (slack_name P r) b) ∙ neg_ℚ-zero))
        (λ f. let w = h.all_cols (slack_name P r) (omega (arith, l)) f in
        p.put w.0 r w.1 l w.2 ∙ ap neg_ℚ (h.entries T.rows w.0 (omega (arith, goals)) w.1 ∙ ap₂ (λ x y. D.coef x y) e w.2))
        (cases_Bool (D.basic (slack_name P r)));
  }
