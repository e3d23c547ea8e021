-- How many pivots a phase has left, read from the names of a table: the measure of a loop that pivots.
use Rattle.std.proofs.Common.{◌≡◌, ℕ, suc, ◌+◌, ◌-◌, ◌<◌, ◌≤◌, ⊎_elim, Bool, true, false, not, eqb, ap, sym, ◌∙◌, arith, true≢false}
use Rattle.std.proofs.lemmas.Bool.{eq-eqb, eqb-true, ne_eqb, cases_Bool}
use Rattle.lp_theory.specs.Dictionary.{Dict}
use Rattle.lp_theory.specs.Search.{Search, none, found, first}
use Rattle.lp_theory.specs.Bland.{index_of}
use Rattle.lp_theory.specs.Table.{Table, Shows, Agree}
use Rattle.lp_theory.specs.Run.{Phase, phase_dict, phase_table, IsPhase}
use Rattle.lp_theory.proofs.search.Searches.{FirstIs, first_is}
use Rattle.lp_theory.proofs.bland.Pigeons.{code}
use Rattle.lp_theory.proofs.first_table.FirstTables.{shows_agree}
use Rattle.lp_theory.proofs.search.Places.{first_same}
use Rattle.lp_theory.proofs.run.Phases.{phase_shows}
use Rattle.lp_theory.proofs.run.PhaseRuns.{code_alike, codes_apart}

-- something was found
abbrev pub is_found : Search → Bool
is_found none = false
is_found (found k) = true

-- the name is of no column
unfoldable pub table_basis : Table → ℕ → Bool
table_basis T q = not (is_found (first (λ k. eqb (T.col_name k) q) T.width))

-- the first number of a pivot of the phase with the table's basic names
unfoldable pub run_place : ℕ → Phase → Table → ℕ
run_place n ph T = index_of (first (λ j. eqb (code (phase_dict n ph j).basic n) (code (table_basis T) n)) (suc ph.last))

-- the pivots that are left, and one
unfoldable pub pivots_left : ℕ → Phase → Table → ℕ
pivots_left n ph T = suc ph.last - run_place n ph T

basis_found : (n : ℕ) (T : Table) (D : Dict) → Shows n T D → (q : ℕ) → q < n → (s : Search) → FirstIs (λ k. eqb (T.col_name k) q) T.width s
    → not (is_found s) ≡ D.basic q
basis_found n T D h q l none w = ⊎_elim (λ b. sym b) (λ f. let k = h.all_cols q l f in
    absurd (true≢false (sym (eq-eqb (T.col_name k.0) q k.2) ∙ w k.0 k.1))) (cases_Bool (D.basic q))
basis_found n T D h q l (found k) w = sym (ap D.basic (sym (eqb-true (T.col_name k) q w.1)) ∙ h.col_free k w.0)

-- the names of a table's columns tell the basic names
basis_is : (n : ℕ) (T : Table) (D : Dict) → Shows n T D → (q : ℕ) → q < n → table_basis T q ≡ D.basic q
unfolding table_basis
basis_is n T D h q l = basis_found n T D h q l (first (λ k. eqb (T.col_name k) q) T.width) (first_is (λ k. eqb (T.col_name k) q) T.width)

module _ (n : ℕ) (ph : Phase) (h : IsPhase n ph) where
  basis_code : (j : ℕ) (T : Table) → Agree (phase_table n ph j) T → code (table_basis T) n ≡ code (phase_dict n ph j).basic n
  basis_code j T a = code_alike (table_basis T) (phase_dict n ph j).basic n
      (λ q l. basis_is n T (phase_dict n ph j) (shows_agree n (phase_table n ph j) T (phase_dict n ph j) (phase_shows n ph h j) a) q l)

  run_place_is : (j : ℕ) (T : Table) → j ≤ ph.last → Agree (phase_table n ph j) T → run_place n ph T ≡ j
  unfolding run_place
  run_place_is j T l a =
      let e = basis_code j T a in
      first_same (λ i. eqb (code (phase_dict n ph i).basic n) (code (table_basis T) n)) (suc ph.last) j
      (first (λ i. eqb (code (phase_dict n ph i).basic n) (code (table_basis T) n)) (suc ph.last))
      (first_is (λ i. eqb (code (phase_dict n ph i).basic n) (code (table_basis T) n)) (suc ph.last))
      (omega (arith, l)) (eq-eqb (code (phase_dict n ph j).basic n) (code (table_basis T) n) (sym e))
      (λ i m. ne_eqb (code (phase_dict n ph i).basic n) (code (table_basis T) n) (λ f. codes_apart n ph h i j m l (f ∙ e)))

  -- a pivot leaves fewer
  pub pivots_fall : (j : ℕ) (T U : Table) → j < ph.last → Agree (phase_table n ph j) T → Agree (phase_table n ph (j + 1)) U
      → pivots_left n ph U < pivots_left n ph T
  unfolding pivots_left
  pivots_fall j T U l a b = let e = run_place_is j T (omega (arith, l)) a in let f = run_place_is (j + 1) U (omega (arith, l)) b in
      omega (arith, l, e, f)
