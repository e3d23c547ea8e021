-- The rows of the first dictionary make its table.
use Rattle.std.proofs.Common.{◌≡◌, ℕ, zero, suc, ◌+◌, ◌*◌, ◌<◌, ◌≤◌, ⊎_elim, Bool, true, false, cond, ltb, List, [], ◌∷◌, ◌++◌, length, map}
use Rattle.std.proofs.Common.{get_or, ap, sym, ◌∙◌, subst, arith, lt-ltb, le-ltb}
use Rattle.std.proofs.lemmas.List.{get_or_append_left, map-id}
use Rattle.std.proofs.lemmas.Bool.{cases_lt, cases_eq}
use Rattle.std.specs.Prelude.{All}
use Rattle.std.proofs.lemmas.List.Elements.{All-head, All-tail}
use Rattle.base_numbers.specs.Rational.{ℚ, zero_ℚ}
use Rattle.lp_dictionary.specs.declared.problem.Row.{Row}
use Rattle.lp_theory.specs.Table.{Table, Agree}
use Rattle.lp_dictionary.specs.Build.{goals_of, width_of, slack_entries, auxiliary_entries, goal_entries, goals_entries, slacks_entries}
use Rattle.lp_dictionary.specs.Cells.{cells_table}
use Rattle.lp_dictionary.proofs.cells.RowLoops.{row_end}
use Rattle.lp_dictionary.proofs.listed.DictBuilds.{get_behind, joined_length, get_joined, slack_long, slack_short, goal_long, goal_short}
use Rattle.lp_dictionary.proofs.listed.DictBuilds.{auxiliary_length}
use Rattle.lp_sparse.specs.declared.row.SparseRow.{SparseRow}
use Rattle.lp_dictionary.specs.Entries.{Rises, HasNoZero}
use Rattle.lp_dictionary.specs.Keeps.{Lists}
use Rattle.lp_sparse.specs.Rows.{row_at, numbers, EachRises, NoZeros}
use Rattle.lp_sparse.specs.Build.{first_list, IsFirst}
use Rattle.lp_sparse.specs.Named.{named_table}
use Rattle.lp_sparse.proofs.rows.RowsAt.{row_pushed, row_before, row_past}

module _ (aux : Bool) (A : List (List ℚ)) (b c : List ℚ) where
  list_slack : (i : ℕ) → i < length b → first_list aux A b c i ≡ slack_entries aux (get_or A i []) (get_or b i zero_ℚ)
  list_slack i l = ap (λ t. cond t (slack_entries aux (get_or A i []) (get_or b i zero_ℚ))
      (cond (ltb (suc i) (length b + goals_of aux)) (auxiliary_entries (length c)) (goal_entries aux c))) (lt-ltb i (length b) l)

  list_first : (i : ℕ) → length b ≤ i → suc i < length b + goals_of aux → first_list aux A b c i ≡ auxiliary_entries (length c)
  list_first i l h =
      ap (λ t. cond t (slack_entries aux (get_or A i []) (get_or b i zero_ℚ))
      (cond (ltb (suc i) (length b + goals_of aux)) (auxiliary_entries (length c)) (goal_entries aux c))) (le-ltb i (length b) l)
      ∙ ap (λ t. cond t (auxiliary_entries (length c)) (goal_entries aux c)) (lt-ltb (suc i) (length b + goals_of aux) h)

  list_last : (i : ℕ) → length b ≤ i → length b + goals_of aux ≤ suc i → first_list aux A b c i ≡ goal_entries aux c
  list_last i l h =
      ap (λ t. cond t (slack_entries aux (get_or A i []) (get_or b i zero_ℚ))
      (cond (ltb (suc i) (length b + goals_of aux)) (auxiliary_entries (length c)) (goal_entries aux c))) (le-ltb i (length b) l)
      ∙ ap (λ t. cond t (auxiliary_entries (length c)) (goal_entries aux c)) (le-ltb (suc i) (length b + goals_of aux) h)

module _ {F : Type 0} (m : F → ℚ) (A : List (List ℚ)) (b c : List ℚ) where
  -- the rows with one goal
  pub first_one : (slacks rows : List (SparseRow F)) (y : SparseRow F) → length slacks ≡ length b
      → ((i : ℕ) → i < length b → Lists m (slack_entries false (get_or A i []) (get_or b i zero_ℚ)) (row_at slacks i)) →
      Lists m (goal_entries false c) y.entries.items → rows ≡ slacks ++ y ∷ [] → IsFirst m false A b c rows
  first_one slacks rows y n h g e i l = subst (λ rs. Lists m (first_list false A b c i) (row_at rs i)) (sym e) (⊎_elim
      (λ a. subst (λ xs. Lists m xs (row_at (slacks ++ y ∷ []) i)) (sym (list_slack false A b c i a))
      (subst (Lists m (slack_entries false (get_or A i []) (get_or b i zero_ℚ))) (sym (row_before slacks y i (omega (arith, a, n))))
      (h i a)))
      (λ a. subst (λ xs. Lists m xs (row_at (slacks ++ y ∷ []) i)) (sym (list_last false A b c i a (omega (arith, a))))
      (subst (Lists m (goal_entries false c)) (sym (row_pushed slacks y i (omega (arith, a, l, n)))) g))
      (cases_lt i (length b)))

  -- and with two
  pub first_two : (slacks mid rows : List (SparseRow F)) (x y : SparseRow F) → length slacks ≡ length b → length mid ≡ suc (length b)
      → ((i : ℕ) → i < length b → Lists m (slack_entries true (get_or A i []) (get_or b i zero_ℚ)) (row_at slacks i)) →
      Lists m (auxiliary_entries (length c)) x.entries.items → Lists m (goal_entries true c) y.entries.items → mid ≡ slacks ++ x ∷ []
      → rows ≡ mid ++ y ∷ [] → IsFirst m true A b c rows
  first_two slacks mid rows x y n k h f g d e i l = subst (λ rs. Lists m (first_list true A b c i) (row_at rs i)) (sym e) (⊎_elim
      (λ a. subst (λ xs. Lists m xs (row_at (mid ++ y ∷ []) i)) (sym (list_slack true A b c i a))
      (subst (Lists m (slack_entries true (get_or A i []) (get_or b i zero_ℚ)))
      (sym (row_before mid y i (omega (arith, a, k)) ∙ ap (λ rs. row_at rs i) d ∙ row_before slacks x i (omega (arith, a, n))))
      (h i a)))
      (λ a. ⊎_elim
      (λ q. subst (λ xs. Lists m xs (row_at (mid ++ y ∷ []) i)) (sym (list_first true A b c i a (omega (arith, q))))
      (subst (Lists m (auxiliary_entries (length c))) (sym (row_before mid y i (omega (arith, q, k)) ∙ ap (λ rs. row_at rs i) d
      ∙ row_pushed slacks x i (omega (arith, q, n)))) f))
      (λ q. subst (λ xs. Lists m xs (row_at (mid ++ y ∷ []) i)) (sym (list_last true A b c i a (omega (arith, a, q))))
      (subst (Lists m (goal_entries true c)) (sym (row_pushed mid y i (omega (arith, a, q, l, k)))) g))
      (cases_eq i (length b)))
      (cases_lt i (length b)))

module _ (W : ℕ) (A : List (List ℚ)) (b c : List ℚ) (rows_are : (i : ℕ) → i < length b → length (get_or A i []) ≡ W)
    (goal_is : length c ≡ W) where
  cell_long : (i k : ℕ) → i < length b + 2 → k < suc (suc W) → get_or (first_list true A b c i) k zero_ℚ
      ≡ get_or (slacks_entries true A b (length b) ++ goals_entries true c) (i * suc (suc W) + k) zero_ℚ
  cell_long i k l q =
      let s = suc (suc W) in
      let f = λ (j : ℕ). slack_entries true (get_or A j []) (get_or b j zero_ℚ) in
      let long = λ (j : ℕ) (d : j < length b). slack_long W (get_or A j []) (rows_are j d) (get_or b j zero_ℚ) in
      let e : length (slacks_entries true A b (length b)) ≡ length b * suc (suc W) = joined_length (suc (suc W)) (length b) f long in
      let x = auxiliary_length (length c) in
      ⊎_elim
      (λ a. ap (λ xs. get_or xs k zero_ℚ) (list_slack true A b c i a)
      ∙ sym (get_or_append_left (slacks_entries true A b (length b)) (goals_entries true c) zero_ℚ (i * suc (suc W) + k)
      (let r = row_end i (length b) (suc (suc W)) a in omega (arith, e, r, q))
      ∙ get_joined (suc (suc W)) (length b) f long i k zero_ℚ a q))
      (λ a. ⊎_elim
      (λ t. ap (λ xs. get_or xs k zero_ℚ) (list_first true A b c i a (omega (arith, t)))
      ∙ sym (get_behind (slacks_entries true A b (length b)) (goals_entries true c) k (i * suc (suc W) + k) zero_ℚ
      (ap (λ y. y + k) e ∙ ap (λ j. j * suc (suc W) + k) (sym t))
      ∙ get_or_append_left (auxiliary_entries (length c)) (goal_entries true c) zero_ℚ k (omega (arith, x, q, goal_is))))
      (λ t. let n : i ≡ suc (length b) = omega (arith, a, t, l) in
      ap (λ xs. get_or xs k zero_ℚ) (list_last true A b c i a (omega (arith, n)))
      ∙ sym (get_behind (slacks_entries true A b (length b)) (goals_entries true c) (suc (suc W) + k) (i * suc (suc W) + k) zero_ℚ
      (let d : suc (length b) * suc (suc W) ≡ length b * suc (suc W) + suc (suc W) = omega arith in
      let u : i * suc (suc W) ≡ suc (length b) * suc (suc W) = ap (λ j. j * suc (suc W)) n in omega (arith, e, d, u))
      ∙ get_behind (auxiliary_entries (length c)) (goal_entries true c) k (suc (suc W) + k) zero_ℚ (omega (arith, x, goal_is))))
      (cases_eq i (length b)))
      (cases_lt i (length b))

  cell_short : (i k : ℕ) → i < length b + 1 → k < suc W → get_or (first_list false A b c i) k zero_ℚ
      ≡ get_or (slacks_entries false A b (length b) ++ goals_entries false c) (i * suc W + k) zero_ℚ
  cell_short i k l q =
      let f = λ (j : ℕ). slack_entries false (get_or A j []) (get_or b j zero_ℚ) in
      let long = λ (j : ℕ) (d : j < length b). slack_short W (get_or A j []) (rows_are j d) (get_or b j zero_ℚ) in
      let e : length (slacks_entries false A b (length b)) ≡ length b * suc W = joined_length (suc W) (length b) f long in
      ⊎_elim
      (λ a. ap (λ xs. get_or xs k zero_ℚ) (list_slack false A b c i a)
      ∙ sym (get_or_append_left (slacks_entries false A b (length b)) (goals_entries false c) zero_ℚ (i * suc W + k)
      (let r = row_end i (length b) (suc W) a in omega (arith, e, r, q))
      ∙ get_joined (suc W) (length b) f long i k zero_ℚ a q))
      (λ a. let n : i ≡ length b = omega (arith, a, l) in
      ap (λ xs. get_or xs k zero_ℚ) (list_last false A b c i a (omega (arith, a)))
      ∙ sym (get_behind (slacks_entries false A b (length b)) (goals_entries false c) k (i * suc W + k) zero_ℚ
      (ap (λ y. y + k) e ∙ ap (λ j. j * suc W + k) (sym n))))
      (cases_lt i (length b))

  cell_is : (aux : Bool) (i k : ℕ) → i < length b + goals_of aux → k < suc (width_of aux W)
      → get_or (first_list aux A b c i) k zero_ℚ ≡ get_or (slacks_entries aux A b (length b) ++ goals_entries aux c)
      (i * suc (width_of aux W) + k) zero_ℚ
  cell_is true = cell_long
  cell_is false = cell_short

  list_long : (aux : Bool) (i : ℕ) → i < length b + goals_of aux → length (first_list aux A b c i) ≡ suc (width_of aux W)
  list_long true i l = ⊎_elim
      (λ a. ap length (list_slack true A b c i a) ∙ slack_long W (get_or A i []) (rows_are i a) (get_or b i zero_ℚ))
      (λ a. ⊎_elim
      (λ q. ap length (list_first true A b c i a (omega (arith, q))) ∙ auxiliary_length (length c) ∙ ap (λ w. suc (suc w)) goal_is)
      (λ q. ap length (list_last true A b c i a (omega (arith, a, q))) ∙ goal_long W c goal_is)
      (cases_eq i (length b)))
      (cases_lt i (length b))
  list_long false i l = ⊎_elim
      (λ a. ap length (list_slack false A b c i a) ∙ slack_short W (get_or A i []) (rows_are i a) (get_or b i zero_ℚ))
      (λ a. ap length (list_last false A b c i a (omega (arith, a))) ∙ goal_short W c goal_is)
      (cases_lt i (length b))

  module _ {F : Type 0} (m : F → ℚ) (bs ns : List ℕ) (rows : List (SparseRow F)) (aux : Bool) (bs_long : length bs ≡ length b)
      (ns_long : length ns ≡ width_of aux W) (h : IsFirst m aux A b c rows) where
    -- the table of the rows is that of a dictionary in one list
    pub first_agrees : (T : Table) → Agree T (cells_table (λ q. q) bs ns (goals_of aux)
        (slacks_entries aux A b (length b) ++ goals_entries aux c)) → Agree T (named_table bs ns (goals_of aux) (numbers m rows))
    first_agrees T g = record {
      rows = g.rows;
      goals = g.goals;
      width = g.width;
      row_name = g.row_name;
      col_name = g.col_name;
      entry = λ i k l d.
          let p = g.rows in
          let q = g.goals in
          let w = g.width in
          let i_in : i < length b + goals_of aux = omega (arith, l, p, q, bs_long) in
          let k_in : k < suc (width_of aux W) = omega (arith, d, w, ns_long) in
          let same : map (λ x. x) (slacks_entries aux A b (length b) ++ goals_entries aux c)
          ≡ slacks_entries aux A b (length b) ++ goals_entries aux c =
          map-id (slacks_entries aux A b (length b) ++ goals_entries aux c) in
          (h i i_in).keeps.values k (subst (λ n. k < n) (sym (list_long aux i i_in)) k_in)
          ∙ cell_is aux i k i_in k_in
          ∙ ap (λ n. get_or (slacks_entries aux A b (length b) ++ goals_entries aux c) (i * suc n + k) zero_ℚ) (sym ns_long)
          ∙ ap (λ xs. get_or xs (i * suc (length ns) + k) zero_ℚ) (sym same)
          ∙ g.entry i k l d;
    }

    -- its rows rise, and have no entry that is 0
    pub first_rises : length rows ≡ length b + goals_of aux → EachRises (suc (length ns)) rows
    first_rises n i = ⊎_elim
        (λ l. subst (λ k. Rises 0 k (row_at rows i)) (list_long aux i l ∙ ap suc (sym ns_long)) (h i l).keeps.rises)
        (λ l. subst (Rises 0 (suc (length ns))) (sym (row_past rows i (omega (arith, l, n)))) tt)
        (cases_lt i (length b + goals_of aux))

    first_no_zeros : length rows ≡ length b + goals_of aux → NoZeros m rows
    first_no_zeros n i = ⊎_elim
        (λ l. (h i l).no_zero)
        (λ l. subst (HasNoZero m) (sym (row_past rows i (omega (arith, l, n)))) tt)
        (cases_lt i (length b + goals_of aux))

-- the rows of a shaped problem are short
pub short_rows : {F : Type 0} (W K : ℕ) (rs : List (Row F)) → All (λ r. length r.coeffs ≡ W) rs → W < K → (i : ℕ)
    → length (get_or (map (λ r. r.coeffs) rs) i []) < K
short_rows W K [] h l i = omega (arith, l)
short_rows W K (r ∷ rs) h l zero = let e = All-head (λ r. length r.coeffs ≡ W) r rs h in omega (arith, e, l)
short_rows W K (r ∷ rs) h l (suc i) = short_rows W K rs (All-tail (λ r. length r.coeffs ≡ W) r rs h) l i
