-- The lists of the first dictionary make its table.
use Rattle.std.proofs.Common.{◌≡◌, ℕ, zero, suc, ◌+◌, ◌*◌, ◌<◌, ◌≤◌, ⊎_elim, Bool, true, false, cond, eqb, ltb, List, [], ◌∷◌}
use Rattle.std.proofs.Common.{◌++◌, length, map, get_or, Option, Some, None, refl, ap, ap₂, sym, ◌∙◌, subst, arith, lt-ltb, le-ltb}
use Rattle.std.proofs.Common.{length-append, true≢false}
use Rattle.std.specs.Prelude.{is_some, All}
use Rattle.std.proofs.lemmas.List.{length-map, get_or_append_left}
use Rattle.std.proofs.lemmas.List.Elements.{All-head, All-tail}
use Rattle.std.proofs.lemmas.Bool.{cases_lt, cases_eq, eq-eqb, ne_eqb}
use Rattle.base_numbers.specs.Rational.{ℚ, zero_ℚ, neg_ℚ}
use Rattle.lp_theory.specs.Problem as lp
use Rattle.lp_theory.specs.Listed.{list_problem}
use Rattle.lp_theory.specs.Simplex.{lowest, slack_name, aux_row, main_row}
use Rattle.lp_theory.specs.Table.{Agree}
use Rattle.lp_theory.specs.FirstTable.{first_entry, first_table, plain_table}
use Rattle.lp_theory.proofs.first_table.FirstTables.{entry_slack, entry_aux, entry_main}
use Rattle.lp_dictionary.specs.declared.problem.Row.{Row}
use Rattle.lp_dictionary.specs.Build.{goals_of, width_of, other_name, slack_entries, auxiliary_entries, goal_entries, goals_entries}
use Rattle.lp_dictionary.specs.Build.{slacks_entries}
use Rattle.lp_dictionary.specs.Cells.{row_from, goal_name, cells_table}
use Rattle.lp_dictionary.specs.Exact.{search_of, start_from, start_table}
use Rattle.lp_dictionary.proofs.cells.RowLoops.{row_end}
use Rattle.lp_dictionary.proofs.listed.DictBuilds.{get_behind, joined_length, get_joined, slack_long, slack_entry_long, slack_short}
use Rattle.lp_dictionary.proofs.listed.DictBuilds.{slack_entry_short, goal_long, goal_entry_long, goal_short, goal_entry_short}
use Rattle.lp_dictionary.proofs.listed.DictBuilds.{auxiliary_length, auxiliary_get}

module _ (W : ℕ) (A : List (List ℚ)) (b c : List ℚ) (rows_are : (i : ℕ) → i < length b → length (get_or A i []) ≡ W)
    (goal_is : length c ≡ W) where
  abbrev P : lp.Problem
  P = list_problem W A b c

  -- a place in the slacks' rows
  slacks_long : length (slacks_entries true A b (length b)) ≡ length b * suc (suc W)
  slacks_long = joined_length (suc (suc W)) (length b) (λ i. slack_entries true (get_or A i []) (get_or b i zero_ℚ))
      (λ i l. slack_long W (get_or A i []) (rows_are i l) (get_or b i zero_ℚ))

  slacks_short : length (slacks_entries false A b (length b)) ≡ length b * suc W
  slacks_short = joined_length (suc W) (length b) (λ i. slack_entries false (get_or A i []) (get_or b i zero_ℚ))
      (λ i l. slack_short W (get_or A i []) (rows_are i l) (get_or b i zero_ℚ))

  -- how long the lists are
  long_length : length (slacks_entries true A b (length b) ++ goals_entries true c) ≡ (length b + 2) * suc (suc W)
  long_length =
      let e = slacks_long in
      let f = auxiliary_length (length c) in
      let h = goal_long W c goal_is in
      let k = length-append (auxiliary_entries (length c)) (goal_entries true c) in
      let j = length-append (slacks_entries true A b (length b)) (goals_entries true c) in
      let d : (length b + 2) * suc (suc W) ≡ length b * suc (suc W) + (suc (suc W) + suc (suc W)) = omega arith in
      omega (arith, e, f, h, k, j, d, goal_is)

  short_length : length (slacks_entries false A b (length b) ++ goals_entries false c) ≡ (length b + 1) * suc W
  short_length =
      let e = slacks_short in
      let h = goal_short W c goal_is in
      let j = length-append (slacks_entries false A b (length b)) (goals_entries false c) in
      let d : (length b + 1) * suc W ≡ length b * suc W + suc W = omega arith in
      omega (arith, e, h, j, d)

  -- the entries with the auxiliary variable
  long_entry : (i k : ℕ) → i < length b + 2 → k < suc (suc W) → get_or (slacks_entries true A b (length b) ++ goals_entries true c)
      (i * suc (suc W) + k) zero_ℚ ≡ first_entry P i k
  long_entry i k l m =
      let e = slacks_long in
      ⊎_elim
      (λ a. get_or_append_left (slacks_entries true A b (length b)) (goals_entries true c) zero_ℚ (i * suc (suc W) + k)
      (let r = row_end i (length b) (suc (suc W)) a in omega (arith, e, r, m))
      ∙ get_joined (suc (suc W)) (length b) (λ i. slack_entries true (get_or A i []) (get_or b i zero_ℚ))
      (λ i l. slack_long W (get_or A i []) (rows_are i l) (get_or b i zero_ℚ)) i k zero_ℚ a m
      ∙ slack_entry_long W (get_or A i []) (rows_are i a) (get_or b i zero_ℚ) k m
      ∙ sym (entry_slack (list_problem W A b c) i k a))
      (λ a. ⊎_elim
      (λ q. get_behind (slacks_entries true A b (length b)) (goals_entries true c) k (i * suc (suc W) + k) zero_ℚ (at_row k i q e)
      ∙ get_or_append_left (auxiliary_entries (length c)) (goal_entries true c) zero_ℚ k
      (let f = auxiliary_length (length c) in omega (arith, f, m, goal_is))
      ∙ ap (λ w. get_or (auxiliary_entries w) k zero_ℚ) goal_is ∙ auxiliary_get W k m
      ∙ sym (entry_aux (list_problem W A b c) i k q))
      (λ q. let n : i ≡ suc (length b) = omega (arith, a, q, l) in
      get_behind (slacks_entries true A b (length b)) (goals_entries true c) (suc (suc W) + k) (i * suc (suc W) + k) zero_ℚ
      (at_next k i n e)
      ∙ get_behind (auxiliary_entries (length c)) (goal_entries true c) k (suc (suc W) + k) zero_ℚ
      (let f = auxiliary_length (length c) in omega (arith, f, goal_is))
      ∙ goal_entry_long W c goal_is k m
      ∙ sym (entry_main (list_problem W A b c) i k n))
      (cases_eq i (length b)))
      (cases_lt i (length b))
    where
      at_row : (k i : ℕ) → i ≡ length b → length (slacks_entries true A b (length b)) ≡ length b * suc (suc W)
          → length (slacks_entries true A b (length b)) + k ≡ i * suc (suc W) + k
      at_row k i q e = ap (λ y. y + k) e ∙ ap (λ j. j * suc (suc W) + k) (sym q)

      at_next : (k i : ℕ) → i ≡ suc (length b) → length (slacks_entries true A b (length b)) ≡ length b * suc (suc W)
          → length (slacks_entries true A b (length b)) + (suc (suc W) + k) ≡ i * suc (suc W) + k
      at_next k i q e = let d : suc (length b) * suc (suc W) ≡ length b * suc (suc W) + suc (suc W) = omega arith in
          let f : i * suc (suc W) ≡ suc (length b) * suc (suc W) = ap (λ j. j * suc (suc W)) q in omega (arith, e, d, f)

  -- and without it
  short_entry : (i k : ℕ) → i < length b + 1 → k < suc W → get_or (slacks_entries false A b (length b) ++ goals_entries false c)
      (i * suc W + k) zero_ℚ ≡ (plain_table P).entry i k
  unfolding plain_table
  short_entry i k l m =
      let e = slacks_short in
      ⊎_elim
      (λ a. get_or_append_left (slacks_entries false A b (length b)) (goals_entries false c) zero_ℚ (i * suc W + k)
      (let r = row_end i (length b) (suc W) a in omega (arith, e, r, m))
      ∙ get_joined (suc W) (length b) (λ i. slack_entries false (get_or A i []) (get_or b i zero_ℚ))
      (λ i l. slack_short W (get_or A i []) (rows_are i l) (get_or b i zero_ℚ)) i k zero_ℚ a m
      ∙ slack_entry_short W (get_or A i []) (rows_are i a) (get_or b i zero_ℚ) k m
      ∙ sym (ap (λ t. cond t (cond (ltb k W) (neg_ℚ (get_or (get_or A i []) k zero_ℚ)) (get_or b i zero_ℚ))
      (cond (ltb k W) (get_or c k zero_ℚ) zero_ℚ)) (lt-ltb i (length b) a)))
      (λ a. let q : i ≡ length b = omega (arith, a, l) in
      get_behind (slacks_entries false A b (length b)) (goals_entries false c) k (i * suc W + k) zero_ℚ
      (ap (λ y. y + k) e ∙ ap (λ j. j * suc W + k) (sym q))
      ∙ goal_entry_short W c goal_is k m
      ∙ sym (ap (λ t. cond t (cond (ltb k W) (neg_ℚ (get_or (get_or A i []) k zero_ℚ)) (get_or b i zero_ℚ))
      (cond (ltb k W) (get_or c k zero_ℚ) zero_ℚ)) (le-ltb i (length b) a)))
      (cases_lt i (length b))

  module _ {F : Type 0} (m : F → ℚ) (bs ns : List ℕ) (xs : List F) (bs_long : length bs ≡ length b)
      (bs_are : (k : ℕ) → k < length b → get_or bs k 0 ≡ slack_name P k) where
    slack_row : (goals w i : ℕ) → i < length b → cond (ltb i (length bs)) (get_or bs i 0) (goal_name (length bs) goals w i) ≡ slack_name P i
    slack_row goals w i a = ap (λ t. cond t (get_or bs i 0) (goal_name (length bs) goals w i))
        (lt-ltb i (length bs) (omega (arith, a, bs_long))) ∙ bs_are i a

    goal_row : (goals w i : ℕ) → length b ≤ i → cond (ltb i (length bs)) (get_or bs i 0) (goal_name (length bs) goals w i)
        ≡ goal_name (length b) goals w i
    goal_row goals w i a = ap (λ t. cond t (get_or bs i 0) (goal_name (length bs) goals w i))
        (le-ltb i (length bs) (omega (arith, a, bs_long))) ∙ ap (λ n. goal_name n goals w i) bs_long

    long_agrees : length ns ≡ suc W → ((k : ℕ) → k < suc W → get_or ns k 0 ≡ other_name W k)
        → map m xs ≡ slacks_entries true A b (length b) ++ goals_entries true c → Agree (first_table P) (cells_table m bs ns 2 xs)
    unfolding first_table
    long_agrees n h e = record {
      rows = bs_long;
      goals = refl;
      width = n;
      row_name = λ i l. ap (λ w. cond (ltb i (length bs)) (get_or bs i 0) (goal_name (length bs) 2 w i)) n ∙ ⊎_elim
          (λ a. slack_row 2 (suc W) i a ∙ sym (ap (λ t. cond t (slack_name (list_problem W A b c) i)
          (cond (eqb i (length b)) (aux_row (list_problem W A b c)) (main_row (list_problem W A b c)))) (lt-ltb i (length b) a)))
          (λ a. goal_row 2 (suc W) i a
          ∙ ⊎_elim
          (λ q. (let d : goal_name (length b) 2 (suc W) i ≡ suc (suc (length b + W)) = omega (arith, q) in d)
          ∙ sym (ap (λ t. cond t (aux_row (list_problem W A b c)) (main_row (list_problem W A b c))) (eq-eqb i (length b) q)))
          (λ q. (let d : goal_name (length b) 2 (suc W) i ≡ suc (length b + W) = omega (arith, q, a, l) in d)
          ∙ sym (ap (λ t. cond t (aux_row (list_problem W A b c)) (main_row (list_problem W A b c))) (ne_eqb i (length b) q)))
          (cases_eq i (length b))
          ∙ sym (ap (λ t. cond t (slack_name (list_problem W A b c) i)
          (cond (eqb i (length b)) (aux_row (list_problem W A b c)) (main_row (list_problem W A b c)))) (le-ltb i (length b) a)))
          (cases_lt i (length b));
      col_name = λ k l. h k l;
      entry = λ i k l d. ap (λ w. row_from m xs (i * suc w) k) n ∙ ap (λ ys. get_or ys (i * suc (suc W) + k) zero_ℚ) e
          ∙ long_entry i k l (omega (arith, d));
    }

    short_agrees : length ns ≡ W → ((k : ℕ) → k < W → get_or ns k 0 ≡ other_name W k)
        → map m xs ≡ slacks_entries false A b (length b) ++ goals_entries false c → Agree (plain_table P) (cells_table m bs ns 1 xs)
    unfolding plain_table
    short_agrees n h e = record {
      rows = bs_long;
      goals = refl;
      width = n;
      row_name = λ i l. ap (λ w. cond (ltb i (length bs)) (get_or bs i 0) (goal_name (length bs) 1 w i)) n ∙ ⊎_elim
          (λ a. slack_row 1 W i a ∙ sym (ap (λ t. cond t (slack_name (list_problem W A b c) i) (main_row (list_problem W A b c)))
          (lt-ltb i (length b) a)))
          (λ a. goal_row 1 W i a ∙ (let d : goal_name (length b) 1 W i ≡ suc (length b + W) = omega (arith, a, l) in d)
          ∙ sym (ap (λ t. cond t (slack_name (list_problem W A b c) i) (main_row (list_problem W A b c))) (le-ltb i (length b) a)))
          (cases_lt i (length b));
      col_name = λ k l. h k l ∙ ap (λ t. cond t (suc k) 0) (lt-ltb k W l);
      entry = λ i k l d. ap (λ w. row_from m xs (i * suc w) k) n ∙ ap (λ ys. get_or ys (i * suc W + k) zero_ℚ) e
          ∙ short_entry i k l (omega (arith, d));
    }

    -- the first dictionary, with the auxiliary variable where a side is below 0
    pub start_agrees : (aux : Bool) (o : Option ℕ) → aux ≡ is_some o → search_of o ≡ lowest P → length ns ≡ width_of aux W
        → ((k : ℕ) → k < width_of aux W → get_or ns k 0 ≡ other_name W k) →
        map m xs ≡ slacks_entries aux A b (length b) ++ goals_entries aux c → Agree (start_table P) (cells_table m bs ns (goals_of aux) xs)
    unfolding start_table
    start_agrees true None a s n h e = absurd (true≢false a)
    start_agrees true (Some r) a s n h e = subst (λ q. Agree (start_from P q) (cells_table m bs ns 2 xs)) s (long_agrees n h e)
    start_agrees false None a s n h e = subst (λ q. Agree (start_from P q) (cells_table m bs ns 1 xs)) s (short_agrees n h e)
    start_agrees false (Some r) a s n h e = absurd (true≢false (sym a))

  -- the number of entries
  pub start_sized : {F : Type 0} (m : F → ℚ) (bs ns : List ℕ) (xs : List F) (aux : Bool) → length bs ≡ length b → length ns ≡ width_of aux W
      → map m xs ≡ slacks_entries aux A b (length b) ++ goals_entries aux c → length xs ≡ (length bs + goals_of aux) * suc (length ns)
  start_sized m bs ns xs true h n e = sym (length-map xs m) ∙ ap length e ∙ long_length ∙ sym (ap₂ (λ r w. (r + 2) * suc w) h n)
  start_sized m bs ns xs false h n e = sym (length-map xs m) ∙ ap length e ∙ short_length ∙ sym (ap₂ (λ r w. (r + 1) * suc w) h n)

-- the rows of a shaped problem have one coefficient per entry of the goal
pub shaped_rows : {F : Type 0} (m : F → ℚ) (W : ℕ) (rs : List (Row F)) → All (λ r. length r.coeffs ≡ W) rs → (i : ℕ)
    → i < length (map (λ r. m r.side) rs) → length (get_or (map (λ r. r.coeffs) rs) i []) ≡ W
shaped_rows m W [] h i l = absurd (omega (arith, l))
shaped_rows m W (r ∷ rs) h zero l = All-head (λ r. length r.coeffs ≡ W) r rs h
shaped_rows m W (r ∷ rs) h (suc i) l = shaped_rows m W rs (All-tail (λ r. length r.coeffs ≡ W) r rs h) i (omega (arith, l))
