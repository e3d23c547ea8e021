-- The table of a dictionary after the auxiliary variable's column and the first goal are left out.
use Rattle.std.proofs.Common.{◌≡◌, ℕ, suc, ◌+◌, ◌-◌, ◌*◌, ◌<◌, ◌≤◌, ⊎_elim, cond, ltb, List, length, map, get_or, take, refl, ap}
use Rattle.std.proofs.Common.{sym, ◌∙◌, subst, arith, lt-ltb, le-ltb}
use Rattle.std.specs.Prelude.{remove}
use Rattle.std.proofs.lemmas.List.{get_or-take, take-map}
use Rattle.std.proofs.lemmas.List.Edits.{length-remove, get_or-remove_below, get_or-remove_above}
use Rattle.std.proofs.lemmas.Bool.{cases_lt}
use Rattle.base_numbers.specs.Rational.{ℚ, zero_ℚ}
use Rattle.lp_theory.specs.Table.{Table, Agree, skip, drop_table}
use Rattle.lp_theory.specs.Run.{place_of, leave_table}
use Rattle.lp_theory.proofs.TableDrops.{skip_below, skip_above}
use Rattle.lp_dictionary.specs.Cells.{cell, row_from, goal_name, cells_table}
use Rattle.lp_dictionary.specs.Rows.{ShiftsRows}
use Rattle.lp_dictionary.proofs.cells.RowLoops.{row_end}

-- an entry of the first n
cell_taken : {F : Type 0} (m : F → ℚ) (n : ℕ) (xs : List F) (p : ℕ) → p < n → cell m (take n xs) p ≡ cell m xs p
cell_taken m n xs p l = ap (λ ys. get_or ys p zero_ℚ) (sym (take-map m n xs)) ∙ get_or-take n (map m xs) p zero_ℚ l

-- a name of the list without one
name_removed : (ns : List ℕ) (z k : ℕ) → z < length ns → get_or (remove ns z) k 0 ≡ get_or ns (skip z k) 0
name_removed ns z k l = ⊎_elim
    (λ a. get_or-remove_below ns z 0 k a l ∙ ap (λ j. get_or ns j 0) (sym (skip_below z k a)))
    (λ a. get_or-remove_above ns z 0 k a l ∙ ap (λ j. get_or ns j 0) (let e = skip_above z k a in
    let f : k + 1 ≡ skip z k = omega (arith, e) in f))
    (cases_lt k z)

goal_renamed : (b n i : ℕ) → 0 < n → b ≤ i → i < b + 1 → goal_name b 1 (n - 1) i ≡ goal_name b 2 n (suc i)
goal_renamed b n i l h k = omega (arith, l, h, k)

module _ {F : Type 0} (m : F → ℚ) (bs ns ms : List ℕ) (xs ys zs : List F) (z : ℕ) (z_in : z < length ns)
    (z_is : z ≡ place_of (λ k. get_or ns k 0) (length ns) 0)
    (h : ShiftsRows m (length bs + 1) (length bs) (suc (length ns)) z xs ys) (ms_is : ms ≡ remove ns z)
    (zs_is : zs ≡ take ((length bs + 1) * length ns) ys) where
  T : Table
  T = cells_table m bs ns 2 xs

  U : Table
  U = cells_table m bs ms 1 zs

  width : suc (length ms) ≡ length ns
  width = let e = ap length ms_is in let f = length-remove ns z z_in in omega (arith, e, f)

  row_names : (i : ℕ) → i < length bs + 1 → U.row_name i ≡ T.row_name (skip (length bs) i)
  unfolding T U
  row_names i l = ⊎_elim
      (λ a. ap (λ b. cond b (get_or bs i 0) (goal_name (length bs) 1 (length ms) i)) (lt-ltb i (length bs) a)
      ∙ sym (ap (λ b. cond b (get_or bs i 0) (goal_name (length bs) 2 (length ns) i)) (lt-ltb i (length bs) a))
      ∙ ap (λ j. cond (ltb j (length bs)) (get_or bs j 0) (goal_name (length bs) 2 (length ns) j)) (sym (skip_below (length bs) i a)))
      (λ a. ap (λ b. cond b (get_or bs i 0) (goal_name (length bs) 1 (length ms) i)) (le-ltb i (length bs) a)
      ∙ ap (λ w. goal_name (length bs) 1 w i) (let w = width in let e : length ms ≡ length ns - 1 = omega (arith, w) in e)
      ∙ goal_renamed (length bs) (length ns) i (omega (arith, z_in)) a l
      ∙ sym (ap (λ b. cond b (get_or bs (suc i) 0) (goal_name (length bs) 2 (length ns) (suc i)))
      (le-ltb (suc i) (length bs) (omega (arith, a))))
      ∙ ap (λ j. cond (ltb j (length bs)) (get_or bs j 0) (goal_name (length bs) 2 (length ns) j)) (sym (skip_above (length bs) i a)))
      (cases_lt i (length bs))

  entries : (i k : ℕ) → i < length bs + 1 → k < length ns → U.entry i k ≡ T.entry (skip (length bs) i) (skip z k)
  unfolding T U
  entries i k l b =
      let s : suc (length ns) - 1 ≡ length ns = omega arith in
      let p : i * length ns + k < (length bs + 1) * length ns = let e = row_end i (length bs + 1) (length ns) l in omega (arith, e, b) in
      ap (λ w. row_from m zs (i * w) k) width ∙ ap (λ o. cell m o (i * length ns + k)) zs_is
      ∙ cell_taken m ((length bs + 1) * length ns) ys (i * length ns + k) p
      ∙ ap (λ w. cell m ys (i * w + k)) (sym s) ∙ h.moved i k l (omega (arith, b))

  -- the table is the one that is left
  pub leave_agrees : Agree (leave_table (cells_table m bs ns 2 xs)) (cells_table m bs ms 1 zs)
  unfolding T U leave_table drop_table
  leave_agrees = record {
    rows = refl;
    goals = refl;
    width = let w = width in omega (arith, w);
    row_name = λ i l. row_names i l;
    col_name = λ k l. ap (λ o. get_or o k 0) ms_is ∙ name_removed ns z k z_in ∙ ap (λ y. get_or ns (skip y k) 0) z_is;
    entry = λ i k l b. entries i k l (omega (arith, b, z_in)) ∙ ap (λ y. T.entry (skip (length bs) i) (skip y k)) z_is;
  }

-- the shift in the numbers of a dictionary
pub shifts_in : {F : Type 0} (m : F → ℚ) (n k r q s t c : ℕ) (xs xs' ys : List F) → n ≡ k → r ≡ q → s ≡ t → xs ≡ xs'
    → ShiftsRows m n r s c xs ys → ShiftsRows m k q t c xs' ys
shifts_in m n k r q s t c xs xs' ys e f i j h =
    subst (λ a. ShiftsRows m a q t c xs' ys) e (subst (λ b. ShiftsRows m n b t c xs' ys) f
    (subst (λ d. ShiftsRows m n r d c xs' ys) i (subst (λ o. ShiftsRows m n r s c o ys) j h)))
