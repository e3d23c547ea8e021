-- A joint problem has no more entries that differ from 0 than its cells.
use Rattle.std.proofs.Common.{◌≡◌, ◌==◌, ℕ, zero, suc, ◌+◌, ◌*◌, ◌%◌, ◌<◌, ◌≤◌, Bool, true, false, cond, List, [], ◌∷◌, ◌++◌}
use Rattle.std.proofs.Common.{length, refl, ap, ap₂, arith, Option}
use Rattle.std.specs.Prelude.{ℤ}
use Rattle.std.specs.List.{sum_by}
use Rattle.std.proofs.lemmas.Bool.{eqb-true}
use Rattle.std.proofs.lemmas.List.Sums.{count_by-le-length, sum_by-append, sum_by-cons}
use Rattle.base_numbers.specs.Rational.{ℚ, zero_ℚ, one_ℚ, neg_ℚ}
use Rattle.base_numbers.specs.Extended.{Ext, neg_inf, fin, pos_inf}
use Rattle.base_numbers.specs.Vector.{scale_vec, zeros}
use Rattle.base_numbers.proofs.rational.Parts.{num-zero}
use Rattle.base_numbers.proofs.vector.Vectors.{length-scale_vec}
use Rattle.flow_systems.specs.Cells.{guard_count}
use Rattle.flow_systems.specs.FreeValues.{free_count}
use Rattle.flow_systems.specs.View.{vector_of}
use Rattle.flow_systems.specs.declared.system.System.{System}
use Rattle.theory_validity.specs.Words.{Affine, guard_forms, start_form, width}
use Rattle.theory_validity.proofs.words.Widths.{Narrow, end_form_width, guard_forms_width, start_form_width}
use Rattle.lp_theory.specs.Listed.{at}
use Rattle.theory_transformers.specs.EdgeProblems.{guard_limits, source_limit, source_limits}
use Rattle.theory_transformers.specs.JointProblems.{ones, split_list}
use Rattle.theory_transformers.specs.Limits.{Limit}
use Rattle.theory_transformers.proofs.joint_problems.JointProducts.{length-ones, length-split}
use Rattle.solve_joint.specs.Blocks.{block_of, blocks_from, edge_at, edge_for, end_at, guards_of, own_of, row_at, sources_of, split_width}
use Rattle.solve_joint.specs.Numbers.{Rises}
use Rattle.solve_joint.specs.Rows.{AllStand, embedded, on_number, on_numbers}
use Rattle.solve_joint.specs.Sizes.{cells_in, edge_cells, entries_of, is_other, others}
use Rattle.solve_joint.proofs.cells.EdgeCounts.{frees_counted, guards_counted}

-- ---- the entries of a list
-- 1 for a number that differs from 0
abbrev mark : ℚ → ℕ
mark q = cond (is_other q.num) 1 0

mark-zero : mark zero_ℚ ≡ 0
mark-zero = ap (λ z. cond (is_other z) 1 0) num-zero

mark_few : (q : ℚ) → mark q ≤ 1
mark_few q = by (is_other q.num)
  where
    by : (b : Bool) → cond b 1 0 ≤ 1
    by true = omega arith
    by false = omega arith

others-cons : (q : ℚ) (xs : List ℚ) → others (q ∷ xs) ≡ mark q + others xs
others-cons q xs = sum_by-cons mark q xs

others-append : (xs ys : List ℚ) → others (xs ++ ys) ≡ others xs + others ys
others-append xs ys = sum_by-append mark xs ys

others_few : (xs : List ℚ) → others xs ≤ length xs
others_few xs = count_by-le-length (λ q. is_other q.num) xs

others-zeros : (n : ℕ) → others (zeros n) ≡ 0
others-zeros zero = refl
others-zeros (suc n) = omega (arith, others-cons zero_ℚ (zeros n), mark-zero, others-zeros n)

-- a list whose entries are 0 has none
no_others : (xs : List ℚ) → ((k : ℕ) → at xs k ≡ zero_ℚ) → others xs ≡ 0
no_others [] h = refl
no_others (x ∷ xs) h = omega (arith, others-cons x xs, ap mark (h 0), mark-zero, no_others xs (λ k. h (suc k)))

-- lists with the same entries have as many
others_same : (xs ys : List ℚ) → ((k : ℕ) → at xs k ≡ at ys k) → others xs ≤ others ys
others_same [] ys h = omega arith
others_same (x ∷ xs) [] h = omega (arith, no_others (x ∷ xs) h)
others_same (x ∷ xs) (y ∷ ys) h =
    omega (arith, others-cons x xs, others-cons y ys, ap mark (h 0), others_same xs ys (λ k. h (suc k)))

-- ---- the rises
-- past a number that isn't listed any more there is none
others_past : (q : ℚ) (target from : ℕ) (list : List ℕ) → target < from → Rises from list → others (on_numbers q target list) ≡ 0
others_past q target from [] l r = refl
others_past q target from (u ∷ list) l r =
    by (u == target) refl (others_past q target (u + 1) list (omega (arith, l, r.0)) r.1)
  where
    by : (b : Bool) → (u == target) ≡ b → others (on_numbers q target list) ≡ 0 → others (on_numbers q target (u ∷ list)) ≡ 0
    by true e more = let f : u ≡ target = eqb-true u target e in absurd (omega (arith, f, l, r.0))
    by false e more =
        let same : on_number q target u ≡ zero_ℚ = ap (λ b. cond b q zero_ℚ) e in
        omega (arith, others-cons (on_number q target u) (on_numbers q target list), ap mark same, mark-zero, more)

-- a coefficient stands at one rise of a rising list at most
others_once : (q : ℚ) (target from : ℕ) (list : List ℕ) → Rises from list → others (on_numbers q target list) ≤ 1
others_once q target from [] r = omega arith
others_once q target from (u ∷ list) r = by (u == target) refl (others_once q target (u + 1) list r.1)
  where
    by : (b : Bool) → (u == target) ≡ b → others (on_numbers q target list) ≤ 1 → others (on_numbers q target (u ∷ list)) ≤ 1
    by true e more =
        let f : u ≡ target = eqb-true u target e in
        omega (
          arith,
          others-cons (on_number q target u) (on_numbers q target list),
          mark_few (on_number q target u),
          others_past q target (u + 1) list (omega (arith, f)) r.1,
        )
    by false e more =
        let same : on_number q target u ≡ zero_ℚ = ap (λ b. cond b q zero_ℚ) e in
        omega (arith, others-cons (on_number q target u) (on_numbers q target list), ap mark same, mark-zero, more)

others_none : (target : ℕ) (list : List ℕ) → others (on_numbers zero_ℚ target list) ≡ 0
others_none target [] = refl
others_none target (u ∷ list) =
    omega (
      arith,
      others-cons (on_number zero_ℚ target u) (on_numbers zero_ℚ target list),
      ap mark (by (u == target)),
      mark-zero,
      others_none target list,
    )
  where
    by : (b : Bool) → cond b zero_ℚ zero_ℚ ≡ zero_ℚ
    by true = refl
    by false = refl

-- ---- the rows of a list
module _ (list : List ℕ) (rises : Rises 0 list) where
  -- two for each coefficient behind the rises
  split_few : (q : ℚ) (target offset : ℕ) (w : List ℚ)
      → others (embedded q target list offset w) ≤ others (on_numbers q target list) + 2 * length w
  split_few q target offset w =
      let a = others-append (on_numbers q target list) (zeros offset ++ split_list w) in
      let b = others-append (zeros offset) (split_list w) in
      omega (arith, a, b, others-zeros offset, others_few (split_list w), length-split w)

  with_rise : (q : ℚ) (target offset : ℕ) (w : List ℚ) → others (embedded q target list offset w) ≤ 1 + 2 * length w
  with_rise q target offset w = omega (arith, split_few q target offset w, others_once q target 0 list rises)

  with_none : (target offset : ℕ) (w : List ℚ) → others (embedded zero_ℚ target list offset w) ≤ 2 * length w
  with_none target offset w = omega (arith, split_few zero_ℚ target offset w, others_none target list)

-- the entries of limits, each with its side
abbrev in_limits : List Limit → ℕ
in_limits limits = sum_by (λ (l : Limit). others l.coeffs + 1) limits

in_limits-append : (ls ms : List Limit) → in_limits (ls ++ ms) ≡ in_limits ls + in_limits ms
in_limits-append ls ms = sum_by-append (λ (l : Limit). others l.coeffs + 1) ls ms

in_limits-cons : (l : Limit) (ls : List Limit) → in_limits (l ∷ ls) ≡ others l.coeffs + 1 + in_limits ls
in_limits-cons l ls = sum_by-cons (λ (k : Limit). others k.coeffs + 1) l ls

-- rows that stand for limits have no more
rows_stand : (cols : ℕ) (rows : List (List ℚ)) (sides : List ℚ) (ls : List Limit) → AllStand cols rows sides ls
    → sum_by (λ row. others row + 1) rows ≤ in_limits ls
rows_stand cols [] [] [] h = omega arith
rows_stand cols [] [] (l ∷ ls) h = absurd h
rows_stand cols [] (s ∷ sides) ls h = absurd h
rows_stand cols (r ∷ rows) [] ls h = absurd h
rows_stand cols (r ∷ rows) (s ∷ sides) [] h = absurd h
rows_stand cols (r ∷ rows) (s ∷ sides) (l ∷ ls) h =
    let c = sum_by-cons (λ row. others row + 1) r rows in
    omega (arith, c, in_limits-cons l ls, others_same r l.coeffs h.0.entries, rows_stand cols rows sides ls h.1)

sources_few : (embed : ℕ → List ℚ → List ℚ) (n : ℕ) (bounds : ℕ → Ext) (rows : List (List ℤ))
    → ((r : ℕ) (w : List ℚ) → others (embed r w) ≤ 1 + 2 * length w)
    → in_limits (source_limits embed n bounds rows) ≤ length rows * (2 * n + 2)
unfolding source_limits source_limit
sources_few embed n bounds [] h = omega arith
sources_few embed n bounds (row ∷ rows) h =
    by (bounds 0) (sources_few (λ r. embed (suc r)) n (λ r. bounds (suc r)) rows (λ r w. h (suc r) w))
  where
    by : (b : Ext) → in_limits (source_limits (λ r. embed (suc r)) n (λ r. bounds (suc r)) rows) ≤ length rows * (2 * n + 2)
        → in_limits (source_limit (embed 0) n b row (source_limits (λ r. embed (suc r)) n (λ r. bounds (suc r)) rows))
        ≤ suc (length rows) * (2 * n + 2)
    by neg_inf k = omega (arith, k)
    by (fin c) k =
        let more = in_limits-cons (record { coeffs = embed 0 (start_form n row).coeffs; side = c })
        (source_limits (λ r. embed (suc r)) n (λ r. bounds (suc r)) rows) in
        omega (arith, more, k, h 0 (start_form n row).coeffs, start_form_width n row)
    by pos_inf k = omega (arith, k)

guards_few : (embed : List ℚ → List ℚ) (w : ℕ) (forms : List Affine) → Narrow w forms
    → ((u : List ℚ) → others (embed u) ≤ 2 * length u) → in_limits (guard_limits embed forms) ≤ length forms * (2 * w + 1)
unfolding guard_limits
guards_few embed w [] narrow h = omega arith
guards_few embed w (g ∷ forms) narrow h =
    let more = in_limits-cons (record { coeffs = embed g.coeffs; side = neg_ℚ g.constant }) (guard_limits embed forms) in
    omega (arith, more, narrow.0, h g.coeffs, guards_few embed w forms narrow.1 h)

module _ (system : System) (pick : List (Option ℕ)) (base : List Ext) (list : List ℕ) (rises : Rises 0 list) where
  -- the rows of one unknown, and its entry in the goal
  block_few : (offset edge u : ℕ) → in_limits (block_of system base list offset edge u) + 1 ≤ edge_cells system edge
  unfolding width
  block_few offset edge u =
      let n = length system.flow.names in
      let actions = (edge_at system edge).actions in
      let w = width n actions in
      let from = (edge_at system edge).from in
      let own = own_of system base list offset edge (u % length system.template) u in
      let end = (end_at system edge (u % length system.template)).coeffs in
      let a = in_limits-append (sources_of system base list offset from) (guards_of system list offset edge ++ own ∷ []) in
      let b = in_limits-append (guards_of system list offset edge) (own ∷ []) in
      let c = in_limits-cons own [] in
      let sources = sources_few (λ r. embedded (neg_ℚ one_ℚ) (from * length system.template + r) list offset) n
      (vector_of (length system.template) base from) system.template
      (λ r w. with_rise list rises (neg_ℚ one_ℚ) (from * length system.template + r) offset w) in
      let guards = guards_few (embedded zero_ℚ 0 list offset) w (guard_forms n actions) (guard_forms_width n actions)
      (λ w. with_none list rises 0 offset w) in
      let last = with_rise list rises one_ℚ u offset (scale_vec (neg_ℚ one_ℚ) end) in
      let count : length (guard_forms n actions) * (2 * w + 1) ≡ guard_count actions * (2 * (n + free_count actions) + 1) =
      ap₂ (λ g f. g * (2 * (n + f) + 1)) (guards_counted n actions) (frees_counted actions) in
      omega (
        arith,
        a,
        b,
        c,
        sources,
        guards,
        last,
        count,
        length-scale_vec (neg_ℚ one_ℚ) end,
        end_form_width n actions (row_at system (u % length system.template)),
        frees_counted actions,
      )

  blocks_few : (offset : ℕ) (rest : List ℕ) → in_limits (blocks_from system pick base list offset rest) + length rest
      ≤ cells_in system pick rest
  blocks_few offset [] = omega arith
  blocks_few offset (u ∷ rest) =
      let edge = edge_for pick u in
      let more = blocks_from system pick base list (offset + split_width system edge) rest in
      let a = in_limits-append (block_of system base list offset edge u) more in
      let b = sum_by-cons (λ v. edge_cells system (edge_for pick v)) u rest in
      omega (arith, a, b, block_few offset edge u, blocks_few (offset + split_width system edge) rest)

  -- all rows with the goal
  pub entries_few : (cols : ℕ) (rows : List (List ℚ)) (sides goal : List ℚ) (more : ℕ)
      → AllStand cols rows sides (blocks_from system pick base list 0 list) → goal ≡ ones (length list) ++ zeros more
      → entries_of rows goal ≤ cells_in system pick list
  entries_few cols rows sides goal more stand is_goal =
      let n = length list in
      let a = ap others is_goal in
      let b = others-append (ones n) (zeros more) in
      omega (
        arith,
        a,
        b,
        others_few (ones n),
        length-ones n,
        others-zeros more,
        rows_stand cols rows sides (blocks_from system pick base list 0 list) stand,
        blocks_few 0 list,
      )
