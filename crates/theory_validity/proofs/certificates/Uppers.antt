-- Evidence that passes bounds every word that runs along the edge.
use Rattle.std.proofs.Common.{◌≡◌, ◌∙◌, ℕ, suc, ◌<◌, List, [], ◌∷◌, length, map, get_or, refl, sym, ap, subst, arith}
use Rattle.std.specs.Prelude.{ℤ, slice_get, Some}
use Rattle.std.proofs.lemmas.Option.{slice_get-get_or}
use Rattle.base_numbers.specs.Rational.{ℚ, zero_ℚ, ◌+ℚ◌, ◌*ℚ◌, neg_ℚ, ◌≤ℚ◌}
use Rattle.base_numbers.specs.Extended.{Ext, neg_inf, fin, pos_inf, ◌≤ᴱ◌}
use Rattle.base_numbers.specs.Vector.{dot, vec_mat, mat_vec, AllNonneg}
use Rattle.base_numbers.proofs.rational.Laws.{≤ℚ_refl, ≤ℚ_trans, zero-*ℚ, +ℚ_idl, <ℚ_irrefl, lt_of_le_of_lt_ℚ}
use Rattle.base_numbers.proofs.vector.Vectors.{dot-add, exchange}
use Rattle.base_numbers.proofs.tactics.Linear.{gap, ◌⊗◌}
use Rattle.base_numbers.proofs.tactics.Linarith.{lin_le, le, ge0, reads_all}
use Rattle.flow_systems.specs.States.{dotℚ}
use Rattle.flow_edges.specs.declared.edge.Edge.{Edge}
use Rattle.flow_systems.specs.Equations.{Equations, Vector}
use Rattle.theory_validity.specs.Words.{Word, Affine, width, val, lin, guard_forms, start_form, end_form, start_of, end_of, AllAtMost}
use Rattle.theory_validity.specs.Steps.{Runs, end_value, Upper}
use Rattle.theory_validity.specs.Certificates.{Evidence, Bound, Empty, Unreached, num, NotFinite, coefficients, combination, row_side}
use Rattle.theory_validity.specs.Certificates.{guard_side, side, Multipliers, EvidencePasses}
use Rattle.theory_validity.proofs.words.Widths.{combination_width, end_form_width, dot_same}
use Rattle.theory_validity.proofs.words.WordLaws.{val-end_form, start-coeffs}

-- a start form has no constant
start_constant : (n : ℕ) (row : List ℤ) (w : Word) → dot (start_form n row).coeffs w ≡ dotℚ row (start_of n w)
unfolding lin
start_constant n row w = start-coeffs n row w

-- one row of the sum: its multiplier is 0, or its bound is finite
row_part : (y x : ℚ) (v : Ext) → zero_ℚ ≤ℚ y → fin x ≤ᴱ v → (NotFinite v → y ≡ zero_ℚ) → y *ℚ x ≤ℚ y *ℚ num v
unfolding num
row_part y x neg_inf h i e = absurd i
row_part y x (fin c) h i e = lin_le (y ∷ x ∷ c ∷ []) (ge0 (h ⊗ gap i) ∷ []) (search reads_all depth 40) tt
row_part y x pos_inf h i e = subst (λ s. s *ℚ x ≤ℚ s *ℚ zero_ℚ) (sym (e tt)) (lin_le (x ∷ []) [] (search reads_all depth 40) tt)

rows_below : (n : ℕ) (ys : List ℚ) (rows : List (List ℤ)) (bounds : ℕ → Ext) (w : Word) → length ys ≡ length rows → AllNonneg ys →
    ((r : ℕ) → r < length rows → NotFinite (bounds r) → get_or ys r zero_ℚ ≡ zero_ℚ) →
    ((r : ℕ) (row : List ℤ) → slice_get rows r ≡ Some row → fin (dotℚ row (start_of n w)) ≤ᴱ bounds r) →
    dot ys (mat_vec (coefficients (map (start_form n) rows)) w) ≤ℚ row_side ys bounds
unfolding dot mat_vec coefficients row_side
rows_below n [] rows bounds w e h z fits = ≤ℚ_refl zero_ℚ
rows_below n (y ∷ ys) [] bounds w e h z fits = cc
rows_below n (y ∷ ys) (row ∷ rows) bounds w e h z fits =
    let here = row_part y (dotℚ row (start_of n w)) (bounds 0) h.0 (fits 0 row refl) (z 0 (omega arith)) in
    let there = rows_below n ys rows (λ r. bounds (suc r)) w (omega arith) h.1 (λ r l. z (suc r) (omega arith))
    (λ r row' f. fits (suc r) row' f) in
    subst (λ s. y *ℚ s +ℚ dot ys (mat_vec (coefficients (map (start_form n) rows)) w) ≤ℚ y *ℚ num (bounds 0) +ℚ row_side ys
    (λ r. bounds (suc r)))
    (sym (start_constant n row w))
    (Rattle.base_numbers.proofs.rational.Laws.+ℚ_le here there)

guards_below : (ms : List ℚ) (gs : List Affine) (w : Word) → AllNonneg ms → AllAtMost gs w
    → dot ms (mat_vec (coefficients gs) w) ≤ℚ guard_side ms gs
unfolding dot mat_vec coefficients guard_side val
guards_below [] gs w h p = ≤ℚ_refl zero_ℚ
guards_below (m ∷ ms) [] w h p = ≤ℚ_refl zero_ℚ
guards_below (m ∷ ms) (g ∷ gs) w h p = part m (dot g.coeffs w) g.constant _ _ h.0 p.0 (guards_below ms gs w h.1 p.1)
  where
    part : (m x c r s : ℚ) → zero_ℚ ≤ℚ m → x +ℚ c ≤ℚ zero_ℚ → r ≤ℚ s → m *ℚ x +ℚ r ≤ℚ m *ℚ neg_ℚ c +ℚ s
    part m x c r s h i j = lin_le (m ∷ x ∷ c ∷ r ∷ s ∷ []) (ge0 (h ⊗ gap i) ∷ le j ∷ []) (search reads_all depth 40) tt

-- the combination at a word that runs is at most the side
combination_below : (system : Equations) (z : Vector) (edge : Edge) (rows guards : List ℚ) (w : Word)
    → Multipliers system z edge rows guards → Runs system z edge w →
    dot (combination system edge rows guards) w ≤ℚ side system z edge rows guards
unfolding combination side
combination_below system z edge rows guards w ms runs =
    let A = coefficients (map (start_form system.variables) system.template) in
    let G = coefficients (guard_forms system.variables edge.actions) in
    subst (λ s. s ≤ℚ row_side rows (z edge.from) +ℚ guard_side guards (guard_forms system.variables edge.actions))
    (sym (dot-add (vec_mat rows A) (vec_mat guards G) w ∙ ap (λ s. s +ℚ dot (vec_mat guards G) w) (exchange rows A w)
    ∙ ap (λ s. dot rows (mat_vec A w) +ℚ s) (exchange guards G w)))
    (Rattle.base_numbers.proofs.rational.Laws.+ℚ_le
    (rows_below system.variables rows system.template (z edge.from) w ms.row_count ms.rows_nonneg ms.zero_where runs.fits)
    (guards_below guards (guard_forms system.variables edge.actions) w ms.guards_nonneg runs.passes.all))

-- evidence that passes is an upper bound
pub evidence_bounds : (system : Equations) (z : Vector) (edge : Edge) (row : List ℤ) (number : Ext) (evidence : Evidence) →
    EvidencePasses system z edge row number evidence → Upper system z edge row number
unfolding end_value val dot
evidence_bounds system z edge row number (Bound rows guards) h w runs =
    let f = end_form system.variables edge.actions row in
    let below = combination_below system z edge rows guards w h.multipliers runs in
    subst (λ k. fin (dotℚ row (end_of system.variables edge.actions w)) ≤ᴱ k) (sym h.finite)
    (subst (λ s. s ≤ℚ h.limit) (val-end_form system.variables edge.actions row w)
    (total (dot f.coeffs w) f.constant (side system z edge rows guards) h.limit
    (subst (λ s. s ≤ℚ side system z edge rows guards) (dot_same (width system.variables edge.actions)
    (combination system edge rows guards) f.coeffs w (combination_width system edge rows guards)
    (end_form_width system.variables edge.actions row) h.same) below) h.small))
  where
    total : (x c s l : ℚ) → x ≤ℚ s → s +ℚ c ≤ℚ l → x +ℚ c ≤ℚ l
    total x c s l h i = lin_le (x ∷ c ∷ s ∷ l ∷ []) (le h ∷ le i ∷ []) (search reads_all depth 40) tt
evidence_bounds system z edge row number (Empty rows guards) h w runs =
    let below = combination_below system z edge rows guards w h.multipliers runs in
    absurd (<ℚ_irrefl (lt_of_le_of_lt_ℚ (subst (λ s. s ≤ℚ side system z edge rows guards)
    (dot_same (width system.variables edge.actions) (combination system edge rows guards) [] w
    (combination_width system edge rows guards) (omega arith) h.same) below) h.negative))
evidence_bounds system z edge row number (Unreached r) h w runs =
    absurd (subst (λ k. fin (dotℚ (get_or system.template r []) (start_of system.variables w)) ≤ᴱ k) h.1
    (runs.fits r (get_or system.template r []) (slice_get-get_or system.template r [] h.0)))
