-- The meaning of a joint problem: its points are rises of at least 0 with words that run at base plus rise and reach its numbers.
use Rattle.std.proofs.Common.{◌≡◌, ◌∙◌, ℕ, suc, ◌+◌, ◌<◌, ◌≤◌, true, false, List, [], ◌∷◌, ◌++◌, length, refl, sym, ap, subst, arith}
use Rattle.std.proofs.Common.{length-append, if◌then◌else◌}
use Rattle.base_numbers.proofs.extended.ExtendedLaws.{above_neg_inf}
use Rattle.base_numbers.specs.Rational.{ℚ, zero_ℚ, one_ℚ, ◌+ℚ◌, neg_ℚ, ◌≤ℚ◌}
use Rattle.base_numbers.specs.Extended.{fin, ◌≤ᴱ◌}
use Rattle.base_numbers.specs.Vector.{sum_to, scale_vec, zeros}
use Rattle.base_numbers.proofs.vector.Vectors.{sum_to_same, length-zeros, length-scale_vec}
use Rattle.flow_systems.specs.States.{dotℚ}
use Rattle.flow_systems.specs.Equations.{Equations, Vector}
use Rattle.theory_validity.specs.Words.{Word, val, width, guard_forms, end_form, start_of}
use Rattle.theory_validity.specs.Steps.{end_value}
use Rattle.theory_validity.proofs.words.WordLaws.{val-end_form}
use Rattle.theory_validity.proofs.words.Widths.{end_form_width, guard_forms_width}
use Rattle.lp_theory.specs.Problem.{IsPoint, left, value_at}
use Rattle.lp_theory.specs.Listed.{at}
use Rattle.theory_transformers.specs.Limits.{limits_problem, shift, tabulate, AllUnder, AllWithin}
use Rattle.theory_transformers.specs.EdgeProblems.{source_limits, guard_limits, NoneLost}
use Rattle.theory_transformers.specs.JointProblems.{Listed, picked, own_row, columns_of, ones, split_list, on_rise, is_at, rise_at}
use Rattle.theory_transformers.specs.JointProblems.{raise_by, raised, own_limit, block_limits, joint_limits, word_columns, joint_problem}
use Rattle.theory_transformers.specs.JointProblems.{words_of, joint_words, Supports, AllSupport, AllRising, AllFollow}
use Rattle.theory_transformers.specs.JointPoints.{join, pos_neg, word_points, joint_point}
use Rattle.theory_transformers.proofs.limits.Products.{product_is_sum, product-at, product-tabulate}
use Rattle.theory_transformers.proofs.limits.LimitLaws.{under_from, under_into, under_first, under_second, under_both, within_both}
use Rattle.theory_transformers.proofs.limits.SourceLimits.{source_within, guards_within}
use Rattle.theory_transformers.proofs.edge_problems.EdgePoints.{wider, edge_runs, edge_meets}
use Rattle.theory_transformers.proofs.joint_problems.JointProducts.{length-on_rise, length-split, product-ones, length-ones, shift-add}
use Rattle.theory_transformers.proofs.joint_problems.JointRows.{block_out, block_in, block_falls}
use Rattle.theory_transformers.proofs.joint_points.Joins.{shift-join, join_below, join_nonneg, pos_neg_nonneg, word_back}

-- ---- rows to words and back
joint_out : (system : Equations) (b : Vector) (all : List Listed) (offset : ℕ) (list : List Listed) (x : ℕ → ℚ) → AllRising system b list →
    AllUnder true (joint_limits system b all offset list) x → AllSupport system (raised all x b) list
    (words_of system list (shift offset (shift (length all) x)))
unfolding joint_limits words_of
joint_out system b all offset [] x rising h = tt
joint_out system b all offset (u ∷ rest) x rising h =
    let c = columns_of system u + columns_of system u in
    let bs = block_limits system b all offset u in
    let js = joint_limits system b all (offset + c) rest in (
      block_out system b all offset u x rising.0 (under_first true bs js x h),
      subst (λ s. AllSupport system (raised all x b) rest (words_of system rest s)) (shift-add offset c (shift (length all) x))
          (joint_out system b all (offset + c) rest x rising.1 (under_second true bs js x h)),
    )

joint_in : (system : Equations) (b : Vector) (all : List Listed) (offset : ℕ) (list : List Listed) (x : ℕ → ℚ) → AllRising system b list →
    AllSupport system (raised all x b) list (words_of system list (shift offset (shift (length all) x)))
    → AllUnder true (joint_limits system b all offset list) x
unfolding joint_limits words_of
joint_in system b all offset [] x rising s = tt
joint_in system b all offset (u ∷ rest) x rising s =
    let c = columns_of system u + columns_of system u in
    under_both true (block_limits system b all offset u) (joint_limits system b all (offset + c) rest) x
    (block_in system b all offset u x rising.0 s.0)
    (joint_in system b all (offset + c) rest x rising.1 (subst (λ s. AllSupport system (raised all x b) rest (words_of system rest s))
    (sym (shift-add offset c (shift (length all) x))) s.1))

joint_falls : (system : Equations) (b : Vector) (all : List Listed) (offset : ℕ) (list : List Listed) (d : ℕ → ℚ) →
    AllUnder false (joint_limits system b all offset list) d → AllFollow system b all d list
    (words_of system list (shift offset (shift (length all) d)))
unfolding joint_limits words_of
joint_falls system b all offset [] d h = tt
joint_falls system b all offset (u ∷ rest) d h =
    let c = columns_of system u + columns_of system u in
    let bs = block_limits system b all offset u in
    let js = joint_limits system b all (offset + c) rest in (
      block_falls system b all offset u d (under_first false bs js d h),
      subst (λ s. AllFollow system b all d rest (words_of system rest s)) (shift-add offset c (shift (length all) d))
          (joint_falls system b all (offset + c) rest d (under_second false bs js d h)),
    )

-- ---- how many columns rows have
row_length : (a : List ℚ) (n offset : ℕ) (v : List ℚ) (c m : ℕ) → length a ≡ n → length v ≤ c → n + (offset + (c + c)) ≤ m
    → length (a ++ (zeros offset ++ split_list v)) ≤ m
row_length a n offset v c m e l h =
    let p = length-append a (zeros offset ++ split_list v) in
    let q = length-append (zeros offset) (split_list v) in
    let s = length-zeros offset in
    let t = length-split v in
    omega (arith, e, l, h, p, q, s, t)

block_within : (system : Equations) (b : Vector) (all : List Listed) (offset m : ℕ) (u : Listed)
    → length all + (offset + (columns_of system u + columns_of system u)) ≤ m → AllWithin m (block_limits system b all offset u)
unfolding block_limits own_limit columns_of
block_within system b all offset m u h =
    let n = system.variables in
    let e = picked system u in
    let f = end_form n e.actions (own_row system u) in
    let ls = source_limits (λ r v. on_rise (neg_ℚ one_ℚ) all e.from r ++ (zeros offset ++ split_list v)) n (b e.from) system.template in
    let gs = guard_limits (λ v. zeros (length all) ++ (zeros offset ++ split_list v)) (guard_forms n e.actions) in
    let os = own_limit system b all offset u ∷ [] in
    within_both m ls (gs ++ os)
    (source_within m (λ r v. on_rise (neg_ℚ one_ℚ) all e.from r ++ (zeros offset ++ split_list v)) n (b e.from) system.template
    (λ r v l. row_length (on_rise (neg_ℚ one_ℚ) all e.from r) (length all) offset v (width n e.actions) m
    (length-on_rise (neg_ℚ one_ℚ) all e.from r) (wider n e.actions (length v) l) h))
    (within_both m gs os
    (guards_within m (λ v. zeros (length all) ++ (zeros offset ++ split_list v)) (width n e.actions) (guard_forms n e.actions)
    (guard_forms_width n e.actions)
    (λ v l. row_length (zeros (length all)) (length all) offset v (width n e.actions) m (length-zeros (length all)) l h)) (
      row_length (on_rise one_ℚ all u.point u.row) (length all) offset (scale_vec (neg_ℚ one_ℚ) f.coeffs) (width n e.actions) m
          (length-on_rise one_ℚ all u.point u.row)
          (subst (λ k. k ≤ width n e.actions) (sym (length-scale_vec (neg_ℚ one_ℚ) f.coeffs))
          (end_form_width n e.actions (own_row system u))) h,
      tt,
    ))

joint_within : (system : Equations) (b : Vector) (all : List Listed) (offset m : ℕ) (list : List Listed)
    → length all + (offset + word_columns system list) ≤ m → AllWithin m (joint_limits system b all offset list)
unfolding joint_limits word_columns
joint_within system b all offset m [] h = tt
joint_within system b all offset m (u ∷ rest) h =
    let c = columns_of system u + columns_of system u in
    within_both m (block_limits system b all offset u) (joint_limits system b all (offset + c) rest)
    (block_within system b all offset m u (omega (arith, h))) (joint_within system b all (offset + c) m rest (omega (arith, h)))

all_within : (system : Equations) (b : Vector) (list : List Listed) → AllWithin (length list + word_columns system list)
    (joint_limits system b list 0 list)
all_within system b list = joint_within system b list 0 (length list + word_columns system list) list (omega arith)

-- ---- points
-- a point's words run at base plus rise and reach its numbers
pub point_supports : (system : Equations) (b : Vector) (list : List Listed) (x : ℕ → ℚ) → AllRising system b list
    → IsPoint (joint_problem system b list) x →
    AllSupport system (raised list x b) list (joint_words system list x)
unfolding joint_problem limits_problem joint_words
point_supports system b list x rising p =
    joint_out system b list 0 list x rising (under_from true (length list + word_columns system list) (joint_limits system b list 0 list) x
    (all_within system b list) p.meets)

-- and its rises are at least 0
pub point_rises : (system : Equations) (b : Vector) (list : List Listed) (x : ℕ → ℚ) → IsPoint (joint_problem system b list) x → (k : ℕ)
    → k < length list → zero_ℚ ≤ℚ x k
unfolding joint_problem limits_problem
point_rises system b list x p k l = p.nonneg k (omega (arith, l))

-- the goal is the sum of the rises
pub joint_value : (system : Equations) (b : Vector) (list : List Listed) (x : ℕ → ℚ)
    → value_at (joint_problem system b list) x ≡ sum_to (length list) x
unfolding joint_problem limits_problem
joint_value system b list x =
    let e = length-ones (length list) in
    product_is_sum (ones (length list)) (length list + word_columns system list) x (omega (arith, e)) ∙ product-ones (length list) x

-- along a direction that keeps the rows
pub direction_follows : (system : Equations) (b : Vector) (list : List Listed) (d : ℕ → ℚ) →
    ((r : ℕ) → r < (joint_problem system b list).rows → left (joint_problem system b list) r d ≤ℚ zero_ℚ)
    → AllFollow system b list d list (joint_words system list d)
unfolding joint_problem limits_problem joint_words
direction_follows system b list d h = joint_falls system b list 0 list d
    (under_from false (length list + word_columns system list) (joint_limits system b list 0 list) d (all_within system b list) h)

-- ---- rises and words make a point
rise_at-join : (list : List Listed) (x g : ℕ → ℚ) (p r : ℕ) → rise_at list (join (length list) x g) p r ≡ rise_at list x p r
unfolding rise_at
rise_at-join [] x g p r = refl
rise_at-join (u ∷ list) x g p r = ap (λ s. if is_at u p r then x 0 else s) (rise_at-join list (λ k. x (suc k)) g p r)

raised-point : (system : Equations) (b : Vector) (list : List Listed) (x : ℕ → ℚ) (ws : List Word)
    → raised list (joint_point system list x ws) b ≡ raised list x b
unfolding raised joint_point
raised-point system b list x ws = λ i p r. raise_by (b p r) (rise_at-join list x (word_points system list ws) p r i)

-- a word cut to its edge's columns runs as the word does, and has its value
cut_supports : (system : Equations) (y : Vector) (u : Listed) (w : Word) → Supports system y u w
    → Supports system y u (tabulate (columns_of system u) (at w))
unfolding columns_of end_value val
cut_supports system y u w s =
    let n = system.variables in
    let e = picked system u in
    let f = end_form n e.actions (own_row system u) in
    let none : NoneLost (y e.from) system.template = record {
      above = λ r row g. above_neg_inf (dotℚ row (start_of n w)) (y e.from r)
          (s.runs.fits r row g);
    } in
    record {
      runs = edge_runs system y e (at w) none (edge_meets system y e w s.runs);
      reaches = subst (λ t. y u.point u.row ≤ᴱ fin t)
          (sym (val-end_form n e.actions (own_row system u) w) ∙ ap (λ t. t +ℚ f.constant)
          (sym (product-at f.coeffs w) ∙ sym (product-tabulate f.coeffs (width n e.actions) (at w)
          (end_form_width n e.actions (own_row system u))))
          ∙ val-end_form n e.actions (own_row system u) (tabulate (width n e.actions) (at w))) s.reaches;
    }

words_support : (system : Equations) (y : Vector) (list : List Listed) (ws : List Word) → AllSupport system y list ws
    → AllSupport system y list (words_of system list (word_points system list ws))
unfolding words_of word_points
words_support system y [] ws h = tt
words_support system y (u ∷ rest) [] h = absurd h
words_support system y (u ∷ rest) (w ∷ ws) h =
    let c = columns_of system u in (
      subst (λ s. Supports system y u s) (sym (word_back c (at w) (word_points system rest ws))) (cut_supports system y u w h.0),
      subst (λ s. AllSupport system y rest (words_of system rest s)) (sym
          (shift-join (c + c) (pos_neg (at w)) (word_points system rest ws))) (words_support system y rest ws h.1),
    )

word_points_nonneg : (system : Equations) (list : List Listed) (ws : List Word) (k : ℕ) → zero_ℚ ≤ℚ word_points system list ws k
unfolding word_points
word_points_nonneg system [] ws k = Rattle.base_numbers.proofs.rational.Laws.≤ℚ_refl zero_ℚ
word_points_nonneg system (u ∷ rest) [] k = Rattle.base_numbers.proofs.rational.Laws.≤ℚ_refl zero_ℚ
word_points_nonneg system (u ∷ rest) (w ∷ ws) k =
    join_nonneg (columns_of system u + columns_of system u) (pos_neg (at w)) (word_points system rest ws) (λ j l. pos_neg_nonneg (at w) j)
    (word_points_nonneg system rest ws) k

-- rises of at least 0 with words that run and reach make a point
pub supports_point : (system : Equations) (b : Vector) (list : List Listed) (x : ℕ → ℚ) (ws : List Word) → AllRising system b list
    → ((k : ℕ) → k < length list → zero_ℚ ≤ℚ x k) →
    AllSupport system (raised list x b) list ws → IsPoint (joint_problem system b list) (joint_point system list x ws)
unfolding joint_problem limits_problem joint_point
supports_point system b list x ws rising h s =
    let g = word_points system list ws in
    let z = joint_point system list x ws in
    record {
      nonneg = λ j l. join_nonneg (length list) x g h (word_points_nonneg system list ws) j;
      meets = under_into true (length list + word_columns system list) (joint_limits system b list 0 list) z (all_within system b list)
          (joint_in system b list 0 list z rising (subst (λ y. AllSupport system y list (words_of system list (shift (length list) z)))
          (sym (raised-point system b list x ws))
          (subst (λ t. AllSupport system (raised list x b) list (words_of system list t)) (sym (shift-join (length list) x g))
          (words_support system (raised list x b) list ws s))));
    }

-- with the sum of the rises as its value
pub supports_value : (system : Equations) (b : Vector) (list : List Listed) (x : ℕ → ℚ) (ws : List Word)
    → value_at (joint_problem system b list) (joint_point system list x ws) ≡ sum_to (length list) x
unfolding joint_point
supports_value system b list x ws =
    joint_value system b list (joint_point system list x ws) ∙ sum_to_same (length list) (joint_point system list x ws) x
    (λ k l. join_below (length list) x (word_points system list ws) k l)
