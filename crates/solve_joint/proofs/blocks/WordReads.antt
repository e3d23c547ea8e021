-- The traces that are read are the words of the theory.
use Rattle.std.proofs.Common.{◌≡◌, ◌∙◌, ℕ, zero, suc, ◌+◌, ◌<◌, ◌≤◌, List, [], ◌∷◌, ◌++◌, length, get_or, map, Option, refl, ap, ap₂, sym}
use Rattle.std.proofs.Common.{arith}
use mathlib.Core.Path.{fun_ext}
use Rattle.base_numbers.specs.Rational.{ℚ, zero_ℚ, ◌-ℚ◌}
use Rattle.flow_systems.specs.declared.system.System.{System}
use Rattle.flow_systems.specs.View.{equations_of}
use Rattle.theory_validity.specs.Words.{width, free_count}
use Rattle.lp_theory.specs.Free.{unsplit}
use Rattle.theory_transformers.specs.Limits.{shift, tabulate}
use Rattle.theory_transformers.specs.JointProblems.{picked, columns_of, words_of}
use Rattle.theory_transformers.proofs.joint_problems.JointProducts.{shift-add}
use Rattle.solve_ray.specs.Reading.{differences}
use Rattle.solve_joint.specs.Numbers.{all_listed}
use Rattle.solve_joint.specs.Blocks.{edge_at, edge_for, split_width, split_columns}
use Rattle.solve_joint.specs.Layouts.{columns_from, rises_from, trace_at}
use Rattle.solve_joint.specs.Joints.{word_of}

shift_at : (n : ℕ) (x : ℕ → ℚ) (j : ℕ) → shift n x j ≡ x (n + j)
shift_at zero x j = let e : j ≡ 0 + j = omega arith in ap x e
shift_at (suc n) x j = let e : suc (n + j) ≡ suc n + j = omega arith in shift_at n (λ k. x (suc k)) j ∙ ap x e

-- the entry of a table at a place is the function's value there
pub at_tabulate : (N : ℕ) (x : ℕ → ℚ) (c : ℕ) → c < N → get_or (tabulate N x) c zero_ℚ ≡ x c
at_tabulate zero x c l = absurd (omega (arith, l))
at_tabulate (suc N) x zero l = refl
at_tabulate (suc N) x (suc c) l = at_tabulate N (λ k. x (suc k)) c (omega (arith, l))

-- two functions that agree have the same table
pub tabulate_same : (k : ℕ) (f g : ℕ → ℚ) → ((j : ℕ) → f j ≡ g j) → tabulate k f ≡ tabulate k g
tabulate_same k f g h = ap (tabulate k) (fun_ext h)

tabulate_append : (a b : ℕ) (f : ℕ → ℚ) → tabulate a f ++ tabulate b (λ j. f (a + j)) ≡ tabulate (a + b) f
tabulate_append zero b f = let e : b ≡ 0 + b = omega arith in tabulate_same b (λ j. f (0 + j)) f
    (λ j. let k : 0 + j ≡ j = omega arith in ap f k) ∙ ap (λ m. tabulate m f) e
tabulate_append (suc a) b f =
    let e : suc (a + b) ≡ suc a + b = omega arith in
    ap (λ ys. f 0 ∷ (tabulate a (λ k. f (suc k)) ++ ys)) (tabulate_same b (λ j. f (suc a + j)) (λ j. f (suc (a + j)))
    (λ j. let k : suc a + j ≡ suc (a + j) = omega arith in ap f k))
    ∙ ap (λ ys. f 0 ∷ ys) (tabulate_append a b (λ k. f (suc k))) ∙ ap (λ m. tabulate m f) e

-- the value of the j-th of columns that are two apart
abbrev valued : (ℕ → ℚ) → ℕ → ℕ → ℚ
valued x first j = x (first + (j + j)) -ℚ x (suc (first + (j + j)))

valued_at : (x : ℕ → ℚ) (a b i j : ℕ) → a + (i + i) ≡ b + (j + j) → valued x a i ≡ valued x b j
valued_at x a b i j e = ap (λ c. x c -ℚ x (suc c)) e

differences_are : (N : ℕ) (x : ℕ → ℚ) (first k : ℕ) → first + (k + k) ≤ N
    → differences (tabulate N x) (columns_from first k) ≡ tabulate k (valued x first)
differences_are N x first zero l = refl
differences_are N x first (suc k) l =
    let e : first ≡ first + (0 + 0) = omega arith in
    let f : first + 1 ≡ suc (first + (0 + 0)) = omega arith in
    ap₂ (λ y ys. y ∷ ys)
    (ap₂ (λ a b. a -ℚ b) (at_tabulate N x first (omega (arith, l)) ∙ ap x e) (at_tabulate N x (first + 1) (omega (arith, l)) ∙ ap x f))
    (differences_are N x (first + 2) k (omega (arith, l)) ∙ tabulate_same k (valued x (first + 2)) (λ j. valued x first (suc j))
    (λ j. valued_at x (first + 2) first j (suc j) (omega arith)))

word_is : (N : ℕ) (x : ℕ → ℚ) (n offset names frees : ℕ) → n + offset + ((names + names) + (frees + frees)) ≤ N →
    differences (tabulate N x) (columns_from (n + offset) names) ++ differences (tabulate N x)
    (columns_from (n + offset + (names + names)) frees) ≡ tabulate (names + frees) (unsplit (shift offset (shift n x)))
word_is N x n offset names frees l =
    ap₂ (λ a b. a ++ b) (differences_are N x (n + offset) names (omega (arith, l)))
    (differences_are N x (n + offset + (names + names)) frees (omega (arith, l))
    ∙ tabulate_same frees (valued x (n + offset + (names + names))) (λ j. valued x (n + offset) (names + j))
    (λ j. valued_at x (n + offset + (names + names)) (n + offset) j (names + j) (omega arith)))
    ∙ tabulate_append names frees (valued x (n + offset))
    ∙ tabulate_same (names + frees) (valued x (n + offset)) (unsplit (shift offset (shift n x)))
    (λ j. ap₂ (λ a b. a -ℚ b) (here (j + j)) (next (j + j)))
  where
    here : (k : ℕ) → x (n + offset + k) ≡ shift offset (shift n x) k
    here k = let e : n + offset + k ≡ n + (offset + k) = omega arith in
        ap x e ∙ sym (shift_at n x (offset + k)) ∙ sym (shift_at offset (shift n x) k)

    next : (k : ℕ) → x (suc (n + offset + k)) ≡ shift offset (shift n x) (suc k)
    next k = let e : suc (n + offset + k) ≡ n + (offset + suc k) = omega arith in
        ap x e ∙ sym (shift_at n x (offset + suc k)) ∙ sym (shift_at offset (shift n x) (suc k))

module _ (system : System) (pick : List (Option ℕ)) where
  -- the traces that are read of a list are the words of its unknowns
  pub words_are : (N : ℕ) (x : ℕ → ℚ) (n place offset : ℕ) (rest : List ℕ) → n + offset + split_columns system pick rest ≤ N →
      map word_of (map (trace_at (tabulate N x)) (rises_from system pick n place offset rest))
      ≡ words_of (equations_of system) (all_listed system pick rest) (shift offset (shift n x))
  unfolding words_of columns_of picked width
  words_are N x n place offset [] l = refl
  words_are N x n place offset (u ∷ rest) l =
      let w = split_width system (edge_for pick u) in
      ap₂ (λ y ys. y ∷ ys)
      (word_is N x n offset (length system.flow.names) (free_count (edge_at system (edge_for pick u)).actions) (omega (arith, l)))
      (words_are N x n (place + 1) (offset + w) rest (omega (arith, l))
      ∙ ap (words_of (equations_of system) (all_listed system pick rest)) (shift-add offset w (shift n x)))
