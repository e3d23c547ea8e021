-- Rows that stand for the limits of a problem make that problem.
use Rattle.std.proofs.Common.{◌≡◌, ◌∙◌, ℕ, zero, suc, ◌+◌, ◌<◌, List, [], ◌∷◌, ◌++◌, length, get_or, Option, refl, ap, ap₂, sym, subst}
use Rattle.std.proofs.Common.{length-append, arith}
use mathlib.Core.Path.{fun_ext}
use Rattle.base_numbers.proofs.vector.Vectors.{length-zeros}
use Rattle.base_numbers.specs.Vector.{zeros}
use Rattle.base_numbers.specs.Rational.{ℚ}
use Rattle.lp_theory.specs.Problem.{Problem}
use Rattle.lp_theory.specs.Listed.{at, list_problem}
use Rattle.theory_transformers.specs.Limits.{Limit, no_limit, limits_problem}
use Rattle.std.proofs.lemmas.List.{length-map}
use Rattle.base_numbers.specs.Extended.{Ext}
use Rattle.flow_systems.specs.declared.system.System.{System}
use Rattle.flow_systems.specs.View.{equations_of, vector_of}
use Rattle.theory_transformers.specs.JointProblems.{ones, joint_limits, word_columns, joint_problem}
use Rattle.solve_joint.specs.Numbers.{listed_of, all_listed, Rises, ArePicked}
use Rattle.solve_joint.specs.Blocks.{blocks_from, split_columns}
use Rattle.solve_joint.specs.Problems.{problem_of, MakeProblem}
use Rattle.solve_joint.proofs.blocks.Translated.{columns_are, blocks_are}
use Rattle.theory_transformers.proofs.joint_problems.JointProducts.{length-ones}
use Rattle.solve_joint.specs.Rows.{AllStand}
use Rattle.solve_joint.proofs.rows.Padded.{same_zeros}

-- ---- row by row
pub counted : (cols : ℕ) (rows : List (List ℚ)) (sides : List ℚ) (ls : List Limit) → AllStand cols rows sides ls
    → (length sides ≡ length ls) × (length rows ≡ length sides)
counted cols [] [] [] h = (refl, refl)
counted cols [] [] (l ∷ ls) h = absurd h
counted cols [] (s ∷ sides) ls h = absurd h
counted cols (r ∷ rows) [] ls h = absurd h
counted cols (r ∷ rows) (s ∷ sides) [] h = absurd h
counted cols (r ∷ rows) (s ∷ sides) (l ∷ ls) h = let k = counted cols rows sides ls h.1 in (ap (λ n. suc n) k.0, ap (λ n. suc n) k.1)

entries_same : (cols : ℕ) (rows : List (List ℚ)) (sides : List ℚ) (ls : List Limit) → AllStand cols rows sides ls → (r k : ℕ)
    → at (get_or rows r []) k ≡ at (get_or ls r no_limit).coeffs k
unfolding no_limit
entries_same cols [] [] [] h r k = refl
entries_same cols [] [] (l ∷ ls) h r k = absurd h
entries_same cols [] (s ∷ sides) ls h r k = absurd h
entries_same cols (x ∷ rows) [] ls h r k = absurd h
entries_same cols (x ∷ rows) (s ∷ sides) [] h r k = absurd h
entries_same cols (x ∷ rows) (s ∷ sides) (l ∷ ls) h zero k = h.0.entries k
entries_same cols (x ∷ rows) (s ∷ sides) (l ∷ ls) h (suc r) k = entries_same cols rows sides ls h.1 r k

sides_same : (cols : ℕ) (rows : List (List ℚ)) (sides : List ℚ) (ls : List Limit) → AllStand cols rows sides ls → (r : ℕ)
    → at sides r ≡ (get_or ls r no_limit).side
unfolding no_limit
sides_same cols [] [] [] h r = refl
sides_same cols [] [] (l ∷ ls) h r = absurd h
sides_same cols [] (s ∷ sides) ls h r = absurd h
sides_same cols (x ∷ rows) [] ls h r = absurd h
sides_same cols (x ∷ rows) (s ∷ sides) [] h r = absurd h
sides_same cols (x ∷ rows) (s ∷ sides) (l ∷ ls) h zero = h.0.same_side
sides_same cols (x ∷ rows) (s ∷ sides) (l ∷ ls) h (suc r) = sides_same cols rows sides ls h.1 r

-- each row has one coefficient for each column
pub row_length : (cols : ℕ) (rows : List (List ℚ)) (sides : List ℚ) (ls : List Limit) → AllStand cols rows sides ls → (r : ℕ)
    → r < length rows → length (get_or rows r []) ≡ cols
row_length cols [] sides ls h r l = absurd (omega (arith, l))
row_length cols (x ∷ rows) [] ls h r l = absurd h
row_length cols (x ∷ rows) (s ∷ sides) [] h r l = absurd h
row_length cols (x ∷ rows) (s ∷ sides) (m ∷ ls) h zero l = h.0.size
row_length cols (x ∷ rows) (s ∷ sides) (m ∷ ls) h (suc r) l = row_length cols rows sides ls h.1 r (omega (arith, l))

-- the whole problem
pub same_problem : (n more cols : ℕ) (rows : List (List ℚ)) (sides goal : List ℚ) (ls : List Limit) → cols ≡ n + more
    → AllStand cols rows sides ls → goal ≡ ones n ++ zeros more →
    list_problem (length goal) rows sides goal ≡ limits_problem (n + more) ls (ones n)
unfolding limits_problem
same_problem n more cols rows sides goal ls c h e =
    let size : length goal ≡ n + more = ap (λ xs. length xs) e ∙ length-append (ones n) (zeros more)
    ∙ ap₂ (λ x y. x + y) (length-ones n) (length-zeros more) in
    let P : ℕ → ℕ → Problem = λ w m. record { cols = w; rows = m; coef = λ r. at (get_or rows r []); side = at sides; goal = at goal } in
    let Q : (ℕ → ℕ → ℚ) → (ℕ → ℚ) → (ℕ → ℚ) → Problem = λ a s g. record {
      cols = n + more;
      rows = length ls;
      coef = a;
      side = s;
      goal =
          g;
    } in
    ap₂ P size (counted cols rows sides ls h).0
    ∙ ap (λ a. Q a (at sides) (at goal)) (fun_ext (λ r. fun_ext (λ k. entries_same cols rows sides ls h r k)))
    ∙ ap₂ (λ s g. Q (λ r. at (get_or ls r no_limit).coeffs) s g) (fun_ext (λ r. sides_same cols rows sides ls h r))
    (fun_ext (λ k. ap (λ xs. at xs k) e ∙ same_zeros (ones n) more k))

-- that of a list of unknowns
pub made_problem : (system : System) (pick : List (Option ℕ)) (base : List Ext) (list : List ℕ) (cols : ℕ) (rows : List (List ℚ))
    (sides goal : List ℚ) → Rises 0 list → ArePicked system pick list → cols ≡ length list + split_columns system pick list →
    AllStand cols rows sides (blocks_from system pick base list 0 list)
    → goal ≡ ones (length list) ++ zeros (split_columns system pick list)
    → MakeProblem (problem_of system pick base list) rows sides goal
unfolding joint_problem
made_problem system pick base list cols rows sides goal rises picked c h e =
    let us = all_listed system pick list in
    let n = sym (length-map list (listed_of (length system.template) pick)) in
    let m = columns_are system pick base list rises list in
    record {
      same = same_problem (length us) (word_columns (equations_of system) us) cols rows sides goal
          (joint_limits (equations_of system) (vector_of (length system.template) base) us 0 us) (c ∙ ap₂ (λ x y. x + y) n m)
          (subst (AllStand cols rows sides) (blocks_are system pick base list rises 0 list picked) h)
          (e ∙ ap₂ (λ x y. ones x ++ zeros y) n m);
      count = (counted cols rows sides (blocks_from system pick base list 0 list) h).1;
    }
