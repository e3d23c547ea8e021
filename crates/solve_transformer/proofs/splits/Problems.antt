-- The problem that the code builds is that of the edge and the row.
use Rattle.std.proofs.Common.{◌≡◌, ◌∙◌, ℕ, zero, suc, ◌+◌, ◌≤◌, List, [], ◌∷◌, length, get_or, map, refl, ap, ap₂, arith}
use Rattle.std.proofs.lemmas.List.{length-map}
use mathlib.Core.Path.{fun_ext}
use Rattle.base_numbers.specs.Rational.{ℚ}
use Rattle.lp_theory.specs.Problem as lp
use Rattle.lp_theory.specs.Listed.{at, list_problem}
use Rattle.lp_theory.specs.Free.{split, split_problem}
use Rattle.theory_transformers.specs.Limits.{Limit, no_limit, limits_problem, AllWithin}
use Rattle.lp_dictionary.specs.declared.problem.Row.{Row}
use Rattle.lp_dictionary.specs.declared.problem.Problem.{Problem}
use Rattle.lp_dictionary.specs.Exact.{exact}
use Rattle.solve_composition.specs.Composed.{first_entries}
use Rattle.solve_transformer.specs.Splits.{pairs, split_limit, limit_of}
use Rattle.solve_transformer.proofs.split.Pairs.{at-pairs, length-pairs}
use Rattle.solve_composition.proofs.composed.Dense.{length-first_entries}

same_problem : (c c' r r' : ℕ) (f f' : ℕ → ℕ → ℚ) (s s' g g' : ℕ → ℚ) → c ≡ c' → r ≡ r' → f ≡ f' → s ≡ s' → g ≡ g' →
    (let P : lp.Problem = record { cols = c; rows = r; coef = f; side = s; goal = g } in P)
    ≡ (let Q : lp.Problem = record { cols = c'; rows = r'; coef = f'; side = s'; goal = g' } in Q)
same_problem c c' r r' f f' s s' g g' e h k m n =
    ap₂ (λ x y. let P : lp.Problem = record { cols = x; rows = y; coef = f; side = s; goal = g } in P) e h
    ∙ ap₂ (λ x y. let P : lp.Problem = record { cols = c'; rows = r'; coef = x; side = y; goal = g } in P) k m
    ∙ ap (λ x. let P : lp.Problem = record { cols = c'; rows = r'; coef = f'; side = s'; goal = x } in P) n

coef_same : (w : ℕ) (limits : List Limit) (r j : ℕ) → AllWithin w limits
    → at (get_or (map (λ l. l.coeffs) (map (split_limit w) limits)) r []) j ≡ split (at (get_or limits r no_limit).coeffs) j
unfolding no_limit
coef_same w [] r j h = at-pairs 0 [] j (omega arith)
coef_same w (l ∷ ls) zero j h = at-pairs w l.coeffs j h.0
coef_same w (l ∷ ls) (suc r) j h = coef_same w ls r j h.1

side_same : (w : ℕ) (limits : List Limit) (r : ℕ) → at (map (λ l. l.side) (map (split_limit w) limits)) r ≡ (get_or limits r no_limit).side
unfolding no_limit
side_same w [] r = refl
side_same w (l ∷ ls) zero = refl
side_same w (l ∷ ls) (suc r) = side_same w ls r

-- the problem of split limits and a split goal is the split problem of them
pub split_is : (w : ℕ) (limits : List Limit) (goal : List ℚ) → AllWithin w limits → length goal ≤ w →
    list_problem (length (pairs (first_entries w goal))) (map (λ l. l.coeffs) (map (split_limit w) limits))
    (map (λ l. l.side) (map (split_limit w) limits)) (pairs (first_entries w goal)) ≡ split_problem (limits_problem w limits goal)
unfolding split_problem limits_problem
split_is w limits goal h l =
    same_problem (length (pairs (first_entries w goal))) (w + w) (length (map (λ (x : Limit). x.side) (map (split_limit w) limits)))
    (length limits)
    (λ r. at (get_or (map (λ (x : Limit). x.coeffs) (map (split_limit w) limits)) r [])) (λ r. split (at (get_or limits r no_limit).coeffs))
    (at (map (λ (x : Limit). x.side) (map (split_limit w) limits))) (λ r. (get_or limits r no_limit).side)
    (at (pairs (first_entries w goal))) (split (at goal))
    (length-pairs (first_entries w goal) ∙ ap (λ n. n + n) (length-first_entries w goal))
    (length-map (map (split_limit w) limits) (λ (x : Limit). x.side) ∙ length-map limits (split_limit w))
    (fun_ext (λ r. fun_ext (λ j. coef_same w limits r j h)))
    (fun_ext (λ r. side_same w limits r))
    (fun_ext (λ j. at-pairs w goal j l))

-- ---- the lists of the code
rows_coeffs : (rows : List (Row ℚ)) → map (λ (r : Row ℚ). r.coeffs) rows ≡ map (λ (l : Limit). l.coeffs) (map limit_of rows)
rows_coeffs [] = refl
rows_coeffs (r ∷ rows) = ap (λ xs. r.coeffs ∷ xs) (rows_coeffs rows)

rows_sides : (rows : List (Row ℚ)) → map (λ (r : Row ℚ). r.side) rows ≡ map (λ (l : Limit). l.side) (map limit_of rows)
rows_sides [] = refl
rows_sides (r ∷ rows) = ap (λ xs. r.side ∷ xs) (rows_sides rows)

-- a problem whose rows and goal are split limits and a split goal is exactly their split problem
pub exact_is : (p : Problem ℚ) (w : ℕ) (limits : List Limit) (goal : List ℚ) → map limit_of p.rows.items ≡ map (split_limit w) limits
    → p.goal ≡ pairs (first_entries w goal) → AllWithin w limits → length goal ≤ w →
    exact (λ (q : ℚ). q) p ≡ split_problem (limits_problem w limits goal)
exact_is p w limits goal h g within l =
    ap₂ (λ A b. list_problem (length p.goal) A b p.goal)
    (rows_coeffs p.rows.items ∙ ap (map (λ (x : Limit). x.coeffs)) h) (rows_sides p.rows.items ∙ ap (map (λ (x : Limit). x.side)) h)
    ∙ ap (λ c. list_problem (length c) (map (λ (x : Limit). x.coeffs) (map (split_limit w) limits))
    (map (λ (x : Limit). x.side) (map (split_limit w) limits)) c) g
    ∙ split_is w limits goal within l
