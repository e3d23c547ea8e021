-- The problem of an edge and a row at a vector, and the transformer as a total function.
use Rattle.std.specs.Prelude.{◌≡◌, ℕ, suc, Bool, true, false, ◌||◌, ℤ, List, [], ◌∷◌, ◌++◌, slice_get, Some, if◌then◌else◌}
use Rattle.base_numbers.specs.Rational.{ℚ, ◌+ℚ◌, neg_ℚ}
use Rattle.base_numbers.specs.Extended.{Ext, neg_inf, fin, pos_inf, ◌<ᴱ◌}
use Rattle.flow_edges.specs.declared.edge.Edge.{Edge}
use Rattle.flow_systems.specs.Equations.{Equations, Vector}
use Rattle.theory_validity.specs.Words.{Affine, width, guard_forms, start_form, end_form}
use Rattle.lp_theory.specs.Problem.{Problem, Outcome, best, unbounded, empty}
use Rattle.lp_theory.specs.Free.{free_lp, split_problem}
use Rattle.theory_transformers.specs.Limits.{Limit, limits_problem}

-- the row of a template row with this bound, if the bound is finite, before others
unfoldable pub source_limit : (List ℚ → List ℚ) → ℕ → Ext → List ℤ → List Limit → List Limit
source_limit embed n neg_inf row rest = rest
source_limit embed n (fin c) row rest = record { coeffs = embed (start_form n row).coeffs; side = c } ∷ rest
source_limit embed n pos_inf row rest = rest

-- the template rows whose bound is finite, with that bound as side
unfoldable pub source_limits : (ℕ → List ℚ → List ℚ) → ℕ → (ℕ → Ext) → List (List ℤ) → List Limit
source_limits embed n bounds [] = []
source_limits embed n bounds (row ∷ rows) = source_limit (embed 0) n (bounds 0) row
    (source_limits (λ r. embed (suc r)) n (λ r. bounds (suc r)) rows)

-- the guards, with the negated constant as side
unfoldable pub guard_limits : (List ℚ → List ℚ) → List Affine → List Limit
guard_limits embed [] = []
guard_limits embed (g ∷ gs) = record { coeffs = embed g.coeffs; side = neg_ℚ g.constant } ∷ guard_limits embed gs

-- the rows of an edge's problem: those of its source, and then its guards
unfoldable pub edge_limits : Equations → Vector → Edge → List Limit
edge_limits system z edge =
    source_limits (λ r u. u) system.variables (z edge.from) system.template
    ++ guard_limits (λ u. u) (guard_forms system.variables edge.actions)

-- the problem over a word's columns, of any sign
unfoldable pub edge_problem : Equations → Vector → Edge → List ℤ → Problem
edge_problem system z edge row = limits_problem (width system.variables edge.actions) (edge_limits system z edge)
    (end_form system.variables edge.actions row).coeffs

-- the same over split columns
abbrev pub whole_problem : Equations → Vector → Edge → List ℤ → Problem
whole_problem system z edge row = split_problem (edge_problem system z edge row)

-- whether a bound is −∞
abbrev pub is_lost : Ext → Bool
is_lost neg_inf = true
is_lost (fin c) = false
is_lost pos_inf = false

-- whether some row's bound is −∞
unfoldable pub lost : (ℕ → Ext) → List (List ℤ) → Bool
lost bounds [] = false
lost bounds (row ∷ rows) = is_lost (bounds 0) || lost (λ r. bounds (suc r)) rows

-- the extended number of an outcome
abbrev pub value_of : ℚ → Outcome → Ext
value_of c (best x v y) = fin (v +ℚ c)
value_of c (unbounded x d) = pos_inf
value_of c (empty y) = neg_inf

-- the transformer of an edge and a row at a vector
unfoldable pub transformer : Equations → Vector → Edge → List ℤ → Ext
transformer system z edge row =
    if lost (z edge.from) system.template then neg_inf
    else value_of (end_form system.variables edge.actions row).constant (free_lp (edge_problem system z edge row))

-- no template row has the bound −∞
pub record NoneLost (bounds : ℕ → Ext) (rows : List (List ℤ)) : Type 0 where
  pub above : (r : ℕ) (row : List ℤ) → slice_get rows r ≡ Some row → neg_inf <ᴱ bounds r
