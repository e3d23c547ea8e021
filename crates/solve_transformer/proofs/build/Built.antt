-- The problem that is built from a source.
use Rattle.std.proofs.Common.{◌≡◌, ◌∙◌, ℕ, zero, suc, ◌+◌, ◌<◌, ◌≤◌, ℤ, List, [], ◌∷◌, ◌++◌, length, get_or, map, refl, ap, ap₂, sym, subst}
use Rattle.std.proofs.Common.{◌*◌, arith}
use Rattle.std.proofs.lemmas.List.{length-map, map-append, length-append}
use Rattle.base_numbers.specs.Rational.{ℚ}
use Rattle.base_fractions.specs.declared.ext.Ext.{Ext}
use Rattle.flow_edges.specs.declared.edge.Edge.{Edge}
use Rattle.flow_systems.specs.Equations.{Equations, Vector}
use Rattle.theory_validity.specs.Words.{width, guard_forms, end_form}
use Rattle.theory_validity.proofs.words.Widths.{end_form_width, guard_forms_width}
use Rattle.lp_theory.specs.Problem as lp
use Rattle.lp_theory.specs.Free.{split_problem}
use Rattle.lp_dictionary.specs.declared.problem.Row.{Row}
use Rattle.lp_dictionary.specs.declared.problem.Problem.{Problem}
use Rattle.lp_dictionary.specs.Exact.{exact, IsShaped}
use Rattle.theory_transformers.specs.Limits.{Limit, AllWithin, limits_problem}
use Rattle.theory_transformers.specs.EdgeProblems.{source_limits, guard_limits, edge_limits, edge_problem, whole_problem}
use Rattle.theory_transformers.proofs.limits.LimitLaws.{within_both}
use Rattle.theory_transformers.proofs.limits.SourceLimits.{source_within, guards_within}
use Rattle.theory_transformers.proofs.edge_problems.EdgePoints.{wider}
use Rattle.solve_composition.specs.declared.affine.Affine.{Affine}
use Rattle.solve_composition.specs.Composed.{first_entries, dense}
use Rattle.solve_transformer.specs.Splits.{bounds_at, pairs, split_limit, limit_of, IsSource}
use Rattle.solve_transformer.specs.Readings.{HasSizes}
use Rattle.solve_composition.proofs.composed.Dense.{length-first_entries}
use Rattle.solve_transformer.proofs.split.Pairs.{length-pairs}
use Rattle.solve_transformer.proofs.build.Sources.{sizes_same, limits_few, length-guard_limits}
use Rattle.solve_transformer.proofs.splits.Problems.{exact_is}
use Rattle.flow_templates.specs.declared.limits.TheConstants.{MOST_ROWS}
use Rattle.lang_tree.specs.declared.limits.TheConstants.{MOST_VARIABLES}
use Rattle.flow_edges.specs.declared.limits.TheConstants.{MOST_ACTIONS}

edge_within : (system : Equations) (z : Vector) (edge : Edge) → AllWithin (width system.variables edge.actions) (edge_limits system z edge)
unfolding edge_limits
edge_within system z edge =
    let n = system.variables in
    let m = width n edge.actions in
    within_both m (source_limits (λ r u. u) n (z edge.from) system.template) (guard_limits (λ u. u) (guard_forms n edge.actions))
    (source_within m (λ r u. u) n (z edge.from) system.template (λ r u l. wider n edge.actions (length u) l))
    (guards_within m (λ u. u) m (guard_forms n edge.actions) (guard_forms_width n edge.actions) (λ u l. l))

edge_parts : (system : Equations) (z : Vector) (edge : Edge) → edge_limits system z edge
    ≡ source_limits (λ r u. u) system.variables (z edge.from) system.template
    ++ guard_limits (λ u. u) (guard_forms system.variables edge.actions)
unfolding edge_limits
edge_parts system z edge = refl

problem_is : (system : Equations) (z : Vector) (edge : Edge) (row : List ℤ) →
    split_problem (limits_problem (width system.variables edge.actions) (edge_limits system z edge)
    (end_form system.variables edge.actions row).coeffs) ≡ whole_problem system z edge row
unfolding edge_problem
problem_is system z edge row = refl

-- ---- every row is as long as the goal
row_long : (rows : List (Row ℚ)) (limits : List Limit) (w : ℕ) → map limit_of rows ≡ map (split_limit w) limits → (k : ℕ) (d : Row ℚ)
    → k < length rows → length (get_or rows k d).coeffs ≡ w + w
row_long [] limits w h k d l = absurd (omega (arith, l))
row_long (r ∷ rows) [] w h k d l = absurd cc
row_long (r ∷ rows) (m ∷ limits) w h zero d l =
    let head : limit_of r ≡ split_limit w m = cc in
    ap (λ (x : Limit). length x.coeffs) head ∙ length-pairs (first_entries w m.coeffs) ∙ ap (λ n. n + n) (length-first_entries w m.coeffs)
row_long (r ∷ rows) (m ∷ limits) w h (suc k) d l =
    let tail : map limit_of rows ≡ map (split_limit w) limits = cc in
    row_long rows limits w tail k d (omega (arith, l))

module _ (system : Equations) (z : Vector) (edge : Edge) (row : List ℤ) (w : ℕ) (template : List (List ℤ)) (source : List Ext)
    (guards : List Affine) (form : Affine) (s : IsSource system z edge row w template source guards form) where
  limits_are : (list : List Limit) → list ≡ map (split_limit w) (source_limits (λ r u. u) system.variables (bounds_at source) template)
      ++ map (split_limit w) (guard_limits (λ u. u) (guard_forms system.variables edge.actions)) →
      list ≡ map (split_limit w) (edge_limits system z edge)
  limits_are list h =
      h ∙ sym (map-append (split_limit w) (source_limits (λ r u. u) system.variables (bounds_at source) template)
      (guard_limits (λ u. u) (guard_forms system.variables edge.actions)))
      ∙ ap₂ (λ t b. map (split_limit w) (source_limits (λ r u. u) system.variables b t
      ++ guard_limits (λ u. u) (guard_forms system.variables edge.actions))) s.rows s.bounds
      ∙ ap (map (split_limit w)) (sym (edge_parts system z edge))

  goal_is : (goal : List ℚ) → goal ≡ pairs form.coeffs → goal ≡ pairs (first_entries w (end_form system.variables edge.actions row).coeffs)
  goal_is goal g = g ∙ ap (λ (f : Affine). pairs f.coeffs) s.goal

  module _ (p : Problem ℚ) (h : map limit_of p.rows.items ≡ map (split_limit w)
      (source_limits (λ r u. u) system.variables (bounds_at source) template)
      ++ map (split_limit w) (guard_limits (λ u. u) (guard_forms system.variables edge.actions)))
      (g : p.goal ≡ pairs form.coeffs) where
    -- it is the problem of the edge and the row
    pub built_exact : exact (λ (q : ℚ). q) p ≡ whole_problem system z edge row
    built_exact =
        exact_is p w (edge_limits system z edge) (end_form system.variables edge.actions row).coeffs
        (limits_are (map limit_of p.rows.items) h) (goal_is p.goal g)
        (subst (λ m. AllWithin m (edge_limits system z edge)) (sym s.columns) (edge_within system z edge))
        (subst (λ m. length (end_form system.variables edge.actions row).coeffs ≤ m) (sym s.columns)
        (end_form_width system.variables edge.actions row))
        ∙ ap (λ m. split_problem (limits_problem m (edge_limits system z edge) (end_form system.variables edge.actions row).coeffs))
        s.columns
        ∙ problem_is system z edge row

    goal_long : length p.goal ≡ w + w
    goal_long =
        ap (λ (xs : List ℚ). length xs) (goal_is p.goal g) ∙ length-pairs
        (first_entries w (end_form system.variables edge.actions row).coeffs)
        ∙ ap (λ n. n + n) (length-first_entries w (end_form system.variables edge.actions row).coeffs)

    -- and it is shaped
    pub built_shaped : length template ≤ MOST_ROWS → length guards ≤ 2 * MOST_ACTIONS → w ≤ MOST_VARIABLES + MOST_ACTIONS → IsShaped p
    built_shaped t b c =
        let count = ap (λ (xs : List Limit). length xs) h ∙ length-append
        (map (split_limit w) (source_limits (λ r u. u) system.variables (bounds_at source) template))
        (map (split_limit w) (guard_limits (λ u. u) (guard_forms system.variables edge.actions))) in
        let all = length-map p.rows.items limit_of in
        let first = length-map (source_limits (λ r u. u) system.variables (bounds_at source) template) (split_limit w) in
        let second = length-map (guard_limits (λ u. u) (guard_forms system.variables edge.actions)) (split_limit w)
        ∙ length-guard_limits (guard_forms system.variables edge.actions) in
        let few = limits_few system.variables (bounds_at source) template in
        let same = ap (λ (xs : List Affine). length xs) s.limits ∙ length-map (guard_forms system.variables edge.actions) (dense w) in
        let long = goal_long in
        record {
          rows = λ k d l. row_long p.rows.items (edge_limits system z edge) w (limits_are (map limit_of p.rows.items) h) k d l ∙ sym long;
          few = omega (arith, count, all, first, second, few, same, long, t, b, c);
        }

  -- the sizes of the problem
  pub built_sizes : (count : ℕ) → count ≡ length guards → HasSizes (whole_problem system z edge row) w (bounds_at source) template count
  unfolding edge_problem limits_problem split_problem
  built_sizes count e =
      let same = ap (λ (xs : List Affine). length xs) s.limits ∙ length-map (guard_forms system.variables edge.actions) (dense w) in
      record {
        cols = ap (λ m. m + m) (sym s.columns);
        rows = ap (λ (xs : List Limit). length xs) (edge_parts system z edge)
            ∙ length-append (source_limits (λ r u. u) system.variables (z edge.from) system.template)
            (guard_limits (λ u. u) (guard_forms system.variables edge.actions))
            ∙ ap₂ (λ a b. a + b)
            (sizes_same system.variables 0 (z edge.from) system.template
            ∙ ap₂ (λ b t. length (source_limits (λ k u. u) 0 b t)) (sym s.bounds) (sym s.rows))
            (length-guard_limits (guard_forms system.variables edge.actions) ∙ sym same ∙ sym e);
      }

  -- the problem of an edge and a row has the sizes of the source's bounds, the template and the guards
  pub sizes_for : (count : ℕ) → count ≡ length guards → (P : lp.Problem) → P ≡ whole_problem system z edge row
      → HasSizes P w (bounds_at source) template count
  sizes_for count e P same = subst (λ Q. HasSizes Q w (bounds_at source) template count) (sym same) (built_sizes count e)
