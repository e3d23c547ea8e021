-- The anchors of a function are the points of its core that have one.
use Rattle.std.proofs.Common.{◌≡◌, ◌∙◌, ◌++◌, ◌∷◌, ℕ, List, [], false, length, map, reverse, Result, Ok, Err, refl, sym, ap, subst}
use Rattle.std.proofs.lemmas.List.{map-append}
use Rattle.flow_edges.specs.declared.point.Place.TheVariants.{Exit}
use Rattle.flow_edges.specs.declared.point.Point.{Point}
use Rattle.flow_edges.specs.Points.{Made, made_in, points_of_program}
use Rattle.source_grammar.specs.Grammar.{MoreParameters, last_parameter, next_parameter, Parameters, no_parameters, void_parameters}
use Rattle.source_grammar.specs.Grammar.{some_parameters, Parameter, number_parameter, pointer_parameter, array_parameter, Function}
use Rattle.source_grammar.specs.Grammar.{function}
use Rattle.source_tree.specs.Statements.{Statements, nil}
use Rattle.source_core.specs.Core.{taken_any, core_in}
use Rattle.source_meaning.specs.declared.fault.FunctionFault.{FunctionFault}
use Rattle.source_meaning.specs.declared.fault.FunctionFault.TheVariants.{NoVariables}
use Rattle.source_tree.specs.Expressions.{endless}
use Rattle.source_meaning.specs.Names.{State, start_state, with_variable, declared_number, fresh_array}
use Rattle.source_meaning.specs.Arrays.{read_bounds}
use Rattle.source_meaning.specs.Limits.{counted}
use Rattle.source_meaning.specs.Statements.{followed_by, read_items}
use Rattle.source_meaning.specs.Walk.{width_of, read_parameter, read_more_parameters, read_parameters, function_of, walk}
use Rattle.source_meaning.proofs.results.Values.{value_of}
use Rattle.source_meaning.proofs.walk.Reads.{Reads, walk_reads}
use Rattle.acsl_anchors.specs.Anchors as spec
use Rattle.acsl_anchors.specs.Anchors.{no_scope, scope_parameter, end_place, end_at, scope_items, scope_more_parameters}
use Rattle.acsl_anchors.specs.Anchors.{scope_parameters}
use Rattle.acsl_anchors.specs.Anchors.{anchors_items, anchors_of}
use Rattle.acsl_anchors.specs.Laws.{point_of, anchored}
use Rattle.acsl_anchors.proofs.walked.Binds.{met, IsOk, ok_is}
use Rattle.acsl_anchors.proofs.walked.Parts.{passes_by, passes_then, declares_still, still_declares, declares_none, declares_passes}
use Rattle.acsl_anchors.proofs.walked.Parts.{still_passes}
use Rattle.acsl_anchors.proofs.walked.Parts.{variable_adds, array_adds, array_still, counted_still, still_here}
use Rattle.acsl_anchors.proofs.walked.Points.{anchored_in, anchored_append, anchored_followed}
use Rattle.acsl_anchors.proofs.walked.Matches.{items_matches}
use Rattle.base_integers.specs.declared.integers.Integers.{Integers}

module _ (integers : Integers) (line : ℕ → ℕ) (n : ℕ) where
  -- A parameter is declared.
  parameter_passes : (p : Parameter) (st : State) (r : State × Statements) → IsOk (read_parameter integers line st p) r
      → passes_by integers n (scope_parameter p) st r
  parameter_passes (number_parameter t x at) st r h =
      let now = met (with_variable x at st) _ r h in
      let i = declared_number now.value in
      let more = met (counted at (length (taken_any integers i (line at))) now.value) _ r now.gave in
      let d = declares_still (spec.declared x.text) st now.value more.value (variable_adds x at st now.value now.was)
      (counted_still at (length (taken_any integers i (line at))) now.value more.value more.was) in
      let P : State × Statements → Type 0 = λ z. passes_by integers n (spec.declared x.text) st z in
      subst P (ok_is _ r more.gave) (declares_passes integers n (spec.declared x.text) st more.value _ d (declares_none integers n i
      (line at)))
  parameter_passes (pointer_parameter t a x at) st r h =
      let now = met (fresh_array x at st) _ r h in
      let d = still_declares (λ s. s) st now.value _ (array_still x at st now.value now.was) (array_adds x (endless ∷ []) now.value) in
      let P : State × Statements → Type 0 = λ z. passes_by integers n (λ s. s) st z in
      subst P (ok_is _ r now.gave) (declares_passes integers n (λ s. s) st _ nil d (λ m. refl))
  parameter_passes (array_parameter t x at bs) st r h =
      let now = met (fresh_array x at st) _ r h in
      let extents = met (read_bounds now.value bs) _ r now.gave in
      let d = still_declares (λ s. s) st now.value _ (array_still x at st now.value now.was) (array_adds x extents.value now.value) in
      let P : State × Statements → Type 0 = λ z. passes_by integers n (λ s. s) st z in
      subst P (ok_is _ r extents.gave) (declares_passes integers n (λ s. s) st _ nil d (λ m. refl))

  -- So are those behind the first.
  more_pass : (ps : MoreParameters) (st : State) (r : State × Statements) → IsOk (read_more_parameters integers line st ps) r
      → passes_by integers n (scope_more_parameters ps) st r
  more_pass last_parameter st r h =
      let P : State × Statements → Type 0 = λ z. passes_by integers n (λ s. s) st z in
      subst P (ok_is _ r h) (still_passes integers n st st nil (still_here st) (λ m. refl))
  more_pass (next_parameter a p ps) st r h =
      let o = met (read_parameter integers line st p) _ r h in
      let q = met (read_more_parameters integers line o.value.0 ps) _ r o.gave in
      let P : State × Statements → Type 0 = λ z. passes_by integers n (λ s. scope_more_parameters ps (scope_parameter p s)) st z in
      subst P (ok_is _ r q.gave)
      (passes_then integers n (scope_parameter p) (scope_more_parameters ps) st o.value.0 q.value.0 o.value.1 q.value.1
      (parameter_passes p st o.value o.was) (more_pass ps o.value.0 q.value q.was))

  -- Parameters are declared, and have no anchors.
  pub parameters_pass : (ps : Parameters) (st : State) (r : State × Statements) → IsOk (read_parameters integers line st ps) r
      → passes_by integers n (scope_parameters ps) st r
  parameters_pass no_parameters st r h =
      let P : State × Statements → Type 0 = λ z. passes_by integers n (λ s. s) st z in
      subst P (ok_is _ r h) (still_passes integers n st st nil (still_here st) (λ m. refl))
  parameters_pass (void_parameters a) st r h =
      let P : State × Statements → Type 0 = λ z. passes_by integers n (λ s. s) st z in
      subst P (ok_is _ r h) (still_passes integers n st st nil (still_here st) (λ m. refl))
  parameters_pass (some_parameters p ps) st r h =
      let o = met (read_parameter integers line st p) _ r h in
      let q = met (read_more_parameters integers line o.value.0 ps) _ r o.gave in
      let P : State × Statements → Type 0 = λ z. passes_by integers n (λ s. scope_more_parameters ps (scope_parameter p s)) st z in
      subst P (ok_is _ r q.gave)
      (passes_then integers n (scope_parameter p) (scope_more_parameters ps) st o.value.0 q.value.0 o.value.1 q.value.1
      (parameter_passes p st o.value o.was) (more_pass ps o.value.0 q.value q.was))

-- A function's statements are those of its parameters and its body.
nodes_are : (integers : Integers) (line : ℕ → ℕ) (st : State) (ns body : Statements) (names : List (List ℕ))
    → IsOk (function_of integers line st ns) (names, body)
    → ns ≡ body
nodes_are integers line st ns body names h = by_names (reverse st.variables) h where
  by_names : (xs : List (List ℕ)) → IsOk (elim xs as (λ z. Result (List (List ℕ) × Statements) FunctionFault)
      [ [] ↦ Err NoVariables | y ∷ ys ↦ Ok (y ∷ ys, ns) ]) (names, body) → ns ≡ body
  by_names [] e = cc
  by_names (y ∷ ys) e = ap (λ (z : List (List ℕ) × Statements). z.1) (ok_is (y ∷ ys, ns) (names, body) e)

-- The anchors of a function and the points of its core, with hidden variables behind its width.
points_at : (integers : Integers) (line : ℕ → ℕ) (f : Function) (names : List (List ℕ)) (body : Statements)
    → walk integers line f ≡ Ok (names, body)
    → map (point_of line) (anchors_of f) ≡ anchored (points_of_program (core_in integers (width_of f) body))
points_at integers line (function ss x a ps b c is d) names body h =
    let n = width_of (function ss x a ps b c is d) in
    let p = met (read_parameters integers line start_state ps) _ (names, body) h in
    let r = met (read_items integers line n false p.value.0 is) _ (names, body) p.gave in
    let passes = parameters_pass integers line n ps start_state p.value p.was in
    let m = items_matches integers line n false is p.value.0 r.value r.was in
    let same = nodes_are integers line r.value.0 (followed_by p.value.1 r.value.1) body names r.gave in
    let s = scope_parameters ps no_scope in
    let (k, e) = anchored_followed integers n p.value.1 r.value.1 1 in
    map-append (point_of line) (anchors_items is s) (end_at (end_place is d) (scope_items is s) ∷ [])
    ∙ ap (λ (l : List Point). l ++ record { place = Exit; line = 0 } ∷ [])
    (m.points s k ∙ ap (λ (l : List Point). l ++ anchored_in (core_in integers n r.value.1) k) (sym (passes.none 1)) ∙ sym e
    ∙ ap (λ (ns : Statements). anchored_in (core_in integers n ns) 1) same)
    ∙ sym (anchored_append (map (λ (x : Made). x.point) (made_in (core_in integers n body) 1)) (record { place = Exit; line = 0 } ∷ []))

-- The anchors of a function and the points of its core.
pub points_are : (integers : Integers) (line : ℕ → ℕ) (f : Function) (names : List (List ℕ)) (body : Statements)
    → walk integers line f ≡ Ok (names, body)
    → map (point_of line) (anchors_of f) ≡ anchored (points_of_program (core_in integers (length names) body))
points_are integers line f names body h =
    let width = (value_of (Reads integers f) (walk integers line f) (names, body) (walk_reads integers line f) h).width in
    points_at integers line f names body h ∙ ap (λ (n : ℕ). anchored (points_of_program (core_in integers n body))) (sym width)
