-- How large the joint problems of a system of equations can get.
use Rattle.std.proofs.Common.{◌≡◌, ◌∙◌, ⊎_elim, ℕ, suc, ◌+◌, ◌*◌, ◌≤◌, cond, List, [], ◌∷◌, ◌++◌, length}
use Rattle.std.proofs.Common.{map, refl, ap, sym, subst, arith}
use Rattle.std.specs.Prelude.{ℤ, IsTrue, flat_map}
use Rattle.std.specs.List.{enumerate_from}
use Rattle.std.proofs.lemmas.Nat.{mul-le}
use Rattle.std.proofs.lemmas.List.Sums.{sum_by-cons}
use Rattle.base_facts.specs.Elements.{In}
use Rattle.base_facts.proofs.elements.Membership.{of_map, of_flat_map}
use Rattle.flow_edges.specs.declared.edge.Action.{Action}
use Rattle.flow_edges.specs.declared.edge.Action.TheVariants.{Guard, Assign, Havoc}
use Rattle.flow_edges.specs.declared.edge.Edge.{Edge}
use Rattle.flow_edges.specs.declared.point.Point.{Point}
use Rattle.flow_edges.proofs.Each.{each_in}
use Rattle.flow_systems.specs.FreeValues.{free_count}
use Rattle.flow_systems.specs.Cells.{is_guard, guard_count, most, block_cells, cells_of}
use Rattle.flow_systems.proofs.free_values.CellCounts.{most_le}
use Rattle.flow_rationals.specs.declared.equation.Sum.{Sum}
use Rattle.flow_rationals.specs.declared.equation.Equation.{Equation}
use Rattle.flow_rationals.specs.Equations.{are_equations}
use Rattle.flow_rationals.specs.System.{variables_of, entry_and_loop, rows_of, start_form, start_actions, start_edge, sum_form, last_form}
use Rattle.flow_rationals.specs.System.{alternative_actions, alternative_edge, alternative_edges, edges_of, system_of}
use Rattle.flow_rationals.proofs.values.Sound.{IsSoundAlternative, AreSound, sound_equations, in_slice}
use Rattle.flow_rationals.proofs.traces.Rows.{length-rows}
use Rattle.flow_rationals.proofs.above.Places.{of_enumerated}
use Rattle.flow_rationals.proofs.made.Within.{length-variables}

-- ---- guards and free assignments of an edge
guard-cons : (a : Action) (actions : List Action) → guard_count (a ∷ actions) ≡ cond (is_guard a) 1 0 + guard_count actions
guard-cons a actions = sum_by-cons (λ b. cond (is_guard b) 1 0) a actions

start_guards : (n : ℕ) (equations : List Equation) (k : ℕ) → guard_count (flat_map (start_actions n) (enumerate_from k equations))
    ≡ length equations
start_guards n [] k = refl
start_guards n (e ∷ equations) k =
    let rest = flat_map (start_actions n) (enumerate_from (k + 1) equations) in
    let guard = Guard (start_form n k e.start) in
    let a = guard-cons (Havoc k) (guard ∷ rest) in
    let b = guard-cons guard rest in
    let c = start_guards n equations (k + 1) in
    omega arith

start_frees : (n : ℕ) (equations : List Equation) (k : ℕ) → free_count (flat_map (start_actions n) (enumerate_from k equations))
    ≡ length equations
start_frees n [] k = refl
start_frees n (e ∷ equations) k = ap suc (start_frees n equations (k + 1))

module _ (n k : ℕ) where
  guarded : (sums : List Sum) → guard_count (map (λ s. Guard (sum_form s)) sums ++ Assign k (last_form n) ∷ []) ≡ length sums
  guarded [] = refl
  guarded (s ∷ sums) =
      let a = guard-cons (Guard (sum_form s)) (map (λ t. Guard (sum_form t)) sums ++ Assign k (last_form n) ∷ []) in
      let b = guarded sums in
      omega arith

  alternative_guards : (sums : List Sum) → guard_count (alternative_actions n k sums) ≡ length sums
  alternative_guards sums =
      let a = guard-cons (Havoc n) (map (λ t. Guard (sum_form t)) sums ++ Assign k (last_form n) ∷ []) in
      let b = guarded sums in
      omega arith

  none_free : (sums : List Sum) → free_count (map (λ s. Guard (sum_form s)) sums ++ Assign k (last_form n) ∷ []) ≡ 0
  none_free [] = refl
  none_free (s ∷ sums) = none_free sums

-- ---- all edges
module _ (equations : List Equation) (sound : AreSound equations) where
  -- an edge is the one into the loop, or that of an alternative
  few_on : (count : List Action → ℕ) (m : ℕ) → count (start_edge equations).actions ≤ m →
      ((k : ℕ) (sums : List Sum) → IsSoundAlternative (length equations) sums → count (alternative_actions (length equations) k sums) ≤ m) →
      (edge : Edge) → In (edges_of equations) edge → count edge.actions ≤ m
  few_on count m start each edge h = ⊎_elim (λ e. subst (λ (f : Edge). count f.actions ≤ m) e start) loop h
    where
      loop : In (flat_map (alternative_edges (length equations)) (enumerate_from 0 equations)) edge → count edge.actions ≤ m
      loop j =
          let r = of_flat_map (alternative_edges (length equations)) (enumerate_from 0 equations) edge j in
          let p = of_enumerated equations 0 r.0 r.1 in
          let s = of_map (alternative_edge (length equations) r.0.0) r.0.1.alternatives edge r.2 in
          subst (λ (f : Edge). count f.actions ≤ m) s.2 (each r.0.0 s.0
          ((sound.each r.0.1 (in_slice equations p.0 r.0.1 p.1)).alternatives s.0 s.1))

  few_guards : most guard_count (edges_of equations) 1 ≤ 16
  few_guards = most_le guard_count (edges_of equations) 1 16
      (each_in (λ (e : Edge). guard_count e.actions ≤ 16) (edges_of equations) (few_on guard_count 16
      (let a = start_guards (length equations) equations 0 in let b = sound.few in omega arith)
      (λ k sums good. let a = alternative_guards (length equations) k sums in let b = good.few in omega arith)))

  few_frees : most free_count (edges_of equations) 1 ≤ 11
  few_frees = most_le free_count (edges_of equations) 1 11
      (each_in (λ (e : Edge). free_count e.actions ≤ 11) (edges_of equations) (few_on free_count 11
      (let a = start_frees (length equations) equations 0 in let b = sound.few in omega arith)
      (λ k sums good. let a = none_free (length equations) k sums in omega arith)))

-- the loop is the only point at which an edge ends
one_point : (n rows guards frees : ℕ) → rows ≡ n → n ≤ 11 → guards ≤ 16 → frees ≤ 11 →
    0 + rows * block_cells rows (n + 1) guards frees ≤ 11957
one_point n rows guards frees e h i j =
    let sources : rows * (2 * (n + 1) + 2) ≤ 286 = mul-le rows (2 * (n + 1) + 2) 11 26 (omega arith) (omega arith) in
    let words : (guards + 1) * (2 * (n + 1 + frees) + 1) ≤ 799 = mul-le (guards + 1) (2 * (n + 1 + frees) + 1) 17 47 (omega arith)
    (omega arith) in
    let block : block_cells rows (n + 1) guards frees ≤ 1087 = omega arith in
    let all : rows * block_cells rows (n + 1) guards frees ≤ 11957 = mul-le rows (block_cells rows (n + 1) guards frees) 11 1087
    (omega arith) block in
    omega (arith, all)

few_cells : (equations : List Equation) → IsTrue (are_equations equations) → cells_of (system_of equations) ≤ 11957
few_cells equations h =
    let sound = sound_equations equations h in
    one_point (length equations) (length (rows_of (length equations))) (most guard_count (edges_of equations) 1)
    (most free_count (edges_of equations) 1)
    (length-rows (length equations)) sound.few (few_guards equations sound) (few_frees equations sound)

-- the same of parts that are those of the system
abbrev pub HasFew : ℕ → ℕ → List Edge → List (List ℤ) → Type 0
HasFew variables points edges template = cells_of (record { variables = variables; points = points; edges = edges; template = template })
    ≤ 11957

-- the joint problems of a system of equations have at most 11957 cells
pub few_cells_in : (equations : List Equation) (names : List (List ℕ)) (points : List Point) (edges : List Edge) (template : List (List ℤ))
    → IsTrue (are_equations equations) →
    names ≡ variables_of equations → points ≡ entry_and_loop → edges ≡ edges_of equations → template ≡ rows_of (length equations) →
    HasFew (length names) (length points) edges template
few_cells_in equations names points edges template h e f g k =
    subst (λ v. HasFew v (length points) edges template) (sym (ap length e ∙ length-variables equations))
    (subst (λ (ps : List Point). HasFew (length equations + 1) (length ps) edges template) (sym f)
    (subst (λ es. HasFew (length equations + 1) 2 es template) (sym g)
    (subst (λ t. HasFew (length equations + 1) 2 (edges_of equations) t) (sym k) (few_cells equations h))))
