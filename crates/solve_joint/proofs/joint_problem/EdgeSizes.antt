-- How large the parts of an edge are.
use Rattle.std.proofs.Common.{◌≡◌, ◌∙◌, ℕ, suc, ◌+◌, ◌<◌, ◌≤◌, Bool, true, false, true≢false, List, [], ◌∷◌, ◌++◌, ◌*◌, ◌%◌, Option, length}
use Rattle.std.proofs.Common.{ap, sym, refl, length-append, arith}
use Rattle.std.proofs.Math.Nat.{mul-le-mul_right}
use Rattle.std.specs.Prelude.{ℤ, IsTrue, nat_le, nat_lt}
use Rattle.std.specs.List.{list_all}
use Rattle.std.proofs.lemmas.Bool.{leb-true, ltb-true}
use Rattle.std.proofs.lemmas.List.Folds.{list_all_at}
use Rattle.flow_edges.specs.declared.edge.Action.{Action}
use Rattle.flow_edges.specs.declared.edge.Action.TheVariants.{Guard, Assign, Havoc, Check}
use Rattle.flow_edges.specs.FlowLimits.{is_edge, is_action}
use Rattle.flow_edges.specs.declared.limits.TheConstants.{MOST_ACTIONS}
use Rattle.flow_systems.specs.declared.system.System.{System}
use Rattle.flow_systems.proofs.Sizes.{both, flow_sizes}
use Rattle.flow_systems.specs.View.{vector_of}
use Rattle.base_numbers.specs.Rational.{ℚ, zero_ℚ, one_ℚ, neg_ℚ}
use Rattle.base_numbers.specs.Extended.{Ext, neg_inf, fin, pos_inf}
use Rattle.theory_validity.specs.Words.{Affine, with_form, free_count, width, guards_from, guard_forms, columns, column, composed}
use Rattle.theory_transformers.specs.EdgeProblems.{source_limit, source_limits, guard_limits}
use Rattle.solve_joint.specs.Numbers.{ArePicked}
use Rattle.solve_joint.specs.Rows.{embedded}
use Rattle.solve_joint.proofs.joint_rows.Picking.{system_size, edge_within}
use Rattle.solve_joint.specs.Blocks.{edge_at, edge_for, split_width, sources_of, guards_of, own_of, blocks_from}
use Rattle.flow_systems.specs.declared.limits.TheConstants.{MOST_UNKNOWNS}
use Rattle.lang_tree.specs.declared.limits.TheConstants.{MOST_VARIABLES, MOST_HIDDEN}

frees_within : (actions : List Action) → free_count actions ≤ length actions
unfolding free_count
frees_within [] = omega arith
frees_within (Guard form ∷ actions) = omega (arith, frees_within actions)
frees_within (Assign var form ∷ actions) = omega (arith, frees_within actions)
frees_within (Havoc var ∷ actions) = omega (arith, frees_within actions)
frees_within (Check about ∷ actions) = omega (arith, frees_within actions)

edge_is : (system : System) (edge : ℕ) → edge < length system.flow.edges
    → IsTrue (is_edge (length system.flow.names + MOST_HIDDEN) (length system.flow.points) (edge_at system edge))
edge_is system edge l = by (is_edge (length system.flow.names + MOST_HIDDEN) (length system.flow.points) (edge_at system edge)) refl
  where
    by : (b : Bool) → is_edge (length system.flow.names + MOST_HIDDEN) (length system.flow.points) (edge_at system edge) ≡ b → b ≡ true
    by true e = refl
    by false e = absurd (true≢false (sym (flow_sizes system.flow).edges
        ∙ list_all_at (is_edge (length system.flow.names + MOST_HIDDEN) (length system.flow.points)) system.flow.edges edge
        (record { from = 0; to = 0; actions = [] }) l e))

-- an edge comes from a point
pub edge_from : (system : System) (edge : ℕ) → edge < length system.flow.edges → (edge_at system edge).from < length system.flow.points
edge_from system edge l =
    let e = edge_at system edge in
    ltb-true e.from (length system.flow.points) (both (nat_lt e.from (length system.flow.points)) _ (edge_is system edge l)).0

-- an edge has few actions
pub few_actions : (system : System) (edge : ℕ) → edge < length system.flow.edges → length (edge_at system edge).actions ≤ MOST_ACTIONS
few_actions system edge l =
    let e = edge_at system edge in
    let a = both (nat_lt e.from (length system.flow.points)) _ (edge_is system edge l) in
    let b = both (nat_lt 0 e.to) _ a.1 in
    let c = both (nat_lt e.to (length system.flow.points)) _ b.1 in
    let n = length system.flow.names + MOST_HIDDEN in
    leb-true (length e.actions) MOST_ACTIONS (both (nat_le (length e.actions) MOST_ACTIONS) (list_all (is_action n) e.actions) c.1).0

-- and has few columns
pub few_columns : (system : System) (edge : ℕ) → edge < length system.flow.edges
    → width (length system.flow.names) (edge_at system edge).actions ≤ MOST_VARIABLES + MOST_ACTIONS
unfolding width
few_columns system edge l = omega (
  arith,
  (flow_sizes system.flow).names,
  frees_within (edge_at system edge).actions,
  few_actions system edge l,
)

-- the start values are among them
pub names_within : (system : System) (edge : ℕ) → length system.flow.names ≤ width (length system.flow.names) (edge_at system edge).actions
unfolding width
names_within system edge = omega arith

-- ---- few rows
sources_count : (f : ℕ → List ℚ → List ℚ) (n : ℕ) (bounds : ℕ → Ext) (rows : List (List ℤ))
    → length (source_limits f n bounds rows) ≤ length rows
unfolding source_limits source_limit
sources_count f n bounds [] = omega arith
sources_count f n bounds (row ∷ rows) = by (bounds 0) (sources_count (λ r. f (suc r)) n (λ r. bounds (suc r)) rows)
  where
    by : (b : Ext) → length (source_limits (λ r. f (suc r)) n (λ r. bounds (suc r)) rows) ≤ length rows
        → length (source_limit (f 0) n b row (source_limits (λ r. f (suc r)) n (λ r. bounds (suc r)) rows)) ≤ suc (length rows)
    by neg_inf h = omega (arith, h)
    by (fin c) h = omega (arith, h)
    by pos_inf h = omega (arith, h)

guards_count : (embed : List ℚ → List ℚ) (forms : List Affine) → length (guard_limits embed forms) ≡ length forms
unfolding guard_limits
guards_count embed [] = refl
guards_count embed (g ∷ gs) = ap (λ n. suc n) (guards_count embed gs)

forms_count : (k : ℕ) (fs : List Affine) (actions : List Action) → length (guards_from k fs actions) ≤ length actions
unfolding guards_from
forms_count k fs [] = omega arith
forms_count k fs (Guard form ∷ actions) = omega (arith, forms_count k fs actions)
forms_count k fs (Assign var form ∷ actions) = omega (arith, forms_count k (with_form fs var (composed form fs)) actions)
forms_count k fs (Havoc var ∷ actions) = omega (arith, forms_count (suc k) (with_form fs var (column k)) actions)
forms_count k fs (Check about ∷ actions) = omega (arith, forms_count k fs actions)

-- and no more guards than actions
pub few_guards : (n : ℕ) (actions : List Action) → length (guard_forms n actions) ≤ length actions
unfolding guard_forms
few_guards n actions = forms_count n (columns n) actions

-- there are at least two points, so that the rows are at most half as many as the unknowns
few_template : (system : System) → 2 * length system.template ≤ MOST_UNKNOWNS
few_template system =
    let t = length system.template in
    let s = system_size system in
    let p = (flow_sizes system.flow).two_points in
    let k : 2 * t ≤ length system.flow.points * t = mul-le-mul_right t p in
    omega (arith, s, k)

-- a list's blocks have few rows for each of its unknowns
pub few_rows : (system : System) (pick : List (Option ℕ)) (base : List Ext) (list : List ℕ) (offset : ℕ) (rest : List ℕ)
    → ArePicked system pick rest
    → 2 * length (blocks_from system pick base list offset rest) ≤ (MOST_UNKNOWNS + 2 * MOST_ACTIONS + 2) * length rest
few_rows system pick base list offset [] h = omega arith
few_rows system pick base list offset (u ∷ rest) h =
    let e = edge_for pick u in
    let n = length system.flow.names in
    let forms = guard_forms n (edge_at system e).actions in
    let inside = edge_within system pick u e h.0 refl in
    let srcs = sources_of system base list offset (edge_at system e).from in
    let grds = guards_of system list offset e in
    let own = own_of system base list offset e (u % length system.template) u in
    let more = blocks_from system pick base list (offset + split_width system e) rest in
    let a = length-append (srcs ++ (grds ++ own ∷ [])) more in
    let b = length-append srcs (grds ++ own ∷ []) in
    let c = length-append grds (own ∷ []) in
    let d = sources_count (λ r. embedded (neg_ℚ one_ℚ) ((edge_at system e).from * length system.template + r) list offset) n
    (vector_of (length system.template) base (edge_at system e).from) system.template in
    let f = guards_count (embedded zero_ℚ 0 list offset) forms in
    let g = few_guards n (edge_at system e).actions in
    let k = few_actions system e inside in
    let t = few_template system in
    let r = few_rows system pick base list (offset + split_width system e) rest h.1 in
    omega (arith, a, b, c, d, f, g, k, t, r)
