-- What the faults rule out, and that what is left is a flow within the limits.
use Rattle.std.proofs.Common.{◌≡◌, ◌∙◌, ⊎_elim, ℕ, ◌+◌, ◌<◌, ◌≤◌, ◌^◌, Bool, true, false, List, [], ◌∷◌, ◌++◌, length, map, min, refl, sym}
use Rattle.std.proofs.Common.{ap, ap₂, arith}
use Rattle.std.specs.Prelude.{◌&&◌, IsTrue, Option, Some, None, nat_lt, nat_le, cond, not, position, option_map, if◌then◌else◌}
use Rattle.std.specs.List.{list_all, position_from}
use Rattle.std.proofs.lemmas.Bool.{and_from, and_parts, leb-true, le-leb, lt-ltb, le-ltb, ltb-false}
use Rattle.std.proofs.lemmas.List.{length-map, length-take, take_all}
use Rattle.std.proofs.lemmas.Iterator.Adapters.{position_from-zero}
use Rattle.lang_tree.specs.Tree.{Statement, Statements, set, havoc, assume, only_where, check, branch, loop, jump, label, nil, cons}
use Rattle.lang_tree.specs.Tree.{nodes_in}
use Rattle.lang_tree.specs.Limits.{are_statements, is_program}
use Rattle.lang_tree.specs.PointNumbers.{splits, point_count}
use Rattle.flow_edges.specs.declared.edge.Edge.{Edge}
use Rattle.flow_edges.specs.declared.fault.FlowFault.{FlowFault}
use Rattle.flow_edges.specs.declared.fault.FlowFault.TheVariants as fault
use Rattle.flow_edges.specs.declared.point.Place.TheVariants.{Join, Assume, Exit}
use Rattle.flow_edges.specs.declared.point.Point.{Point}
use Rattle.flow_edges.specs.PathLaws.{IsInRange}
use Rattle.flow_edges.specs.Points.{made_in, points_of_program}
use Rattle.flow_edges.specs.Places.{one_point, places_of, places_in}
use Rattle.flow_edges.specs.Edges.{edges_of_program}
use Rattle.flow_edges.specs.Trails.{kept, kept_edge, kept_edges}
use Rattle.flow_edges.specs.Faults.{is_longer, is_long, long_fault, counted_after, counted_fault, fault_or, checks_fault, fault_of_program}
use Rattle.flow_edges.specs.Faults.{has_many_actions, actions_fault}
use Rattle.flow_edges.specs.Faults.{wide_lines_in}
use Rattle.flow_edges.specs.Checks.{checks_in}
use Rattle.flow_edges.specs.FlowLimits.{is_entry, is_exit, begins_with_entry, has_line, is_action, is_edge, is_flow}
use Rattle.flow_edges.proofs.points.Numbering.{numbering}
use Rattle.flow_edges.proofs.edges.Trailing.{walked_program}
use Rattle.flow_edges.proofs.places.PlaceLemmas.{plain, plain_in}
use Rattle.flow_edges.proofs.Each.{Each, each-append, each_both, each_in, each_passes, each_weaker}
use Rattle.flow_edges.proofs.count.Counting.{either_way}
use Rattle.flow_edges.proofs.build.EdgeLimits.{EdgeFits, few_in, edges_fit}
use Rattle.flow_edges.proofs.steps.ElementLemmas.{in_contains}
use Rattle.flow_edges.proofs.edges.Ranges.{ranges_law}
use Rattle.flow_edges.specs.declared.limits.TheConstants.{MOST_POINTS, MOST_EDGES, MOST_ACTIONS, KEPT, MOST_CHECKS}
use Rattle.lang_tree.specs.declared.limits.TheConstants.{MOST_VARIABLES, MOST_HIDDEN}

-- ---- a program's limits
-- a program's numbers of variables and nodes, and its statements, are within the limits
pub record Limits (n : ℕ) (body : Statements) : Type 0 where
  -- there is a variable
  pub some_name : 1 ≤ n
  -- there are at most as many variables as allowed
  pub names : n ≤ MOST_VARIABLES
  -- there are at most 4096 nodes
  pub nodes : nodes_in body ≤ 4096
  -- the statements are within the limits
  pub statements : IsTrue (are_statements (n + MOST_HIDDEN) false body)

-- a program within the limits has each of its parts within them
pub limits : (n : ℕ) (body : Statements) → IsTrue (is_program n body) → Limits n body
limits n body h =
    let p = and_parts (nat_le 1 n) (nat_le n MOST_VARIABLES && (nat_le (nodes_in body) 4096 && are_statements (n + MOST_HIDDEN) false
    body)) h in
    let q = and_parts (nat_le n MOST_VARIABLES) (nat_le (nodes_in body) 4096 && are_statements (n + MOST_HIDDEN) false body) p.1 in
    let r = and_parts (nat_le (nodes_in body) 4096) (are_statements (n + MOST_HIDDEN) false body) q.1 in
    record {
      some_name = leb-true 1 n p.0;
      names = leb-true n MOST_VARIABLES q.0;
      nodes = leb-true (nodes_in body) 4096 r.0;
      statements =
          r.1;
    }

-- a program within the limits has at most 4098 points
pub few_points : (n : ℕ) (body : Statements) → IsTrue (is_program n body) → point_count body ≤ 4098
few_points n body h = let l = limits n body h in omega (arith, few_in body, l.nodes)

-- ---- what is ruled out by counting
no_choice : (a b : Bool) (x y : FlowFault) → (if a then Some x else (if b then Some y else None)) ≡ None → (a ≡ false) × (b ≡ false)
no_choice true b x y h = cc
no_choice false true x y h = cc
no_choice false false x y h = (refl, refl)

none_after : (lines : List ℕ) (body : Statements) → counted_after lines body ≡ None
    → (point_count body ≤ MOST_POINTS) × (length (edges_of_program body) ≤ MOST_EDGES)
none_after [] body h =
    let p = no_choice (nat_lt MOST_POINTS (point_count body)) (nat_lt MOST_EDGES (length (edges_of_program body)))
    (fault.Points (point_count body)) fault.Edges h in
    (ltb-false MOST_POINTS (point_count body) p.0, ltb-false MOST_EDGES (length (edges_of_program body)) p.1)
none_after (line ∷ lines) body h = cc

none_counted : (body : Statements) → counted_fault body ≡ None
    → (point_count body ≤ MOST_POINTS) × (length (edges_of_program body) ≤ MOST_EDGES)
none_counted body h = none_after (wide_lines_in body) body h

-- ---- edges that are too long
longer-kept : (most : ℕ) → most < KEPT → (e : Edge) → is_longer most (kept_edge e) ≡ is_longer most e
longer-kept most m e =
    let l : length (kept e.actions) ≡ min KEPT (length e.actions) = length-take KEPT e.actions in
    ⊎_elim
    (λ (h : length e.actions ≤ KEPT). ap (λ a. nat_lt most (length a)) (take_all KEPT e.actions h))
    (λ (h : KEPT < length e.actions).
    let k : most < length (kept e.actions) = omega arith in
    let o : most < length e.actions = omega arith in
    lt-ltb most (length (kept e.actions)) k ∙ sym (lt-ltb most (length e.actions) o))
    (either_way (length e.actions) KEPT)

from-kept : (most : ℕ) → most < KEPT → (i : ℕ) (es : List Edge)
    → position_from (is_longer most) i (map kept_edge es) ≡ position_from (is_longer most) i es
from-kept most m i [] = refl
from-kept most m i (e ∷ es) = ap₂ (λ b r. let o : Option ℕ = cond b (Some i) r in o) (longer-kept most m e) (from-kept most m (i + 1) es)

-- the first edge with more actions than so many is the same when each edge keeps as many and more
pub place-kept : (most : ℕ) → most < KEPT → (es : List Edge) → position (is_longer most) (map kept_edge es) ≡ position (is_longer most) es
place-kept most m es =
    position_from-zero (is_longer most) (map kept_edge es) ∙ from-kept most m 0 es ∙ sym (position_from-zero (is_longer most) es)

-- so is the first edge that is too long
long_place-kept : (es : List Edge) → position is_long (map kept_edge es) ≡ position is_long es
long_place-kept es = place-kept MOST_ACTIONS (omega arith) es

abbrev IsShort : Edge → Type 0
IsShort e = length e.actions ≤ MOST_ACTIONS

none_first : (b : Bool) (i : ℕ) (o : Option ℕ) → cond b (Some i) o ≡ None → (b ≡ false) × (o ≡ None)
none_first true i o h = cc
none_first false i o h = (refl, h)

short_from : (i : ℕ) (es : List Edge) → position_from is_long i es ≡ None → Each IsShort es
short_from i [] h = tt
short_from i (e ∷ es) h =
    let p = none_first (is_long e) i (position_from is_long (i + 1) es) h in
    (ltb-false MOST_ACTIONS (length e.actions) p.0, short_from (i + 1) es p.1)

short : (es : List Edge) → position is_long es ≡ None → Each IsShort es
short es h = short_from 0 es (sym (position_from-zero is_long es) ∙ h)

whole : (es : List Edge) → Each IsShort es → map kept_edge es ≡ es
whole [] h = refl
whole (e ∷ es) h =
    ap₂ (λ a r. let f : Edge = record e { actions = a } in f ∷ r) (take_all KEPT e.actions (omega (arith, h.0))) (whole es h.1)

-- where no edge is too long nothing of them is cut off
pub nothing_cut : (body : Statements) → position is_long (kept_edges body) ≡ None → kept_edges body ≡ edges_of_program body
nothing_cut body h =
    walked_program body
    ∙ whole (edges_of_program body) (short (edges_of_program body) (sym (long_place-kept (edges_of_program body))
    ∙ ap (position is_long) (sym (walked_program body)) ∙ h))

place_of_long : (body : Statements) → position is_long (kept_edges body) ≡ position is_long (edges_of_program body)
place_of_long body = ap (position is_long) (walked_program body) ∙ long_place-kept (edges_of_program body)

-- where counting finds no fault, the program's fault is that of the kept edges, or of all actions, or of the checks
after_counting : (body : Statements) (k : Option ℕ) → counted_fault body ≡ None → position is_long (kept_edges body) ≡ k
    → fault_of_program body
    ≡ fault_or (option_map (λ e. fault.Actions e) k) (fault_or (actions_fault (edges_of_program body)) (checks_fault body))
after_counting body k h l =
    let later = fault_or (actions_fault (edges_of_program body)) (checks_fault body) in
    ap (λ o. fault_or o (fault_or (long_fault (edges_of_program body)) later)) h
    ∙ ap (λ o. fault_or (option_map (λ e. fault.Actions e) o) later) (sym (place_of_long body) ∙ l)

-- where no kept edge is too long either, it is that of all actions of the kept edges, or of the checks
after_long : (body : Statements) (many : Bool) → counted_fault body ≡ None → position is_long (kept_edges body) ≡ None
    → has_many_actions (kept_edges body) ≡ many → fault_of_program body ≡ fault_or (if many then Some fault.AllActions else None)
    (checks_fault body)
after_long body many h k m =
    after_counting body None h k
    ∙ ap (λ es. fault_or (actions_fault es) (checks_fault body)) (sym (nothing_cut body k))
    ∙ ap (λ b. let o : Option FlowFault = (if b then Some fault.AllActions else None) in fault_or o (checks_fault body)) m

-- where counting finds no fault, no kept edge is too long, there are not too many actions and few checks, the program has no fault
pub no_fault : (body : Statements) → counted_fault body ≡ None → position is_long (kept_edges body) ≡ None
    → has_many_actions (kept_edges body) ≡ false → length (checks_in body) ≤ MOST_CHECKS → fault_of_program body ≡ None
no_fault body h k m l =
    after_long body false h k m
    ∙ ap (λ b. let o : Option FlowFault = (if b then Some (fault.Checks (length (checks_in body))) else None) in o)
    (le-ltb MOST_CHECKS (length (checks_in body)) l)

-- where counting finds no fault, the first kept edge that is too long is the program's fault
pub long_faulted : (body : Statements) (k : ℕ) → counted_fault body ≡ None → position is_long (kept_edges body) ≡ Some k
    → fault_of_program body ≡ Some (fault.Actions k)
long_faulted body k h l = after_counting body (Some k) h l

-- where counting finds no fault and no kept edge is too long, too many actions of all edges are it
pub actions_faulted : (body : Statements) → counted_fault body ≡ None → position is_long (kept_edges body) ≡ None
    → has_many_actions (kept_edges body) ≡ true → fault_of_program body ≡ Some fault.AllActions
actions_faulted body h k m = after_long body true h k m

-- where none of these is so, the checks are it where they are too many
pub checks_faulted : (body : Statements) → counted_fault body ≡ None → position is_long (kept_edges body) ≡ None
    → has_many_actions (kept_edges body) ≡ false
    → MOST_CHECKS < length (checks_in body) → fault_of_program body ≡ Some (fault.Checks (length (checks_in body)))
checks_faulted body h k m l =
    after_long body false h k m
    ∙ ap (λ b. let o : Option FlowFault = (if b then Some (fault.Checks (length (checks_in body))) else None) in o)
    (lt-ltb MOST_CHECKS (length (checks_in body)) l)

-- where counting finds no fault, there are fewer than 2 ^ 32 edges
pub few_kept : (body : Statements) → counted_fault body ≡ None → length (kept_edges body) < 2 ^ 32
few_kept body h = omega (arith, (none_counted body h).1, ap length (walked_program body), length-map (edges_of_program body) kept_edge)

-- ---- the points
abbrev IsInner : Point → Type 0
IsInner p = (is_entry p.place ≡ false) × (is_exit p.place ≡ false)

inner_if : (b : Bool) (line : ℕ) → Each IsInner (if b then one_point Assume line else [])
inner_if true line = ((refl, refl), tt)
inner_if false line = tt

mutual
  inner_of : (s : Statement) → Each IsInner (places_of s)
  inner_of (set var form line) = tt
  inner_of (havoc var line) = tt
  inner_of (assume c line) = inner_if (splits c) line
  inner_of (only_where c line) = tt
  inner_of (check about c line) = tt
  inner_of (branch c first second line) =
      each-append IsInner (places_in first) (places_in second ++ one_point Join line) (inner_in first)
      (each-append IsInner (places_in second) (one_point Join line) (inner_in second) ((refl, refl), tt))
  inner_of (loop kind c body line) = ((refl, refl), inner_in body)
  inner_of (jump kind line) = tt
  inner_of (label name line) = ((refl, refl), tt)

  inner_in : (ss : Statements) → Each IsInner (places_in ss)
  inner_in nil = tt
  inner_in (cons s rest) = each-append IsInner (places_of s) (places_in rest) (inner_of s) (inner_in rest)

-- later points than the entry, each with a line of its own or none
abbrev IsLater : Point → Type 0
IsLater p = (is_entry p.place ≡ false) × IsTrue (has_line p)

inner_later : (p : Point) → IsInner p → IsLater p
inner_later p h = (h.0, rw (h.0, h.1) refl)

later : (body : Statements) → Each IsLater (plain (made_in body 1) ++ one_point Exit 0)
later body =
    rw (plain_in body 1)
    (each-append IsLater (places_in body) (one_point Exit 0) (each_weaker IsInner IsLater inner_later (places_in body) (inner_in body))
    ((refl, refl), tt))

points_within : (body : Statements) → IsTrue (begins_with_entry (points_of_program body) && list_all has_line (points_of_program body))
points_within body =
    let rest = plain (made_in body 1) ++ one_point Exit 0 in
    let l = later body in
    and_from (list_all (λ q. not (is_entry q.place)) rest) (list_all has_line rest)
    (each_passes (λ q. not (is_entry q.place)) rest (each_weaker IsLater (λ q. IsTrue (not (is_entry q.place))) (λ q h. rw h.0 refl) rest
    l))
    (each_passes has_line rest (each_weaker IsLater (λ q. IsTrue (has_line q)) (λ q h. h.1) rest l))

-- ---- the edges
edge_within : (n m : ℕ) (e : Edge) → IsInRange m e → EdgeFits n e → IsShort e → IsTrue (is_edge n m e)
edge_within n m e r h k =
    and_from (nat_lt e.from m) _ (lt-ltb e.from m r.from)
    (and_from (nat_lt 0 e.to) _ (lt-ltb 0 e.to r.later)
    (and_from (nat_lt e.to m) _ (lt-ltb e.to m r.to)
    (and_from (nat_le (length e.actions) MOST_ACTIONS) _ (le-leb (length e.actions) MOST_ACTIONS k)
    (each_passes (is_action n) e.actions h))))

edges_within : (n : ℕ) (body : Statements) → IsTrue (are_statements n false body) → position is_long (kept_edges body) ≡ None →
    IsTrue (list_all (is_edge n (point_count body)) (kept_edges body))
edges_within n body h k =
    let m = point_count body in
    let edges = edges_of_program body in
    let range = each_in (IsInRange m) edges (λ e i. ranges_law body e (in_contains edges e i)) in
    let fit : Each (EdgeFits n) edges = rw (nothing_cut body k) at (edges_fit n body h) in
    let brief : Each IsShort edges = rw (nothing_cut body k) at (short (kept_edges body) k) in
    rw (nothing_cut body k)
    (each_passes (is_edge n m) edges
    (each_both (λ e. IsInRange m e × EdgeFits n e) IsShort (λ e. IsTrue (is_edge n m e)) (λ e p l. edge_within n m e p.0 p.1 l) edges
    (each_both (IsInRange m) (EdgeFits n) (λ e. IsInRange m e × EdgeFits n e) (λ e p q. (p, q)) edges range fit) brief))

few_edges : (body : Statements) → counted_fault body ≡ None → length (kept_edges body) ≤ MOST_EDGES
few_edges body h = omega (arith, (none_counted body h).1, ap length (walked_program body), length-map (edges_of_program body) kept_edge)

program_within : (names : List (List ℕ)) (body : Statements) → IsTrue (is_program (length names) body) → counted_fault body ≡ None
    → position is_long (kept_edges body) ≡ None →
    IsTrue (is_flow names (points_of_program body) (kept_edges body))
program_within names body h k l =
    let n = length names in
    let points = points_of_program body in
    let edges = kept_edges body in
    let o = limits n body h in
    let count : length points ≡ point_count body = (numbering body).count in
    let few : length points ≤ MOST_POINTS = omega (arith, (none_counted body k).0) in
    let two : 2 ≤ length points = omega arith in
    let all : IsTrue (list_all (is_edge (n + MOST_HIDDEN) (length points)) edges) = rw count
    (edges_within (n + MOST_HIDDEN) body o.statements l) in
    and_from (nat_le 1 n && nat_le n MOST_VARIABLES) _ (and_from (nat_le 1 n) (nat_le n MOST_VARIABLES) (le-leb 1 n o.some_name)
    (le-leb n MOST_VARIABLES o.names))
    (and_from (nat_le 2 (length points) && nat_le (length points) MOST_POINTS) _
    (and_from (nat_le 2 (length points)) (nat_le (length points) MOST_POINTS) (le-leb 2 (length points) two)
    (le-leb (length points) MOST_POINTS few))
    (and_from (begins_with_entry points && list_all has_line points) _ (points_within body)
    (and_from (nat_le (length edges) MOST_EDGES) (list_all (is_edge (n + MOST_HIDDEN) (length points)) edges)
    (le-leb (length edges) MOST_EDGES (few_edges body k)) all)))

-- where there is no fault, names, points and edges are a flow within the limits
pub flow_within : (names : List (List ℕ)) (points : List Point) (edges : List Edge) (body : Statements)
    → IsTrue (is_program (length names) body) → points ≡ points_of_program body →
    edges ≡ kept_edges body → counted_fault body ≡ None → position is_long (kept_edges body) ≡ None → IsTrue (is_flow names points edges)
flow_within names points edges body h e f k l = rw (e, f) (program_within names body h k l)
