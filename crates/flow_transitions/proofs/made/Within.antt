-- What a transition system within the limits gives to its flow.
use Rattle.std.proofs.Common.{◌+◌, ◌≡◌, ◌∙◌, ℕ, ◌<◌, ◌≤◌, Bool, true, false, cond, List, [], ◌∷◌, ◌++◌, length, map, refl, sym, ap, subst}
use Rattle.std.proofs.Common.{arith}
use Rattle.std.specs.Prelude.{◌&&◌, ◌||◌, ◌==◌, IsTrue, None, not, nat_lt, nat_le, position, flat_map, filter}
use Rattle.std.specs.List.{list_all, range_with_len}
use Rattle.std.proofs.lemmas.Bool.{and_from, and_parts, false≢true, leb-true, le-leb, ltb-true, lt-ltb}
use Rattle.lang_tree.specs.declared.limits.TheConstants as tree_limit
use Rattle.lang_tree.specs.declared.limits.TheConstants.{MOST_HIDDEN}
use Rattle.lang_tree.specs.Tree.{Condition, Statement, Statements, set, havoc, assume, only_where, check, branch, loop, jump, label, nil}
use Rattle.lang_tree.specs.Tree.{cons, leaf_count}
use Rattle.lang_tree.specs.Limits.{is_condition, is_tested}
use Rattle.lang_tree.specs.Cases.{cases_of}
use Rattle.flow_edges.specs.declared.limits.TheConstants as flow_limit
use Rattle.flow_edges.specs.declared.limits.TheConstants.{KEPT}
use Rattle.flow_edges.specs.declared.edge.Action.{Action}
use Rattle.flow_edges.specs.declared.edge.Action.TheVariants.{Guard}
use Rattle.flow_edges.specs.declared.edge.Edge.{Edge}
use Rattle.flow_edges.specs.declared.point.Place.{Place}
use Rattle.flow_edges.specs.declared.point.Place.TheVariants.{Entry, Loop, Label, Join, Assume, Exit}
use Rattle.flow_edges.specs.declared.point.Point.{Point}
use Rattle.flow_edges.specs.Constants.{has_rooms, have_rooms}
use Rattle.flow_systems.proofs.EdgeActions.{edges_grow}
use Rattle.flow_edges.specs.FlowLimits.{is_entry, is_exit, begins_with_entry, has_line, is_action, is_edge, is_flow}
use Rattle.flow_edges.specs.Steps.{guards}
use Rattle.flow_edges.specs.Trails.{kept_edge}
use Rattle.flow_edges.proofs.Each.{Each, each-append, each-map, each-flat_map, each-take, each_both, each_passes}
use Rattle.flow_edges.proofs.constants.FormLimits.{IsForm, cases_forms, condition_room}
use Rattle.flow_transitions.specs.declared.auto_edge.AutoEdge.{AutoEdge}
use Rattle.flow_transitions.specs.declared.limits.TheConstants.{MOST_VARIABLES, MOST_POINTS, MOST_EDGES}
use Rattle.flow_transitions.specs.AutoFaults.{is_long}
use Rattle.flow_transitions.specs.AutoLimits.{is_act, are_acts, is_auto_edge, is_label, are_labels, is_auto}
use Rattle.flow_transitions.specs.Choices.{choices_of, choices_in, edge_by, edges_along, starts_at, edges_at, edges_of}
use Rattle.flow_transitions.specs.Counted.{have_room_along}
use Rattle.flow_transitions.proofs.made.Faulted.{IsShort, none_long}

-- ---- the limits of a transition system
pub record AutoLimits (names : List (List ℕ)) (points : List Point) (edges : List AutoEdge) : Type 0 where
  -- there is a variable
  pub some_name : 1 ≤ length names
  -- there are not too many variables
  pub few_names : length names ≤ MOST_VARIABLES
  -- there are at least two points
  pub two_points : 2 ≤ length points
  -- there are not too many points
  pub few_points : length points ≤ MOST_POINTS
  -- the first point is the entry, and each later one a label
  pub labels : IsTrue (are_labels points)
  -- each edge is within the limits
  pub along : IsTrue (list_all (is_auto_edge (length names) (length points)) edges)

-- a transition system within the limits keeps to each of them
pub limits : (names : List (List ℕ)) (points : List Point) (edges : List AutoEdge) → IsTrue (is_auto names points edges)
    → AutoLimits names points edges
limits names points edges h =
    let n = length names in
    let m = length points in
    let later = are_labels points && list_all (is_auto_edge n m) edges in
    let p = and_parts (nat_le 1 n && nat_le n MOST_VARIABLES) ((nat_le 2 m && nat_le m MOST_POINTS) && later) h in
    let q = and_parts (nat_le 1 n) (nat_le n MOST_VARIABLES) p.0 in
    let r = and_parts (nat_le 2 m && nat_le m MOST_POINTS) later p.1 in
    let s = and_parts (nat_le 2 m) (nat_le m MOST_POINTS) r.0 in
    let t = and_parts (are_labels points) (list_all (is_auto_edge n m) edges) r.1 in
    record {
      some_name = leb-true 1 n q.0;
      few_names = leb-true n MOST_VARIABLES q.1;
      two_points = leb-true 2 m s.0;
      few_points = leb-true m MOST_POINTS s.1;
      labels = t.0;
      along = t.1;
    }

-- an edge of the text
pub record EdgeLimits (n m : ℕ) (e : AutoEdge) : Type 0 where
  -- it starts at a point
  pub from : e.from < m
  -- it doesn't end at the first point
  pub later : 0 < e.to
  -- it ends at a point
  pub to : e.to < m
  -- its acts are within the limits
  pub acts : IsTrue (are_acts n e.acts)

-- an edge within the limits keeps to each of them
pub edge_limits : (n m : ℕ) (e : AutoEdge) → IsTrue (is_auto_edge n m e) → EdgeLimits n m e
edge_limits n m e h =
    let p = and_parts (nat_lt e.from m) (nat_lt 0 e.to && (nat_lt e.to m && are_acts n e.acts)) h in
    let q = and_parts (nat_lt 0 e.to) (nat_lt e.to m && are_acts n e.acts) p.1 in
    let r = and_parts (nat_lt e.to m) (are_acts n e.acts) q.1 in
    record { from = ltb-true e.from m p.0; later = ltb-true 0 e.to q.0; to = ltb-true e.to m r.0; acts = r.1 }

-- ---- room for the guards
tested : (n : ℕ) (c : Condition) → IsTrue (is_tested n c) → IsTrue (is_condition n c)
tested n c h = (and_parts (nat_le (leaf_count c) 64) (is_condition n c) h).1

act_room : (n : ℕ) (s : Statement) → IsTrue (is_act n s) → IsTrue (has_rooms s)
act_room n (set var form line) h = refl
act_room n (havoc var line) h = refl
act_room n (assume c line) h = condition_room n c (tested n c h)
act_room n (only_where c line) h = absurd (false≢true h)
act_room n (check about c line) h = absurd (false≢true h)
act_room n (branch c first second line) h = absurd (false≢true h)
act_room n (loop kind c body line) h = absurd (false≢true h)
act_room n (jump kind line) h = refl
act_room n (label name line) h = refl

acts_room : (n : ℕ) (acts : Statements) → IsTrue (are_acts n acts) → IsTrue (have_rooms acts)
acts_room n nil h = refl
acts_room n (cons s rest) h =
    let p = and_parts (is_act n s) (are_acts n rest) h in and_from (has_rooms s) (have_rooms rest) (act_room n s p.0) (acts_room n rest p.1)

-- edges within the limits leave room for their guards
pub edges_room : (n m : ℕ) (edges : List AutoEdge) → IsTrue (list_all (is_auto_edge n m) edges) → IsTrue (have_room_along edges)
edges_room n m [] h = refl
edges_room n m (e ∷ edges) h =
    let p = and_parts (is_auto_edge n m e) (list_all (is_auto_edge n m) edges) h in
    and_from (have_rooms e.acts) (have_room_along edges) (acts_room n e.acts (edge_limits n m e p.0).acts) (edges_room n m edges p.1)

-- ---- the actions of choices
module _ (n : ℕ) where
  abbrev Fits : Action → Type 0
  Fits a = IsTrue (is_action n a)

  choice_fits : (s : Statement) → IsTrue (is_act n s) → Each (Each Fits) (choices_of s)
  choice_fits (set var form line) h = ((h, tt), tt)
  choice_fits (havoc var line) h = ((h, tt), tt)
  choice_fits (assume c line) h =
      each-map (Each (IsForm n)) (Each Fits) guards (λ forms k. each-map (IsForm n) Fits Guard (λ f q. q) forms k) (cases_of true c)
      (cases_forms n true c (tested n c h))
  choice_fits (only_where c line) h = tt
  choice_fits (check about c line) h = tt
  choice_fits (branch c first second line) h = tt
  choice_fits (loop kind c body line) h = tt
  choice_fits (jump kind line) h = tt
  choice_fits (label name line) h = tt

  -- the choices of acts over variables are actions over these
  pub choices_fit : (acts : Statements) → IsTrue (are_acts n acts) → Each (Each Fits) (choices_in acts)
  choices_fit nil h = (tt, tt)
  choices_fit (cons s rest) h =
      let p = and_parts (is_act n s) (are_acts n rest) h in
      each-flat_map (Each Fits) (Each Fits) (λ first. map (λ later. first ++ later) (choices_in rest))
      (λ first k. each-map (Each Fits) (Each Fits) (λ later. first ++ later) (λ later q. each-append Fits first later k q) (choices_in rest)
      (choices_fit rest p.1))
      (choices_of s) (choice_fits s p.0)

-- ---- the edges
record EdgeFits (n m : ℕ) (e : Edge) : Type 0 where
  from : e.from < m
  later : 0 < e.to
  to : e.to < m
  actions : Each (Fits n) e.actions

along_fits : (n m : ℕ) (e : AutoEdge) → IsTrue (is_auto_edge n m e) → Each (EdgeFits n m) (edges_along e)
along_fits n m e h =
    let l = edge_limits n m e h in
    each-map (Each (Fits n)) (EdgeFits n m) (edge_by e) (λ actions k. record { from = l.from; later = l.later; to = l.to; actions = k })
    (choices_in e.acts) (choices_fit n e.acts l.acts)

at_fits : (n m p : ℕ) (edges : List AutoEdge) → IsTrue (list_all (is_auto_edge n m) edges) → Each (EdgeFits n m) (edges_at edges p)
at_fits n m p [] h = tt
at_fits n m p (e ∷ edges) h =
    let q = and_parts (is_auto_edge n m e) (list_all (is_auto_edge n m) edges) h in
    there (starts_at p e) (along_fits n m e q.0) (at_fits n m p edges q.1)
  where
    there : (b : Bool) → Each (EdgeFits n m) (edges_along e) → Each (EdgeFits n m) (edges_at edges p) →
        Each (EdgeFits n m) (flat_map edges_along (cond b (e ∷ filter (starts_at p) edges) (filter (starts_at p) edges)))
    there true k j = each-append (EdgeFits n m) (edges_along e) (edges_at edges p) k j
    there false k j = j

all_fit : (n m : ℕ) (edges : List AutoEdge) (ps : List ℕ) → IsTrue (list_all (is_auto_edge n m) edges)
    → Each (EdgeFits n m) (flat_map (edges_at edges) ps)
all_fit n m edges [] h = tt
all_fit n m edges (p ∷ ps) h = each-append (EdgeFits n m) (edges_at edges p) (flat_map (edges_at edges) ps) (at_fits n m p edges h)
    (all_fit n m edges ps h)

kept_fits : (n m : ℕ) (e : Edge) → EdgeFits n m e → EdgeFits n m (kept_edge e)
kept_fits n m e h = record { from = h.from; later = h.later; to = h.to; actions = each-take (Fits n) KEPT e.actions h.actions }

edge_within : (n m : ℕ) (e : Edge) → EdgeFits n m e → IsShort e → IsTrue (is_edge n m e)
edge_within n m e h k =
    and_from (nat_lt e.from m) _ (lt-ltb e.from m h.from)
    (and_from (nat_lt 0 e.to) _ (lt-ltb 0 e.to h.later)
    (and_from (nat_lt e.to m) _ (lt-ltb e.to m h.to)
    (and_from (nat_le (length e.actions) flow_limit.MOST_ACTIONS) _ (le-leb (length e.actions) flow_limit.MOST_ACTIONS (omega (arith, k)))
    (each_passes (is_action n) e.actions h.actions))))

edges_within : (n m : ℕ) (edges : List AutoEdge) (es : List Edge) → IsTrue (list_all (is_auto_edge n m) edges)
    → es ≡ map kept_edge (edges_of m edges) →
    position is_long es ≡ None → IsTrue (list_all (is_edge n m) es)
edges_within n m edges es h e l =
    let fit = each-map (EdgeFits n m) (EdgeFits n m) kept_edge (kept_fits n m) (edges_of m edges)
    (all_fit n m edges (range_with_len 0 m) h) in
    each_passes (is_edge n m) es
    (each_both (EdgeFits n m) IsShort (λ x. IsTrue (is_edge n m x)) (edge_within n m) es (subst (Each (EdgeFits n m)) (sym e) fit)
    (none_long es l))

-- ---- the points
record IsInner (p : Place) : Type 0 where
  no_entry : is_entry p ≡ false
  no_exit : is_exit p ≡ false

inner : (p : Place) → is_label p ≡ true → IsInner p
inner Entry h = absurd (false≢true h)
inner Loop h = absurd (false≢true h)
inner (Label name) h = record { no_entry = refl; no_exit = refl }
inner Join h = absurd (false≢true h)
inner Assume h = absurd (false≢true h)
inner Exit h = absurd (false≢true h)

or_right : (a b : Bool) → b ≡ true → (a || b) ≡ true
or_right true b h = refl
or_right false b h = h

later_points : (ps : List Point) → IsTrue (list_all (λ q. is_label q.place) ps)
    → IsTrue (list_all (λ q. not (is_entry q.place)) ps) × IsTrue (list_all has_line ps)
later_points [] h = (refl, refl)
later_points (p ∷ ps) h =
    let q = and_parts (is_label p.place) (list_all (λ r. is_label r.place) ps) h in
    let i = inner p.place q.0 in
    let more = later_points ps q.1 in
    let entry : not (is_entry p.place) ≡ true = ap not i.no_entry in
    let line : has_line p ≡ true = ap (λ b. not (b || is_exit p.place) || (p.line == 0)) i.no_entry
    ∙ ap (λ b. not b || (p.line == 0)) i.no_exit in (
      and_from (not (is_entry p.place)) (list_all (λ r. not (is_entry r.place)) ps) entry more.0,
      and_from (has_line p) (list_all has_line ps) line more.1,
    )

points_within : (ps : List Point) → IsTrue (are_labels ps) → IsTrue (begins_with_entry ps && list_all has_line ps)
points_within [] h = absurd (false≢true h)
points_within (p ∷ ps) h =
    let q = and_parts (is_entry p.place && p.line == 0) (list_all (λ r. is_label r.place) ps) h in
    let r = and_parts (is_entry p.place) (p.line == 0) q.0 in
    let more = later_points ps q.1 in
    and_from (is_entry p.place && list_all (λ s. not (is_entry s.place)) ps) (has_line p && list_all has_line ps)
    (and_from (is_entry p.place) (list_all (λ s. not (is_entry s.place)) ps) r.0 more.0)
    (and_from (has_line p) (list_all has_line ps) (or_right (not (is_entry p.place || is_exit p.place)) (p.line == 0) r.1) more.1)

-- ---- the flow
pub flow_within : (names : List (List ℕ)) (points : List Point) (edges : List AutoEdge) (es : List Edge)
    → IsTrue (is_auto names points edges) →
    es ≡ map kept_edge (edges_of (length points) edges) → length es ≤ MOST_EDGES → position is_long es ≡ None
    → IsTrue (is_flow names points es)
flow_within names points edges es h e f l =
    let n = length names in
    let m = length points in
    let o = limits names points edges h in
    and_from (nat_le 1 n && nat_le n tree_limit.MOST_VARIABLES) _
    (and_from (nat_le 1 n) (nat_le n tree_limit.MOST_VARIABLES) (le-leb 1 n o.some_name)
    (le-leb n tree_limit.MOST_VARIABLES (omega (arith, o.few_names))))
    (and_from (nat_le 2 m && nat_le m flow_limit.MOST_POINTS) _
    (and_from (nat_le 2 m) (nat_le m flow_limit.MOST_POINTS) (le-leb 2 m o.two_points)
    (le-leb m flow_limit.MOST_POINTS (omega (arith, o.few_points))))
    (and_from (begins_with_entry points && list_all has_line points) _ (points_within points o.labels)
    (and_from (nat_le (length es) flow_limit.MOST_EDGES) (list_all (is_edge (n + MOST_HIDDEN) m) es)
    (le-leb (length es) flow_limit.MOST_EDGES (omega (arith, f)))
    (edges_grow n (n + MOST_HIDDEN) m es (omega arith) (edges_within n m edges es o.along e l)))))
