-- The actions of a flow's edges are over few variables.
use Rattle.std.proofs.Common.{◌≡◌, ℕ, ◌+◌, ◌<◌, ◌≤◌, List, [], ◌∷◌, length, get_or, refl, sym, subst, arith}
use Rattle.std.specs.Prelude.{IsTrue, nat_lt, nat_le}
use Rattle.std.specs.List.{list_all}
use Rattle.std.proofs.lemmas.Bool.{and_from, and_parts, leb-true, le-leb, ltb-true, lt-ltb}
use Rattle.lang_tree.specs.declared.form.Form.{Form}
use Rattle.lang_tree.specs.Limits.{has_numbers, is_form}
use Rattle.lang_tree.specs.declared.limits.TheConstants.{MOST_HIDDEN}
use Rattle.flow_edges.specs.declared.edge.Action.{Action}
use Rattle.flow_edges.specs.declared.edge.Action.TheVariants.{Guard, Assign, Havoc, Check}
use Rattle.flow_edges.specs.declared.edge.Edge.{Edge}
use Rattle.flow_edges.specs.declared.graph.Flow.{Flow}
use Rattle.flow_edges.specs.FlowLimits.{is_action, is_edge}
use Rattle.flow_systems.specs.declared.values.TheConstants.{MOST_VALUES}
use Rattle.flow_systems.proofs.Sizes.{both, flow_sizes}
use Rattle.flow_systems.proofs.trace_tests.Traced.{all_at}
use Rattle.flow_edges.specs.declared.limits.TheConstants.{MOST_ACTIONS}

form_grows : (m n : ℕ) (form : Form) → m ≤ n → IsTrue (is_form m form) → IsTrue (is_form n form)
form_grows m n form l h =
    let p = and_parts (nat_le (length form.coeffs) m) (has_numbers form) h in
    and_from (nat_le (length form.coeffs) n) (has_numbers form)
    (le-leb (length form.coeffs) n (omega (arith, l, leb-true (length form.coeffs) m p.0))) p.1

below_grows : (m n var : ℕ) → m ≤ n → IsTrue (nat_lt var m) → IsTrue (nat_lt var n)
below_grows m n var l h = lt-ltb var n (omega (arith, l, ltb-true var m h))

action_grows : (m n : ℕ) (action : Action) → m ≤ n → IsTrue (is_action m action) → IsTrue (is_action n action)
action_grows m n (Guard form) l h = form_grows m n form l h
action_grows m n (Assign var form) l h =
    let p = and_parts (nat_lt var m) (is_form m form) h in
    and_from (nat_lt var n) (is_form n form) (below_grows m n var l p.0) (form_grows m n form l p.1)
action_grows m n (Havoc var) l h = below_grows m n var l h
action_grows m n (Check about) l h = refl

-- actions over some variables are actions over more
pub actions_grow : (m n : ℕ) (actions : List Action) → m ≤ n → IsTrue (list_all (is_action m) actions)
    → IsTrue (list_all (is_action n) actions)
actions_grow m n [] l h = refl
actions_grow m n (a ∷ actions) l h =
    let p = and_parts (is_action m a) (list_all (is_action m) actions) h in
    and_from (is_action n a) (list_all (is_action n) actions) (action_grows m n a l p.0) (actions_grow m n actions l p.1)

-- an edge of a flow has few actions, over its names and hidden variables
pub record EdgeFits (n : ℕ) (actions : List Action) : Type 0 where
  -- there are few actions
  pub few : length actions ≤ MOST_ACTIONS
  -- each is over so many variables
  pub actions_fit : IsTrue (list_all (is_action n) actions)

-- an edge that is read from a flow is one of it
pub edge_fits : (flow : Flow) (edges : List Edge) (i : ℕ) (edge : Edge) → edges ≡ flow.edges → i < length edges → edge ≡ get_or edges i edge
    → EdgeFits (length flow.names + MOST_HIDDEN) edge.actions
edge_fits flow edges i edge same l e =
    let n = length flow.names + MOST_HIDDEN in
    let m = length flow.points in
    let all = subst (λ es. IsTrue (list_all (is_edge n m) es)) (sym same) (flow_sizes flow).edges in
    let this = subst (λ x. IsTrue (is_edge n m x)) (sym e) (all_at (is_edge n m) edges i edge all l) in
    let a = both (nat_lt edge.from m) _ this in
    let b = both (nat_lt 0 edge.to) _ a.1 in
    let c = both (nat_lt edge.to m) _ b.1 in
    let d = both (nat_le (length edge.actions) MOST_ACTIONS) (list_all (is_action n) edge.actions) c.1 in
    record { few = leb-true (length edge.actions) MOST_ACTIONS d.0; actions_fit = d.1 }

-- its actions are over few variables
pub few_values : (flow : Flow) (actions : List Action) → IsTrue (list_all (is_action (length flow.names + MOST_HIDDEN)) actions)
    → IsTrue (list_all (is_action MOST_VALUES) actions)
few_values flow actions h =
    actions_grow (length flow.names + MOST_HIDDEN) MOST_VALUES actions (omega (arith, (flow_sizes flow).names)) h

edge_grows : (m n points : ℕ) (edge : Edge) → m ≤ n → IsTrue (is_edge m points edge) → IsTrue (is_edge n points edge)
edge_grows m n points edge l h =
    let a = both (nat_lt edge.from points) _ h in
    let b = both (nat_lt 0 edge.to) _ a.1 in
    let c = both (nat_lt edge.to points) _ b.1 in
    let d = both (nat_le (length edge.actions) MOST_ACTIONS) (list_all (is_action m) edge.actions) c.1 in
    and_from (nat_lt edge.from points) _ a.0
    (and_from (nat_lt 0 edge.to) _ b.0
    (and_from (nat_lt edge.to points) _ c.0
    (and_from (nat_le (length edge.actions) MOST_ACTIONS) (list_all (is_action n) edge.actions) d.0 (actions_grow m n edge.actions l d.1))))

-- edges over some variables are edges over more
pub edges_grow : (m n points : ℕ) (edges : List Edge) → m ≤ n → IsTrue (list_all (is_edge m points) edges)
    → IsTrue (list_all (is_edge n points) edges)
edges_grow m n points [] l h = refl
edges_grow m n points (e ∷ edges) l h =
    let p = and_parts (is_edge m points e) (list_all (is_edge m points) edges) h in
    and_from (is_edge n points e) (list_all (is_edge n points) edges) (edge_grows m n points e l p.0) (edges_grow m n points edges l p.1)

-- forms over some variables are forms over more
pub forms_grow : (m n : ℕ) (forms : List Form) → m ≤ n → IsTrue (list_all (is_form m) forms) → IsTrue (list_all (is_form n) forms)
forms_grow m n [] l h = refl
forms_grow m n (f ∷ forms) l h =
    let p = and_parts (is_form m f) (list_all (is_form m) forms) h in
    and_from (is_form n f) (list_all (is_form n) forms) (form_grows m n f l p.0) (forms_grow m n forms l p.1)
