-- The edges of a system go from its points, with few actions over its variables and hidden ones; so have the first actions of one.
use Rattle.std.proofs.Common.{◌+◌, ◌≡◌, ℕ, zero, suc, ◌<◌, ◌≤◌, List, [], ◌∷◌, length, length-take, get_or, take, refl, sym, subst, arith}
use Rattle.std.specs.Prelude.{IsTrue, Bool, nat_lt}
use Rattle.std.specs.List.{list_all}
use Rattle.std.proofs.lemmas.Bool.{and_parts, and_from, ltb-true}
use Rattle.lang_tree.specs.declared.limits.TheConstants.{MOST_HIDDEN}
use Rattle.flow_edges.specs.declared.edge.Edge.{Edge}
use Rattle.flow_edges.specs.declared.graph.Flow.{Flow}
use Rattle.flow_edges.specs.FlowLimits.{is_action, is_edge}
use Rattle.flow_systems.proofs.EdgeActions.{edge_fits as actions_fit}
use Rattle.flow_systems.proofs.Sizes.{both, flow_sizes}
use Rattle.flow_systems.proofs.trace_tests.Traced.{all_at}
use Rattle.flow_edges.specs.declared.limits.TheConstants.{MOST_ACTIONS}

-- an edge goes from a point, and has few actions over the variables and the hidden ones
pub record EdgeFits (flow : Flow) (edge : Edge) : Type 0 where
  -- it goes from a point
  pub source : edge.from < length flow.points
  -- it has few actions
  pub few : length edge.actions ≤ MOST_ACTIONS
  -- they are over the variables and the hidden ones
  pub actions : IsTrue (list_all (is_action (length flow.names + MOST_HIDDEN)) edge.actions)

-- each edge of a flow does
pub edge_fits : (flow : Flow) (edges : List Edge) (i : ℕ) (edge : Edge) → edges ≡ flow.edges → i < length edges → edge ≡ get_or edges i edge
    → EdgeFits flow edge
edge_fits flow edges i edge same l e =
    let n = length flow.names + MOST_HIDDEN in
    let m = length flow.points in
    let fit = actions_fit flow edges i edge same l e in
    let all = subst (λ es. IsTrue (list_all (is_edge n m) es)) (sym same) (flow_sizes flow).edges in
    let this = subst (λ x. IsTrue (is_edge n m x)) (sym e) (all_at (is_edge n m) edges i edge all l) in
    record { source = ltb-true edge.from m (both (nat_lt edge.from m) _ this).0; few = fit.few; actions = fit.actions_fit }

-- what passes for all elements passes for the first ones
pub all_take : {A : Type 0} (p : A → Bool) (xs : List A) (k : ℕ) → IsTrue (list_all p xs) → IsTrue (list_all p (take k xs))
all_take p [] zero h = refl
all_take p [] (suc k) h = refl
all_take p (x ∷ xs) zero h = refl
all_take p (x ∷ xs) (suc k) h =
    let both = and_parts (p x) (list_all p xs) h in
    and_from (p x) (list_all p (take k xs)) both.0 (all_take p xs k both.1)

-- there are no more of them
pub few_take : {A : Type 0} (xs : List A) (k m : ℕ) → length xs ≤ m → length (take k xs) ≤ m
few_take xs k m l = let t = length-take k xs in omega (arith, t, l)
