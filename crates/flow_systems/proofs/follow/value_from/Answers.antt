use Rattle.std.proofs.Common.{◌≡◌, ◌∙◌, ◌<◌, ℕ, List, Some, length, map, get_or, refl, ap, sym, subst, arith}
use Rattle.std.specs.Prelude.{ℤ, IsTrue, None, slice_get}
use Rattle.std.specs.List.{list_all}
use Rattle.std.proofs.lemmas.Option.{slice_get_read, get_or_from_slice_get}
use Rattle.std.proofs.lemmas.Result.{err_from_is_err_and}
use Rattle.base_numbers.specs.Rational.{ℚ}
use Rattle.base_fractions.specs.Fits.{long_limit}
use Rattle.base_fractions.specs.Operation.{first_wide, operation_of}
use Rattle.flow_edges.specs.FlowLimits.{is_action}
use Rattle.flow_edges.specs.declared.edge.Action.{Action}
use Rattle.flow_edges.specs.declared.edge.Edge.{Edge}
use Rattle.flow_systems.specs.Constants.{action_with}
use Rattle.flow_systems.specs.FreeValues.{free_count}
use Rattle.flow_systems.specs.declared.values.TheConstants.{MOST_VALUES}
use Rattle.flow_systems.specs.States.{RationalState, dotℚ}
use Rattle.flow_systems.specs.Sums.{row_operations}
use Rattle.flow_systems.specs.TraceTests.{FollowIs, trace_operations}
use Rattle.flow_systems.proofs.EdgeActions.{edge_fits, few_values}
use Rattle.flow_systems.proofs.follow.value_from.Goals as goal

-- an element that is read is the one at its place
read_at : {X : Type 0} (xs all : List X) (i : ℕ) (d e : X) → xs ≡ all → slice_get all i ≡ Some e → get_or xs i d ≡ e
read_at xs all i d e same f = ap (λ ys. get_or ys i d) same ∙ get_or_from_slice_get all i e d f

-- the actions are those of the edge
acts_are : (edges all : List Edge) (i : ℕ) (d e : Edge) (actions : List Action) → actions ≡ (get_or edges i d).actions → edges ≡ all
    → slice_get all i ≡ Some e → actions ≡ e.actions
acts_are edges all i d e actions h same f = h ∙ ap (λ (x : Edge). x.actions) (read_at edges all i d e same f)

-- the row's value where the state is what a trace leads to
abbrev Sums : List ℤ → RationalState → ℚ → Type 0
Sums cs x v = (v ≡ dotℚ cs x) × (first_wide long_limit (row_operations cs x) ≡ None)

pub follow-requires-clause-actions : goal.follow-requires-clause-actions
follow-requires-clause-actions c =
    let within : c.args.edge < length c.as_slice-edges.result.now =
    subst (λ es. c.args.edge < length es) (sym c.as_slice-edges.ensures) c.requires.edge in
    let fits = edge_fits c.args.system.now.flow c.as_slice-edges.result.now c.args.edge c.index-edges-edge.result c.as_slice-edges.ensures
    within
    c.index-edges-edge.is in
    subst (λ actions. IsTrue (list_all (is_action MOST_VALUES) actions))
    (sym (c.as_slice.ensures ∙ ap (λ (x : Edge). x.actions) (sym c.index-edges-edge.is)))
    (few_values c.args.system.now.flow c.index-edges-edge.result.actions fits.actions_fit)

pub follow-requires-clause-free : goal.follow-requires-clause-free
follow-requires-clause-free c =
    let is : c.index-edges-edge.result ≡ get_or c.args.system.now.flow.edges c.args.edge c.index-edges-edge.result =
    c.index-edges-edge.is ∙ ap (λ es. get_or es c.args.edge c.index-edges-edge.result) c.as_slice-edges.ensures in
    c.requires.free c.index-edges-edge.result
    (slice_get_read c.args.system.now.flow.edges (length c.args.system.now.flow.edges) c.args.edge c.index-edges-edge.result refl
    c.requires.edge is)
    ∙ ap free_count (sym (c.as_slice.ensures ∙ ap (λ (x : Edge). x.actions) (sym c.index-edges-edge.is)))

pub returns-in_err-follow : goal.returns-in_err-follow
returns-in_err-follow c = λ e cs f g.
    let p = err_from_is_err_and c.from_residual.result c.from_residual.ensures.1 in
    rw (p.1, p.2)
    (subst (λ actions. first_wide long_limit (trace_operations (map (action_with c.args.constants) actions) c.args.state.now
    c.args.free.now cs)
    ≡ Some (operation_of (λ (q : ℚ). q) c.in_err-follow.field-0.0))
    (acts_are c.as_slice-edges.result.now c.args.system.now.flow.edges c.args.edge c.index-edges-edge.result e c.as_slice.result.now
    c.as_slice.ensures c.as_slice-edges.ensures f) (c.in_err-follow.ensures cs))

pub returns-then-not-branch : goal.returns-then-not-branch
returns-then-not-branch c = λ e cs f g.
    let fails = subst (λ actions. FollowIs (map (action_with c.args.constants) actions) c.args.state.now c.args.free.now c.follow.new.state
    c.in_ok-follow.field-0)
    (acts_are c.as_slice-edges.result.now c.args.system.now.flow.edges c.args.edge c.index-edges-edge.result e c.as_slice.result.now
    c.as_slice.ensures c.as_slice-edges.ensures f) c.in_ok-follow.ensures in
    let is = subst (λ b. FollowIs (map (action_with c.args.constants) e.actions) c.args.state.now c.args.free.now c.follow.new.state b)
    c.if-not-branch.true fails in
    (is.ends, is.first cs)

pub returns-in_err-value : goal.returns-in_err-value
returns-in_err-value c = λ e cs f g.
    let p = err_from_is_err_and c.from_residual-in_err-value.result c.from_residual-in_err-value.ensures.1 in
    let goes = subst (λ actions. FollowIs (map (action_with c.args.constants) actions) c.args.state.now c.args.free.now c.follow.new.state
    c.in_ok-follow.field-0)
    (acts_are c.as_slice-edges.result.now c.args.system.now.flow.edges c.args.edge c.index-edges-edge.result e c.as_slice.result.now
    c.as_slice.ensures c.as_slice-edges.ensures f) c.in_ok-follow.ensures in
    let is = subst (λ b. FollowIs (map (action_with c.args.constants) e.actions) c.args.state.now c.args.free.now c.follow.new.state b)
    c.if-not-branch.false goes in
    let row = c.as_slice-2.ensures.list ∙ c.index-rows-row.is ∙ read_at c.as_slice-rows.result.now c.args.system.now.template c.args.row
    c.index-rows-row.result cs
    c.as_slice-rows.ensures.rows g in
    let o = operation_of (λ (q : ℚ). q) c.in_err-value.field-0.0 in
    let wide = subst (λ x. first_wide long_limit (row_operations cs x) ≡ Some o) c.as_slice-3.ensures
    (subst (λ xs. first_wide long_limit (row_operations xs c.as_slice-3.result.now) ≡ Some o) row c.in_err-value.ensures) in
    rw (p.1, p.2) (is.first cs ∙ wide)

pub returns : goal.returns
returns c = λ e cs f g.
    let goes = subst (λ actions. FollowIs (map (action_with c.args.constants) actions) c.args.state.now c.args.free.now c.follow.new.state
    c.in_ok-follow.field-0)
    (acts_are c.as_slice-edges.result.now c.args.system.now.flow.edges c.args.edge c.index-edges-edge.result e c.as_slice.result.now
    c.as_slice.ensures c.as_slice-edges.ensures f) c.in_ok-follow.ensures in
    let is = subst (λ b. FollowIs (map (action_with c.args.constants) e.actions) c.args.state.now c.args.free.now c.follow.new.state b)
    c.if-not-branch.false goes in
    let row = c.as_slice-2.ensures.list ∙ c.index-rows-row.is ∙ read_at c.as_slice-rows.result.now c.args.system.now.template c.args.row
    c.index-rows-row.result cs
    c.as_slice-rows.ensures.rows g in
    let sums = subst (λ x. Sums cs x c.in_ok-value.value) c.as_slice-3.ensures
    (subst (λ xs. Sums xs c.as_slice-3.result.now c.in_ok-value.value) row c.in_ok-value.ensures) in
    ((c.follow.new.state, (is.ends c.follow.new.state).1 refl, sums.0), is.first cs ∙ sums.1)
