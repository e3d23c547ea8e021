use Rattle.std.proofs.Common.{◌≡◌, ◌+◌, ◌∙◌, ℕ, Option, Some, inr, false, sym, ap, arith, length}
use Rattle.std.specs.Prelude.{position}
use Rattle.lang_tree.specs.Tree.{Statements, nodes_in}
use Rattle.lang_tree.specs.declared.limits.TheConstants.{MOST_HIDDEN}
use Rattle.flow_edges.specs.declared.fault.FlowFault.{FlowFault}
use Rattle.flow_edges.specs.declared.fault.FlowFault.TheVariants as fault
use Rattle.flow_edges.specs.Checks.{checks_in}
use Rattle.flow_edges.specs.Faults.{is_long, has_many_actions}
use Rattle.flow_edges.proofs.build.EdgeLimits.{room_in}
use Rattle.flow_edges.proofs.faults.FlowLaws.{limits, few_points, few_kept, long_faulted, actions_faulted, checks_faulted, no_fault}
use Rattle.flow_edges.proofs.faults.FlowLaws.{nothing_cut}
use Rattle.flow_edges.proofs.faults.FlowLaws.{flow_within}
use Rattle.flow_edges.proofs.build.flow.Goals as goal

pub counted_fault-requires : goal.counted_fault-requires
counted_fault-requires c =
    let p = c.args.program.now in
    omega (arith, few_points (length p.names) p.body p.within_limits)

pub edges_of-requires-clause-room : goal.edges_of-requires-clause-room
edges_of-requires-clause-room c =
    let p = c.args.program.now in
    room_in (length p.names + MOST_HIDDEN) false p.body (limits (length p.names) p.body p.within_limits).statements

pub long_edge-requires : goal.long_edge-requires
long_edge-requires c =
    let none = sym c.counted_fault.ensures ∙ c.in_default.is in
    rw (c.deref.ensures.value ∙ c.in_ok-edges.ensures) (few_kept c.args.program.now.body none)

pub returns-in-Some-long_edge-clause-fault : goal.returns-in-Some-long_edge-clause-fault
returns-in-Some-long_edge-clause-fault c =
    let none = sym c.counted_fault.ensures ∙ c.in_default.is in
    let found = ap (position is_long) (sym (c.deref.ensures.value ∙ c.in_ok-edges.ensures)) ∙ sym c.long_edge.ensures
    ∙ c.in-Some-long_edge.is in
    inr (long_faulted c.args.program.now.body c.in-Some-long_edge.edge none found)

pub check_count-count-requires : goal.check_count-count-requires
check_count-count-requires c =
    let p = c.args.program.now in
    omega (arith, ap nodes_in c.as_slice-2.ensures, (limits (length p.names) p.body p.within_limits).nodes)

pub returns-then-are_too_many-clause-fault : goal.returns-then-are_too_many-clause-fault
returns-then-are_too_many-clause-fault c =
    let none = sym c.counted_fault.ensures ∙ c.in_default.is in
    let found = ap (position is_long) (sym (c.deref.ensures.value ∙ c.in_ok-edges.ensures)) ∙ sym c.long_edge.ensures
    ∙ c.in_default-long_edge.is in
    let many = ap has_many_actions (sym (c.deref-2.ensures.value ∙ c.in_ok-edges.ensures)) ∙ sym c.are_too_many.ensures
    ∙ c.if-are_too_many.true in
    inr (actions_faulted c.args.program.now.body none found many)

counted : (body b : Statements) (n : ℕ) → b ≡ body → n ≡ length (checks_in b) → n ≡ length (checks_in body)
counted body b n e f = f ∙ ap (λ s. length (checks_in s)) e

pub returns-then-count-gt-MOST_CHECKS-clause-fault : goal.returns-then-count-gt-MOST_CHECKS-clause-fault
returns-then-count-gt-MOST_CHECKS-clause-fault c =
    let none = sym c.counted_fault.ensures ∙ c.in_default.is in
    let found = ap (position is_long) (sym (c.deref.ensures.value ∙ c.in_ok-edges.ensures)) ∙ sym c.long_edge.ensures
    ∙ c.in_default-long_edge.is in
    let count = counted c.args.program.now.body _ c.check_count-count.result c.as_slice-2.ensures c.check_count-count.ensures.count in
    let few = ap has_many_actions (sym (c.deref-2.ensures.value ∙ c.in_ok-edges.ensures)) ∙ sym c.are_too_many.ensures
    ∙ c.if-are_too_many.false in
    inr (checks_faulted c.args.program.now.body none found few (omega (arith, count, c.if-count-gt-MOST_CHECKS.true))
    ∙ ap (λ (k : ℕ). let o : Option FlowFault = Some (fault.Checks k) in o) (sym count))

pub invariant_of-result : goal.invariant_of-result
invariant_of-result c =
    let p = c.args.program.now in
    let none = sym c.counted_fault.ensures ∙ c.in_default.is in
    let found = ap (position is_long) (sym (c.deref.ensures.value ∙ c.in_ok-edges.ensures)) ∙ sym c.long_edge.ensures
    ∙ c.in_default-long_edge.is in
    let same = c.in_ok-names.ensures in
    record {
      within_limits = rw same (flow_within p.names c.in_ok-points.points c.new.result p.body p.within_limits c.in_ok-points.ensures
          (c.new.ensures ∙ c.in_ok-edges.ensures) none found);
    }

pub returns-clause-edges : goal.returns-clause-edges
returns-clause-edges c =
    let found = ap (position is_long) (sym (c.deref.ensures.value ∙ c.in_ok-edges.ensures)) ∙ sym c.long_edge.ensures
    ∙ c.in_default-long_edge.is in
    c.new.ensures ∙ c.in_ok-edges.ensures ∙ nothing_cut c.args.program.now.body found

pub returns-clause-within : goal.returns-clause-within
returns-clause-within c =
    let none = sym c.counted_fault.ensures ∙ c.in_default.is in
    let found = ap (position is_long) (sym (c.deref.ensures.value ∙ c.in_ok-edges.ensures)) ∙ sym c.long_edge.ensures
    ∙ c.in_default-long_edge.is in
    let count = counted c.args.program.now.body _ c.check_count-count.result c.as_slice-2.ensures c.check_count-count.ensures.count in
    let few = ap has_many_actions (sym (c.deref-2.ensures.value ∙ c.in_ok-edges.ensures)) ∙ sym c.are_too_many.ensures
    ∙ c.if-are_too_many.false in
    no_fault c.args.program.now.body none found few (omega (arith, count, c.if-count-gt-MOST_CHECKS.false))
