use Rattle.std.proofs.Common.{◌≡◌, ◌∙◌, ◌/◌, ◌%◌, ◌<◌, arith, true≢false, length, refl, sym, ap, subst}
use Rattle.std.specs.Prelude.{slice_set}
use Rattle.base_numbers.specs.Extended.{◌<ᴱ◌}
use Rattle.base_fractions.specs.Extended.{extended}
use Rattle.std.proofs.lemmas.Result.{err_from_is_err_and}
use Rattle.flow_systems.specs.View.{equations_of}
use Rattle.solve_composition.specs.Value.{number_of}
use Rattle.solve_rounds.specs.Growing.{IsValueAt, IsValueStop, IsStepStop, NamesOne, bound_given, tested}
use Rattle.solve_raise.specs.Raises.{raise_operations}
use Rattle.solve_rounds.proofs.growing.Kept.{kept_more, few_steps, system_size}
use Rattle.solve_rounds.proofs.growing.Tested.{stays_within, raised_names, has_item, stays, go_is, value_stop, step_stop, value_sizes}
use Rattle.solve_rounds.proofs.growing.Tested.{value_rises}
use Rattle.solve_offers.specs.AtBounds.{vector_at}
use Rattle.solve_offers.proofs.offers.Unknowns.{point_within}
use Rattle.solve_rounds.proofs.growing.Quiet.{quiet_more, quiet_raised, within_picked}
use Rattle.solve_rounds.proofs.growing.Unraised.{stays_raised}
use Rattle.solve_rounds.proofs.growing.test_picked.Goals as goal

pub overflow_cast-raises : goal.overflow_cast-raises
overflow_cast-raises c =
    let few = few_steps c.args.system.now c.args.growing.now c.requires.kept in
    let size = system_size c.args.system.now in
    let is : c.len-raises.result ≡ length c.args.growing.now.steps.items = c.len-raises.ensures ∙ c.args.growing.now.steps.ok.0 in
    omega arith

pub returns-in_err-value-clause-stop : goal.returns-in_err-value-clause-stop
returns-in_err-value-clause-stop c =
    let system = c.args.system.now in
    let q = err_from_is_err_and c.from_residual.result c.from_residual.ensures.1 in
    rw (q.1, q.2)
    (λ z agrees. value_stop system c.args.growing.now.bounds c.args.unknown c.requires.unknown c.requires.kept.bounds z agrees c.args.edge
    c.requires.limited _ c.args.round c.in_err-value.field-0.0
    (subst (λ n. IsValueStop system c.args.growing.now.bounds c.args.edge (c.args.unknown % n) c.args.round c.in_err-value.field-0.0)
    (ap (λ t. length t) c.as_slice.ensures.rows) c.in_err-value.ensures.stop))

pub returns-then-not-exceeds-clause-tested : goal.returns-then-not-exceeds-clause-tested
returns-then-not-exceeds-clause-tested c z agrees =
    let system = c.args.system.now in
    let bounds = c.args.growing.now.bounds in
    let value = subst (λ n. IsValueAt system bounds c.args.edge (c.args.unknown % n) c.in_ok-value.value)
    (ap (λ t. length t) c.as_slice.ensures.rows) c.in_ok-value.ensures.value in
    record {
      within = stays system bounds c.args.unknown c.requires.unknown c.requires.kept.bounds z agrees c.args.edge c.in_ok-value.value value
          (extended c.at.result) c.at.ensures
          (λ h. true≢false (sym (c.exceeds.ensures.1 (subst (λ v. extended c.at.result <ᴱ v) (sym c.supremum.ensures) h))
          ∙ c.if-not-exceeds.true));
      bounds = refl;
      raised = refl;
      steps = refl;
    }

pub returns-then-not-exceeds-clause-quiet : goal.returns-then-not-exceeds-clause-quiet
returns-then-not-exceeds-clause-quiet c =
    let system = c.args.system.now in
    let bounds = c.args.growing.now.bounds in
    let value = subst (λ n. IsValueAt system bounds c.args.edge (c.args.unknown % n) c.in_ok-value.value)
    (ap (λ t. length t) c.as_slice.ensures.rows) c.in_ok-value.ensures.value in
    quiet_more system c.args.pick.now c.args.growing.now _ c.args.unknown c.requires.quiet refl refl refl refl
    (within_picked system bounds c.args.pick.now c.args.unknown c.args.edge c.requires.edge
    (stays_within system bounds c.args.unknown c.requires.unknown c.requires.kept.bounds (vector_at system bounds) (λ p r l. refl)
    c.args.edge c.in_ok-value.value value (extended c.at.result) c.at.ensures
    (λ h. true≢false (sym (c.exceeds.ensures.1 (subst (λ v. extended c.at.result <ᴱ v) (sym c.supremum.ensures) h))
    ∙ c.if-not-exceeds.true))))

pub wake-requires-clause-point : goal.wake-requires-clause-point
wake-requires-clause-point c =
    let system = c.args.system.now in
    subst (λ n. c.args.unknown / n < length system.flow.points) (sym (ap (λ t. length t) c.as_slice.ensures.rows))
    (point_within c.args.unknown (length system.flow.points) (length system.template) c.requires.unknown)

pub returns-clause-quiet : goal.returns-clause-quiet
returns-clause-quiet c =
    let system = c.args.system.now in
    let old = c.args.growing.now in
    quiet_raised system c.args.pick.now old c.wake.new.growing c.args.unknown c.requires.quiet _ (bound_given c.in_ok-step.step)
    (c.args.unknown / length c.as_slice.result.now) (ap (λ n. c.args.unknown / n) (ap (λ t. length t) c.as_slice.ensures.rows))
    c.requires.edges (let r = c.requires.kept.raised in let u = c.requires.unknown in omega arith) c.requires.awake
    (c.set.ensures ∙ ap (slice_set old.bounds c.args.unknown) c.new_bound.ensures) refl refl refl c.wake.ensures.steps
    c.wake.ensures.marks c.wake.ensures.wakes

pub returns-clause-stays : goal.returns-clause-stays
returns-clause-stays c =
    stays_raised c.args.growing.now c.wake.new.growing c.args.unknown _
    (let r = c.requires.kept.raised in let u = c.requires.unknown in omega arith)
    (c.wake.ensures.steps.bounds ∙ c.set.ensures) c.wake.ensures.steps.raised

pub raising_step-requires-clause-sizes : goal.raising_step-requires-clause-sizes
raising_step-requires-clause-sizes c =
    let system = c.args.system.now in
    value_sizes system c.args.growing.now.bounds c.args.edge c.args.unknown c.in_ok-value.value
    (subst (λ n. IsValueAt system c.args.growing.now.bounds c.args.edge (c.args.unknown % n) c.in_ok-value.value)
    (ap (λ t. length t) c.as_slice.ensures.rows) c.in_ok-value.ensures.value)

pub raising_step-requires-clause-rises : goal.raising_step-requires-clause-rises
raising_step-requires-clause-rises c =
    let system = c.args.system.now in
    value_rises system c.args.growing.now.bounds c.args.edge c.args.unknown c.in_ok-value.value
    (subst (λ n. IsValueAt system c.args.growing.now.bounds c.args.edge (c.args.unknown % n) c.in_ok-value.value)
    (ap (λ t. length t) c.as_slice.ensures.rows) c.in_ok-value.ensures.value)

pub returns-in_err-step-clause-stop : goal.returns-in_err-step-clause-stop
returns-in_err-step-clause-stop c =
    let system = c.args.system.now in
    let bounds = c.args.growing.now.bounds in
    let value = subst (λ n. IsValueAt system bounds c.args.edge (c.args.unknown % n) c.in_ok-value.value)
    (ap (λ t. length t) c.as_slice.ensures.rows) c.in_ok-value.ensures.value in
    let exceeds : extended c.at-bound.result <ᴱ number_of c.in_ok-value.value =
    subst (λ b. b <ᴱ number_of c.in_ok-value.value) (c.at.ensures ∙ sym c.at-bound.ensures)
    (subst (λ v. extended c.at.result <ᴱ v) c.supremum.ensures (c.exceeds.ensures.0 c.if-not-exceeds.false)) in
    let q = err_from_is_err_and c.from_residual-in_err-step.result c.from_residual-in_err-step.ensures.1 in
    rw (q.1, q.2)
    (λ z agrees. step_stop system bounds c.args.unknown c.requires.unknown c.requires.kept.bounds z agrees c.args.edge c.in_ok-value.value
    value (extended c.at-bound.result) c.at-bound.ensures exceeds (length c.args.growing.now.steps.items) c.args.round
    c.in_err-step.field-0.0
    (subst (λ n. IsStepStop (raise_operations (equations_of system) (tested system c.args.edge c.args.unknown) (extended c.at-bound.result)
    c.in_ok-value.value) n c.args.round c.in_err-step.field-0.0) (c.len-raises.ensures ∙ c.args.growing.now.steps.ok.0)
    c.in_err-step.ensures.stop))

pub new_bound-requires : goal.new_bound-requires
new_bound-requires c =
    let system = c.args.system.now in
    let exceeds : extended c.at-bound.result <ᴱ number_of c.in_ok-value.value =
    subst (λ b. b <ᴱ number_of c.in_ok-value.value) (c.at.ensures ∙ sym c.at-bound.ensures)
    (subst (λ v. extended c.at.result <ᴱ v) c.supremum.ensures (c.exceeds.ensures.0 c.if-not-exceeds.false)) in
    has_item (length system.template) c.args.unknown c.in_ok-step.step
    (subst (NamesOne (length system.template) c.args.unknown) (sym c.in_ok-step.ensures.step)
    (raised_names (equations_of system) (length system.template) c.args.edge c.args.unknown (extended c.at-bound.result) c.in_ok-value.value
    exceeds))

pub returns-clause-kept : goal.returns-clause-kept
returns-clause-kept c =
    let system = c.args.system.now in
    let exceeds : extended c.at-bound.result <ᴱ number_of c.in_ok-value.value =
    subst (λ b. b <ᴱ number_of c.in_ok-value.value) (c.at.ensures ∙ sym c.at-bound.ensures)
    (subst (λ v. extended c.at.result <ᴱ v) c.supremum.ensures (c.exceeds.ensures.0 c.if-not-exceeds.false)) in
    kept_more system c.args.growing.now _ c.args.unknown _ c.in_ok-step.step c.requires.kept c.requires.unknown c.requires.unraised
    (subst (NamesOne (length system.template) c.args.unknown) (sym c.in_ok-step.ensures.step)
    (raised_names (equations_of system) (length system.template) c.args.edge c.args.unknown (extended c.at-bound.result) c.in_ok-value.value
    exceeds))
    (c.wake.ensures.steps.bounds ∙ c.set.ensures) c.wake.ensures.steps.raised
    (c.wake.ensures.steps.steps ∙ c.in_ok-push.ensures.items)

pub returns-clause-tested : goal.returns-clause-tested
returns-clause-tested c z agrees =
    let system = c.args.system.now in
    let bounds = c.args.growing.now.bounds in
    let value = subst (λ n. IsValueAt system bounds c.args.edge (c.args.unknown % n) c.in_ok-value.value)
    (ap (λ t. length t) c.as_slice.ensures.rows) c.in_ok-value.ensures.value in
    let exceeds : extended c.at-bound.result <ᴱ number_of c.in_ok-value.value =
    subst (λ b. b <ᴱ number_of c.in_ok-value.value) (c.at.ensures ∙ sym c.at-bound.ensures)
    (subst (λ v. extended c.at.result <ᴱ v) c.supremum.ensures (c.exceeds.ensures.0 c.if-not-exceeds.false)) in
    go_is system bounds c.args.unknown c.requires.unknown c.requires.kept.bounds z agrees c.args.edge c.in_ok-value.value value
    (extended c.at-bound.result) c.at-bound.ensures exceeds c.args.growing.now _
    c.in_ok-step.step c.in_ok-step.ensures.step
    (c.wake.ensures.steps.bounds ∙ c.set.ensures ∙ ap (slice_set bounds c.args.unknown) c.new_bound.ensures) c.wake.ensures.steps.raised
    (c.wake.ensures.steps.steps ∙ c.in_ok-push.ensures.items)
