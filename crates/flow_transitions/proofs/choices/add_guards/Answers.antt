use Rattle.std.proofs.Common.{◌≤◌, ◌++◌, ◌∙◌, length, take, sym, ap, subst}
use Rattle.std.proofs.lemmas.List.{append-nil}
use Rattle.flow_edges.specs.Steps.{guards}
use Rattle.flow_edges.specs.Trails.{kept}
use Rattle.flow_edges.specs.declared.limits.TheConstants.{KEPT}
use Rattle.flow_transitions.proofs.choosing.Chosen.{kept_all, kept_short}
use Rattle.flow_transitions.proofs.made.Places.{guard_more}
use Rattle.flow_transitions.proofs.choices.add_guards.Goals as goal

pub loop-form-init : goal.loop-form-init
loop-form-init c = let xs = c.args.actions.now.items in sym (ap kept (append-nil xs) ∙ kept_all xs c.requires)

pub add-requires : goal.add-requires
add-requires c =
    subst (λ z. length z ≤ KEPT) (sym c.loop-form.invariant) (kept_short
    (c.args.actions.now.items ++ guards (take c.loop-form.form-index c.args.forms.now)))

pub loop-form-preserved : goal.loop-form-preserved
loop-form-preserved c =
    guard_more c.args.actions.now.items c.loop-form.actions.items c.add.new.actions.items c.args.forms.now c.loop-form.form-index
    c.form-item.result _
    c.loop-form-test.true c.form-item.is c.in_ok-again.ensures c.in_ok-add.ensures c.loop-form.invariant
