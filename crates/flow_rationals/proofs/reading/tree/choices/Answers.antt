use Rattle.std.proofs.Common.{List, length, sym, ap, subst, arith}
use Rattle.flow_rationals.specs.declared.reading.written.Choice.{Choice}
use Rattle.flow_rationals.specs.Grammar.{choice_then, choices_then}
use Rattle.flow_rationals.proofs.found.Lists.{ListGoesOn, list_goes, list_stuck, list_closes, list_open}
use Rattle.flow_rationals.proofs.found.Tree.{choices_close, choices_listing}
use Rattle.flow_rationals.proofs.reading.tree.choices.Goals as goal

pub returns-in_default-2-clause-found : goal.returns-in_default-2-clause-found
returns-in_default-2-clause-found c = λ cs m e.
    list_stuck Choice choice_then choices_then choices_close choices_listing
    c.choices.choices.items c.choices.rest.now c.in-Some.others.now cs m (c.choices.invariant.go_on cs m e) c.in-Some.ensures
    (rw c.in_default-2.is at c.in_ok-next.ensures.found)

pub choices-preserved : goal.choices-preserved
choices-preserved c = record {
  go_on = λ cs m e.
      subst (λ (x : List Choice). ListGoesOn Choice choices_then x c.in-Some-2.after.now cs m) (sym c.in_ok-push.ensures.items)
      (list_goes Choice choice_then choices_then choices_close choices_listing
      c.choices.choices.items c.choices.rest.now c.in-Some.others.now c.in-Some-2.after.now c.in-Some-2.next cs m
      (c.choices.invariant.go_on cs m e) c.in-Some.ensures (rw c.in-Some-2.is at c.in_ok-next.ensures.found));
  shorter = let h = rw c.in-Some-2.is at c.in_ok-next.ensures.shorter in
      omega (arith, ap length c.in-Some.ensures, h, c.choices.invariant.shorter);
}

pub returns-in-Some-ending-clause-found : goal.returns-in-Some-ending-clause-found
returns-in-Some-ending-clause-found c = λ cs m e.
    list_closes Choice choice_then choices_then choices_close choices_listing
    c.choices.choices.items c.new.result c.choices.rest.now c.in-Some-ending.after.now cs m c.new.ensures
    (c.choices.invariant.go_on cs m e) c.in-Some-ending.ensures

pub returns-clause-found : goal.returns-clause-found
returns-clause-found c = λ cs m e.
    list_open Choice choice_then choices_then choices_close choices_listing
    c.choices.choices.items c.choices.rest.now cs m (c.choices.invariant.go_on cs m e) c.in_default.ensures c.in-None.ensures
