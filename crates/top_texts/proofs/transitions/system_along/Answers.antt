use Rattle.std.proofs.Common.{rules}
use Rattle.std.specs.Prelude.{Ok}
use Rattle.flow_transitions.specs.AutoGroups.{HasGroups}
use Rattle.top_texts.proofs.texts.Readings.{template_served}
use Rattle.ask_words.specs.Request.{domain_text}
use Rattle.top_texts.specs.Outcomes.{IsRefusedAlong}
use Rattle.top_texts.specs.TransitionTexts.{HasTemplateAlong, IsAutoText}
use Rattle.top_texts.proofs.transition_texts.Systems.{too_many, transition_system}
use Rattle.top_texts.proofs.transitions.system_along.Goals as goal

pub returns-in_err-auto-clause-err : goal.returns-in_err-auto-clause-err
returns-in_err-auto-clause-err c =
    let h : IsRefusedAlong c.args.text.now (domain_text c.args.rows) c.in_err-auto.field-0.0 =
    c.in_err-auto.ensures.err (domain_text c.args.rows) in
    search (rules, h)

pub returns-in_err-flow-clause-err : goal.returns-in_err-flow-clause-err
returns-in_err-flow-clause-err c =
    let h : IsRefusedAlong c.args.text.now (domain_text c.args.rows) c.in_err-flow.field-0.0 =
    c.in_err-flow.ensures.err c.args.text.now (domain_text c.args.rows) c.in_ok-auto.ensures.ok in
    search (rules, h)

pub returns-in_err-groups-clause-err : goal.returns-in_err-groups-clause-err
returns-in_err-groups-clause-err c =
    let h : IsRefusedAlong c.args.text.now (domain_text c.args.rows) c.in_err-groups.field-0.0 = c.in_err-groups.ensures.err in
    search (rules, h)

pub returns-in_err-template-clause-err : goal.returns-in_err-template-clause-err
returns-in_err-template-clause-err c =
    let is : IsAutoText c.args.text.now c.in_ok-auto.auto = record {
      reading = c.in_ok-auto.ensures.ok;
      within =
          c.in_ok-flow.ensures.within;
    } in
    let h : IsRefusedAlong c.args.text.now (domain_text c.args.rows) c.in_err-template.field-0.0 =
    c.in_err-template.ensures.err c.args.text.now is c.in_ok-groups.ensures.ok in
    search (rules, h)

pub returns-in_err-system-clause-err : goal.returns-in_err-system-clause-err
returns-in_err-system-clause-err c =
    let flow = c.in_ok-flow.ensures in
    let given : HasTemplateAlong c.args.text.now (domain_text c.args.rows) c.in_ok-auto.auto.names (Ok c.in_ok-template.template) =
    template_served (HasGroups c.args.text.now) (domain_text c.args.rows) c.in_ok-auto.auto.names c.in_ok-groups.groups
    (Ok c.in_ok-template.template) c.in_ok-groups.ensures.ok c.in_ok-template.ensures.template in
    let h : IsRefusedAlong c.args.text.now (domain_text c.args.rows) c.in_err-system.field-0.0 =
    too_many c.args.text.now (domain_text c.args.rows) c.in_ok-auto.auto c.in_ok-flow.flow c.in_ok-template.template
    c.in_ok-auto.ensures.ok flow.within
    flow.names flow.points flow.edges given c.in_err-system.ensures.above _ c.in_err-system.ensures.count in
    search (rules, h)

pub returns-clause-ok : goal.returns-clause-ok
returns-clause-ok c =
    let flow = c.in_ok-flow.ensures in
    let given : HasTemplateAlong c.args.text.now (domain_text c.args.rows) c.in_ok-auto.auto.names (Ok c.in_ok-template.template) =
    template_served (HasGroups c.args.text.now) (domain_text c.args.rows) c.in_ok-auto.auto.names c.in_ok-groups.groups
    (Ok c.in_ok-template.template) c.in_ok-groups.ensures.ok c.in_ok-template.ensures.template in
    let made = c.in_ok-system.ensures in
    transition_system c.args.text.now (domain_text c.args.rows) c.in_ok-auto.auto c.in_ok-flow.flow c.in_ok-template.template
    c.in_ok-auto.ensures.ok flow.within
    flow.names flow.points flow.edges given c.in_ok-system.system made.flow made.template made.within
