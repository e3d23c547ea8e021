use Rattle.std.proofs.Common.{length, subst, ◌∙◌, ap, rules}
use Rattle.std.specs.Prelude.{Err, IsTrue}
use Rattle.flow_templates.specs.Rows.{is_template}
use Rattle.ask_words.specs.Request.{domain_text}
use Rattle.flow_transitions.specs.AutoGroups.{HasGroups}
use Rattle.top_texts.specs.Texts.{HasTemplateBy}
use Rattle.top_texts.proofs.texts.Readings.{template_served}
use Rattle.top_texts.proofs.analyse.Solved.{template_over}
use Rattle.top_texts.proofs.transitions.rows_along.Goals as goal

pub returns-in-Ok-clause-over : goal.returns-in-Ok-clause-over
returns-in-Ok-clause-over c =
    let h : IsTrue (is_template c.in-Ok.template) = search rules in
    template_over _ _ h (c.in-Ok.ensures.width ∙ ap length c.as_slice.ensures)

pub returns-in-Err-clause-err : goal.returns-in-Err-clause-err
returns-in-Err-clause-err c =
    λ text is serve. c.row_refusal.ensures text _
    (λ other. (
      c.args.auto.now,
      is,
      template_served (HasGroups text) (domain_text c.args.rows) c.args.auto.now.names c.args.groups.now (Err c.in-Err.fault) serve
          (subst (λ names. HasTemplateBy c.args.groups.now (domain_text c.args.rows) names (Err c.in-Err.fault)) c.as_slice.ensures
          (c.in-Err.ensures.refused other)),
    ))
