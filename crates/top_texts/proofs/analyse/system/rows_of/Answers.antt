use Rattle.std.proofs.Common.{length, subst, ◌∙◌, ap, rules}
use Rattle.std.specs.Prelude.{Err, IsTrue}
use Rattle.flow_templates.specs.Rows.{is_template}
use Rattle.ask_words.specs.Request.{domain_text}
use Rattle.top_texts.specs.Texts.{HasTemplateBy}
use Rattle.top_texts.proofs.analyse.Solved.{template_over}
use Rattle.top_texts.proofs.analyse.system.rows_of.Goals as goal

pub returns-in-Ok-clause-over : goal.returns-in-Ok-clause-over
returns-in-Ok-clause-over c =
    let h : IsTrue (is_template c.in-Ok.template) = search rules in
    template_over _ _ h (c.in-Ok.ensures.width ∙ ap length c.as_slice.ensures)

pub returns-in-Err-clause-err : goal.returns-in-Err-clause-err
returns-in-Err-clause-err c =
    c.row_refusal.ensures c.args.groups.now (domain_text c.args.rows) c.args.program.now.names c.args.program.now.body
    (λ other. subst (λ names. HasTemplateBy c.args.groups.now (domain_text c.args.rows) names (Err c.in-Err.fault)) c.as_slice.ensures
    (c.in-Err.ensures.refused other))
