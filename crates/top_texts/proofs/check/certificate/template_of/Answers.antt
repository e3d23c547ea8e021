use Rattle.std.proofs.Common.{◌≡◌, length, rules, ap, subst₂, sym, ◌∙◌}
use Rattle.std.specs.Prelude.{IsTrue, Some, slice_get}
use Rattle.flow_templates.specs.RowFaults.{faults_of}
use Rattle.flow_templates.specs.Rows.{is_template}
use Rattle.top_texts.proofs.analyse.Solved.{template_over}
use Rattle.top_texts.proofs.check.certificate.template_of.Goals as goal

pub returns-in-Ok-clause-over : goal.returns-in-Ok-clause-over
returns-in-Ok-clause-over c =
    let h : IsTrue (is_template c.in-Ok.template) = search rules in
    template_over _ _ h (c.in-Ok.ensures.width ∙ ap length c.as_slice.ensures)

pub returns-in-Err-clause-err : goal.returns-in-Err-clause-err
returns-in-Err-clause-err c =
    λ cert same. c.row_refusal.ensures c.args.program.now.names c.args.program.now.body cert
    (λ other. subst₂ (λ names rows. slice_get (faults_of (length names) rows) 0 ≡ Some c.in-Err.fault) c.as_slice.ensures
    (c.as_slice-2.ensures ∙ sym same) (c.in-Err.ensures.refused other))
