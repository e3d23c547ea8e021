use Rattle.std.proofs.Common.{refl, subst, sym}
use Rattle.std.specs.Prelude.{◌≡◌, length}
use Rattle.ask_words.specs.declared.request.Purpose.TheVariants.{Report}
use Rattle.top_status.specs.CheckMessages.{rows_of}
use Rattle.ask_words.specs.Request.{domain_text, source_text}
use Rattle.top_texts.proofs.analyses.Analysed.{refused_answer, refused_rows}
use Rattle.top_texts.proofs.analyses.Found.{halted_texts, refused_unput}
use Rattle.top_texts.proofs.analyse.least.least_on.Goals as goal

pub returns-in-Err-clause-err : goal.returns-in-Err-clause-err
returns-in-Err-clause-err g c = record {
  answer = refused_answer Report (source_text c.args.program) _ (domain_text c.args.rows) c.args.policy c.args.limit _ _
      c.refused-status.ensures refl
      c.in-Err.ensures.err;
  unput = refused_unput _ _ c.refused-status.ensures;
  line = c.answer_line-line.ensures;
  rows_named = λ system is. subst (λ s. 0 ≡ rows_of (length system.template) s) (sym c.refused-status.ensures)
      (refused_rows (source_text c.args.program) (domain_text c.args.rows) _ _ c.in-Err.ensures.err);
}

pub returns-in-Ok-clause-err : goal.returns-in-Ok-clause-err
returns-in-Ok-clause-err g c = halted_texts (source_text c.args.program) (domain_text c.args.rows) c.in-Ok.system c.args.policy
    c.args.limit _
    c.in-Ok.ensures.ok c.least_of.ensures.err
