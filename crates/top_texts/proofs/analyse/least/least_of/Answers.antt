use Rattle.std.proofs.Common.{◌∙◌, ap, length, refl}
use Rattle.std.specs.Prelude.{List, ℤ}
use Rattle.ask_words.specs.declared.request.Purpose.TheVariants.{Report}
use Rattle.top_status.specs.CheckMessages.{rows_of}
use Rattle.top_texts.proofs.analyses.Analysed.{halted_answer}
use Rattle.top_texts.proofs.analyses.Found.{refused_unput, solved_by}
use Rattle.top_texts.proofs.analyse.least.least_of.Goals as goal

pub returns-in-Ok-clause-ok : goal.returns-in-Ok-clause-ok
returns-in-Ok-clause-ok g c = solved_by c.args.system c.args.policy c.args.limit _ refl c.in-Ok.ensures.solved c.in-Ok.ensures.least
    c.in-Ok.ensures.count

pub returns-in-Err-clause-err : goal.returns-in-Err-clause-err
returns-in-Err-clause-err g c = record {
  answer = halted_answer Report c.args.system c.args.policy c.args.limit _ _ c.refused-status.ensures (c.in-Err.ensures.err Report);
  unput = refused_unput _ _ c.refused-status.ensures;
  line = refl;
  rows_named = c.answer_rows-rows.ensures ∙ ap (λ (rs : List (List ℤ)). rows_of (length rs) c.refused-status.result)
      c.as_slice.ensures.rows;
}
