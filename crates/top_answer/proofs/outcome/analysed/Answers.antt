use Rattle.std.proofs.Common.{◌∙◌, List, ap, length, sym}
use Rattle.std.specs.Prelude.{ℤ}
use Rattle.ask_words.specs.Request.{analysis_text}
use Rattle.top_status.specs.CheckMessages.{rows_of}
use Rattle.top_texts.proofs.analyses.Analysed.{system_rows}
use Rattle.top_answer.proofs.commands.Analyses.{solved, unsolvable}
use Rattle.top_answer.proofs.outcome.analysed.Goals as goal

pub returns-in-Ok-clause-says : goal.returns-in-Ok-clause-says
returns-in-Ok-clause-says g c = solved (analysis_text c.args.analysis) c.in-Ok.system c.in-Ok.ensures.ok c.args.purpose c.args.format _ _ _
    c.made_of-made.ensures.ok c.made_of-made.ensures.err c.outcome_from.ensures.is

pub returns-in-Ok-clause-rows : goal.returns-in-Ok-clause-rows
returns-in-Ok-clause-rows g c = λ count has.
    system_rows _ _ _ has.0 _ _ c.in-Ok.ensures.ok
    (c.outcome_from.ensures.rows
    ∙ ap (λ (rs : List (List ℤ)). rows_of (length rs) c.outcome_from.result.status) c.as_slice.ensures.rows) has.1
    ∙ sym (ap (λ n. rows_of n c.outcome_from.result.status) has.2)

pub returns-in-Err-clause-says : goal.returns-in-Err-clause-says
returns-in-Err-clause-says g c =
    unsolvable c.args.purpose (analysis_text c.args.analysis) c.args.format c.in-Err.refusal _ _ c.in-Err.ensures.err
    c.outcome_from-in-Err.ensures.is
