use Rattle.std.proofs.Common.{◌∙◌, ap, map, string_bytes}
use Rattle.acsl_annotate.proofs.run.Worded.{by_words, untold_by}
use Rattle.acsl_annotate.proofs.run.annotate.Goals as goal

pub returns-in-Ok-clause-run : goal.returns-in-Ok-clause-run
returns-in-Ok-clause-run g c =
    by_words _ _ _ _ _ _ _ _ _ _ _ (ap (λ xs. map string_bytes xs) c.deref.ensures.value ∙ c.in-Ok.ensures) c.run_as.ensures.run

pub returns-in-Ok-clause-untold : goal.returns-in-Ok-clause-untold
returns-in-Ok-clause-untold g c =
    untold_by _ _ _ _ (ap (λ xs. map string_bytes xs) c.deref.ensures.value ∙ c.in-Ok.ensures) c.run_as.ensures.untold

pub returns-in-Err-clause-run : goal.returns-in-Err-clause-run
returns-in-Err-clause-run g c = c.run_without_words.ensures _
