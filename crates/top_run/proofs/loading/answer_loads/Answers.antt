use Rattle.std.proofs.Common.{◌∙◌, ap, refl}
use Rattle.ask_files.specs.Files.{texts_of}
use Rattle.top_run.proofs.parts.Answering.{over_contents}
use Rattle.top_run.proofs.loading.answer_loads.Goals as goal

pub returns-in-Ok-clause-answer : goal.returns-in-Ok-clause-answer
returns-in-Ok-clause-answer g c =
    over_contents _ _ _ _ _ _ _ _ (ap texts_of c.deref.ensures.value ∙ c.in-Ok.ensures) c.answer_told.ensures.answer

pub returns-in-Ok-clause-untold : goal.returns-in-Ok-clause-untold
returns-in-Ok-clause-untold g c = λ e. c.answer_told.ensures.untold (c.tells.ensures e)

pub returns-in-Err-clause-untold : goal.returns-in-Err-clause-untold
returns-in-Err-clause-untold g c = λ e. refl
