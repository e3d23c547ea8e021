use Rattle.top_run.proofs.parts.Plain.{absent_in, answer, complete, output, stays}
use Rattle.top_run.proofs.memory.run_in_memory.Goals as goal

pub returns-clause-complete : goal.returns-clause-complete
returns-clause-complete g c =
    λ files ending told h. complete _ _ _ _ _ _ _ _ _ _ c.run.ensures.run files told
    (λ failed. absent_in _ _ files _ c.run.ensures.run.kept told (c.run.new.shelf.absent failed)) stays ending h

pub returns-clause-answer : goal.returns-clause-answer
returns-clause-answer g c =
    λ files told. answer _ _ _ _ _ _ _ _ _ _ c.run.ensures.run files told
    (λ failed. absent_in _ _ files _ c.run.ensures.run.kept told (c.run.new.shelf.absent failed)) stays

pub returns-clause-output : goal.returns-clause-output
returns-clause-output g c =
    λ files told. output _ _ _ _ _ _ _ _ _ _ c.run.ensures.run files told
    (λ failed. absent_in _ _ files _ c.run.ensures.run.kept told (c.run.new.shelf.absent failed)) stays
