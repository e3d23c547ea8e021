use Rattle.flow_templates.proofs.line.Steps.{one_terms}
use Rattle.flow_templates.proofs.row_files.OneAnswer.{one_answer}
use Rattle.flow_templates.proofs.law.one_reading.Goals as goal

pub returns : goal.returns
returns c = record { terms = one_terms; answers = one_answer }
