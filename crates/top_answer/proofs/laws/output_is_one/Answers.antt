use Rattle.top_answer.proofs.outputs.Once.{one_output, written_ending}
use Rattle.top_answer.proofs.laws.output_is_one.Goals as goal

pub returns : goal.returns
returns c = record { bytes = one_output; ending = written_ending }
