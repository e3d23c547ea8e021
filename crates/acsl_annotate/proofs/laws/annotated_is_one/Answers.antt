use Rattle.acsl_annotate.proofs.laws.OneText.{one_annotated}
use Rattle.acsl_annotate.proofs.laws.annotated_is_one.Goals as goal

pub returns : goal.returns
returns c = one_annotated
