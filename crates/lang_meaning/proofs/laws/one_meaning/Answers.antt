use Rattle.lang_meaning.proofs.meaning.OneMeaning.{means_once}
use Rattle.lang_meaning.proofs.laws.one_meaning.Goals as goal

pub returns : goal.returns
returns c = λ text tokens r s m n. means_once text tokens r s m n
