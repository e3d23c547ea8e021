use Rattle.std.proofs.Common.{◌∙◌, sym}
use Rattle.base_numbers.proofs.rational.Laws.{whole-zero}
use Rattle.flow_systems.proofs.sums.constant.Goals as goal

pub returns-in-Zero : goal.returns-in-Zero
returns-in-Zero c = rw c.in-Zero.is (c.zero.ensures.value ∙ sym whole-zero)
