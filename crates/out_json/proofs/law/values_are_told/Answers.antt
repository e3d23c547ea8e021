use Rattle.out_json.proofs.told.Values.{values_are_told}
use Rattle.out_json.proofs.law.values_are_told.Goals as goal

pub returns : goal.returns
returns c = values_are_told
