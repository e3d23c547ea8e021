use Rattle.ask_json.proofs.told.Lines.{claims_are_told}
use Rattle.ask_json.proofs.law.claims_are_told.Goals as goal

pub returns : goal.returns
returns c = claims_are_told
