use Rattle.ask_json.proofs.told.Lines.{checks_are_told}
use Rattle.ask_json.proofs.law.checks_are_told.Goals as goal

pub returns : goal.returns
returns c = checks_are_told
