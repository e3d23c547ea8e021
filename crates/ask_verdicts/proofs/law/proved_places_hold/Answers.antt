use Rattle.ask_verdicts.proofs.laws.Held.{places_hold}
use Rattle.ask_verdicts.proofs.law.proved_places_hold.Goals as goal

pub returns : goal.returns
returns c = places_hold
