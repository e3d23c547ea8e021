use Rattle.lp_theory.proofs.search.Stops.{stop_index_is}
use Rattle.lp_theory.proofs.bland.rule_stops.Goals as goal

pub returns : goal.returns
returns c = stop_index_is
