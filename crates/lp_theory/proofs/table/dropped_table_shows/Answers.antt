use Rattle.lp_theory.proofs.TableDrops.{table_drop}
use Rattle.lp_theory.proofs.table.dropped_table_shows.Goals as goal

pub returns : goal.returns
returns c = table_drop
