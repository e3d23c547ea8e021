use Rattle.lp_theory.proofs.first_table.FirstTables.{first_table_shows}
use Rattle.lp_theory.proofs.table.PlainTables.{plain_table_shows}
use Rattle.lp_theory.proofs.table.first_tables_show.Goals as goal

pub returns-clause-first : goal.returns-clause-first
returns-clause-first c = first_table_shows

pub returns-clause-plain : goal.returns-clause-plain
returns-clause-plain c = plain_table_shows
