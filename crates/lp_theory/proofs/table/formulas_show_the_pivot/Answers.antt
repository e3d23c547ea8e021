use Rattle.lp_theory.proofs.table.TablePivots.{table_pivot}
use Rattle.lp_theory.proofs.table.formulas_show_the_pivot.Goals as goal

pub returns : goal.returns
returns c = table_pivot
