use Rattle.std.proofs.Common.{◌∙◌}
use Rattle.tmpl_acsl.proofs.exit_of.Goals as goal

pub returns-clause-run : goal.returns-clause-run
returns-clause-run g c = (c.annotate-status.result, c.annotate-status.ensures.run, c.from.ensures ∙ c.code.ensures)
