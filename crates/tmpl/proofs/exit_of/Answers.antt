use Rattle.std.proofs.Common.{◌≡◌, ◌∙◌}
use Rattle.tmpl.proofs.exit_of.Goals as goal

pub returns-clause-run : goal.returns-clause-run
returns-clause-run g c = (c.run-status.result, c.run-status.ensures.run, c.from.ensures ∙ c.code.ensures)
