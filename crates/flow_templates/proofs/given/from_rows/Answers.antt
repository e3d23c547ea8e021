use Rattle.std.proofs.Common.{sym}
use Rattle.flow_templates.proofs.counted.Sound.{none_first, template_of_sound}
use Rattle.flow_templates.proofs.given.from_rows.Goals as goal

pub new-requires : goal.new-requires
new-requires c =
    rw c.in_ok-copies-in-None.ensures ((template_of_sound c.args.vars c.args.rows.now (none_first _ (sym c.in-None.ensures))).0)

pub returns-in_ok-copies-in-None-clause-sound : goal.returns-in_ok-copies-in-None-clause-sound
returns-in_ok-copies-in-None-clause-sound c = none_first _ (sym c.in-None.ensures)
