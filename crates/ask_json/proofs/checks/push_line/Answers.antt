use Rattle.std.specs.Prelude.{codes}
use Rattle.ask_json.proofs.Pushed.{line_pushed}
use Rattle.ask_json.specs.Verdicts.{count_members}
use Rattle.ask_json.proofs.checks.push_line.Goals as goal

pub returns : goal.returns
returns c =
    line_pushed _ _ _ _ _ (codes "checks") _ (count_members c.args.verdicts.now c.args.improvements) c.in_ok-extend_from_slice.ensures.items
    c.in_ok-push_list.ensures c.in_ok-push_checks.ensures c.in_ok-push_end.ensures
