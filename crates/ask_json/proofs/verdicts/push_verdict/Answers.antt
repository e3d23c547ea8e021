use Rattle.std.specs.Prelude.{codes}
use Rattle.std.proofs.Common.{true}
use Rattle.base_json.proofs.Pushed.{member_pushed}
use Rattle.ask_json.specs.Verdicts.{state_of, word_members}
use Rattle.ask_json.proofs.verdicts.push_verdict.Goals as goal

pub returns : goal.returns
returns c =
    member_pushed _ _ _ true (codes "state") (state_of c.args.names.now c.args.verdict.now) (word_members c.args.verdict.now)
    c.in_ok-push_state_member.ensures c.in_ok-push_word.ensures
