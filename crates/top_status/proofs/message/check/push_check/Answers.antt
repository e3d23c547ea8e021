use Rattle.std.proofs.Common.{◌≡◌, ◌++◌, sym, subst}
use Rattle.top_status.specs.CheckMessages.{check_text}
use Rattle.top_status.proofs.message.Joined.{joined}
use Rattle.top_status.proofs.message.check.push_check.Goals as goal

pub returns-in-Upper-clause-text : goal.returns-in-Upper-clause-text
returns-in-Upper-clause-text c =
    subst (λ fault. c.push_numbered.new.message ≡ c.args.message.now ++ check_text c.args.rows fault) (sym c.in-Upper.is)
    (joined _ _ _ _ _ c.push_unknown.ensures.text c.push_numbered.ensures.text)
