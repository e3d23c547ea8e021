use Rattle.std.proofs.Common.{◌≡◌, ◌++◌, codes, sym, subst}
use Rattle.top_status.specs.CheckMessages.{numbered}
use Rattle.top_status.specs.Events.{event_text}
use Rattle.top_status.proofs.message.Joined.{joined}
use Rattle.top_status.proofs.message.event.push_event.Goals as goal

pub returns-in-Round : goal.returns-in-Round
returns-in-Round c =
    subst (λ event. c.push_words.new.message ≡ c.args.message.now ++ event_text event) (sym c.in-Round.is)
    (joined c.args.message.now (numbered (codes "round ") c.in-Round.number ++ numbered (codes ": ") c.in-Round.raised)
    (codes " bounds raised\n") _ _
    (joined c.args.message.now (numbered (codes "round ") c.in-Round.number) (numbered (codes ": ") c.in-Round.raised) _ _
    c.push_numbered.ensures.text c.push_numbered-in-Round.ensures.text) c.push_words.ensures.text)
