use Rattle.std.proofs.Common.{◌≡◌, ◌++◌, sym, subst}
use Rattle.top_status.specs.CheckMessages.{site_text}
use Rattle.top_status.proofs.message.Joined.{joined}
use Rattle.top_status.proofs.message.check.push_site.Goals as goal

pub returns-in-Offer-clause-text : goal.returns-in-Offer-clause-text
returns-in-Offer-clause-text c =
    subst (λ s. c.push_numbered-in-Offer.new.message ≡ c.args.message.now ++ site_text c.args.rows c.args.round s) (sym c.in-Offer.is)
    (joined _ _ _ _ _ c.push_transformer.ensures.text c.push_numbered-in-Offer.ensures.text)

pub returns-in-Upper-clause-text : goal.returns-in-Upper-clause-text
returns-in-Upper-clause-text c =
    subst (λ s. c.push_numbered-in-Upper.new.message ≡ c.args.message.now ++ site_text c.args.rows c.args.round s) (sym c.in-Upper.is)
    (joined _ _ _ _ _ c.push_unknown.ensures.text c.push_numbered-in-Upper.ensures.text)
