use Rattle.std.proofs.Common.{sym, subst}
use Rattle.std.specs.Prelude.{IfOk}
use Rattle.flow_transitions.specs.AutoGroups.{HasGroups}
use Rattle.ask_words.specs.Request.{domain_text}
use Rattle.top_texts.specs.Texts.{Serve}
use Rattle.top_texts.proofs.transitions.groups_along.Goals as goal

pub returns-in-Packs-clause-ok : goal.returns-in-Packs-clause-ok
returns-in-Packs-clause-ok c =
    subst (λ s. IfOk c.found_along.result (λ groups. Serve (HasGroups c.args.text.now) (domain_text s) groups)) (sym c.in-Packs.is)
    c.found_along.ensures.ok
