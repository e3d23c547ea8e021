use Rattle.std.proofs.Common.{sym, subst}
use Rattle.std.specs.Prelude.{IfOk}
use Rattle.ask_words.specs.Request.{domain_text, source_text}
use Rattle.top_texts.specs.Texts.{HasGroups, Serve}
use Rattle.top_texts.proofs.groups.groups_of.Goals as goal

pub returns-in-Packs-clause-ok : goal.returns-in-Packs-clause-ok
returns-in-Packs-clause-ok c =
    subst (λ s. IfOk c.found_groups.result (λ groups. Serve (HasGroups (source_text c.args.program) c.args.core.now.names) (domain_text s)
    groups)) (sym c.in-Packs.is) c.found_groups.ensures.ok
