use Rattle.std.proofs.Common.{◌≢◌, sym, subst}
use Rattle.std.specs.Prelude.{Err, IfErr}
use Rattle.ask_words.specs.Request.{domain_text}
use Rattle.flow_templates.specs.declared.fault.RowFault.TheVariants.{NoMemory}
use Rattle.top_texts.specs.Texts.{HasTemplateBy}
use Rattle.top_texts.proofs.analyse.template.template_of.Goals as goal

pub returns-in-Zones-clause-refused : goal.returns-in-Zones-clause-refused
returns-in-Zones-clause-refused c =
    subst (λ s. IfErr c.zones.result (λ fault. fault ≢ NoMemory
    → HasTemplateBy c.args.groups.now (domain_text s) c.args.names.now (Err fault)))
    (sym c.in-Zones.is) c.zones.ensures.refused

pub returns-in-Octagons-clause-refused : goal.returns-in-Octagons-clause-refused
returns-in-Octagons-clause-refused c =
    subst (λ s. IfErr c.octagons.result (λ fault. fault ≢ NoMemory
    → HasTemplateBy c.args.groups.now (domain_text s) c.args.names.now (Err fault)))
    (sym c.in-Octagons.is) c.octagons.ensures.refused

pub returns-in-Rows-clause-refused : goal.returns-in-Rows-clause-refused
returns-in-Rows-clause-refused c =
    subst (λ s. IfErr c.read_rows.result (λ fault. fault ≢ NoMemory
    → HasTemplateBy c.args.groups.now (domain_text s) c.args.names.now (Err fault)))
    (sym c.in-Rows.is) c.read_rows.ensures.refused
