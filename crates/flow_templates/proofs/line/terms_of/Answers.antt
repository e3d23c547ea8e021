use Rattle.std.proofs.Common.{sym, ◌∙◌}
use Rattle.flow_templates.proofs.line.Steps.{terms_told, untold_is_none}
use Rattle.flow_templates.proofs.line.terms_of.Goals as goal

pub returns-in_ok-terms-in-Some : goal.returns-in_ok-terms-in-Some
returns-in_ok-terms-in-Some c =
    let told = rw c.in-Some.is at c.in_ok-tokens.ensures in
    terms_told c.args.line.now c.deref.result.now c.in_ok-terms-in-Some.field-0 (sym c.contains.ensures.value ∙ c.if-contains.false)
    (rw c.deref.ensures.value told.0) c.in_ok-terms-in-Some.ensures

pub returns-in-None : goal.returns-in-None
returns-in-None c = untold_is_none c.args.line.now (rw c.in-None.is at c.in_ok-tokens.ensures)
