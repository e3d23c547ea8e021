use Rattle.std.proofs.Common.{sym, subst}
use Rattle.std.proofs.lemmas.Result.{err_from_is_err_and}
use Rattle.lang_tokens.specs.declared.lexicon.Lexicon.TheVariants.{Own}
use Rattle.lang_tokens.specs.Reading.{Reads}
use Rattle.flow_transitions.specs.AutoGroups.{HasGroups}
use Rattle.flow_transitions.specs.AutoTexts.{content}
use Rattle.flow_transitions.proofs.walking.Once.{met_are}
use Rattle.flow_transitions.proofs.grouping.groups.Goals as goal

pub returns-clause-groups : goal.returns-clause-groups
returns-clause-groups c = λ is. subst (HasGroups c.args.text.now) (sym c.in_ok-groups.ensures)
    (met_are c.args.text.now c.as_slice.result.now c.deref.result.now (content c.args.auto.now)
    (subst (Reads Own c.args.text.now) (sym c.deref.ensures.value) c.in_ok-tokens.ensures.reads) c.as_slice.ensures is)

pub returns-in_err-tokens-clause-refused : goal.returns-in_err-tokens-clause-refused
returns-in_err-tokens-clause-refused c =
    let p = err_from_is_err_and c.from_residual.result c.from_residual.ensures.1 in
    rw (p.1, p.2) c.in_err-tokens.ensures.refused
