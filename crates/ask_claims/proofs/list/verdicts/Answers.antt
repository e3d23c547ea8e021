use Rattle.std.proofs.Common.{◌+◌, rules, arith, ◌∙◌, [], length, sym, subst}
use Rattle.std.specs.Prelude.{IsTrue, false}
use Rattle.std.specs.List.{All, list_all}
use Rattle.std.proofs.lemmas.List.{take_all}
use Rattle.lang_tree.specs.View.{condition_of}
use Rattle.lang_tree.proofs.Grown.{tested_grows}
use Rattle.flow_systems.specs.View.{equations_of, vector_at}
use Rattle.ask_verdicts.specs.Breaking.{is_case}
use Rattle.ask_verdicts.specs.Verdicts.{AllFit, IsFirstFault, IsVerdict}
use Rattle.ask_verdicts.proofs.breaking.Cases.{tested_cases}
use Rattle.ask_verdicts.proofs.lists.Judged.{judged_push, judged_refused}
use Rattle.ask_claims.specs.AllVerdicts.{IsClaimVerdict, ClaimFits}
use Rattle.ask_claims.specs.Claims.{IsClaimOf}
use Rattle.ask_claims.proofs.list.verdicts.Goals as goal
use Rattle.lang_tree.specs.declared.limits.TheConstants.{MOST_HIDDEN}

pub verdict-requires-clause-against : goal.verdict-requires-clause-against
verdict-requires-clause-against c =
    let flow = c.args.system.now.flow in
    let item = c.index-claims-number.result in
    let claim : IsClaimOf flow item =
    subst (IsClaimOf flow) (sym c.index-claims-number.is) (c.requires.claims c.loop-number.number item c.loop-number-test.true) in
    subst (λ cases. IsTrue (list_all (is_case (length flow.names + MOST_HIDDEN)) cases)) (sym (c.as_slice.ensures ∙ claim.against))
    (tested_cases (length flow.names + MOST_HIDDEN) false (condition_of item.cond)
    (tested_grows (length flow.names) (length flow.names + MOST_HIDDEN) (condition_of item.cond) (omega arith) claim.condition))

pub returns-in-Err-Wide-clause-refused : goal.returns-in-Err-Wide-clause-refused
returns-in-Err-Wide-clause-refused c =
    let system = equations_of c.args.system.now in
    let z = vector_at c.args.system.now c.args.bounds.now in
    let item = c.index-claims-number.result in
    let told = subst (λ cases. IsFirstFault system z item.point [] cases c.in-Err-Wide.field-0) c.as_slice.ensures
    c.in-Err-Wide.ensures.refused in
    judged_refused (IsClaimVerdict system z) (ClaimFits system z) c.args.claims.now c.loop-number.number item c.loop-number-test.true
    c.index-claims-number.is c.loop-number.list.items c.loop-number.invariant
    (λ claim fault. IsFirstFault system z claim.point [] claim.against fault) c.capped.result _ c.capped.ensures
    (search (rules, told))

pub loop-number-preserved : goal.loop-number-preserved
loop-number-preserved c =
    let system = equations_of c.args.system.now in
    let z = vector_at c.args.system.now c.args.bounds.now in
    let item = c.index-claims-number.result in
    let on_slice : IsVerdict system z item.point [] c.as_slice.result.now c.in-Ok.verdict =
    record { proved = c.in-Ok.ensures.proved; state = c.in-Ok.ensures.state } in
    let told = subst (λ cases. IsVerdict system z item.point [] cases c.in-Ok.verdict) c.as_slice.ensures on_slice in
    judged_push (IsClaimVerdict system z) (ClaimFits system z) c.args.claims.now c.loop-number.number item c.loop-number-test.true
    c.index-claims-number.is c.loop-number.list.items c.loop-number.invariant c.push.new.self.items c.in-Ok.verdict told
    (subst (AllFit system z item.point []) c.as_slice.ensures c.in-Ok.ensures.fits) c.in_ok-push-in-Ok.ensures.items

pub returns-clause-fits : goal.returns-clause-fits
returns-clause-fits c =
    let s = c.args.system.now in
    subst (All (ClaimFits (equations_of s) (vector_at s c.args.bounds.now)))
    (take_all c.loop-number.number c.args.claims.now c.loop-number-test.false) c.loop-number.invariant.fit
