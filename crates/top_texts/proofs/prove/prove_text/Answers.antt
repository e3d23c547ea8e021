use Rattle.std.proofs.Common.{◌≡◌, ℕ, List, rules, subst}
use Rattle.flow_systems.specs.View.{equations_of, vector_at}
use Rattle.ask_claims.specs.AllVerdicts.{AreVerdicts}
use Rattle.top_written.specs.Formats.{claims_in}
use Rattle.ask_claims.specs.declared.claim.Claim.{Claim}
use Rattle.ask_verdicts.specs.declared.outcome.Verdict.{Verdict}
use Rattle.ask_words.specs.declared.request.Purpose.TheVariants.{Report}
use Rattle.top_texts.specs.Exact.{exact}
use Rattle.ask_words.specs.Request.{domain_text, source_text}
use Rattle.top_texts.specs.Outcomes.{AreUnjudged, IsUnanswered}
use Rattle.top_texts.specs.Questions.{claims_question}
use Rattle.top_texts.proofs.claim_texts.Judged.{judged, unjudged, unsolved}
use Rattle.top_texts.proofs.prove.prove_text.Goals as goal

pub returns-in_err-claims-clause-err : goal.returns-in_err-claims-clause-err
returns-in_err-claims-clause-err g c =
    let h : IsUnanswered (claims_question exact (source_text c.args.program) (domain_text c.args.rows) c.args.given.now c.args.policy
    c.args.limit)
    c.in_err-claims.field-0.0 =
    c.in_err-claims.ensures.err (source_text c.args.program) (domain_text c.args.rows) c.args.policy c.args.limit
    c.in_ok-system.ensures.ok in
    search (rules, h)

pub returns-in_err-solved-clause-err : goal.returns-in_err-solved-clause-err
returns-in_err-solved-clause-err g c =
    let h : IsUnanswered (claims_question exact (source_text c.args.program) (domain_text c.args.rows) c.args.given.now c.args.policy
    c.args.limit)
    c.in_err-solved.field-0.0 =
    unsolved (source_text c.args.program) (domain_text c.args.rows) c.args.given.now c.args.policy c.args.limit c.in_ok-system.system
    c.in_ok-system.ensures.ok
    c.in_ok-claims.claims.items c.in_ok-claims.ensures.ok _ (c.in_err-solved.ensures.err Report) in
    search (rules, h)

pub returns-in_err-list-clause-err : goal.returns-in_err-list-clause-err
returns-in_err-list-clause-err g c =
    let s = c.in_ok-system.system in
    let h : IsUnanswered (claims_question exact (source_text c.args.program) (domain_text c.args.rows) c.args.given.now c.args.policy
    c.args.limit)
    c.in_err-list.field-0.0 =
    unjudged (source_text c.args.program) (domain_text c.args.rows) c.args.given.now c.args.policy c.args.limit s c.in_ok-system.ensures.ok
    c.in_ok-claims.claims.items c.in_ok-claims.ensures.ok c.in_ok-solved.solved c.in_ok-solved.ensures.solved _
    (subst (λ (claims : List Claim). AreUnjudged (equations_of s) (vector_at s c.in_ok-solved.solved.bounds) claims c.in_err-list.field-0.0)
    c.deref.ensures.value c.in_err-list.ensures.err) in
    search (rules, h)

pub returns-clause-ok : goal.returns-clause-ok
returns-clause-ok g c =
    let s = c.in_ok-system.system in
    let claims = c.in_ok-claims.claims.items in
    let verdicts = c.in_ok-list.list.items in
    let bytes = c.in_ok-written_claims.field-0.items in
    let improvements = c.in_ok-solved.solved.improvements in
    let written : bytes ≡ claims_in c.args.format s.flow.names claims verdicts improvements =
    subst (λ (vs : List Verdict). bytes ≡ claims_in c.args.format s.flow.names claims vs improvements) c.deref-3.ensures.value
    (subst (λ (cs : List Claim). bytes ≡ claims_in c.args.format s.flow.names cs c.deref-3.result.now improvements) c.deref-2.ensures.value
    (subst (λ (names : List (List ℕ)). bytes ≡ claims_in c.args.format names c.deref-2.result.now c.deref-3.result.now improvements)
    c.as_slice-names.ensures c.in_ok-written_claims.ensures)) in
    judged (source_text c.args.program) (domain_text c.args.rows) c.args.given.now c.args.policy c.args.limit s c.in_ok-system.ensures.ok
    claims c.in_ok-claims.ensures.ok c.in_ok-solved.solved c.in_ok-solved.ensures.solved c.proved_verdicts_hold.ensures
    c.open_states_break.ensures c.in_ok-solved.ensures.least verdicts
    (subst (λ (cs : List Claim). AreVerdicts (equations_of s) (vector_at s c.in_ok-solved.solved.bounds) cs verdicts) c.deref.ensures.value
    c.in_ok-list.ensures.ok) c.args.format bytes written
