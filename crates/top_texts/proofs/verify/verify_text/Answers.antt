use Rattle.std.proofs.Common.{◌+◌, ◌≡◌, List, ℕ, length, rules, subst, subst₂, sym}
use Rattle.std.specs.Prelude.{◌↔◌, Contains, IsTrue}
use Rattle.std.specs.List.{list_all}
use Rattle.flow_edges.specs.Checks.{checks_of_program}
use Rattle.flow_edges.specs.declared.checked.CheckCases.{CheckCases}
use Rattle.flow_systems.specs.States.{RationalState}
use Rattle.flow_systems.specs.View.{equations_of, vector_at}
use Rattle.top_written.specs.Formats.{checks_in}
use Rattle.ask_checks.specs.Verdicts.{AreCheckVerdicts}
use Rattle.ask_verdicts.specs.Breaking.{is_case}
use Rattle.ask_verdicts.specs.declared.outcome.Verdict.{Verdict}
use Rattle.ask_verdicts.specs.declared.outcome.Verdict.TheVariants.{Open}
use Rattle.ask_words.specs.Request.{domain_text, source_text}
use Rattle.ask_words.specs.declared.request.Purpose.TheVariants.{Report}
use Rattle.top_texts.specs.Exact.{exact}
use Rattle.top_texts.specs.Outcomes.{AreUnverified, IsUnanswered}
use Rattle.top_texts.specs.Questions.{checks_question}
use Rattle.top_texts.proofs.check_texts.Cased.{checks_cased}
use Rattle.top_texts.proofs.check_texts.Judged.{judged, unsolved, unsystematic, unverified}
use Rattle.top_texts.proofs.verify.verify_text.Goals as goal
use Rattle.lang_tree.specs.declared.limits.TheConstants.{MOST_HIDDEN}

pub returns-in_err-checked-clause-err : goal.returns-in_err-checked-clause-err
returns-in_err-checked-clause-err g c =
    let h : IsUnanswered (checks_question exact (source_text c.args.program) (domain_text c.args.rows) c.args.policy c.args.limit)
    c.in_err-checked.field-0.0 =
    unsystematic (source_text c.args.program) (domain_text c.args.rows) c.args.policy c.args.limit _ c.in_err-checked.ensures.err in
    search (rules, h)

pub returns-in_err-solved-clause-err : goal.returns-in_err-solved-clause-err
returns-in_err-solved-clause-err g c =
    let h : IsUnanswered (checks_question exact (source_text c.args.program) (domain_text c.args.rows) c.args.policy c.args.limit)
    c.in_err-solved.field-0.0 =
    unsolved (source_text c.args.program) (domain_text c.args.rows) c.args.policy c.args.limit c.in_ok-checked.checked.system
    c.in_ok-checked.checked.checks c.in_ok-checked.ensures.ok _ (c.in_err-solved.ensures.err Report) in
    search (rules, h)

pub returns-in_err-list-clause-err : goal.returns-in_err-list-clause-err
returns-in_err-list-clause-err g c =
    let s = c.in_ok-checked.checked.system in
    let h : IsUnanswered (checks_question exact (source_text c.args.program) (domain_text c.args.rows) c.args.policy c.args.limit)
    c.in_err-list.field-0.0 =
    unverified (source_text c.args.program) (domain_text c.args.rows) c.args.policy c.args.limit s c.in_ok-checked.checked.checks
    c.in_ok-checked.ensures.ok c.in_ok-solved.solved c.in_ok-solved.ensures.solved _
    (subst (λ (checks : List CheckCases). AreUnverified (equations_of s) (vector_at s c.in_ok-solved.solved.bounds) checks
    c.in_err-list.field-0.0) c.as_slice-checks.ensures c.in_err-list.ensures.err) in
    search (rules, h)

pub verdicts_of-requires-clause-against : goal.verdicts_of-requires-clause-against
verdicts_of-requires-clause-against g c =
    let has = c.in_ok-checked.ensures.ok in
    let all : IsTrue (list_all (λ (check : CheckCases). list_all (is_case (length has.solved.names + MOST_HIDDEN)) check.against)
    (checks_of_program has.solved.body)) = checks_cased (length has.solved.names) has.solved.body has.within in
    subst (λ (cs : List CheckCases). IsTrue (list_all (λ (check : CheckCases).
    list_all (is_case (length c.in_ok-checked.checked.system.flow.names + MOST_HIDDEN)) check.against) cs)) (sym c.as_slice-checks.ensures)
    (subst₂ (λ (names : List (List ℕ)) (cs : List CheckCases). IsTrue (list_all (λ (check : CheckCases).
    list_all (is_case (length names + MOST_HIDDEN)) check.against) cs)) (sym has.solved.system_for.names_are) (sym has.checks_are) all)

pub returns-clause-ok : goal.returns-clause-ok
returns-clause-ok g c =
    let s = c.in_ok-checked.checked.system in
    let checks = c.in_ok-checked.checked.checks in
    let verdicts = c.in_ok-list.list.items in
    let bytes = c.in_ok-bytes.bytes.items in
    let improvements = c.in_ok-solved.solved.improvements in
    let shown : List (List ℕ) → List CheckCases → List Verdict → List ℕ = λ names cs vs.
    checks_in c.args.format c.args.file.now c.args.program.text.now names cs vs improvements in
    let written : bytes ≡ shown s.flow.names checks verdicts =
    subst (λ (vs : List Verdict). bytes ≡ shown s.flow.names checks vs) c.deref-2.ensures.value
    (subst (λ (cs : List CheckCases). bytes ≡ shown s.flow.names cs c.deref-2.result.now) c.as_slice-checks.ensures
    (subst (λ (names : List (List ℕ)). bytes ≡ shown names c.as_slice-checks.result.now c.deref-2.result.now) c.as_slice-names.ensures
    c.in_ok-bytes.ensures)) in
    judged (source_text c.args.program) (domain_text c.args.rows) c.args.policy c.args.limit s checks c.in_ok-checked.ensures.ok
    c.in_ok-solved.solved c.in_ok-solved.ensures.solved c.proved_verdicts_hold.ensures c.open_states_break.ensures
    c.in_ok-solved.ensures.least verdicts
    (subst (λ (cs : List CheckCases). AreCheckVerdicts (equations_of s) (vector_at s c.in_ok-solved.solved.bounds) cs verdicts)
    c.as_slice-checks.ensures c.in_ok-list.ensures.ok) c.has_open-is_open.result
    (subst (λ (vs : List Verdict). IsTrue c.has_open-is_open.result ↔ ((state : RationalState) × Contains vs (Open state)))
    c.deref.ensures.value c.has_open-is_open.ensures) c.args.format c.args.file.now bytes written
