use Rattle.std.proofs.Common.{sym, ap, ◌∙◌, subst}
use Rattle.std.specs.Prelude.{IfOk}
use Rattle.std.proofs.lemmas.Result.{on_ok_weaker, IfOk-weaker, IfErr-weaker}
use Rattle.lp_theory.specs.Simplex.{lp}
use Rattle.lp_theory.specs.Table.{Agree}
use Rattle.lp_theory.specs.Run.{main_phase}
use Rattle.lp_theory.proofs.search.Programs.{lp_is}
use Rattle.lp_dictionary.specs.Exact.{exact}
use Rattle.lp_simplex.specs.Operations.{first_refused, whole_phase, run_operations}
use Rattle.lp_simplex.specs.Outcomes.{IsOutcomeOf, HasEvidence, SaysSupremum}
use Rattle.lp_simplex.specs.Answers.{RefusesRun, main_outcome}
use Rattle.lp_simplex.proofs.method.Begins.{begins_plain}
use Rattle.lp_simplex.proofs.method.Ends.{lp_plain_is, run_plain, refused_same, start_plain, start_first}
use Rattle.lp_simplex.proofs.method.Evidences.{evidence_of, supremum_of}
use Rattle.lp_simplex.proofs.method.solve_watched.Goals as goal

pub second_phase-requires-clause-begins : goal.second_phase-requires-clause-begins
second_phase-requires-clause-begins g c =
    let m = g.F.OrderedField.meaning in
    let L = g.F.OrderedField.LIMIT in
    let P = exact m c.args.problem.now in
    let e = sym c.in-None.ensures in
    begins_plain P (g.T.Tableau.table c.in_ok-tableau.tableau) e (subst (λ x. Agree x (g.T.Tableau.table c.in_ok-tableau.tableau))
    (start_plain P e) c.in_ok-tableau.ensures.first)

pub returns-in-None-clause-outcome : goal.returns-in-None-clause-outcome
returns-in-None-clause-outcome g c =
    let m = g.F.OrderedField.meaning in
    let L = g.F.OrderedField.LIMIT in
    let P = exact m c.args.problem.now in
    let e = sym c.in-None.ensures in
    subst (λ x. IfOk c.second_phase.result (λ o. IsOutcomeOf m P x o)) (sym (lp_plain_is P e)) c.second_phase.ensures.outcome

pub returns-in-None-clause-evidence : goal.returns-in-None-clause-evidence
returns-in-None-clause-evidence g c =
    let m = g.F.OrderedField.meaning in
    let L = g.F.OrderedField.LIMIT in
    let P = exact m c.args.problem.now in
    let e = sym c.in-None.ensures in
    IfOk-weaker c.second_phase.result (λ o. IsOutcomeOf m P (main_outcome P) o) (λ o. HasEvidence m P o)
    (λ o q. evidence_of P m (lp P) o (lp_is P) (subst (λ x. IsOutcomeOf m P x o) (sym (lp_plain_is P e)) q))
    c.second_phase.ensures.outcome

pub returns-in-None-clause-supremum : goal.returns-in-None-clause-supremum
returns-in-None-clause-supremum g c =
    let m = g.F.OrderedField.meaning in
    let L = g.F.OrderedField.LIMIT in
    let P = exact m c.args.problem.now in
    let e = sym c.in-None.ensures in
    IfOk-weaker c.second_phase.result (λ o. IsOutcomeOf m P (main_outcome P) o) (λ o. SaysSupremum m P o)
    (λ o q. supremum_of P m o (evidence_of P m (lp P) o (lp_is P) (subst (λ x. IsOutcomeOf m P x o) (sym (lp_plain_is P e)) q)))
    c.second_phase.ensures.outcome

pub returns-in-None-clause-fits : goal.returns-in-None-clause-fits
returns-in-None-clause-fits g c =
    let m = g.F.OrderedField.meaning in
    let L = g.F.OrderedField.LIMIT in
    let P = exact m c.args.problem.now in
    let e = sym c.in-None.ensures in
    on_ok_weaker c.second_phase.result (λ q. ap (first_refused L) (run_plain P e) ∙ q) c.second_phase.ensures.fits

pub returns-in-None-clause-refused : goal.returns-in-None-clause-refused
returns-in-None-clause-refused g c =
    let m = g.F.OrderedField.meaning in
    let L = g.F.OrderedField.LIMIT in
    let P = exact m c.args.problem.now in
    let e = sym c.in-None.ensures in
    IfErr-weaker c.second_phase.result (λ f. RefusesRun m L (whole_phase P (main_phase P)) f) (λ f. RefusesRun m L (run_operations P) f)
    (λ f q. refused_same m L (whole_phase P (main_phase P)) (run_operations P) (sym (run_plain P e)) f q) c.second_phase.ensures.refused

pub both_phases-requires-clause-table : goal.both_phases-requires-clause-table
both_phases-requires-clause-table g c =
    let m = g.F.OrderedField.meaning in
    let L = g.F.OrderedField.LIMIT in
    let P = exact m c.args.problem.now in
    subst (λ x. Agree x (g.T.Tableau.table c.in_ok-tableau.tableau)) (start_first P c.in-Some.row (sym c.in-Some.ensures))
    c.in_ok-tableau.ensures.first

pub returns-clause-evidence : goal.returns-clause-evidence
returns-clause-evidence g c =
    let m = g.F.OrderedField.meaning in
    let L = g.F.OrderedField.LIMIT in
    let P = exact m c.args.problem.now in
    IfOk-weaker c.both_phases.result (λ o. IsOutcomeOf m P (lp P) o) (λ o. HasEvidence m P o) (λ o q. evidence_of P m (lp P) o (lp_is P) q)
    c.both_phases.ensures.outcome

pub returns-clause-supremum : goal.returns-clause-supremum
returns-clause-supremum g c =
    let m = g.F.OrderedField.meaning in
    let L = g.F.OrderedField.LIMIT in
    let P = exact m c.args.problem.now in
    IfOk-weaker c.both_phases.result (λ o. IsOutcomeOf m P (lp P) o) (λ o. SaysSupremum m P o)
    (λ o q. supremum_of P m o (evidence_of P m (lp P) o (lp_is P) q)) c.both_phases.ensures.outcome
