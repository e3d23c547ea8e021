use Rattle.std.proofs.Common.{◌≡◌, List, length, sym, subst, subst₂}
use Rattle.std.specs.Prelude.{ℤ, Some}
use Rattle.std.proofs.lemmas.Result.{err_from_is_err_and}
use Rattle.base_numbers.specs.Rational.{ℚ}
use Rattle.base_fractions.specs.Operation.{operation_of}
use Rattle.flow_edges.specs.declared.edge.Edge.{Edge}
use Rattle.flow_systems.specs.declared.spot.Site.{Site}
use Rattle.flow_systems.specs.Equations.{Equations, Vector}
use Rattle.flow_systems.specs.FreeValues.{free_count}
use Rattle.flow_systems.specs.View.{equations_of}
use Rattle.cert_types.specs.Certificates.{pieces_of}
use Rattle.theory_validity.specs.Faults.{Fault}
use Rattle.theory_validity.specs.Steps.{Pieces, word}
use Rattle.cert_checker.specs.declared.fault.CheckFault.{CheckFault}
use Rattle.cert_checker.specs.declared.following.Way.{Way}
use Rattle.cert_checker.specs.declared.following.Way.TheVariants.{Trace, Direction}
use Rattle.cert_checker.specs.Events.{Answers, fault_answer, wide_answer, first_stop}
use Rattle.cert_checker.specs.Following.{shown, shown_events}
use Rattle.cert_checker.specs.Runs.{Fitted, fit_events}
use Rattle.cert_checker.proofs.following.Traces.{run_sooner, run_answers, carry_sooner, carry_answers}
use Rattle.cert_checker.proofs.following.follow.Goals as goal

-- a start that stops, whichever way is followed
sooner : (way : Way) (site : Site) (f : Fault) (S : Equations) (z : Vector) (e : Edge) (cs : List ℤ) (t : Pieces)
    → length t.start ≡ S.variables → length t.free ≡ free_count e.actions →
    (a : CheckFault) → first_stop (fit_events site f S z e.from t.start) ≡ Some a → first_stop (shown_events way site f S z e cs t) ≡ Some a
sooner Trace = run_sooner
sooner Direction = carry_sooner

pub returns-in_err-starts : goal.returns-in_err-starts
returns-in_err-starts c = λ z e cs h f g site fault.
    let p = err_from_is_err_and c.from_residual.result c.from_residual.ensures.1 in
    let S = equations_of c.args.system.now in
    let wide = wide_answer site (operation_of (λ (q : ℚ). q) c.in_err-starts.field-0.0) in
    rw (p.1, p.2) (sooner c.args.way site fault S z e cs (pieces_of c.args.trace.now) c.requires.start (c.requires.free e f) wide
    (subst (λ x. first_stop (fit_events site fault S z e.from x) ≡ Some wide) c.as_slice.ensures
    (c.in_err-starts.ensures z e h f site fault)))

pub returns-then-not-branch : goal.returns-then-not-branch
returns-then-not-branch c = λ z e cs h f g site fault.
    let S = equations_of c.args.system.now in
    let fitted = subst₂ (λ x b. Fitted S z e.from x b) c.as_slice.ensures c.if-not-branch.true (c.in_ok-starts.ensures z e h f) in
    sooner c.args.way site fault S z e cs (pieces_of c.args.trace.now) c.requires.start (c.requires.free e f) (fault_answer fault)
    (fitted site fault)

pub returns-in-Trace : goal.returns-in-Trace
returns-in-Trace c = λ z e cs h f g.
    let S = equations_of c.args.system.now in
    let t = pieces_of c.args.trace.now in
    let fitted = subst₂ (λ x b. Fitted S z e.from x b) c.as_slice.ensures c.if-not-branch.false (c.in_ok-starts.ensures z e h f) in
    subst (λ way. Answers (λ v. v ≡ shown way S e cs (word t)) (λ site fault. shown_events way site fault S z e cs t) c.trace_value.result)
    (sym c.in-Trace.is)
    (λ site fault. run_answers site fault S z e cs t c.requires.start (c.requires.free e f) (fitted.1 site fault) fitted.0
    c.trace_value.result (c.trace_value.ensures e cs f g))

pub returns-in-Direction : goal.returns-in-Direction
returns-in-Direction c = λ z e cs h f g.
    let S = equations_of c.args.system.now in
    let t = pieces_of c.args.trace.now in
    let fitted = subst₂ (λ x b. Fitted S z e.from x b) c.as_slice.ensures c.if-not-branch.false (c.in_ok-starts.ensures z e h f) in
    subst (λ way. Answers (λ v. v ≡ shown way S e cs (word t)) (λ site fault. shown_events way site fault S z e cs t)
    c.direction_value.result) (sym c.in-Direction.is)
    (λ site fault. carry_answers site fault S z e cs t c.requires.start (c.requires.free e f) (fitted.1 site fault) c.direction_value.result
    (c.direction_value.ensures e cs f g))
