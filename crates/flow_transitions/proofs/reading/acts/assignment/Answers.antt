use Rattle.std.proofs.Common.{◌≡◌, ◌+◌, List, Err, length, sym, subst}
use Rattle.std.specs.Prelude.{IsTrue}
use Rattle.lang_tree.specs.Tree.{Statement}
use Rattle.lang_meaning.specs.Walk.{assignment}
use Rattle.lang_parser.specs.Expressions.{expr_of}
use Rattle.flow_transitions.specs.declared.auto_edge.AutoEdge.{AutoEdge}
use Rattle.flow_transitions.specs.declared.reading.point_name.PointName.{PointName}
use Rattle.flow_transitions.specs.AutoSymbols.{seen_at}
use Rattle.flow_transitions.specs.AutoReading.{progress, going, at_act, at_equal, at_right_side, past_act, as_side, assigned, with_act}
use Rattle.flow_transitions.specs.AutoLimits.{is_act}
use Rattle.flow_transitions.proofs.progress.Loops.{assignment_act}
use Rattle.flow_transitions.proofs.progress.Steps.{Goes, passed_on}
use Rattle.flow_transitions.proofs.progress.ActSteps.{variable_goes, variable_fails, equal_fails, side_reached, side_goes, side_refused}
use Rattle.flow_transitions.proofs.progress.ActSteps.{side_fails, end_goes, end_fails}
use Rattle.flow_transitions.proofs.reading.acts.assignment.Goals.{In_ok-var, In_ok-sign, In_ok-side}
use Rattle.flow_transitions.proofs.reading.acts.assignment.Goals as goal

-- behind the variable a `=` comes
named : (c : In_ok-var) (points : List PointName) (edges : List AutoEdge) (e : AutoEdge)
    → Goes c.args.text.now c.args.tokens.now (progress c.args.names.now points edges (at_act e)) c.args.at
    (progress c.args.names.now points edges (at_equal e c.in_ok-var.var c.line-line.result)) (c.args.at + 1)
named c points edges e =
    variable_goes c.args.text.now c.args.tokens.now c.args.names.now points edges e c.args.at c.in_ok-var.var c.line-line.result
    c.requires.word c.line-line.ensures c.in_ok-var.ensures.place

-- behind `=` the right side comes
set : (c : In_ok-sign) (points : List PointName) (edges : List AutoEdge) (e : AutoEdge)
    → Goes c.args.text.now c.args.tokens.now (progress c.args.names.now points edges (at_act e)) c.args.at
    (progress c.args.names.now points edges (at_right_side e c.in_ok-var.var c.line-line.result
    (seen_at c.args.text.now c.args.tokens.now (c.args.at + 1)).at)) (c.args.at + 1 + 1)
set c points edges e =
    side_reached c.args.text.now c.args.tokens.now c.args.names.now points edges e c.args.at c.in_ok-var.var c.line-line.result
    c.requires.word c.line-line.ensures c.in_ok-var.ensures.place c.in_ok-sign.ensures.symbol

-- the assignment that is read
abbrev act : In_ok-side → Statement
act c = assignment c.in_ok-var.var c.in_ok-side.side c.line-line.result

-- behind the right side a `;` comes
given : (c : In_ok-side) (points : List PointName) (edges : List AutoEdge) (e : AutoEdge)
    → Goes c.args.text.now c.args.tokens.now (progress c.args.names.now points edges (at_right_side e c.in_ok-var.var c.line-line.result
    (seen_at c.args.text.now c.args.tokens.now (c.args.at + 1)).at)) (c.args.at + 1 + 1)
    (progress c.args.names.now points edges (past_act e (act c))) c.in_ok-read.read.next
given c points edges e =
    let line = c.line-line.result in
    let sign = (seen_at c.args.text.now c.args.tokens.now (c.args.at + 1)).at in
    let m = expr_of c.in_ok-read.read.expr in
    let r = progress c.args.names.now points edges (at_right_side e c.in_ok-var.var line sign) in
    side_goes c.args.text.now c.args.tokens.now c.args.names.now points edges e (c.args.at + 1 + 1) c.in_ok-var.var line sign
    c.in_ok-read.read.next m c.in_ok-side.side c.in_ok-read.ensures.means
    (subst (λ n. assigned (as_side n m) e c.in_ok-var.var line r ≡ going r (past_act e (act c))) c.place.ensures
    (c.in_ok-side.ensures.side e c.in_ok-var.var line r))

pub returns-in_err-var-clause-reads : goal.returns-in_err-var-clause-reads
returns-in_err-var-clause-reads c = λ points edges e.
    let f = c.in_err-var.field-0.0 in
    passed_on c.args.text.now c.args.tokens.now (progress c.args.names.now points edges (at_act e)) c.args.at c.from_residual.result _ _ f
    c.from_residual.ensures.1
    (λ n. variable_fails c.args.text.now c.args.tokens.now c.args.names.now points edges e c.args.at f c.requires.word
    c.in_err-var.ensures.unknown c.in_err-var.ensures.fault)

pub returns-in_err-sign-clause-reads : goal.returns-in_err-sign-clause-reads
returns-in_err-sign-clause-reads c = λ points edges e.
    let f = c.in_err-sign.field-0.0 in
    passed_on c.args.text.now c.args.tokens.now (progress c.args.names.now points edges (at_act e)) c.args.at
    c.from_residual-in_err-sign.result _ _ f c.from_residual-in_err-sign.ensures.1
    (λ n. named (goal.at.returns-in_err-sign-clause-reads c).In_ok-var points edges e (Err f)
    (equal_fails c.args.text.now c.args.tokens.now c.args.names.now points edges e (c.args.at + 1) c.in_ok-var.var c.line-line.result f
    c.in_err-sign.ensures.fault c.in_err-sign.ensures.other))

pub returns-in_err-read-clause-reads : goal.returns-in_err-read-clause-reads
returns-in_err-read-clause-reads c = λ points edges e.
    let f = c.in_err-read.field-0.0 in
    let sign = (seen_at c.args.text.now c.args.tokens.now (c.args.at + 1)).at in
    passed_on c.args.text.now c.args.tokens.now (progress c.args.names.now points edges (at_act e)) c.args.at
    c.from_residual-in_err-read.result _ _ f c.from_residual-in_err-read.ensures.1
    (λ n. let p = c.in_err-read.ensures.refused n in
    set (goal.at.returns-in_err-read-clause-reads c).In_ok-sign points edges e (Err f)
    (side_refused c.args.text.now c.args.tokens.now c.args.names.now points edges e (c.args.at + 1 + 1) c.in_ok-var.var c.line-line.result
    sign p.0 f p.2 p.1))

pub returns-in_err-side-clause-reads : goal.returns-in_err-side-clause-reads
returns-in_err-side-clause-reads c = λ points edges e.
    let f = c.in_err-side.field-0.0 in
    let line = c.line-line.result in
    let sign = (seen_at c.args.text.now c.args.tokens.now (c.args.at + 1)).at in
    let m = expr_of c.in_ok-read.read.expr in
    let r = progress c.args.names.now points edges (at_right_side e c.in_ok-var.var line sign) in
    passed_on c.args.text.now c.args.tokens.now (progress c.args.names.now points edges (at_act e)) c.args.at
    c.from_residual-in_err-side.result _ _ f c.from_residual-in_err-side.ensures.1
    (λ n. set (goal.at.returns-in_err-side-clause-reads c).In_ok-sign points edges e (Err f)
    (side_fails c.args.text.now c.args.tokens.now c.args.names.now points edges e (c.args.at + 1 + 1) c.in_ok-var.var line sign
    c.in_ok-read.read.next m f c.in_ok-read.ensures.means
    (subst (λ k. assigned (as_side k m) e c.in_ok-var.var line r ≡ Err f) c.place.ensures
    (c.in_err-side.ensures.fault e c.in_ok-var.var line r))))

pub returns-in_err-sign-2-clause-reads : goal.returns-in_err-sign-2-clause-reads
returns-in_err-sign-2-clause-reads c = λ points edges e.
    let f = c.in_err-sign-2.field-0.0 in
    let on = goal.at.returns-in_err-sign-2-clause-reads c in
    passed_on c.args.text.now c.args.tokens.now (progress c.args.names.now points edges (at_act e)) c.args.at
    c.from_residual-in_err-sign-2.result _ _ f c.from_residual-in_err-sign-2.ensures.1
    (λ n. set on.In_ok-sign points edges e (Err f) (given on.In_ok-side points edges e (Err f)
    (end_fails c.args.text.now c.args.tokens.now c.args.names.now points edges e c.in_ok-read.read.next (act on.In_ok-side) f
    c.in_err-sign-2.ensures.fault c.in_err-sign-2.ensures.other)))

pub returns-clause-reads : goal.returns-clause-reads
returns-clause-reads c = λ points edges e.
    let on = goal.at.returns-clause-reads c in
    let r = progress c.args.names.now points edges (at_act e) in
    let made = act on.In_ok-side in
    let all : Goes c.args.text.now c.args.tokens.now r c.args.at (progress c.args.names.now points edges (at_act (with_act e made)))
    (c.in_ok-read.read.next + 1) =
    λ answer h. set on.In_ok-sign points edges e answer (given on.In_ok-side points edges e answer
    (end_goes c.args.text.now c.args.tokens.now c.args.names.now points edges e c.in_ok-read.read.next made c.in_ok-sign-2.ensures.symbol
    answer h)) in
    subst (λ s. Goes c.args.text.now c.args.tokens.now r c.args.at (progress c.args.names.now points edges (at_act (with_act e s)))
    (c.in_ok-read.read.next + 1)) (sym c.assigned.ensures) all

pub returns-clause-act : goal.returns-clause-act
returns-clause-act c =
    let n = length c.args.names.now in
    subst (λ s. IsTrue (is_act n s)) (sym c.assigned.ensures)
    (assignment_act n c.in_ok-var.var c.line-line.result c.in_ok-side.side c.in_ok-var.ensures.inside
    (c.in_ok-side.ensures.fits n c.in_ok-read.ensures.fits))
