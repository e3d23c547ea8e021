use Rattle.std.proofs.Common.{◌≡◌, ◌+◌, List, Err, subst}
use Rattle.lang_tree.specs.Tree.{Statement, assume}
use Rattle.lang_tree.specs.View.{condition_of}
use Rattle.lang_meaning.specs.Expressions.{as_truth}
use Rattle.lang_parser.specs.Expressions.{expr_of}
use Rattle.flow_transitions.specs.declared.auto_edge.AutoEdge.{AutoEdge}
use Rattle.flow_transitions.specs.declared.reading.point_name.PointName.{PointName}
use Rattle.flow_transitions.specs.AutoReading.{progress, going, at_act, at_paren, at_condition, past_condition, assumed}
use Rattle.flow_transitions.proofs.progress.Steps.{Goes, passed_on}
use Rattle.flow_transitions.proofs.progress.ActSteps.{assume_goes, paren_fails, condition_reached, condition_goes, condition_refused}
use Rattle.flow_transitions.proofs.progress.ActSteps.{condition_fails, closing_goes, closing_fails, end_goes, end_fails}
use Rattle.flow_transitions.proofs.reading.acts.assumption.Goals.{After-line-line, In_ok-sign, In_ok-cond}
use Rattle.flow_transitions.proofs.reading.acts.assumption.Goals as goal

-- behind `assume` a `(` comes
opened : (c : After-line-line) (points : List PointName) (edges : List AutoEdge) (e : AutoEdge)
    → Goes c.args.text.now c.args.tokens.now (progress c.args.names.now points edges (at_act e)) c.args.at
    (progress c.args.names.now points edges (at_paren e c.line-line.result)) (c.args.at + 1)
opened c points edges e =
    assume_goes c.args.text.now c.args.tokens.now c.args.names.now points edges e c.args.at c.line-line.result c.requires.word
    c.line-line.ensures

-- behind `(` the condition comes
entered : (c : In_ok-sign) (points : List PointName) (edges : List AutoEdge) (e : AutoEdge)
    → Goes c.args.text.now c.args.tokens.now (progress c.args.names.now points edges (at_act e)) c.args.at
    (progress c.args.names.now points edges (at_condition e c.line-line.result)) (c.args.at + 1 + 1)
entered c points edges e =
    condition_reached c.args.text.now c.args.tokens.now c.args.names.now points edges e c.args.at c.line-line.result c.requires.word
    c.line-line.ensures c.in_ok-sign.ensures.symbol

-- the assumption that is read
abbrev act : In_ok-cond → Statement
act c = assume (condition_of c.in_ok-cond.cond) c.line-line.result

-- behind the condition a `)` comes
held : (c : In_ok-cond) (points : List PointName) (edges : List AutoEdge) (e : AutoEdge)
    → Goes c.args.text.now c.args.tokens.now (progress c.args.names.now points edges (at_condition e c.line-line.result))
    (c.args.at + 1 + 1) (progress c.args.names.now points edges (past_condition e (act c))) c.in_ok-read.read.next
held c points edges e =
    let line = c.line-line.result in
    let m = expr_of c.in_ok-read.read.expr in
    let r = progress c.args.names.now points edges (at_condition e line) in
    condition_goes c.args.text.now c.args.tokens.now c.args.names.now points edges e (c.args.at + 1 + 1) line c.in_ok-read.read.next m
    (condition_of c.in_ok-cond.cond) c.in_ok-read.ensures.means
    (subst (λ n. assumed (as_truth n m) e line r ≡ going r (past_condition e (act c))) c.place.ensures
    (c.in_ok-cond.ensures.condition e line r))

pub returns-in_err-sign-clause-reads : goal.returns-in_err-sign-clause-reads
returns-in_err-sign-clause-reads c = λ points edges e.
    let f = c.in_err-sign.field-0.0 in
    passed_on c.args.text.now c.args.tokens.now (progress c.args.names.now points edges (at_act e)) c.args.at c.from_residual.result _ _ f
    c.from_residual.ensures.1
    (λ n. opened (goal.at.returns-in_err-sign-clause-reads c).After-line-line points edges e (Err f)
    (paren_fails c.args.text.now c.args.tokens.now c.args.names.now points edges e (c.args.at + 1) c.line-line.result f
    c.in_err-sign.ensures.fault c.in_err-sign.ensures.other))

pub returns-in_err-read-clause-reads : goal.returns-in_err-read-clause-reads
returns-in_err-read-clause-reads c = λ points edges e.
    let f = c.in_err-read.field-0.0 in
    passed_on c.args.text.now c.args.tokens.now (progress c.args.names.now points edges (at_act e)) c.args.at
    c.from_residual-in_err-read.result _ _ f c.from_residual-in_err-read.ensures.1
    (λ n. let p = c.in_err-read.ensures.refused n in
    entered (goal.at.returns-in_err-read-clause-reads c).In_ok-sign points edges e (Err f)
    (condition_refused c.args.text.now c.args.tokens.now c.args.names.now points edges e (c.args.at + 1 + 1) c.line-line.result p.0 f p.2
    p.1))

pub returns-in_err-cond-clause-reads : goal.returns-in_err-cond-clause-reads
returns-in_err-cond-clause-reads c = λ points edges e.
    let f = c.in_err-cond.field-0.0 in
    let line = c.line-line.result in
    let m = expr_of c.in_ok-read.read.expr in
    let r = progress c.args.names.now points edges (at_condition e line) in
    passed_on c.args.text.now c.args.tokens.now (progress c.args.names.now points edges (at_act e)) c.args.at
    c.from_residual-in_err-cond.result _ _ f c.from_residual-in_err-cond.ensures.1
    (λ n. entered (goal.at.returns-in_err-cond-clause-reads c).In_ok-sign points edges e (Err f)
    (condition_fails c.args.text.now c.args.tokens.now c.args.names.now points edges e (c.args.at + 1 + 1) line c.in_ok-read.read.next m f
    c.in_ok-read.ensures.means (subst (λ k. assumed (as_truth k m) e line r ≡ Err f) c.place.ensures
    (c.in_err-cond.ensures.fault n e line r))))

pub returns-in_err-sign-2-clause-reads : goal.returns-in_err-sign-2-clause-reads
returns-in_err-sign-2-clause-reads c = λ points edges e.
    let f = c.in_err-sign-2.field-0.0 in
    let on = goal.at.returns-in_err-sign-2-clause-reads c in
    passed_on c.args.text.now c.args.tokens.now (progress c.args.names.now points edges (at_act e)) c.args.at
    c.from_residual-in_err-sign-2.result _ _ f c.from_residual-in_err-sign-2.ensures.1
    (λ n. entered on.In_ok-sign points edges e (Err f) (held on.In_ok-cond points edges e (Err f)
    (closing_fails c.args.text.now c.args.tokens.now c.args.names.now points edges e c.in_ok-read.read.next (act on.In_ok-cond) f
    c.in_err-sign-2.ensures.fault c.in_err-sign-2.ensures.other)))

pub returns-in_err-sign-3-clause-reads : goal.returns-in_err-sign-3-clause-reads
returns-in_err-sign-3-clause-reads c = λ points edges e.
    let f = c.in_err-sign-3.field-0.0 in
    let on = goal.at.returns-in_err-sign-3-clause-reads c in
    let next = c.in_ok-read.read.next in
    let made = act on.In_ok-cond in
    passed_on c.args.text.now c.args.tokens.now (progress c.args.names.now points edges (at_act e)) c.args.at
    c.from_residual-in_err-sign-3.result _ _ f c.from_residual-in_err-sign-3.ensures.1
    (λ n. entered on.In_ok-sign points edges e (Err f) (held on.In_ok-cond points edges e (Err f)
    (closing_goes c.args.text.now c.args.tokens.now c.args.names.now points edges e next made c.in_ok-sign-2.ensures.symbol (Err f)
    (end_fails c.args.text.now c.args.tokens.now c.args.names.now points edges e (next + 1) made f c.in_err-sign-3.ensures.fault
    c.in_err-sign-3.ensures.other))))

pub returns-clause-reads : goal.returns-clause-reads
returns-clause-reads c = λ points edges e answer h.
    let on = goal.at.returns-clause-reads c in
    let next = c.in_ok-read.read.next in
    let made = act on.In_ok-cond in
    entered on.In_ok-sign points edges e answer (held on.In_ok-cond points edges e answer
    (closing_goes c.args.text.now c.args.tokens.now c.args.names.now points edges e next made c.in_ok-sign-2.ensures.symbol answer
    (end_goes c.args.text.now c.args.tokens.now c.args.names.now points edges e (next + 1) made c.in_ok-sign-3.ensures.symbol answer h)))
