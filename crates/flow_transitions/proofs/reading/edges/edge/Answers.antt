use Rattle.std.proofs.Common.{◌+◌, ◌++◌, [], ◌∷◌, ℕ, List, Ok, Err, subst}
use Rattle.lang_tree.specs.Tree.{Statements}
use Rattle.lang_tree.specs.View.{statements_of}
use Rattle.flow_transitions.specs.declared.auto_edge.AutoEdge.{AutoEdge}
use Rattle.flow_transitions.specs.AutoSymbols.{seen_at}
use Rattle.flow_transitions.specs.AutoReading.{progress, at_edge, at_source, at_target, at_opening, at_act, edge_to, ReadsTo}
use Rattle.flow_transitions.proofs.progress.Steps.{Goes, passed_on}
use Rattle.flow_transitions.proofs.progress.EdgeSteps.{edge_goes, edge_fails, source_fails, source_reached}
use Rattle.flow_transitions.proofs.progress.EdgeSteps.{target_fails, target_reached, opening_goes, opening_fails}
use Rattle.flow_transitions.proofs.reading.edges.edge.Goals.{After-line-line, In_ok-from, In_ok-to, In_ok-sign}
use Rattle.flow_transitions.proofs.reading.edges.edge.Goals as goal

-- behind `edge` its first point comes
opened : (c : After-line-line) (edges : List AutoEdge)
    → Goes c.args.text.now c.args.tokens.now (progress c.args.names.now c.args.points.now edges at_edge) c.args.at
    (progress c.args.names.now c.args.points.now edges (at_source c.line-line.result)) (c.args.at + 1)
opened c edges =
    edge_goes c.args.text.now c.args.tokens.now c.args.names.now c.args.points.now edges c.args.at c.line-line.result c.requires.no_end
    (c.in_ok-word.ensures.reads (progress c.args.names.now c.args.points.now edges at_edge) (at_source c.line-line.result))
    c.line-line.ensures

-- behind the first point the second one comes
sourced : (c : In_ok-from) (edges : List AutoEdge)
    → Goes c.args.text.now c.args.tokens.now (progress c.args.names.now c.args.points.now edges at_edge) c.args.at
    (progress c.args.names.now c.args.points.now edges
    (at_target c.line-line.result c.in_ok-from.from (seen_at c.args.text.now c.args.tokens.now (c.args.at + 1)).at)) (c.args.at + 1 + 1)
sourced c edges =
    source_reached c.args.text.now c.args.tokens.now c.args.names.now c.args.points.now edges c.args.at c.line-line.result c.in_ok-from.from
    c.requires.no_end
    (c.in_ok-word.ensures.reads (progress c.args.names.now c.args.points.now edges at_edge) (at_source c.line-line.result))
    c.line-line.ensures c.in_ok-from.ensures.point

-- the edge that is read, before its acts
abbrev head : In_ok-to → AutoEdge
head c = edge_to c.line-line.result c.in_ok-from.from (seen_at c.args.text.now c.args.tokens.now (c.args.at + 1)).at c.in_ok-to.to

-- behind the second point `{` comes
targeted : (c : In_ok-to) (edges : List AutoEdge)
    → Goes c.args.text.now c.args.tokens.now (progress c.args.names.now c.args.points.now edges at_edge) c.args.at
    (progress c.args.names.now c.args.points.now edges (at_opening (head c))) (c.args.at + 1 + 1 + 1)
targeted c edges =
    target_reached c.args.text.now c.args.tokens.now c.args.names.now c.args.points.now edges c.args.at c.line-line.result c.in_ok-from.from
    c.in_ok-to.to c.requires.no_end
    (c.in_ok-word.ensures.reads (progress c.args.names.now c.args.points.now edges at_edge) (at_source c.line-line.result))
    c.line-line.ensures c.in_ok-from.ensures.point c.in_ok-to.ensures.point

pub returns-in_err-word-clause-reads : goal.returns-in_err-word-clause-reads
returns-in_err-word-clause-reads c = λ edges.
    let r = progress c.args.names.now c.args.points.now edges at_edge in
    let f = c.in_err-word.field-0.0 in
    passed_on c.args.text.now c.args.tokens.now r c.args.at c.from_residual.result _ _ f c.from_residual.ensures.1
    (λ n. edge_fails c.args.text.now c.args.tokens.now c.args.names.now c.args.points.now edges c.args.at f c.requires.no_end
    (c.in_err-word.ensures.other r (at_source (seen_at c.args.text.now c.args.tokens.now c.args.at).line)))

pub returns-in_err-from-clause-reads : goal.returns-in_err-from-clause-reads
returns-in_err-from-clause-reads c = λ edges.
    let f = c.in_err-from.field-0.0 in
    passed_on c.args.text.now c.args.tokens.now (progress c.args.names.now c.args.points.now edges at_edge) c.args.at
    c.from_residual-in_err-from.result _ _ f c.from_residual-in_err-from.ensures.1
    (λ n. opened (goal.at.returns-in_err-from-clause-reads c).After-line-line edges (Err f)
    (source_fails c.args.text.now c.args.tokens.now c.args.names.now c.args.points.now edges (c.args.at + 1) c.line-line.result f
    c.in_err-from.ensures.fault))

pub returns-in_err-to-clause-reads : goal.returns-in_err-to-clause-reads
returns-in_err-to-clause-reads c = λ edges.
    let f = c.in_err-to.field-0.0 in
    passed_on c.args.text.now c.args.tokens.now (progress c.args.names.now c.args.points.now edges at_edge) c.args.at
    c.from_residual-in_err-to.result _ _ f c.from_residual-in_err-to.ensures.1
    (λ n. sourced (goal.at.returns-in_err-to-clause-reads c).In_ok-from edges (Err f)
    (target_fails c.args.text.now c.args.tokens.now c.args.names.now c.args.points.now edges (c.args.at + 1 + 1) c.line-line.result
    c.in_ok-from.from (seen_at c.args.text.now c.args.tokens.now (c.args.at + 1)).at f c.in_err-to.ensures.fault))

pub returns-in_err-sign-clause-reads : goal.returns-in_err-sign-clause-reads
returns-in_err-sign-clause-reads c = λ edges.
    let f = c.in_err-sign.field-0.0 in
    let before = (goal.at.returns-in_err-sign-clause-reads c).In_ok-to in
    passed_on c.args.text.now c.args.tokens.now (progress c.args.names.now c.args.points.now edges at_edge) c.args.at
    c.from_residual-in_err-sign.result _ _ f c.from_residual-in_err-sign.ensures.1
    (λ n. targeted before edges (Err f)
    (opening_fails c.args.text.now c.args.tokens.now c.args.names.now c.args.points.now edges (c.args.at + 1 + 1 + 1) (head before) f
    c.in_err-sign.ensures.fault c.in_err-sign.ensures.other))

-- behind `{` the acts come
braced : (c : In_ok-sign) (edges : List AutoEdge) (e : AutoEdge)
    → Goes c.args.text.now c.args.tokens.now (progress c.args.names.now c.args.points.now edges (at_opening e)) (c.args.at + 1 + 1 + 1)
    (progress c.args.names.now c.args.points.now edges (at_act e)) (c.args.at + 1 + 1 + 1 + 1)
braced c edges e = opening_goes c.args.text.now c.args.tokens.now c.args.names.now c.args.points.now edges (c.args.at + 1 + 1 + 1) e
    c.in_ok-sign.ensures.symbol

pub returns-in_err-acts-clause-reads : goal.returns-in_err-acts-clause-reads
returns-in_err-acts-clause-reads c = λ edges.
    let f = c.in_err-acts.field-0.0 in
    let on = goal.at.returns-in_err-acts-clause-reads c in
    let e = head on.In_ok-to in
    passed_on c.args.text.now c.args.tokens.now (progress c.args.names.now c.args.points.now edges at_edge) c.args.at
    c.from_residual-in_err-acts.result _ _ f c.from_residual-in_err-acts.ensures.1
    (λ n. targeted on.In_ok-to edges (Err f) (braced on.In_ok-sign edges e (Err f)
    (c.in_err-acts.ensures.reads c.args.points.now edges e.line e.from e.at e.to n)))

pub returns-clause-reads : goal.returns-clause-reads
returns-clause-reads c = λ edges answer h.
    let on = goal.at.returns-clause-reads c in
    let text = c.args.text.now in
    let tokens = c.args.tokens.now in
    let names = c.args.names.now in
    let points = c.args.points.now in
    let e = head on.In_ok-to in
    let made = λ (a : Statements) (p : ℕ). let x : AutoEdge = record { from = e.from; to = e.to; acts = a; line = e.line; at = p } in x in
    let by_acts = subst (λ a. ReadsTo text tokens (Ok (progress names points (edges ++ made a c.place.result ∷ []) at_edge))
    c.in_ok-acts.next answer) c.new.ensures h in
    let by_place = subst (λ p. ReadsTo text tokens (Ok (progress names points (edges ++ made (statements_of c.in_ok-acts.acts.items) p ∷ [])
    at_edge)) c.in_ok-acts.next answer) c.place.ensures by_acts in
    targeted on.In_ok-to edges answer (braced on.In_ok-sign edges e answer
    (c.in_ok-acts.ensures.reads points edges e.line e.from e.at e.to answer by_place))
