use Rattle.std.proofs.Common.{◌≡◌, ◌∙◌, length, get_or, ap, subst}
use Rattle.std.proofs.lemmas.Option.{get_or_from_slice_get}
use Rattle.flow_edges.specs.declared.edge.Edge.{Edge}
use Rattle.flow_systems.specs.Equations.{Fits}
use Rattle.flow_systems.specs.FitTests.{fit_operations, TestAnswers}
use Rattle.flow_systems.specs.View.{equations_of, vector_of}
use Rattle.cert_checker.proofs.following.Edges.{edge_from}
use Rattle.cert_checker.proofs.following.Traces.{fit_answers}
use Rattle.cert_checker.proofs.following.starts.Goals as goal

pub returns : goal.returns
returns c = λ z e h f.
    let S = equations_of c.args.system.now in
    let v = vector_of (length S.template) c.args.bounds.now in
    let x = c.args.state.now in
    let found = c.index-as_slice-edge.result in
    let same : get_or c.as_slice.result.now c.args.edge found ≡ e = ap (λ es. get_or es c.args.edge found) c.as_slice.ensures
    ∙ get_or_from_slice_get S.edges c.args.edge e found f in
    fit_answers S c.args.bounds.now z h e.from (edge_from c.args.system.now.flow c.args.edge e f) x c.fits.result
    (subst (λ (here : Edge). TestAnswers (Fits S v here.from x) (fit_operations S.template (v here.from) 0 x) c.fits.result) same
    c.fits.ensures)
