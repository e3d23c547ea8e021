use Rattle.std.proofs.Common.{◌≡◌, ◌∙◌, ◌+◌, [], length, ap, refl, arith}
use Rattle.std.proofs.lemmas.Option.{slice_get-get_or}
use Rattle.flow_systems.specs.Equations.{Vector}
use Rattle.flow_systems.specs.View.{equations_of, edge_at, row_at}
use Rattle.solve_composition.specs.Composed.{EdgeForms}
use Rattle.solve_composition.proofs.composed.Edges.{width_is}
use Rattle.solve_transformer.specs.Splits.{bounds_at}
use Rattle.solve_transformer.proofs.transform.Operated.{path_sizes, rows_are, source_from}
use Rattle.solve_transformer.proofs.transform.solve_edge.Goals as goal

pub bounds-as_slice-row : goal.bounds-as_slice-row
bounds-as_slice-row c =
    let s = c.args.system.now in
    let e = edge_at s c.args.edge in
    let i = slice_get-get_or s.flow.edges c.args.edge _ c.requires.edge in
    let inside : EdgeForms = record { frees = c.path.inside.frees; guards = c.path.inside.guards; rows = c.path.inside.rows } in
    let count = rows_are (equations_of s) c.args.paths.now c.requires.paths c.args.edge c.path-path.result.now inside c.path.view_is
    c.path-path.ensures e i in
    let list = ap length c.as_slice.ensures in
    let row = c.requires.row in
    omega (arith, count, list, row)

pub solve_forms-requires-clause-few_frees : goal.solve_forms-requires-clause-few_frees
solve_forms-requires-clause-few_frees c =
    let p = path_sizes c.args.system.now c.args.paths.now c.args.edge c.requires.paths c.requires.edge in
    let few = p.few_frees in
    let frees = c.frees-frees.ensures p.forms p.here in
    omega (arith, few, frees)

pub solve_forms-requires-clause-forms : goal.solve_forms-requires-clause-forms
solve_forms-requires-clause-forms c =
    let z : Vector = λ p. bounds_at c.args.source.now in
    let b : bounds_at c.args.source.now ≡ bounds_at c.args.source.now = refl in
    let s = c.args.system.now in
    let e = edge_at s c.args.edge in
    let i = slice_get-get_or s.flow.edges c.args.edge _ c.requires.edge in
    let j = slice_get-get_or s.template c.args.row [] c.requires.row in
    let inside : EdgeForms = record { frees = c.path.inside.frees; guards = c.path.inside.guards; rows = c.path.inside.rows } in
    let p = path_sizes s c.args.paths.now c.args.edge c.requires.paths c.requires.edge in
    let frees = c.frees-frees.result in
    let columns = width_is (length s.flow.names) frees e.actions (c.frees-frees.ensures p.forms p.here ∙ p.frees) in
    record {
      vector = z;
      edge = e;
      row = row_at s c.args.row;
      is = source_from (equations_of s) c.args.paths.now c.requires.paths c.args.edge c.path-path.result.now inside c.path.view_is
          c.path-path.ensures e i z c.args.row (row_at s c.args.row) j (length s.flow.names + frees) columns s.template refl
          c.args.source.now b c.as_slice-2.result.now c.as_slice.result.now c.as_slice-2.ensures c.as_slice.ensures
          c.index-as_slice-row.result c.index-as_slice-row.is;
    }

pub returns : goal.returns
returns c = λ z b none.
    let s = c.args.system.now in
    let e = edge_at s c.args.edge in
    let i = slice_get-get_or s.flow.edges c.args.edge _ c.requires.edge in
    let j = slice_get-get_or s.template c.args.row [] c.requires.row in
    let inside : EdgeForms = record { frees = c.path.inside.frees; guards = c.path.inside.guards; rows = c.path.inside.rows } in
    let p = path_sizes s c.args.paths.now c.args.edge c.requires.paths c.requires.edge in
    let frees = c.frees-frees.result in
    let columns = width_is (length s.flow.names) frees e.actions (c.frees-frees.ensures p.forms p.here ∙ p.frees) in
    c.solve_forms.ensures z e (row_at s c.args.row)
    (source_from (equations_of s) c.args.paths.now c.requires.paths c.args.edge c.path-path.result.now inside c.path.view_is
    c.path-path.ensures e i z c.args.row (row_at s c.args.row) j (length s.flow.names + frees) columns s.template refl
    c.args.source.now b c.as_slice-2.result.now c.as_slice.result.now c.as_slice-2.ensures c.as_slice.ensures c.index-as_slice-row.result
    c.index-as_slice-row.is) none
