use Rattle.std.proofs.Common.{◌∙◌, ◌+◌, [], length, ap, refl}
use Rattle.std.proofs.lemmas.Result.{err_from_is_err_and}
use Rattle.flow_systems.specs.Equations.{Vector}
use Rattle.flow_systems.specs.View.{equations_of}
use Rattle.solve_composition.specs.Composed.{dense}
use Rattle.solve_transformer.specs.Places.{placed_edge, nothing}
use Rattle.solve_transformer.specs.Splits.{bounds_at}
use Rattle.solve_transformer.proofs.place.Answered.{placed_refused, placed_found, placed_unread}
use Rattle.solve_transformer.proofs.place.Sources.{placed_source, placed_ends}
use Rattle.solve_transformer.proofs.place.solve_composed.Goals as goal

pub solve_forms-requires-clause-forms : goal.solve_forms-requires-clause-forms
solve_forms-requires-clause-forms c =
    let z : Vector = λ p. bounds_at c.args.source.now in
    let s = c.args.system.now in
    let forms = c.args.forms.now in
    let h = c.requires.forms in
    let form = c.in_ok-form.ensures ∙ ap (λ m. dense (m + forms.frees) nothing) (ap length c.as_slice.ensures) in
    record {
      vector = z;
      edge = placed_edge 0 h.before h.guards;
      row = [];
      is = placed_source (equations_of s) z 0 h.before h.guards s.template refl c.args.source.now refl forms h.is
          c.as_slice-guards.result.now
          c.as_slice-guards.ensures c.in_ok-form.form form;
    }

pub returns-in_err-value : goal.returns-in_err-value
returns-in_err-value c = λ z point before guards is b reached sides.
    let s = c.args.system.now in
    let forms = c.args.forms.now in
    let p = err_from_is_err_and c.from_residual-in_err-value.result c.from_residual-in_err-value.ensures.1 in
    let form = c.in_ok-form.ensures ∙ ap (λ m. dense (m + forms.frees) nothing) (ap length c.as_slice.ensures) in
    let edge = placed_edge point before guards in
    let all = c.in_err-value.ensures z edge []
    (placed_source (equations_of s) z point before guards s.template refl c.args.source.now b forms is
    c.as_slice-guards.result.now c.as_slice-guards.ensures c.in_ok-form.form form) reached in
    rw (p.1, p.2) (placed_refused (equations_of s) z edge reached sides c.in_err-value.field-0.0 all.refused)

pub returns-in-Ok : goal.returns-in-Ok
returns-in-Ok c = λ z point before guards is b reached sides.
    let s = c.args.system.now in
    let forms = c.args.forms.now in
    let form = c.in_ok-form.ensures ∙ ap (λ m. dense (m + forms.frees) nothing) (ap length c.as_slice.ensures) in
    let edge = placed_edge point before guards in
    let all = c.in_ok-value.ensures z edge []
    (placed_source (equations_of s) z point before guards s.template refl c.args.source.now b forms is
    c.as_slice-guards.result.now c.as_slice-guards.ensures c.in_ok-form.form form) reached in
    placed_found (equations_of s) z edge reached sides c.in_ok-value.value all.value all.evidence all.fits c.as_slice-2.result.now
    (c.as_slice-2.ensures ∙ placed_ends (equations_of s) before guards forms is) c.in-Ok.state c.in-Ok.ensures.0 c.in-Ok.ensures.1

pub returns : goal.returns
returns c = λ z point before guards is b reached sides.
    let s = c.args.system.now in
    let forms = c.args.forms.now in
    let form = c.in_ok-form.ensures ∙ ap (λ m. dense (m + forms.frees) nothing) (ap length c.as_slice.ensures) in
    let edge = placed_edge point before guards in
    let all = c.in_ok-value.ensures z edge []
    (placed_source (equations_of s) z point before guards s.template refl c.args.source.now b forms is
    c.as_slice-guards.result.now c.as_slice-guards.ensures c.in_ok-form.form form) reached in
    placed_unread (equations_of s) z edge reached sides c.in_ok-value.value all.value all.evidence all.fits c.as_slice-2.result.now
    (c.as_slice-2.ensures ∙ placed_ends (equations_of s) before guards forms is) c.in-Err.fault c.part_fault.result c.in-Err.ensures
    c.part_fault.ensures
