use Rattle.std.proofs.Common.{◌≡◌, ◌∙◌, [], ap, arith}
use Rattle.solve_composition.specs.Composed.{first_entries}
use Rattle.solve_transformer.proofs.place.Nothing.{zeros_push, affine_same}
use Rattle.solve_transformer.specs.Places.{nothing}
use Rattle.solve_transformer.proofs.place.no_form.Goals as goal

pub columns-preserved : goal.columns-preserved
columns-preserved c = zeros_push c.columns.counter c.columns.coeffs.items c.push.new.self.items c.zero.result c.columns.invariant
    c.in_ok-push.ensures.items c.zero.ensures.value

pub returns : goal.returns
returns c =
    let all : c.columns.counter ≡ c.args.width = omega arith in
    affine_same c.new.result (first_entries c.args.width []) c.zero-2.result nothing.constant
    (c.new.ensures ∙ c.columns.invariant ∙ ap (λ n. first_entries n []) all) c.zero-2.ensures.value
