use Rattle.std.proofs.Common.{◌∙◌, length, ap, sym}
use Rattle.base_fractions.specs.Fits.{long_limit}
use Rattle.base_fractions.specs.Operation.{first_wide}
use Rattle.solve_composition.specs.Behind.{placed_forms, placed_composition}
use Rattle.solve_transformer.proofs.place.Sources.{placed_frees, placed_guards}
use Rattle.solve_transformer.proofs.place.solve_placed.Goals as goal

pub solve_composed-requires-clause-few_frees : goal.solve_composed-requires-clause-few_frees
solve_composed-requires-clause-few_frees c =
    placed_frees (length c.as_slice.result.now) c.args.before.now c.args.guards.now c.in-Ok.forms c.in-Ok.ensures.0 c.requires.few_before

pub solve_composed-requires-clause-few_guards : goal.solve_composed-requires-clause-few_guards
solve_composed-requires-clause-few_guards c =
    placed_guards (length c.as_slice.result.now) c.args.before.now c.args.guards.now c.in-Ok.forms c.in-Ok.ensures.0 c.requires.few_before
    c.requires.few_guards

pub returns-in-Ok : goal.returns-in-Ok
returns-in-Ok c = λ z point b reached.
    let n = ap length c.as_slice.ensures in
    c.solve_composed.ensures z point c.args.before.now c.args.guards.now
    (c.in-Ok.ensures.0 ∙ ap (λ m. placed_forms m c.args.before.now c.args.guards.now) n) b reached
    (ap (λ m. first_wide long_limit (placed_composition m c.args.before.now c.args.guards.now)) (sym n)
    ∙ c.in-Ok.ensures.1)
