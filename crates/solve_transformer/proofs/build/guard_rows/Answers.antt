use Rattle.std.proofs.Common.{◌∙◌, ◌<◌, ◌++◌, ◌∷◌, [], List, length, get_or, map, ap, ap₂, sym, arith}
use Rattle.std.proofs.lemmas.List.{map_push, get_or-map, length-map}
use Rattle.base_numbers.specs.Rational.{ℚ}
use Rattle.theory_transformers.specs.Limits.{Limit}
use Rattle.theory_transformers.specs.EdgeProblems.{guard_limits}
use Rattle.solve_composition.specs.declared.affine.Affine.{Affine}
use Rattle.solve_composition.specs.Composed.{dense}
use Rattle.solve_transformer.specs.Splits.{pairs, split_limit, limit_of}
use Rattle.solve_composition.specs.ComposedLaws.{form_of}
use Rattle.solve_transformer.proofs.build.Sources.{guards_more, guards_none}
use Rattle.solve_transformer.proofs.build.guard_rows.Goals as goal

pub loop-guard-preserved : goal.loop-guard-preserved
loop-guard-preserved c = λ width forms e.
    let i = c.loop-guard.guard-index in
    let guard = c.guard-item.result in
    let d = form_of guard in
    let count = ap (λ (gs : List Affine). length gs) e ∙ length-map forms (dense width) in
    let l = c.loop-guard-test.true in
    let within : i < length forms = omega (arith, count, l) in
    guards_more width forms i guard d (map limit_of c.loop-guard.rows.items) (map limit_of c.push.new.self.items)
    (map limit_of c.args.rows.now.items ++ map (split_limit width) (guard_limits (λ u. u) forms)) within
    (c.guard-item.is ∙ ap (λ (gs : List Affine). get_or gs i guard) e ∙ get_or-map (dense width) forms i d guard within)
    (ap (map limit_of) c.in_ok-push.ensures.items ∙ map_push limit_of c.loop-guard.rows.items
    (record { coeffs = c.in_ok-coeffs.coeffs; side = c.negate-side.result })
    ∙ ap₂ (λ (xs : List ℚ) q. map limit_of c.loop-guard.rows.items ++ (let m : Limit = record { coeffs = xs; side = q } in m) ∷ [])
    (c.in_ok-coeffs.ensures ∙ ap pairs c.as_slice.ensures) c.negate-side.ensures.value)
    (c.loop-guard.invariant width forms e)

pub returns : goal.returns
returns c = λ width forms e.
    let count = ap (λ (gs : List Affine). length gs) e ∙ length-map forms (dense width) in
    let l = c.loop-guard-test.false in
    sym (guards_none width forms c.loop-guard.guard-index (map limit_of c.loop-guard.rows.items) (omega (arith, count, l)))
    ∙ c.loop-guard.invariant width forms e
