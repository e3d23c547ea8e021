use Rattle.std.proofs.Common.{◌∙◌, to_z, of_z, ap, sym, subst}
use Rattle.std.specs.Prelude.{IsTrue}
use mir.Syntax.{w64}
use Rattle.base_numbers.specs.Rational.{ℚ, whole}
use Rattle.lang_tree.specs.Numbers.{is_number}
use Rattle.base_fractions.specs.Fits.{long_limit}
use Rattle.base_fractions.proofs.fits.Made.{small_value}
use Rattle.flow_systems.proofs.states.Summed.{number_made, number_same}
use Rattle.solve_raise.proofs.number.Wholes.{floor_number, den_one, own_floor}
use Rattle.solve_raise.proofs.number.floor_of.Goals as goal

pub returns-then-den-eq1 : goal.returns-then-den-eq1
returns-then-den-eq1 c = own_floor c.args.number (den_one c.args.number c.den.result c.den.ensures.fits c.den.ensures.value
    c.if-den-eq1.true)

pub unwrap-requires : goal.unwrap-requires
unwrap-requires c =
    let z = to_z w64 (of_z w64 c.floor.result) in
    let n : IsTrue (is_number c.floor.result) = subst (λ y. IsTrue (is_number y)) (sym c.floor.ensures.value)
    (floor_number c.args.number c.den.ensures.fits) in
    number_made z c.make.result (subst (λ y. IsTrue (is_number y)) (sym (number_same c.floor.result n)) n) c.make.ensures

pub returns : goal.returns
returns c =
    let z = to_z w64 (of_z w64 c.floor.result) in
    let n : IsTrue (is_number c.floor.result) = subst (λ y. IsTrue (is_number y)) (sym c.floor.ensures.value)
    (floor_number c.args.number c.den.ensures.fits) in
    small_value long_limit (λ (q : ℚ). q) z c.make.result c.unwrap.ensures c.make.ensures
    ∙ ap whole (number_same c.floor.result n ∙ c.floor.ensures.value)
