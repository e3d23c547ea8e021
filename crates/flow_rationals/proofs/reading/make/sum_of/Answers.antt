use Rattle.std.proofs.Common.{◌≡◌, ◌∙◌, pos, take, length, to_z, w64, arith, rules}
use Rattle.std.proofs.lemmas.Grind.{common_steps}
use Rattle.std.proofs.lemmas.Int.{ints}
use Rattle.flow_rationals.specs.WrittenSums.{common_den, parts_of}
use Rattle.flow_rationals.proofs.written_sums.Made.{sound_zeros, sound_small, small_den, coefficients_numbers, sum_made}
use Rattle.flow_rationals.proofs.reading.make.sum_of.Goals as goal

pub totals_of-totals-requires-clause-sound : goal.totals_of-totals-requires-clause-sound
totals_of-totals-requires-clause-sound c = sound_zeros c.args.equations.now c.args.sum.now c.requires.sound

pub new-requires : goal.new-requires
new-requires c =
    let e : c.in_ok-coeffs.coeffs.items ≡ take (length c.args.equations.now) c.totals_of-totals.result =
    first_of (search rules, grind (arith, common_steps)) in
    coefficients_numbers c.args.equations.now c.args.sum.now c.totals_of-totals.result c.in_ok-coeffs.coeffs.items c.requires.few
    c.requires.sound
    c.totals_of-totals.ensures e

pub common_of-requires-clause-sound : goal.common_of-requires-clause-sound
common_of-requires-clause-sound c = sound_zeros c.args.equations.now c.args.sum.now c.requires.sound

pub returns : goal.returns
returns c =
    let e : c.in_ok-coeffs.coeffs.items ≡ take (length c.args.equations.now) c.totals_of-totals.result =
    first_of (search rules, grind (arith, common_steps)) in
    let small = small_den c.args.equations.now c.args.sum.now (sound_small c.args.equations.now c.args.sum.now c.requires.sound) in
    let d : to_z w64 c.common_of.result ≡ pos (common_den (parts_of c.args.sum.now)) = omega (arith, ints, c.common_of.ensures, small) in
    sum_made c.args.equations.now c.args.sum.now c.totals_of-totals.result c.new.result _ _ c.requires.few c.totals_of-totals.ensures
    (c.new.ensures ∙ e)
    (search rules) d
