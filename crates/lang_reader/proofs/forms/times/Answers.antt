use Rattle.std.proofs.Common.{FitsSigned, rules, ◌*ℤ◌}
use Rattle.std.proofs.lemmas.Int.{to_z-of_z}
use mir.Syntax.{w128}
use Rattle.lang_reader.proofs.forms.times.Goals as goal

pub returns : goal.returns
returns c =
    let f = c.ranges.factor in
    let n = c.ranges.number in
    let fw : FitsSigned w128 c.args.factor = search rules in
    let nw : FitsSigned w128 c.args.number = search rules in
    let s : FitsSigned w128 (c.args.factor *ℤ c.args.number) = search rules in
    simp to_z-of_z at c.ranged_number.ensures
