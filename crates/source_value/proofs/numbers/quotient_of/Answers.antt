use Rattle.std.proofs.Common.{rules, FitsSigned}
use Rattle.std.specs.Prelude.{int_div}
use Rattle.std.proofs.lemmas.Int.{to_z-of_z}
use mir.Syntax.{w128}
use Rattle.source_value.proofs.numbers.Bounds.{quotient_fits}
use Rattle.source_value.proofs.numbers.quotient_of.Goals as goal

pub returns : goal.returns
returns c =
    let a = c.ranges.number in
    let d = c.ranges.divisor in
    let aw : FitsSigned w128 c.args.number = search rules in
    let dw : FitsSigned w128 c.args.divisor = search rules in
    let fits : FitsSigned w128 (int_div c.args.number c.args.divisor) = quotient_fits c.args.number c.args.divisor a in
    simp to_z-of_z
