use Rattle.std.proofs.Common.{◌≢◌, pos, of_z, FitsSigned, ap, rules}
use mir.Syntax.{w64, w128}
use Rattle.base_fractions.proofs.exact.Kept.{lowest_read}
use Rattle.base_fractions.proofs.fits.Made.{made_of, fraction_read}
use Rattle.base_fractions.proofs.exact.Exact.make.Goals as goal

pub returns : goal.returns
returns g c =
    let h : c.args.den ≢ pos 0 = λ e. c.if-den-eq0.false (ap (of_z w64) e) in
    let f : FitsSigned w128 c.fraction_parts-n.result.0 = search rules in
    made_of g.L.Limit.LIMIT c.args.num c.args.den c.store.result h (fraction_read c.args.num c.args.den c.fraction_parts-n.result.0
    c.fraction_parts-n.result.1 h record { sfits = c.ranges.num.sfits } record { sfits = c.ranges.den.sfits } f
    c.fraction_parts-n.ensures.value) c.store.ensures

pub store-requires : goal.store-requires
store-requires g c =
    let f : FitsSigned w128 c.fraction_parts-n.result.0 = search rules in
    lowest_read c.fraction_parts-n.result.0 c.fraction_parts-n.result.1 f c.fraction_parts-n.ensures.lowest
