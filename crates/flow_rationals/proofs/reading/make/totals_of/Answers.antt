use Rattle.flow_rationals.proofs.written_sums.Made.{totals_some, totals_value}
use Rattle.flow_rationals.proofs.reading.make.totals_of.Goals as goal

pub unwrap-requires : goal.unwrap-requires
unwrap-requires c =
    totals_some c.args.equations.now c.args.sum.now c.common_of-common.result c.as_slice.result.now c.totals.result c.requires.small
    c.common_of-common.ensures
    c.as_slice.ensures c.totals.ensures

pub returns : goal.returns
returns c =
    totals_value c.args.equations.now c.args.sum.now c.common_of-common.result c.as_slice.result.now c.totals.result c.unwrap.result
    c.unwrap.ensures
    c.requires.small c.common_of-common.ensures c.as_slice.ensures c.totals.ensures
