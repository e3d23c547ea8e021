use Rattle.flow_rationals.proofs.written_sums.Made.{den_some, den_value}
use Rattle.flow_rationals.proofs.reading.make.common_of.Goals as goal

pub unwrap-requires : goal.unwrap-requires
unwrap-requires c =
    den_some c.common_den.result c.args.sum.now.first c.args.sum.now.more c.as_slice.result.now c.as_slice.ensures c.requires.small
    c.common_den.ensures

pub returns : goal.returns
returns c =
    den_value c.common_den.result c.unwrap.result c.args.sum.now.first c.args.sum.now.more c.as_slice.result.now c.unwrap.ensures
    c.as_slice.ensures
    c.common_den.ensures
