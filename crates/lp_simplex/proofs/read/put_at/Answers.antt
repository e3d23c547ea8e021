use Rattle.std.proofs.Common.{◌<◌, ◌-◌, length, arith}
use Rattle.lp_simplex.proofs.read.Placing.{put_in}
use Rattle.lp_simplex.proofs.read.put_at.Goals as goal

pub returns-then-place-len : goal.returns-then-place-len
returns-then-place-len g c =
    let k = c.args.values.now.ok.0 in
    let l : c.args.name - c.args.base - 1 < length c.args.values.now.items = omega arith in
    put_in g.F.OrderedField.meaning c.args.values.now.items c.args.name c.args.base c.args.value c.if-name-base.true l
