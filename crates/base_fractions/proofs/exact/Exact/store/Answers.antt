use Rattle.base_fractions.proofs.exact.Kept.{stored, not_stored}
use Rattle.base_fractions.proofs.exact.Exact.store.Goals as goal

pub returns-then-d-limit : goal.returns-then-d-limit
returns-then-d-limit g c =
    stored g.L.Limit.LIMIT c.LIMIT-limit.result c.args.n c.args.d c.unsigned_abs.result c.ranges.n record { sfits = c.LIMIT-limit.type_inv }
    c.LIMIT-limit.ensures g.L.Limit.limit_high g.L.Limit.limit_low c.requires c.unsigned_abs.ensures.value
    c.if-unsigned_abs-limit.true c.if-d-limit.true

pub returns-else-unsigned_abs-limit : goal.returns-else-unsigned_abs-limit
returns-else-unsigned_abs-limit g c =
    not_stored g.L.Limit.LIMIT c.LIMIT-limit.result c.args.n c.args.d c.unsigned_abs.result c.ranges.n
    record { sfits = c.LIMIT-limit.type_inv } c.LIMIT-limit.ensures g.L.Limit.limit_high g.L.Limit.limit_low c.requires
    c.unsigned_abs.ensures.value
    c.else-unsigned_abs-limit.either
