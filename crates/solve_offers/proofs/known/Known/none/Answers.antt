use Rattle.std.proofs.Common.{◌≡◌, ◌∙◌, rules, false, length, ap}
use Rattle.std.specs.Prelude.{replicate}
use Rattle.solve_offers.proofs.at_bounds.KnownValues.{known_none}
use Rattle.solve_offers.proofs.known.Known.none.Goals as goal

pub returns : goal.returns
returns c bounds =
    let system = c.args.system.now in
    let points : length c.as_slice.result.now ≡ length system.flow.points = ap (λ ps. length ps) c.as_slice.ensures in
    let made : c.in_ok-settled.settled.items ≡ replicate (length c.as_slice.result.now) false = search rules in
    known_none system _ c.in_ok-values.ensures (made ∙ ap (λ n. replicate n false) points) c.in_ok-incoming.ensures
    c.in_ok-outgoing.ensures bounds
