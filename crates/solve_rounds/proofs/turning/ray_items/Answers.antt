use Rattle.std.proofs.Common.{◌∙◌, ◌<◌, ap, sym, subst}
use Rattle.std.proofs.lemmas.List.{get_or-map, length-map}
use Rattle.solve_rounds.specs.Lows.{IsRaised}
use Rattle.solve_rounds.proofs.turning.ray_items.Goals as goal

pub ray_item-requires : goal.ray_item-requires
ray_item-requires c =
    let rates = c.args.rates.now in
    let i = c.loop-rate.rate-index in
    let l = c.loop-rate-test.true in
    subst (IsRaised c.args.raises.now c.args.places.now) (get_or-map (λ rate. rate.unknown) rates i c.rate-item.result 0 l
    ∙ ap (λ rate. rate.unknown) (sym c.rate-item.is))
    (c.requires i (subst (λ n. i < n) (sym (length-map rates (λ rate. rate.unknown))) l))
