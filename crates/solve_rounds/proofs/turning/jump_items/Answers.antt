use Rattle.std.proofs.Common.{◌∙◌, ◌∷◌, [], ◌++◌, ◌<◌, ap₂, sym, subst}
use Rattle.std.proofs.lemmas.List.{get_or_read}
use Rattle.base_numbers.specs.Rational.{zero_ℚ}
use Rattle.solve_rounds.specs.Lows.{no_trace}
use Rattle.solve_rounds.proofs.turning.TurnItems.{jump_item_here, jump_items_more}
use Rattle.solve_rounds.proofs.turning.jump_items.Goals as goal

pub loop-k-preserved : goal.loop-k-preserved
loop-k-preserved c =
    let k = c.loop-k.k in
    let raises = c.args.raises.now in
    let places = c.args.places.now in
    let list = c.args.list.now in
    let to = c.args.to.now in
    let highs = c.args.highs.now in
    let l = c.loop-k-test.true in
    let q = get_or_read to k c.index-to-k.result (subst (λ n. k < n) (sym c.requires.numbers) l) c.index-to-k.is zero_ℚ in
    let h = get_or_read highs k c.index-highs-k.result (subst (λ n. k < n) (sym c.requires.traces) l) c.index-highs-k.is no_trace in
    c.in_ok-push.ensures.items
    ∙ ap₂ (λ xs x. xs ++ x ∷ []) c.loop-k.invariant (c.in_ok-item.ensures.item
    ∙ jump_item_here raises places list to highs k c.index-to-k.result c.index-highs-k.result q h)
    ∙ sym (jump_items_more raises places list to highs k)
