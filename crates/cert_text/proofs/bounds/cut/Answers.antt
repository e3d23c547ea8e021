use Rattle.std.proofs.Common.{◌≡◌, ◌∙◌, ◌+◌, ◌-◌, ◌*◌, ◌++◌, ◌∷◌, [], suc, take, drop, ap, ap₂, sym, arith}
use Rattle.cert_text.specs.BoundLines.{lines_of}
use Rattle.cert_text.proofs.bounds.LinesOf.{lines_more}
use Rattle.cert_text.proofs.bounds.cut.Goals as goal

pub loop-point-preserved : goal.loop-point-preserved
loop-point-preserved c =
    let p = c.loop-point.point in
    let rows = c.args.rows in
    let one : suc p ≡ p + 1 = omega arith in
    let width : p * rows + rows - p * rows ≡ rows = omega arith in
    c.in_ok-push.ensures.items
    ∙ ap₂ (λ a b. a ++ b ∷ []) c.loop-point.invariant (c.in_ok-list.ensures.items_if_clones_equal (λ x y e. e)
    ∙ ap (λ n. take n (drop (p * rows) c.args.bounds.now)) width)
    ∙ sym (lines_more rows p c.args.bounds.now) ∙ ap (λ n. lines_of rows n c.args.bounds.now) one
