use Rattle.std.proofs.Common.{◌∙◌, ◌++◌, ap}
use Rattle.cert_text.proofs.bounds.LinesOf.{joined_more}
use Rattle.cert_text.proofs.bounds.joined.Goals as goal

pub loop-line-preserved : goal.loop-line-preserved
loop-line-preserved c =
    c.in_ok-extend_from_slice.ensures.items ∙ ap (λ ys. c.loop-line.list.items ++ ys) (c.as_slice.ensures.value ∙ c.line.view_is)
    ∙ joined_more c.args.lines.now c.loop-line.line-index c.line-item.result c.loop-line.list.items c.loop-line-test.true c.line-item.is
    c.loop-line.invariant
