use Rattle.std.proofs.Common.{arith, length}
use Rattle.acsl_comments.proofs.pieces.Written.{next_order}
use Rattle.acsl_comments.proofs.write.with_comments.Goals as goal

pub slice_bounds-extend_from_slice-end : goal.slice_bounds-extend_from_slice-end
slice_bounds-extend_from_slice-end c =
    let next = next_order c.loop-comment.at (length c.args.text.now) c.args.comments.now c.loop-comment.comment-index c.comment-item.result
    c.loop-comment-test.true c.comment-item.is c.loop-comment.invariant.order in
    omega (arith, next.high)
