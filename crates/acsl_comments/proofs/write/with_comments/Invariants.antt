use Rattle.std.proofs.Common.{◌≡◌, ◌++◌, length, drop}
use Rattle.acsl_comments.specs.Places.{Ascend}
use Rattle.acsl_comments.specs.Texts.{with_comments}
use Rattle.acsl_comments.proofs.pieces.Places.{places}
use Rattle.acsl_comments.proofs.write.with_comments.Given as goal

abbrev pub invariant-loop-comment : goal.invariant-loop-comment
invariant-loop-comment l = record {
  order : Ascend l.at (length l.text) (places (drop l.comment-index l.comments));
  written : l.written.items ++ with_comments l.at (drop l.at l.text) (drop l.comment-index l.comments) ≡ with_comments 0 l.text l.comments;
}
