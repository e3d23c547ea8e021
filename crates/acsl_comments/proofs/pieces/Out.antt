-- Comments that were put in come out.
use Rattle.std.proofs.Common.{◌≡◌, ◌≤◌, ◌+◌, ◌-◌, ℕ, List, [], ◌∷◌, ◌++◌, length, take, drop, refl, arith}
use Rattle.std.proofs.lemmas.List.{length-drop, length-take-le, take_at, drop_at, take-append-drop}
use Rattle.acsl_comments.specs.Law.{CommentsComeOut}
use Rattle.acsl_comments.specs.Places.{Ascend}
use Rattle.acsl_comments.specs.Texts.{with_comments, without_comments}
use Rattle.acsl_comments.specs.declared.comment.Comment.{Comment}
use Rattle.acsl_comments.proofs.pieces.Places.{places, ascend_within}

-- from any place on
out_from : (at to : ℕ) (rest : List ℕ) (comments : List Comment) → Ascend at to (places comments) → at + length rest ≡ to
    → without_comments at (with_comments at rest comments) comments ≡ rest
out_from at to rest [] order e = refl
out_from at to rest (c ∷ cs) order e =
    let n = c.place - at in
    let low : at ≤ c.place = order.0 in
    let high : c.place ≤ to = ascend_within c.place to (places cs) order.1 in
    let len : length (take n rest) ≡ n = length-take-le n rest (omega arith) in
    let more = with_comments c.place (drop n rest) cs in
    let back = out_from c.place to (drop n rest) cs order.1 (omega (arith, length-drop n rest)) in
    rw (
      take_at (take n rest) (c.bytes ++ more) n len,
      drop_at (take n rest) (c.bytes ++ more) n len,
      drop_at c.bytes more (length c.bytes) refl,
      back,
    ) (take-append-drop n rest)

-- Taking out what was put in gives the text back.
pub come_out : CommentsComeOut
come_out text comments order = out_from 0 (length text) text comments order (omega arith)
