use Rattle.std.proofs.Common.{refl, inl, inr, arith}
use Rattle.lang_tokens.proofs.comment.Ends.{last_line_comment, plain_line_comment, joined_line_comment}
use Rattle.lang_tokens.proofs.comment.line_comment.Goals as goal

pub returns-then-len-body : goal.returns-then-len-body
returns-then-len-body c = rw c.behind_comment.ensures
    (λ lexicon. last_line_comment lexicon c.args.before c.args.body.now c.line_len-len.result c.line_len-len.ensures.len c.if-len-body.true)

pub returns-in-Some : goal.returns-in-Some
returns-in-Some c = λ lexicon. inr (
  c.in-Some.place,
  refl,
  inl (joined_line_comment c.args.body.now c.line_len-len.result c.in-Some.place c.line_len-len.ensures.len
      (omega (arith, c.line_len-len.ensures.within, c.if-len-body.false)) c.in-Some.ensures.place),
)

pub returns-in-None : goal.returns-in-None
returns-in-None c = rw c.behind_comment-in-None.ensures
    (λ lexicon. plain_line_comment lexicon c.args.before c.args.body.now c.line_len-len.result c.line_len-len.ensures.len
    c.in-None.ensures.place)
