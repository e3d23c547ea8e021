use Rattle.std.proofs.Common.{refl, inr}
use Rattle.lang_tokens.proofs.comment.Ends.{block_comment_stands, joined_block_stands, joined_open_stands, open_comment_stands}
use Rattle.lang_tokens.proofs.comment.block_comment.Goals as goal

pub returns-in-Some-first_joint : goal.returns-in-Some-first_joint
returns-in-Some-first_joint c = λ lexicon. inr (
  c.in-Some-first_joint.star,
  refl,
  inr (joined_block_stands c.args.rest.now c.requires.some c.requires.slash c.requires.star c.in-Some.close c.in-Some-first_joint.star
      c.in-Some.ensures.place c.in-Some-first_joint.ensures.place),
)

pub returns-in-None-first_joint : goal.returns-in-None-first_joint
returns-in-None-first_joint c = rw c.behind_comment.ensures
    (λ lexicon. block_comment_stands c.args.rest.now c.requires.some c.requires.slash c.requires.star lexicon c.args.before c.in-Some.close
    c.in-Some.ensures.place c.in-None-first_joint.ensures.place)

pub returns-in-Some-first_joint-2 : goal.returns-in-Some-first_joint-2
returns-in-Some-first_joint-2 c = λ lexicon. inr (
  c.in-Some-first_joint-2.star,
  refl,
  inr (joined_open_stands c.args.rest.now c.requires.some c.requires.slash c.requires.star c.in-Some-first_joint-2.star
      c.in-None.ensures.place c.in-Some-first_joint-2.ensures.place),
)

pub returns-in-None-first_joint-2 : goal.returns-in-None-first_joint-2
returns-in-None-first_joint-2 c = λ lexicon. (
  refl,
  open_comment_stands c.args.rest.now c.requires.some c.requires.slash c.requires.star
      c.in-None.ensures.place c.in-None-first_joint-2.ensures.place,
)
