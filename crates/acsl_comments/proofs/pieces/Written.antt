-- A text that is written comment by comment.
use Rattle.std.proofs.Common.{◌≡◌, ◌≤◌, ◌<◌, ◌+◌, ℕ, suc, List, ◌∷◌, length, drop, get_or, ap, sym, ◌∙◌, subst, arith}
use Rattle.std.proofs.Math.Seq.{drop-cons}
use Rattle.acsl_comments.specs.Places.{Ascend}
use Rattle.acsl_comments.specs.declared.comment.Comment.{Comment}
use Rattle.acsl_comments.proofs.pieces.Places.{places, ascend_within}

-- the comments from one on
pub comments_from : (comments : List Comment) (i : ℕ) (c : Comment) → i < length comments → c ≡ get_or comments i c
    → drop i comments ≡ c ∷ drop (i + 1) comments
comments_from comments i c within is =
    let next : i + 1 ≡ suc i = omega arith in
    rw next (drop-cons comments i c within ∙ ap (λ (d : Comment). d ∷ drop (suc i) comments) (sym is))

-- the next comment stands within the text, behind what is written
pub record IsNext (at to : ℕ) (c : Comment) (cs : List Comment) : Type 0 where
  -- the comment stands at the place that is written up to, or later
  pub low : at ≤ c.place
  -- the comment stands within the text
  pub high : c.place ≤ to
  -- the further comments stand in order after it
  pub order : Ascend c.place to (places cs)

-- the next comment of those that are in order
pub next_order : (at to : ℕ) (comments : List Comment) (i : ℕ) (c : Comment) → i < length comments → c ≡ get_or comments i c
    → Ascend at to (places (drop i comments)) → IsNext at to c (drop (i + 1) comments)
next_order at to comments i c within is order =
    let cs = drop (i + 1) comments in
    let whole : Ascend at to (places (c ∷ cs)) = subst (λ (x : List Comment). Ascend at to (places x))
    (comments_from comments i c within is) order in
    record { low = whole.0; high = ascend_within c.place to (places cs) whole.1; order = whole.1 }
