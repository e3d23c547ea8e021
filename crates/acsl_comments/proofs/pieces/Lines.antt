-- What stands before a place in its line, in a text and in the same with comments put in.
use Rattle.std.proofs.Common.{◌≡◌, ◌⊎◌, inl, inr, ℕ, Bool, true, false, cond, eqb, List, [], ◌∷◌, refl}
use Rattle.lang_tokens.specs.declared.before.Before.{Before}
use Rattle.lang_tokens.specs.declared.before.Before.TheVariants.{Blanks, Others, Directive}
use Rattle.lang_tokens.specs.Reading.{Piece, blank, line_comment, block_comment, token, is_outside, behind_comment, behind_token, behind}
use Rattle.acsl_comments.proofs.pieces.Edges.{is_token}

-- the first piece is a token of no directive
abbrev pub starts_with_token : List Piece → Bool
starts_with_token [] = false
starts_with_token (piece ∷ pieces) = is_token piece

-- What stands in its line before the pieces then does for what stood there: a directive goes on if it did, and a line begins where it did,
-- unless a token of no directive follows, which needs no beginning of a line.
abbrev pub Serves : Before → Before → List Piece → Type 0
Serves Directive now pieces = now ≡ Directive
Serves Others now pieces = is_outside now ≡ true
Serves Blanks now pieces = (now ≡ Blanks) ⊎ ((is_outside now ≡ true) × (starts_with_token pieces ≡ true))

-- where no directive went on, none goes on then
pub serves_outside : (was now : Before) (pieces : List Piece) → is_outside was ≡ true → Serves was now pieces → is_outside now ≡ true
serves_outside Blanks now pieces out (inl same) = rw same refl
serves_outside Blanks now pieces out (inr h) = h.0
serves_outside Others now pieces out h = h
serves_outside Directive now pieces out h = cc

-- where no directive went on and a token follows, or something stood before in the line, nothing more is needed
pub outside_serves : (was now : Before) (pieces : List Piece) → is_outside was ≡ true → is_outside now ≡ true
    → (was ≡ Others) ⊎ (starts_with_token pieces ≡ true) → Serves was now pieces
outside_serves Blanks now pieces out too (inl same) = cc
outside_serves Blanks now pieces out too (inr h) = inr (too, h)
outside_serves Others now pieces out too h = too
outside_serves Directive now pieces out too h = cc

-- what stands then behind a blank byte that is neither a line feed nor the `#` of a directive
blank_on : (was now : Before) (b : ℕ) (pieces : List Piece) → Serves was now (blank b ∷ pieces) → Serves was now pieces
blank_on Blanks now b pieces (inl same) = inl same
blank_on Blanks now b pieces (inr h) = let none : false ≡ true = h.1 in cc
blank_on Others now b pieces h = h
blank_on Directive now b pieces h = h

-- behind a blank byte it serves, too
blank_serves : (was now : Before) (b : ℕ) (pieces : List Piece) (feed hash : Bool) → Serves was now (blank b ∷ pieces)
    → Serves (cond feed Blanks (cond hash Directive was)) (cond feed Blanks (cond hash Directive now)) pieces
blank_serves was now b pieces true hash h = inl refl
blank_serves was now b pieces false true h = refl
blank_serves was now b pieces false false h = blank_on was now b pieces h

-- behind a comment it does
comment_serves : (was now : Before) (pieces more : List Piece) → Serves was now pieces
    → Serves (behind_comment was) (behind_comment now) more
comment_serves Directive now pieces more h = rw h refl
comment_serves Others Blanks pieces more h = refl
comment_serves Others Others pieces more h = refl
comment_serves Others Directive pieces more h = cc
comment_serves Blanks Blanks pieces more h = refl
comment_serves Blanks Others pieces more h = refl
comment_serves Blanks Directive pieces more (inl same) = cc
comment_serves Blanks Directive pieces more (inr h) = let none : false ≡ true = h.0 in cc

-- what stands there serves itself
serves_itself : (before : Before) (pieces : List Piece) → Serves before before pieces
serves_itself Blanks pieces = inl refl
serves_itself Others pieces = refl
serves_itself Directive pieces = refl

-- behind a piece it does
pub serves_on : (was now : Before) (piece : Piece) (pieces : List Piece) → Serves was now (piece ∷ pieces)
    → Serves (behind was piece) (behind now piece) pieces
serves_on was now (blank b) pieces h = blank_serves was now b pieces (eqb b 10) (eqb b 35) h
serves_on was now (line_comment body) pieces h = comment_serves was now (line_comment body ∷ pieces) pieces h
serves_on was now (block_comment body) pieces h = comment_serves was now (block_comment body ∷ pieces) pieces h
serves_on was now (token kind bytes) pieces h = serves_itself (behind_token kind) pieces
