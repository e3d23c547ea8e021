-- Comments put between the pieces of a text, from the first piece to the last.
use Rattle.std.proofs.Common.{◌≡◌, ◌≤◌, ◌<◌, ◌+◌, ◌⊎◌, inl, inr, ⊎_elim, ℕ, Bool, true, false, List, [], ◌∷◌, ◌++◌, length, refl, subst}
use Rattle.std.proofs.Common.{arith}
use Rattle.std.proofs.lemmas.List.{length-append}
use Rattle.std.proofs.lemmas.Bool.{cases_lt}
use Rattle.std.specs.List.{AllByRecursion}
use Rattle.lang_tokens.specs.declared.lexicon.Lexicon.TheVariants.{C}
use Rattle.lang_tokens.specs.declared.token.Kind.TheVariants as kind
use Rattle.lang_tokens.specs.declared.before.Before.{Before}
use Rattle.lang_tokens.specs.declared.before.Before.TheVariants.{Others}
use Rattle.lang_tokens.specs.Reading.{Piece, blank, line_comment, block_comment, token, piece_bytes, spelling, AllFit, is_outside, behind}
use Rattle.lang_tokens.specs.Reading.{behind_all}
use Rattle.acsl_comments.proofs.pieces.Plain.{piece_some}
use Rattle.acsl_comments.specs.Places.{Ascend, IsGap}
use Rattle.acsl_comments.specs.declared.comment.Comment.{Comment}
use Rattle.acsl_comments.proofs.pieces.Edges.{is_token, IsEdgeIn, IsPieceClear, IsClearIn, MayHold, edge_behind, held_behind}
use Rattle.acsl_comments.proofs.pieces.Edges.{held_later}
use Rattle.acsl_comments.proofs.pieces.Gaps.{gap_outside}
use Rattle.acsl_comments.proofs.pieces.Lines.{starts_with_token, Serves, serves_outside, outside_serves, serves_on}
use Rattle.acsl_comments.proofs.pieces.Places.{places, ascend_within}
use Rattle.acsl_comments.proofs.pieces.Steps.{Mixed, MayStandIn, mixed_end, mixed_gap, mixed_piece, still_fits}

-- comments that may stand behind the start of a piece may stand among the next ones
held_on : (ended : Bool) (at from to : ℕ) (piece : Piece) (pieces : List Piece) (comments : List Comment) → Ascend from to (places comments)
    → at < from → AllByRecursion (λ c. MayHold ended at (piece ∷ pieces) c.place) comments
    → AllByRecursion (λ c. MayHold (is_token piece) (at + length (piece_bytes piece)) pieces c.place) comments
held_on ended at from to piece pieces [] order later held = tt
held_on ended at from to piece pieces (c ∷ cs) order later held =
    let behind : at < c.place = omega (arith, order.0) in
    (held_later ended at piece pieces c.place held.0 behind, held_on ended at c.place to piece pieces cs order.1 behind held.1)

-- and they are in order from the end of the piece on
order_on : (ended : Bool) (at from to : ℕ) (pieces : List Piece) (comments : List Comment)
    → AllByRecursion (λ c. MayHold ended at pieces c.place) comments → Ascend from to (places comments) → at ≤ to
    → Ascend at to (places comments)
order_on ended at from to pieces [] held order within = within
order_on ended at from to pieces (c ∷ cs) held order within = (held_behind ended at pieces c.place held.0, order.1)

-- none stands right behind a `/` of the piece, or of those behind it
clear_first : (at : ℕ) (piece : Piece) (pieces : List Piece) (comments : List Comment)
    → AllByRecursion (λ c. IsClearIn at (piece ∷ pieces) c.place) comments → AllByRecursion (λ c. IsPieceClear at piece c.place) comments
clear_first at piece pieces [] clear = tt
clear_first at piece pieces (c ∷ cs) clear = (clear.0.0, clear_first at piece pieces cs clear.1)

clear_on : (at : ℕ) (piece : Piece) (pieces : List Piece) (comments : List Comment)
    → AllByRecursion (λ c. IsClearIn at (piece ∷ pieces) c.place) comments
    → AllByRecursion (λ c. IsClearIn (at + length (piece_bytes piece)) pieces c.place) comments
clear_on at piece pieces [] clear = tt
clear_on at piece pieces (c ∷ cs) clear = (clear.0.1, clear_on at piece pieces cs clear.1)

-- comments behind the start of a piece stand behind its end
stand_on : (ended : Bool) (at from to : ℕ) (piece : Piece) (pieces : List Piece) (comments : List Comment)
    → MayStandIn ended at to (piece ∷ pieces) comments → Ascend from to (places comments) → at < from → at + length (piece_bytes piece) ≤ to
    → MayStandIn (is_token piece) (at + length (piece_bytes piece)) to pieces comments
stand_on ended at from to piece pieces comments stand order later within =
    let held = held_on ended at from to piece pieces comments order later stand.held in
    record {
      order = order_on (is_token piece) (at + length (piece_bytes piece)) from to pieces comments held order within;
      held =
          held;
      gaps = stand.gaps;
      apart = clear_on at piece pieces comments stand.apart;
    }

-- the comments behind one that stands right where the pieces start
stand_next : (ended : Bool) (at to : ℕ) (pieces : List Piece) (c : Comment) (cs : List Comment) → c.place ≡ at
    → MayStandIn ended at to pieces (c ∷ cs) → MayStandIn ended at to pieces cs
stand_next ended at to pieces c cs here stand = record {
  order = subst (λ (n : ℕ). Ascend n to (places cs)) here stand.order.1;
  held =
      stand.held.1;
  gaps = stand.gaps.1;
  apart = stand.apart.1;
}

-- where the pieces behind the first one end
next_end : (at to : ℕ) (piece : Piece) (pieces : List Piece) → at + length (spelling (piece ∷ pieces)) ≡ to
    → at + length (piece_bytes piece) + length (spelling pieces) ≡ to
next_end at to piece pieces end = omega (arith, end, length-append (piece_bytes piece) (spelling pieces))

-- where a token of no directive has ended, it stands before in the line
abbrev Ended : Bool → Before → Type 0
Ended ended was = ended ≡ true → was ≡ Others

-- behind a token it does
token_ended : (was : Before) (piece : Piece) → Ended (is_token piece) (behind was piece)
token_ended was (token (kind.Aside sort) bytes) h = let none : false ≡ true = h in cc
token_ended was (token _ bytes) h = refl
token_ended was (blank b) h = cc
token_ended was (line_comment body) h = cc
token_ended was (block_comment body) h = cc

-- a place that is an edge where the pieces start is the beginning of a token
token_first : (was : Before) (at : ℕ) (pieces : List Piece) → AllFit C was pieces [] → IsEdgeIn at pieces at
    → starts_with_token pieces ≡ true
token_first was at [] fit e = absurd e
token_first was at (token k bytes ∷ pieces) fit (inl e) = e.0
token_first was at (piece ∷ pieces) fit (inr e) = absurd (omega (
  arith,
  edge_behind (at + length (piece_bytes piece)) pieces at e,
  piece_some was piece (spelling pieces ++ []) fit.0,
))
token_first was at (blank b ∷ pieces) fit (inl e) = absurd e
token_first was at (line_comment body ∷ pieces) fit (inl e) = absurd e
token_first was at (block_comment body ∷ pieces) fit (inl e) = absurd e

-- no directive goes on where a token begins
token_outside : (was : Before) (pieces : List Piece) → AllFit C was pieces [] → starts_with_token pieces ≡ true → is_outside was ≡ true
token_outside was [] fit h = cc
token_outside was (token (kind.Aside sort) bytes ∷ pieces) fit h = let none : false ≡ true = h in cc
token_outside was (token _ bytes ∷ pieces) fit h = fit.0.0
token_outside was (blank b ∷ pieces) fit h = cc
token_outside was (line_comment body ∷ pieces) fit h = cc
token_outside was (block_comment body ∷ pieces) fit h = cc

-- Where a comment may stand right before the pieces: no directive goes on, and something stands before in the line or a token follows.
record IsFree (was : Before) (pieces : List Piece) : Type 0 where
  out : is_outside was ≡ true
  free : (was ≡ Others) ⊎ (starts_with_token pieces ≡ true)

held_free : (ended : Bool) (was : Before) (at place : ℕ) (pieces : List Piece) → Ended ended was → AllFit C was pieces [] → place ≡ at
    → MayHold ended at pieces place → IsFree was pieces
held_free ended was at place pieces end fit here (inl h) =
    let is : was ≡ Others = end h.0 in
    record { out = rw is refl; free = inl is }
held_free ended was at place pieces end fit here (inr e) =
    let first = token_first was at pieces fit (subst (IsEdgeIn at pieces) here e) in
    record { out = token_outside was pieces fit first; free = inr first }

-- behind a gap that may stand there, what stands then before the pieces serves
gap_serves : (was now : Before) (pieces : List Piece) (bytes : List ℕ) (gap : IsGap bytes) → IsFree was pieces → Serves was now pieces
    → Serves was (behind_all now gap.pieces) pieces
gap_serves was now pieces bytes gap free serves = outside_serves was (behind_all now gap.pieces) pieces free.out
    (gap_outside now gap.pieces (serves_outside was now pieces free.out serves) gap.plain) free.free

module _ (was : Before) (at to : ℕ) (piece : Piece) (pieces : List Piece) (fit : AllFit C was (piece ∷ pieces) [])
    (end : at + length (spelling (piece ∷ pieces)) ≡ to) (on : (now : Before) (comments : List Comment)
    → Serves (behind was piece) now pieces
    → MayStandIn (is_token piece) (at + length (piece_bytes piece)) to pieces comments
    → Mixed now (at + length (piece_bytes piece)) pieces comments) where
  -- the first piece stands before all comments
  go_on : (now : Before) (comments : List Comment) → Serves was now (piece ∷ pieces)
      → MayStandIn (is_token piece) (at + length (piece_bytes piece)) to pieces comments
      → AllByRecursion (λ c. IsPieceClear at piece c.place) comments → Mixed now at (piece ∷ pieces) comments
  go_on now comments serves stand clear =
      mixed_piece now at to piece pieces comments stand.order (piece_some was piece (spelling pieces ++ []) fit.0)
      (still_fits was now at to piece pieces comments serves stand clear (next_end at to piece pieces end) fit)
      (on (behind now piece) comments (serves_on was now piece pieces serves) stand)

  -- comments right where the first piece starts, and then the others
  mixed_here : (ended : Bool) → Ended ended was → (now : Before) (comments : List Comment) → Serves was now (piece ∷ pieces)
      → MayStandIn ended at to (piece ∷ pieces) comments → Mixed now at (piece ∷ pieces) comments
  mixed_here ended ends now [] serves stand = go_on now [] serves
      (record { order = omega (arith, next_end at to piece pieces end); held = tt; gaps = tt; apart = tt }) tt
  mixed_here ended ends now (c ∷ cs) serves stand = ⊎_elim
      (λ (later : at < c.place). go_on now (c ∷ cs) serves
      (stand_on ended at c.place to piece pieces (c ∷ cs) stand (omega arith, stand.order.1) later
      (omega (arith, next_end at to piece pieces end)))
      (clear_first at piece pieces (c ∷ cs) stand.apart))
      (λ (here : c.place ≤ at).
      let same : c.place ≡ at = omega (arith, stand.order.0) in
      let free = held_free ended was at c.place (piece ∷ pieces) ends fit same stand.held.0 in
      let gap : IsGap c.bytes = stand.gaps.0 in
      mixed_gap now at (piece ∷ pieces) c cs gap same (serves_outside was now (piece ∷ pieces) free.out serves)
      (mixed_here ended ends (behind_all now gap.pieces) cs (gap_serves was now (piece ∷ pieces) c.bytes gap free serves)
      (stand_next ended at to (piece ∷ pieces) c cs same stand)))
      (cases_lt at c.place)

-- comments behind the last piece
mixed_last : (ended : Bool) (was : Before) → Ended ended was → (now : Before) (at : ℕ) (comments : List Comment) → Serves was now []
    → MayStandIn ended at at [] comments → Mixed now at [] comments
mixed_last ended was ends now at [] serves stand = mixed_end now at
mixed_last ended was ends now at (c ∷ cs) serves stand =
    let same : c.place ≡ at = omega (arith, stand.order.0, ascend_within c.place at (places cs) stand.order.1) in
    let free = held_free ended was at c.place [] ends tt same stand.held.0 in
    let gap : IsGap c.bytes = stand.gaps.0 in
    mixed_gap now at [] c cs gap same (serves_outside was now [] free.out serves)
    (mixed_last ended was ends (behind_all now gap.pieces) at cs (gap_serves was now [] c.bytes gap free serves)
    (stand_next ended at at [] c cs same stand))

-- comments that may stand between pieces can be put there
pub mixed_from : (ended : Bool) (was : Before) (at to : ℕ) (pieces : List Piece) → (ended ≡ true → was ≡ Others) → AllFit C was pieces []
    → at + length (spelling pieces) ≡ to → (now : Before) (comments : List Comment) → Serves was now pieces
    → MayStandIn ended at to pieces comments → Mixed now at pieces comments
mixed_from ended was at to [] ends fit end now comments serves stand =
    let same : to ≡ at = omega arith in
    mixed_last ended was ends now at comments serves (rw same at stand)
mixed_from ended was at to (piece ∷ pieces) ends fit end now comments serves stand =
    mixed_here was at to piece pieces fit end
    (mixed_from (is_token piece) (behind was piece) (at + length (piece_bytes piece)) to pieces (token_ended was piece) fit.1
    (next_end at to piece pieces end))
    ended ends now comments serves stand
