-- The pieces of a text with comments put in.
use Rattle.std.proofs.Common.{◌≡◌, ◌≤◌, ◌<◌, ◌+◌, ◌-◌, ⊎_elim, ℕ, zero, suc, Bool, true, false, List, [], ◌∷◌, ◌++◌, length, map}
use Rattle.std.proofs.Common.{take, inl, inr}
use Rattle.std.proofs.Common.{refl, ap, ap₂, sym, ◌∙◌, subst, arith}
use Rattle.std.proofs.lemmas.List.{append-nil, map-append}
use Rattle.std.proofs.lemmas.Bool.{cases_lt}
use Rattle.std.specs.List.{AllByRecursion}
use Rattle.lang_tokens.specs.Directives.{goes_on_as_comment}
use Rattle.lang_tokens.specs.declared.lexicon.Lexicon.TheVariants.{C}
use Rattle.lang_tokens.specs.declared.token.Aside.{Aside}
use Rattle.lang_tokens.specs.declared.token.Aside.TheVariants as aside
use Rattle.lang_tokens.specs.declared.before.Before.{Before}
use Rattle.lang_tokens.specs.declared.before.Before.TheVariants.{Blanks, Others, Directive}
use Rattle.lang_tokens.specs.declared.sign.Sign.TheVariants.{Slash}
use Rattle.lang_tokens.specs.declared.token.Kind.{Kind}
use Rattle.lang_tokens.specs.declared.token.Kind.TheVariants as kind
use Rattle.lang_tokens.specs.Reading.{Piece, blank, line_comment, block_comment, token, piece_bytes, spelling, AllFit, Fits, ends_line}
use Rattle.lang_tokens.specs.Reading.{is_outside, behind_token, behind_comment, behind, behind_all, IsApart, IsWholeToken, may_stand}
use Rattle.source_constants.specs.Directives.{is_code}
use Rattle.acsl_comments.specs.Places.{Ascend, IsGap}
use Rattle.acsl_comments.specs.Texts.{moved_by, with_comments}
use Rattle.acsl_comments.specs.declared.comment.Comment.{Comment}
use Rattle.acsl_comments.proofs.pieces.Rests.{still_token, still_closed}
use Rattle.acsl_comments.proofs.pieces.Directives.{still_aside, directive_agrees}
use Rattle.acsl_comments.proofs.pieces.Edges.{is_token, IsEdgeIn, IsPieceClear, IsClearIn, MayHold, no_edge_at_line_end}
use Rattle.acsl_comments.proofs.pieces.Lines.{Serves, serves_outside}
use Rattle.acsl_comments.proofs.pieces.Places.{places, ascend_within, moved_before, moved_behind, with_after}
use Rattle.acsl_comments.proofs.pieces.Gaps.{meets_comments}
use Rattle.acsl_comments.proofs.pieces.Placed.{Placed, place_at, piece_placed, placed_from, none_placed, placed-append, spelling-append}
use Rattle.acsl_comments.proofs.pieces.Placed.{fit-append}

-- the place of what is written, where so many bytes were put in before and these comments come
abbrev pub IsMove : ℕ → ℕ → List Comment → (ℕ → ℕ) → Type 0
IsMove at more comments to = (place : ℕ) → at ≤ place → to place ≡ more + moved_by comments place

-- pieces with comments put in: they spell what is written, fit behind what stands then before them in their line, and have the same tokens
-- at the places where these stand then
pub record Mixed (before : Before) (at : ℕ) (pieces : List Piece) (comments : List Comment) : Type 0 where
  -- the pieces with the comments among them
  pub now : List Piece
  -- they spell the text with the comments put in
  pub spelled : spelling now ≡ with_comments at (spelling pieces) comments
  -- they fit up to the end of the text
  pub fit : AllFit C before now []
  -- their tokens are the old ones at the places where these stand then
  pub told : (more : ℕ) (to : ℕ → ℕ) → IsMove at more comments to → placed_from (more + at) now ≡ map (place_at to) (placed_from at pieces)

-- comments that may be put between these pieces
pub record MayStandIn (ended : Bool) (at to : ℕ) (pieces : List Piece) (comments : List Comment) : Type 0 where
  -- the comments stand in order within the text of the pieces
  pub order : Ascend at to (places comments)
  -- each stands where a token begins or ends
  pub held : AllByRecursion (λ c. MayHold ended at pieces c.place) comments
  -- each is made of blanks and comments alone
  pub gaps : AllByRecursion (λ c. IsGap c.bytes) comments
  -- none stands right behind a `/`
  pub apart : AllByRecursion (λ c. IsClearIn at pieces c.place) comments

-- no pieces and no comments
pub mixed_end : (before : Before) (at : ℕ) → Mixed before at [] []
mixed_end before at = record { now = []; spelled = refl; fit = tt; told = λ more to move. refl }

-- a comment right where the pieces start
pub mixed_gap : (before : Before) (at : ℕ) (pieces : List Piece) (c : Comment) (cs : List Comment) (gap : IsGap c.bytes) → c.place ≡ at
    → is_outside before ≡ true → Mixed (behind_all before gap.pieces) at pieces cs → Mixed before at pieces (c ∷ cs)
mixed_gap before at pieces c cs gap here out mixed = record {
  now = gap.pieces ++ mixed.now;
  spelled = spelled;
  fit = fit-append C before gap.pieces mixed.now [] (gap.fit before out (spelling mixed.now ++ [])) mixed.fit;
  told = told;
}
  where
    spelled : spelling (gap.pieces ++ mixed.now) ≡ with_comments at (spelling pieces) (c ∷ cs)
    spelled =
        let none : c.place - at ≡ 0 = omega arith in
        let first : spelling (gap.pieces ++ mixed.now) ≡ c.bytes ++ with_comments at (spelling pieces) cs =
        spelling-append gap.pieces mixed.now ∙ ap₂ (λ (xs ys : List ℕ). xs ++ ys) gap.spelled mixed.spelled in
        rw (none, here) first

    told : (more : ℕ) (to : ℕ → ℕ) → IsMove at more (c ∷ cs) to → placed_from (more + at) (gap.pieces ++ mixed.now)
        ≡ map (place_at to) (placed_from at pieces)
    told more to move =
        let none : placed_from (more + at) gap.pieces ≡ [] = none_placed (more + at) gap.pieces (gap.tokenless (more + at)) in
        let next : more + at + length (spelling gap.pieces) ≡ (more + length c.bytes) + at = omega (arith, ap length gap.spelled) in
        let rest = mixed.told (more + length c.bytes) to (λ place h. omega (arith, move place h, moved_behind c cs place (omega arith))) in
        placed-append (more + at) gap.pieces mixed.now ∙ (ap₂ (λ (xs ys : List Placed). xs ++ ys) none
        (ap (λ (n : ℕ). placed_from n mixed.now) next) ∙ rest)

-- what a comment to the end of the line needs of what follows
ends_more : (n b : ℕ) (rest more : List ℕ) → 0 < n → ends_line (b ∷ rest) ≡ true → ends_line (take n (b ∷ rest) ++ more) ≡ true
ends_more zero b rest more some h = absurd (omega arith)
ends_more (suc n) b rest more some h = h

-- a line still ends where no comment stands right behind it
line_still_ends : (at to : ℕ) (rest : List ℕ) (comments : List Comment) → Ascend at to (places comments) → at + length rest ≡ to
    → AllByRecursion (λ c. c.place ≡ at → ⊥) comments → ends_line rest ≡ true → ends_line (with_comments at rest comments) ≡ true
line_still_ends at to rest [] order e none h = h
line_still_ends at to [] (c ∷ cs) order e none h = absurd (none.0 (omega (arith, order.0, ascend_within c.place to (places cs) order.1)))
line_still_ends at to (b ∷ rest) (c ∷ cs) order e none h =
    let later : 0 < c.place - at = ⊎_elim (λ (l : at < c.place). omega arith)
    (λ (l : c.place ≤ at). absurd (none.0 (omega (arith, order.0)))) (cases_lt at c.place) in
    ends_more (c.place - at) b rest _ later h

-- nothing follows the last line still, where no comment stands right behind it
line_still_last : (at to : ℕ) (rest : List ℕ) (comments : List Comment) → Ascend at to (places comments) → at + length rest ≡ to
    → AllByRecursion (λ c. c.place ≡ at → ⊥) comments → rest ≡ [] → with_comments at rest comments ≡ []
line_still_last at to rest [] order e none h = h
line_still_last at to rest (c ∷ cs) order e none h =
    absurd (none.0 (omega (arith, order.0, ascend_within c.place to (places cs) order.1, ap length h)))

-- no comment stands right behind a line comment
none_held : (before : Before) (at : ℕ) (pieces : List Piece) (comments : List Comment) → AllFit C before pieces []
    → ends_line (spelling pieces ++ []) ≡ true → AllByRecursion (λ c. MayHold false at pieces c.place) comments
    → AllByRecursion (λ c. c.place ≡ at → ⊥) comments
none_held before at pieces [] fit h held = tt
none_held before at pieces (c ∷ cs) fit h held = (
  λ e. no_edge_at_line_end before at pieces fit h (subst (MayHold false at pieces) e held.0),
  none_held before at pieces cs fit h held.1,
)

goes_more : (n b : ℕ) (rest more : List ℕ) → 0 < n → goes_on_as_comment (b ∷ rest) ≡ false
    → goes_on_as_comment (take n (b ∷ rest) ++ more) ≡ false
goes_more zero b rest more some h = absurd (omega arith)
goes_more (suc n) b rest more some h = h

-- nothing makes a `/` the start of a comment, where no comment stands right behind it and nothing did so
slash_apart : (at to : ℕ) (rest : List ℕ) (comments : List Comment) → Ascend at to (places comments) → at + length rest ≡ to
    → AllByRecursion (λ c. c.place ≡ at → ⊥) comments → goes_on_as_comment rest ≡ false
    → goes_on_as_comment (with_comments at rest comments) ≡ false
slash_apart at to rest [] order e none h = h
slash_apart at to [] (c ∷ cs) order e none h = absurd (none.0 (omega (arith, order.0, ascend_within c.place to (places cs) order.1)))
slash_apart at to (b ∷ rest) (c ∷ cs) order e none h =
    let later : 0 < c.place - at = ⊎_elim (λ (l : at < c.place). omega arith)
    (λ (l : c.place ≤ at). absurd (none.0 (omega (arith, order.0)))) (cases_lt at c.place) in
    goes_more (c.place - at) b rest _ later h

-- no comment stands right behind a `/`
none_behind : (at : ℕ) (k : Kind) (bytes : List ℕ) (comments : List Comment) → k ≡ kind.Sign Slash
    → AllByRecursion (λ c. IsPieceClear at (token k bytes) c.place) comments
    → AllByRecursion (λ c. c.place ≡ at + length bytes → ⊥) comments
none_behind at k bytes [] slash clear = tt
none_behind at k bytes (c ∷ cs) slash clear = (clear.0 slash, none_behind at k bytes cs slash clear.1)

-- a `/` is no start of a comment where it is a whole token
whole_slash : (k : Kind) (bytes rest : List ℕ) → k ≡ kind.Sign Slash → IsWholeToken C k bytes rest → goes_on_as_comment rest ≡ false
whole_slash k bytes rest slash t =
    let apart : IsApart (kind.Sign Slash) bytes rest = subst (λ (x : Kind). IsApart x bytes rest) slash t.apart in apart

-- each comment is at the edge of a token of the pieces, where none has ended before them
edges_held : (at : ℕ) (pieces : List Piece) (comments : List Comment) → AllByRecursion (λ c. MayHold false at pieces c.place) comments
    → AllByRecursion (λ c. IsEdgeIn at pieces c.place) comments
edges_held at pieces [] held = tt
edges_held at pieces (c ∷ cs) held = (
  ⊎_elim
      (λ none. let no_end : false ≡ true = none.0 in absurd cc)
      (λ edge. edge)
      held.0,
  edges_held at pieces cs held.1,
)

-- a token may stand where it did
still_stands : (was now : Before) (k : Kind) (bytes : List ℕ) (pieces : List Piece) → Serves was now (token k bytes ∷ pieces)
    → may_stand C was k ≡ true → may_stand C now k ≡ true
still_stands was now (kind.Aside sort) bytes pieces serves h = by_sort was sort serves h where
  by_sort : (was : Before) (sort : Aside) → Serves was now (token (kind.Aside sort) bytes ∷ pieces)
      → may_stand C was (kind.Aside sort) ≡ true
      → may_stand C now (kind.Aside sort) ≡ true
  by_sort Blanks aside.Hash (inl same) i = rw same refl
  by_sort Blanks aside.Hash (inr j) i = let none : false ≡ true = j.1 in cc
  by_sort Blanks _ j i = let none : false ≡ true = i in cc
  by_sort Others aside.Hash j i = let none : false ≡ true = i in cc
  by_sort Others _ j i = let none : false ≡ true = i in cc
  by_sort Directive aside.Hash j i = let none : false ≡ true = i in cc
  by_sort Directive _ j i = rw j refl
still_stands was now _ bytes pieces serves h = serves_outside was now _ h serves

-- the tokens of directives and those of code
token_fits : (was now : Before) (at to : ℕ) (k : Kind) (bytes : List ℕ) (pieces : List Piece) (comments : List Comment)
    → MayStandIn (is_code k) (at + length bytes) to pieces comments
    → AllByRecursion (λ c. IsPieceClear at (token k bytes) c.place) comments → at + length bytes + length (spelling pieces) ≡ to
    → AllFit C (behind_token k) pieces [] → IsWholeToken C k bytes (spelling pieces)
    → IsWholeToken C k bytes (with_comments (at + length bytes) (spelling pieces) comments)
token_fits was now at to (kind.Aside sort) bytes pieces comments stand clear e fit whole =
    still_aside sort bytes (spelling pieces) (with_comments (at + length bytes) (spelling pieces) comments)
    (directive_agrees (at + length bytes) to pieces comments fit (edges_held (at + length bytes) pieces comments stand.held) stand.order
    e) whole
token_fits was now at to k bytes pieces comments stand clear e fit whole =
    still_token k bytes (spelling pieces) (with_comments (at + length bytes) (spelling pieces) comments) refl
    (meets_comments (at + length bytes) (spelling pieces) comments stand.gaps)
    (λ slash. slash_apart (at + length bytes) to (spelling pieces) comments stand.order e
    (none_behind at k bytes comments slash clear) (whole_slash k bytes (spelling pieces) slash whole))
    whole

-- a piece still fits
pub still_fits : (was now : Before) (at to : ℕ) (piece : Piece) (pieces : List Piece) (comments : List Comment)
    → Serves was now (piece ∷ pieces) → MayStandIn (is_token piece) (at + length (piece_bytes piece)) to pieces comments
    → AllByRecursion (λ c. IsPieceClear at piece c.place) comments → at + length (piece_bytes piece) + length (spelling pieces) ≡ to
    → AllFit C was (piece ∷ pieces) []
    → Fits C now piece (with_comments (at + length (piece_bytes piece)) (spelling pieces) comments)
still_fits was now at to (blank b) pieces comments serves stand clear e fit = fit.0
still_fits was now at to (block_comment body) pieces comments serves stand clear e fit = (
  still_closed body (spelling pieces ++ [])
      (with_comments (at + length (piece_bytes (block_comment body))) (spelling pieces) comments) fit.0.0,
  fit.0.1,
)
still_fits was now at to (token k bytes) pieces comments serves stand clear e fit = (
  still_stands was now k bytes pieces serves fit.0.0,
  token_fits was now at to k bytes pieces comments stand clear e fit.1
      (subst (IsWholeToken C k bytes) (append-nil (spelling pieces)) fit.0.1),
)
still_fits was now at to (line_comment body) pieces comments serves stand clear e fit = (
  fit.0.0,
  line_still_ends next to (spelling pieces) comments stand.order e none (rw (append-nil (spelling pieces)) at fit.0.1),
  λ place ends. line_still_last next to (spelling pieces) comments stand.order e none
      (rw (append-nil (spelling pieces)) at (fit.0.2 place ends)),
)
  where
    next : ℕ
    next = at + length (piece_bytes (line_comment body))

    none : AllByRecursion (λ c. c.place ≡ next → ⊥) comments
    none = none_held (behind_comment was) next pieces comments fit.1 fit.0.1 stand.held

-- the token of a piece at another place
piece_moved : (at here : ℕ) (to : ℕ → ℕ) (piece : Piece) → to at ≡ here
    → piece_placed here piece ≡ map (place_at to) (piece_placed at piece)
piece_moved at here to (token kind bytes) e = rw e refl
piece_moved at here to (blank b) e = refl
piece_moved at here to (line_comment body) e = refl
piece_moved at here to (block_comment body) e = refl

-- a piece before all comments
pub mixed_piece : (before : Before) (at to : ℕ) (piece : Piece) (pieces : List Piece) (comments : List Comment)
    → Ascend (at + length (piece_bytes piece)) to (places comments) → 0 < length (piece_bytes piece)
    → Fits C before piece (with_comments (at + length (piece_bytes piece)) (spelling pieces) comments)
    → Mixed (behind before piece) (at + length (piece_bytes piece)) pieces comments → Mixed before at (piece ∷ pieces) comments
mixed_piece before at to piece pieces comments order some fits mixed = record {
  now = piece ∷ mixed.now;
  spelled = ap (λ (bs : List ℕ). piece_bytes piece ++ bs) mixed.spelled
      ∙ with_after at to (piece_bytes piece) (spelling pieces) comments order;
  fit = (rw (append-nil (spelling mixed.now), mixed.spelled) fits, mixed.fit);
  told = told;
}
  where
    told : (more : ℕ) (move : ℕ → ℕ) → IsMove at more comments move → placed_from (more + at) (piece ∷ mixed.now)
        ≡ map (place_at move) (placed_from at (piece ∷ pieces))
    told more move is =
        let next = at + length (piece_bytes piece) in
        let here : move at ≡ more + at = omega (arith, is at (omega arith), moved_before comments next to at order (omega arith)) in
        let there : more + at + length (piece_bytes piece) ≡ more + next = omega arith in
        let rest = mixed.told more move (λ place h. is place (omega arith)) in
        ap₂ (λ (xs ys : List Placed). xs ++ ys) (piece_moved at (more + at) move piece here)
        (ap (λ (n : ℕ). placed_from n mixed.now) there ∙ rest)
        ∙ sym (map-append (place_at move) (piece_placed at piece) (placed_from next pieces))
