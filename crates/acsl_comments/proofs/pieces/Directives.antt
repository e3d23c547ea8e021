-- In a directive no comment is put in, so a text goes on there as it did, up to the line feed behind it.
use Rattle.std.proofs.Common.{◌≡◌, ◌≤◌, ◌+◌, ⊎_elim, inl, inr, ℕ, suc, Bool, true, false, cond, ◌||◌, ◌&&◌, eqb, List, [], ◌∷◌, ◌++◌}
use Rattle.std.proofs.Common.{length, take, drop, codes, refl, ap, ap₂, sym, ◌∙◌, subst, arith}
use Rattle.std.proofs.lemmas.List.{append_assoc, length-append}
use Rattle.std.proofs.lemmas.Bool.{cases_Bool, eqb-true}
use Rattle.std.specs.List.{AllByRecursion, prefix_len}
use Rattle.std.specs.Str.{bytes_eq}
use Rattle.lang_tokens.specs.Bytes.{is_line_blank, is_space, is_word_byte}
use Rattle.lang_tokens.specs.Directives.{is_blank_to_feed, goes_on_as_comment, starts_with_digit, starts_with_letter, behind_spaces}
use Rattle.lang_tokens.specs.Directives.{is_joint}
use Rattle.lang_tokens.specs.Directives.{is_directive_word, names_definition, names_directive, is_directive}
use Rattle.lang_tokens.specs.declared.lexicon.Lexicon.TheVariants.{C}
use Rattle.lang_tokens.specs.declared.sign.Sign.{Sign}
use Rattle.lang_tokens.specs.declared.sign.Sign.TheVariants.{LeftParen, Slash}
use Rattle.lang_tokens.specs.declared.token.Aside.{Aside}
use Rattle.lang_tokens.specs.declared.token.Aside.TheVariants as aside
use Rattle.lang_tokens.specs.declared.token.Kind.TheVariants as kind
use Rattle.lang_tokens.specs.declared.before.Before.{Before}
use Rattle.lang_tokens.specs.declared.before.Before.TheVariants.{Directive}
use Rattle.lang_tokens.specs.Lexemes.{IsToken}
use Rattle.lang_tokens.specs.Reading.{Piece, blank, line_comment, block_comment, token, piece_bytes, spelling, AllFit, behind_blank}
use Rattle.lang_tokens.specs.Reading.{IsLongest}
use Rattle.lang_tokens.specs.Reading.{IsSignApart, IsApart, IsWholeToken}
use Rattle.acsl_comments.specs.Places.{Ascend}
use Rattle.acsl_comments.specs.Texts.{with_comments}
use Rattle.acsl_comments.specs.declared.comment.Comment.{Comment}
use Rattle.acsl_comments.proofs.pieces.Edges.{is_token, IsEdgeIn, edge_behind}
use Rattle.acsl_comments.proofs.pieces.Places.{places, with_after}
use Rattle.acsl_comments.proofs.pieces.Rests.{longest_to_feed}

-- Two rests are the same, or begin alike up to a line feed and further.
pub data Agree (rest now : List ℕ) : Type 0 where
  all_alike : rest ≡ now → Agree rest now
  alike_to_feed : (front before after : List ℕ) → front ++ 10 ∷ before ≡ rest → front ++ 10 ∷ after ≡ now → Agree rest now

-- behind the same bytes they do so, too
agree_behind : (bytes rest now : List ℕ) → Agree rest now → Agree (bytes ++ rest) (bytes ++ now)
agree_behind bytes rest now (all_alike e) = all_alike (ap (λ (r : List ℕ). bytes ++ r) e)
agree_behind bytes rest now (alike_to_feed front before after e f) = alike_to_feed (bytes ++ front) before after
    (append_assoc bytes front (10 ∷ before) ∙ ap (λ (r : List ℕ). bytes ++ r) e)
    (append_assoc bytes front (10 ∷ after) ∙ ap (λ (r : List ℕ). bytes ++ r) f)

-- what is told by a function that looks no further than a line feed is told alike
told_alike : {A : Type 0} (f : List ℕ → A) → ((front before after : List ℕ) → f (front ++ 10 ∷ before) ≡ f (front ++ 10 ∷ after))
    → (rest now : List ℕ) → Agree rest now → f rest ≡ f now
told_alike f far rest now (all_alike e) = ap f e
told_alike f far rest now (alike_to_feed front before after e g) = sym (ap f e) ∙ (far front before after ∙ ap f g)

blank_far : (front before after : List ℕ) → is_blank_to_feed (front ++ 10 ∷ before) ≡ is_blank_to_feed (front ++ 10 ∷ after)
blank_far [] before after = refl
blank_far (b ∷ front) before after = ap (λ (t : Bool). (eqb b 10) || (is_line_blank b && t)) (blank_far front before after)

comment_far : (front before after : List ℕ) → goes_on_as_comment (front ++ 10 ∷ before) ≡ goes_on_as_comment (front ++ 10 ∷ after)
comment_far [] before after = refl
comment_far (b ∷ front) before after = refl

digit_far : (front before after : List ℕ) → starts_with_digit (front ++ 10 ∷ before) ≡ starts_with_digit (front ++ 10 ∷ after)
digit_far [] before after = refl
digit_far (b ∷ front) before after = refl

-- the word that stands first
abbrev first_word : List ℕ → List ℕ
first_word text = take (prefix_len is_word_byte text) text

word_cons : (b : ℕ) (xs ys : List ℕ) (n m : ℕ) (t : Bool) → take n xs ≡ take m ys
    → take (cond t (1 + n) 0) (b ∷ xs) ≡ take (cond t (1 + m) 0) (b ∷ ys)
word_cons b xs ys n m true e =
    let one : 1 + n ≡ suc n = omega arith in
    let two : 1 + m ≡ suc m = omega arith in
    rw (one, two) (ap (λ (r : List ℕ). b ∷ r) e)
word_cons b xs ys n m false e = refl

word_far : (front before after : List ℕ) → first_word (front ++ 10 ∷ before) ≡ first_word (front ++ 10 ∷ after)
word_far [] before after = refl
word_far (b ∷ front) before after = word_cons b (front ++ 10 ∷ before) (front ++ 10 ∷ after)
    (prefix_len is_word_byte (front ++ 10 ∷ before)) (prefix_len is_word_byte (front ++ 10 ∷ after)) (is_word_byte b)
    (word_far front before after)

letter_far : (front before after : List ℕ) → starts_with_letter (front ++ 10 ∷ before) ≡ starts_with_letter (front ++ 10 ∷ after)
letter_far [] before after = refl
letter_far (b ∷ front) before after = refl

-- whether a letter stands behind the spaces that stand first
abbrev letter_behind : List ℕ → Bool
letter_behind text = starts_with_letter (behind_spaces text)

-- what stands behind a front of bytes that pass a test is told alike where it is told alike at once
behind_far : (p : ℕ → Bool) (f : List ℕ → Bool)
    → ((front before after : List ℕ) → f (front ++ 10 ∷ before) ≡ f (front ++ 10 ∷ after)) → p 10 ≡ false
    → (front before after : List ℕ) → f (drop (prefix_len p (front ++ 10 ∷ before)) (front ++ 10 ∷ before))
    ≡ f (drop (prefix_len p (front ++ 10 ∷ after)) (front ++ 10 ∷ after))
behind_far p f far stops [] before after = by_first (p 10) stops where
  by_first : (t : Bool) → t ≡ false
      → f (drop (cond t (1 + prefix_len p before) 0) (10 ∷ before)) ≡ f (drop (cond t (1 + prefix_len p after) 0) (10 ∷ after))
  by_first true e = cc
  by_first false e = far [] before after
behind_far p f far stops (b ∷ front) before after =
    by_first (p b) (prefix_len p (front ++ 10 ∷ before)) (prefix_len p (front ++ 10 ∷ after)) (behind_far p f far stops front before after)
  where
    by_first : (t : Bool) (n m : ℕ) → f (drop n (front ++ 10 ∷ before)) ≡ f (drop m (front ++ 10 ∷ after))
        → f (drop (cond t (1 + n) 0) (b ∷ (front ++ 10 ∷ before))) ≡ f (drop (cond t (1 + m) 0) (b ∷ (front ++ 10 ∷ after)))
    by_first true n m e =
        let one : 1 + n ≡ suc n = omega arith in
        let two : 1 + m ≡ suc m = omega arith in
        rw (one, two) e
    by_first false n m e = far (b ∷ front) before after

-- a word, and a letter behind it and spaces
definition_far : (front before after : List ℕ) → names_definition C (front ++ 10 ∷ before) ≡ names_definition C (front ++ 10 ∷ after)
definition_far front before after =
    ap₂ (λ (x y : Bool). x && y) (ap (λ (word : List ℕ). bytes_eq word (codes "define")) (word_far front before after))
    (behind_far is_word_byte letter_behind (behind_far is_space starts_with_letter letter_far refl) refl front before after)

names_far : (front before after : List ℕ) → names_directive C (front ++ 10 ∷ before) ≡ names_directive C (front ++ 10 ∷ after)
names_far front before after =
    ap₂ (λ (x y : Bool). x || y) (digit_far front before after)
    (ap₂ (λ (x y : Bool). x || y) (ap is_directive_word (word_far front before after)) (definition_far front before after))

-- the `#` of a directive
directive_far : (front before after : List ℕ) → is_directive C (35 ∷ (front ++ 10 ∷ before)) ≡ is_directive C (35 ∷ (front ++ 10 ∷ after))
directive_far front before after = behind_far is_space (names_directive C) names_far refl front before after

-- whether lines are joined at the first byte
joint_far : (front before after : List ℕ) → is_joint (front ++ 10 ∷ before) ≡ is_joint (front ++ 10 ∷ after)
joint_far [] before after = refl
joint_far (b ∷ front) before after = ap (λ (t : Bool). eqb b 92 && t) (blank_far front before after)

-- ---- the tokens of a directive
-- what follows a sign is told alike
sign_far : (sign : Sign) (rest now : List ℕ) → Agree rest now → IsSignApart sign rest → IsSignApart sign now
sign_far LeftParen rest now agree h = tt
sign_far Slash rest now agree h = sym (told_alike goes_on_as_comment comment_far rest now agree) ∙ h
sign_far _ rest now agree h = tt

-- a token of a directive stays apart
aside_apart : (sort : Aside) (bytes rest now : List ℕ) → IsToken (kind.Aside sort) bytes → Agree rest now
    → IsApart (kind.Aside sort) bytes rest → IsApart (kind.Aside sort) bytes now
aside_apart aside.Hash bytes rest now is agree h =
    let P : List ℕ → Type 0 = λ bs. is_directive C (bs ++ rest) ≡ true → is_directive C (bs ++ now) ≡ true in
    subst P is (λ i. sym (told_alike (λ (l : List ℕ). is_directive C (35 ∷ l)) directive_far rest now agree) ∙ i) h
aside_apart (aside.Word word) bytes rest now is agree h = tt
aside_apart aside.Name bytes rest now is agree h = tt
aside_apart (aside.Number value) bytes rest now is agree h = tt
aside_apart (aside.Sign sign) bytes rest now is agree h = sign_far sign rest now agree h
aside_apart aside.Foreign bytes rest now is agree h =
    sym (told_alike is_joint joint_far (bytes ++ rest) (bytes ++ now) (agree_behind bytes rest now agree)) ∙ h

-- its lexeme stays the longest
aside_longest : (bytes rest now : List ℕ) → Agree rest now → IsLongest C bytes rest → IsLongest C bytes now
aside_longest bytes rest now (all_alike e) h = subst (IsLongest C bytes) e h
aside_longest bytes rest now (alike_to_feed front before after e f) h =
    subst (IsLongest C bytes) f (longest_to_feed bytes front before after (subst (IsLongest C bytes) (sym e) h))

-- and it stays a whole token
pub still_aside : (sort : Aside) (bytes rest now : List ℕ) → Agree rest now → IsWholeToken C (kind.Aside sort) bytes rest
    → IsWholeToken C (kind.Aside sort) bytes now
still_aside sort bytes rest now agree t = record {
  is_token = t.is_token;
  longest = aside_longest bytes rest now agree t.longest;
  apart = aside_apart sort bytes rest now t.is_token agree t.apart;
}

-- ---- comments behind a directive
-- a place that is an edge, where the first piece is no token of the code, is one among the others
edge_on : (at : ℕ) (piece : Piece) (pieces : List Piece) (place : ℕ) → is_token piece ≡ false → IsEdgeIn at (piece ∷ pieces) place
    → IsEdgeIn (at + length (piece_bytes piece)) pieces place
edge_on at piece pieces place plain (inr e) = e
edge_on at (token kind bytes) pieces place plain (inl e) = let code = e.0 in cc
edge_on at (blank b) pieces place plain (inl e) = absurd e
edge_on at (line_comment body) pieces place plain (inl e) = absurd e
edge_on at (block_comment body) pieces place plain (inl e) = absurd e

-- so it is for each comment
edges_on : (at : ℕ) (piece : Piece) (pieces : List Piece) (comments : List Comment) → is_token piece ≡ false
    → AllByRecursion (λ c. IsEdgeIn at (piece ∷ pieces) c.place) comments
    → AllByRecursion (λ c. IsEdgeIn (at + length (piece_bytes piece)) pieces c.place) comments
edges_on at piece pieces [] plain edges = tt
edges_on at piece pieces (c ∷ cs) plain edges = (
  edge_on at piece pieces c.place plain edges.0,
  edges_on at piece pieces cs plain edges.1,
)

-- and they are in order from where these pieces start
edges_order : (at from to : ℕ) (pieces : List Piece) (comments : List Comment)
    → AllByRecursion (λ c. IsEdgeIn at pieces c.place) comments → Ascend from to (places comments) → at ≤ to
    → Ascend at to (places comments)
edges_order at from to pieces [] edges order within = within
edges_order at from to pieces (c ∷ cs) edges order within = (edge_behind at pieces c.place edges.0, order.1)

-- where the pieces behind the first one end
rest_end : (at to : ℕ) (piece : Piece) (pieces : List Piece) → at + length (spelling (piece ∷ pieces)) ≡ to
    → at + length (piece_bytes piece) + length (spelling pieces) ≡ to
rest_end at to piece pieces end = omega (arith, end, length-append (piece_bytes piece) (spelling pieces))

-- comments behind a first piece
module _ (at to : ℕ) (piece : Piece) (pieces : List Piece) (comments : List Comment)
    (edges : AllByRecursion (λ c. IsEdgeIn (at + length (piece_bytes piece)) pieces c.place) comments)
    (order : Ascend at to (places comments)) (end : at + length (spelling (piece ∷ pieces)) ≡ to) where
  order_behind : Ascend (at + length (piece_bytes piece)) to (places comments)
  order_behind = edges_order (at + length (piece_bytes piece)) at to pieces comments edges order
      (omega (arith, rest_end at to piece pieces end))

  written_behind : piece_bytes piece ++ with_comments (at + length (piece_bytes piece)) (spelling pieces) comments
      ≡ with_comments at (spelling (piece ∷ pieces)) comments
  written_behind = with_after at to (piece_bytes piece) (spelling pieces) comments order_behind

  agree_written : Agree (spelling pieces) (with_comments (at + length (piece_bytes piece)) (spelling pieces) comments)
      → Agree (spelling (piece ∷ pieces)) (with_comments at (spelling (piece ∷ pieces)) comments)
  agree_written agree = subst (Agree (spelling (piece ∷ pieces))) written_behind
      (agree_behind (piece_bytes piece) (spelling pieces) _ agree)

-- in a directive another byte than a line feed leaves it going on
pub still_directive : (b : ℕ) → eqb b 10 ≡ false → behind_blank Directive b ≡ Directive
still_directive b no_feed = rw no_feed (same (eqb b 35))
  where
    same : (t : Bool) → cond t Directive Directive ≡ Directive
    same true = refl
    same false = refl

-- where a directive goes on, the text with comments put in goes on alike up to a line feed
pub directive_agrees : (at to : ℕ) (pieces : List Piece) (comments : List Comment) → AllFit C Directive pieces []
    → AllByRecursion (λ c. IsEdgeIn at pieces c.place) comments → Ascend at to (places comments) → at + length (spelling pieces) ≡ to
    → Agree (spelling pieces) (with_comments at (spelling pieces) comments)
directive_agrees at to [] [] fit edges order end = all_alike refl
directive_agrees at to [] (c ∷ cs) fit edges order end = absurd edges.0
directive_agrees at to (token (kind.Aside sort) bytes ∷ pieces) comments fit edges order end =
    let piece : Piece = token (kind.Aside sort) bytes in
    let later = edges_on at piece pieces comments refl edges in
    agree_written at to piece pieces comments later order end (directive_agrees (at + length (piece_bytes piece)) to pieces comments fit.1
    later (order_behind at to piece pieces comments later order end) (rest_end at to piece pieces end))
directive_agrees at to (token _ bytes ∷ pieces) comments fit edges order end = let none : false ≡ true = fit.0.0 in cc
directive_agrees at to (line_comment body ∷ pieces) comments fit edges order end =
    let piece : Piece = line_comment body in
    let later = edges_on at piece pieces comments refl edges in
    agree_written at to piece pieces comments later order end (directive_agrees (at + length (piece_bytes piece)) to pieces comments fit.1
    later (order_behind at to piece pieces comments later order end) (rest_end at to piece pieces end))
directive_agrees at to (block_comment body ∷ pieces) comments fit edges order end =
    let piece : Piece = block_comment body in
    let later = edges_on at piece pieces comments refl edges in
    agree_written at to piece pieces comments later order end (directive_agrees (at + length (piece_bytes piece)) to pieces comments fit.1
    later (order_behind at to piece pieces comments later order end) (rest_end at to piece pieces end))
directive_agrees at to (blank b ∷ pieces) comments fit edges order end =
    let piece : Piece = blank b in
    let later = edges_on at piece pieces comments refl edges in
    ⊎_elim
    (λ (feed : eqb b 10 ≡ true).
    let is : 10 ≡ b = sym (eqb-true b 10 feed) in
    alike_to_feed [] (spelling pieces) (with_comments (at + 1) (spelling pieces) comments)
    (ap (λ (x : ℕ). x ∷ spelling pieces) is)
    (ap (λ (x : ℕ). x ∷ with_comments (at + 1) (spelling pieces) comments) is
    ∙ written_behind at to piece pieces comments later order end))
    (λ (no_feed : eqb b 10 ≡ false).
    agree_written at to piece pieces comments later order end (directive_agrees (at + 1) to pieces comments
    (subst (λ (x : Before). AllFit C x pieces []) (still_directive b no_feed) fit.1)
    later (order_behind at to piece pieces comments later order end) (rest_end at to piece pieces end)))
    (cases_Bool (eqb b 10))
