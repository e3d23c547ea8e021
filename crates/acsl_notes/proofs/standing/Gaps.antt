-- Blanks and comments, one after another, are a gap.
use Prim.Native.Nat.{zero-le, suc-le-suc}
use Rattle.std.proofs.Common.{◌≡◌, ◌+◌, ℕ, suc, zero, Bool, true, false, not, ◌||◌, ◌&&◌, eqb, List, [], ◌∷◌, ◌++◌, length, drop, get_or}
use Rattle.std.proofs.Common.{refl, ap, sym, ◌∙◌, arith, append_assoc, append-nil, ⊎_elim}
use Rattle.std.proofs.lemmas.List.{length-append}
use Rattle.std.proofs.lemmas.List.Folds.{list_all-append}
use Rattle.std.proofs.lemmas.Bool.{and_parts, or_cases, not-true, eqb-true}
use Rattle.std.specs.List.{list_all}
use Rattle.lang_tokens.specs.Bytes.{is_blank}
use Rattle.lang_tokens.specs.declared.lexicon.Lexicon.TheVariants.{C}
use Rattle.lang_tokens.specs.Directives.{is_joint}
use Rattle.lang_tokens.specs.Reading.{Piece, blank, block_comment, piece_bytes, piece_tokens, spelling, tokens_from, IsClosed}
use Rattle.lang_tokens.specs.Reading.{IsApartFromJoints}
use Rattle.lang_tokens.specs.Reading.{behind_all}
use Rattle.acsl_comments.specs.Places.{IsGap, is_gap_piece}
use Rattle.acsl_comments.proofs.pieces.Gaps.{gap_outside}
use Rattle.acsl_comments.proofs.pieces.Placed.{fit-append}
use Rattle.acsl_notes.proofs.standing.Plain.{IsPlain, is_tame, all_tame, starts_with_f, plain_not}

-- the bytes of pieces behind pieces
spelling-append : (ps qs : List Piece) → spelling (ps ++ qs) ≡ spelling ps ++ spelling qs
spelling-append [] qs = refl
spelling-append (p ∷ ps) qs = ap (λ bytes. piece_bytes p ++ bytes) (spelling-append ps qs)
    ∙ sym (append_assoc (piece_bytes p) (spelling ps) (spelling qs))

-- the tokens of pieces behind pieces
tokens-append : (at : ℕ) (ps qs : List Piece) → tokens_from at (ps ++ qs) ≡ tokens_from at ps ++ tokens_from (at + length (spelling ps)) qs
tokens-append at [] qs = ap (λ n. tokens_from n qs) (omega arith)
tokens-append at (p ∷ ps) qs =
    let place : (at + length (piece_bytes p)) + length (spelling ps) ≡ at + length (piece_bytes p ++ spelling ps) =
    omega (arith, length-append (piece_bytes p) (spelling ps)) in
    ap (λ ts. piece_tokens at p ++ ts) (tokens-append (at + length (piece_bytes p)) ps qs
    ∙ ap (λ n. tokens_from (at + length (piece_bytes p)) ps ++ tokens_from n qs) place)
    ∙ sym (append_assoc (piece_tokens at p) (tokens_from (at + length (piece_bytes p)) ps)
    (tokens_from (at + length (piece_bytes p ++ spelling ps)) qs))

-- a gap behind a gap
pub gap_append : (a b : List ℕ) → IsGap a → IsGap b → IsGap (a ++ b)
gap_append a b g h = record {
  pieces = g.pieces ++ h.pieces;
  spelled = spelling-append g.pieces h.pieces ∙ ap (λ bytes. bytes ++ spelling h.pieces) g.spelled ∙ ap (λ bytes. a ++ bytes) h.spelled;
  tokenless = λ at. tokens-append at g.pieces h.pieces ∙ ap (λ ts. ts ++ tokens_from (at + length (spelling g.pieces)) h.pieces)
      (g.tokenless at)
      ∙ h.tokenless (at + length (spelling g.pieces));
  plain = list_all-append is_gap_piece g.pieces h.pieces ∙ rw (g.plain, h.plain) refl;
  fit = λ before out rest. fit-append C before g.pieces h.pieces rest (g.fit before out (spelling h.pieces ++ rest))
      (h.fit (behind_all before g.pieces) (gap_outside before g.pieces out g.plain) rest);
}

-- no bytes are a gap
pub gap_nil : IsGap []
gap_nil = record { pieces = []; spelled = refl; tokenless = λ at. refl; plain = refl; fit = λ before out rest. tt }

-- a blank is a gap
pub gap_blank : (b : ℕ) → is_blank b ≡ true → IsGap (b ∷ [])
gap_blank b h = record {
  pieces = blank b ∷ [];
  spelled = refl;
  tokenless = λ at. refl;
  plain = rw h refl;
  fit = λ before out rest. (h, tt);
}

-- blanks are a gap
pub gap_blanks : (bs : List ℕ) → list_all is_blank bs ≡ true → IsGap bs
gap_blanks [] h = gap_nil
gap_blanks (b ∷ bs) h =
    let parts = and_parts (is_blank b) (list_all is_blank bs) h in
    gap_append (b ∷ []) bs (gap_blank b parts.0) (gap_blanks bs parts.1)

-- equal lists begin with the same item
heads : (x y : ℕ) (xs ys : List ℕ) → x ∷ xs ≡ y ∷ ys → x ≡ y
heads x y xs ys e = cc

-- and go on in the same way
tails : (x y : ℕ) (xs ys : List ℕ) → x ∷ xs ≡ y ∷ ys → xs ≡ ys
tails x y xs ys e = cc

-- a body that the `*` behind it follows does not begin with `/`
no_slash : (body behind after : List ℕ) → IsPlain body → 47 ∷ after ≡ body ++ 42 ∷ behind → ⊥
no_slash [] behind after h e = absurd (omega (arith, heads 47 42 after behind e))
no_slash (c ∷ body) behind after h e =
    plain_not c body (heads 47 c after (body ++ 42 ∷ behind) e) (and_parts (is_tame c body) (all_tame body) h).0

-- where `*/` could begin earlier, its `/` would stand in the body, or where the `*` behind the body is
closed : (body rest : List ℕ) → IsPlain body → IsClosed body rest
closed [] rest h other after e = zero-le
closed (b ∷ body) rest h [] after e =
    absurd (no_slash body (47 ∷ rest) after (and_parts (is_tame b body) (all_tame body) h).1
    (tails 42 b (47 ∷ after) (body ++ 42 ∷ 47 ∷ rest) e))
closed (b ∷ body) rest h (o ∷ other) after e =
    suc-le-suc (closed body rest (and_parts (is_tame b body) (all_tame body) h).1 other after
    (tails o b (other ++ 42 ∷ 47 ∷ after) (body ++ 42 ∷ 47 ∷ rest) e))

-- nothing joins lines where a `\` stands before an `f` alone
joint_tame : (b : ℕ) (bs : List ℕ) → is_tame b bs ≡ true → is_joint (b ∷ bs) ≡ false
joint_tame b bs h = ⊎_elim
    (λ (other : not (eqb b 92) ≡ true). rw (not-true (eqb b 92) other) refl)
    (λ (more : starts_with_f bs ≡ true). by bs more)
    (or_cases (not (eqb b 92)) (starts_with_f bs) (and_parts (not (eqb b 47)) (not (eqb b 92) || starts_with_f bs) h).1)
  where
    none : (t : Bool) → (t && false) ≡ false
    none true = refl
    none false = refl

    by : (bs : List ℕ) → starts_with_f bs ≡ true → is_joint (b ∷ bs) ≡ false
    by [] more = cc
    by (c ∷ cs) more = let is : c ≡ 102 = eqb-true c 102 more in rw is (none (eqb b 92))

-- so nothing does in such a body
no_joint_in : (body : List ℕ) (n : ℕ) → IsPlain body → is_joint (drop n body) ≡ false
no_joint_in [] zero h = refl
no_joint_in [] (suc n) h = refl
no_joint_in (b ∷ body) zero h = joint_tame b body (and_parts (is_tame b body) (all_tame body) h).0
no_joint_in (b ∷ body) (suc n) h = no_joint_in body n (and_parts (is_tame b body) (all_tame body) h).1

body_apart : (body : List ℕ) → IsPlain body → IsApartFromJoints body
body_apart body h place =
    let next : place + 1 ≡ suc place = omega arith in
    rw (next, no_joint_in body place h) (none (eqb (get_or (42 ∷ body) place 0) 42))
  where
    none : (t : Bool) → (t && false) ≡ false
    none true = refl
    none false = refl

-- a comment whose body has no `/`, and a `\` before an `f` alone, is a gap
pub gap_comment : (body : List ℕ) → IsPlain body → IsGap (47 ∷ 42 ∷ (body ++ 42 ∷ 47 ∷ []))
gap_comment body h = record {
  pieces = block_comment body ∷ [];
  spelled = append-nil (47 ∷ 42 ∷ (body ++ 42 ∷ 47 ∷ []));
  tokenless = λ at. refl;
  plain = refl;
  fit = λ before out rest. ((closed body rest h, body_apart body h), tt);
}
