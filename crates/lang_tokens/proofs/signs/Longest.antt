-- The sign that stands first, from the first two bytes.
use Rattle.std.proofs.Common.{◌≡◌, ◌≤◌, ℕ, suc, true, false, ltb, List, [], ◌∷◌, ◌++◌, length, get_or, refl, sym, ap, ◌∙◌, arith}
use Rattle.std.proofs.Common.{Option, Some, None}
use Rattle.std.proofs.Common.{Bor, is_some, IfSome}
use Rattle.std.specs.Option.{option_copied}
use Rattle.std.proofs.lemmas.Bool.{lt-ltb, and_from}
use Rattle.lang_tokens.specs.Bytes.{is_letter, is_digit}
use Rattle.lang_tokens.specs.Directives.{starts_comment}
use Rattle.lang_tokens.specs.declared.lexicon.Lexicon.TheVariants.{Own}
use Rattle.lang_tokens.specs.declared.before.Before.{Before}
use Rattle.lang_tokens.specs.declared.before.Before.TheVariants.{Others}
use Rattle.lang_tokens.specs.declared.sign.Sign.{Sign}
use Rattle.lang_tokens.specs.declared.sign.Sign.TheVariants.{LeftParen, Slash}
use Rattle.lang_tokens.specs.declared.token.Kind.TheVariants as kind
use Rattle.lang_tokens.specs.Signs.{sign_bytes}
use Rattle.lang_tokens.specs.Lexemes.{IsLexeme, a_sign}
use Rattle.lang_tokens.specs.Reading.{token, IsSignApart, is_outside, is_blank_at}
use Rattle.lang_tokens.specs.Faults.{NothingStarts}
use Rattle.lang_tokens.specs.Steps.{StandsFirst, StartWith, IsLongestSign}
use Rattle.lang_tokens.proofs.lexemes.Heads.{heads, is_mark, sign_heads}
use Rattle.lang_tokens.proofs.lexemes.Longest.{sign_starts}
use Rattle.lang_tokens.proofs.lexemes.Spellings.{sign_short}

-- the second byte
abbrev pub second_of : List ℕ → Option ℕ
second_of [] = None
second_of (a ∷ []) = None
second_of (a ∷ b ∷ bs) = Some b

-- a look-up at index 1 reads the second byte, if there is one
pub second_read : (rest : List ℕ) (o : Option (Bor ℕ)) → is_some o ≡ ltb 1 (length rest) → IfSome o (λ x. x.now ≡ get_or rest 1 x.now)
    → option_copied o ≡ second_of rest
second_read [] None e h = refl
second_read [] (Some x) e h = cc
second_read (a ∷ []) None e h = refl
second_read (a ∷ []) (Some x) e h = cc
second_read (a ∷ b ∷ bs) None e h = let yes : ltb 1 (suc (suc (length bs))) ≡ true = lt-ltb 1 (suc (suc (length bs))) (omega arith) in cc
second_read (a ∷ b ∷ bs) (Some x) e h = ap (λ (n : ℕ). Some n) h

-- what starts so starts the text
pub start_split : (xs : List ℕ) (first : ℕ) (bs : List ℕ) → StartWith xs first (second_of (first ∷ bs)) → length xs ≤ 2
    → (after : List ℕ) × (xs ++ after ≡ first ∷ bs)
start_split [] first bs h short = absurd h
start_split (b ∷ []) first bs h short = (bs, ap (λ (x : ℕ). x ∷ bs) h)
start_split (b ∷ c ∷ []) first [] h short = let no : Some c ≡ None = h.1 in cc
start_split (b ∷ c ∷ []) first (d ∷ ds) h short = let one : b ≡ first = h.0 in let two : Some c ≡ Some d = h.1 in (ds, cc)
start_split (b ∷ c ∷ d ∷ ds) first bs h short = absurd (omega arith)

-- what starts the text starts so
pub start_from : (xs after : List ℕ) (first : ℕ) (bs : List ℕ) → heads is_mark xs ≡ true → xs ++ after ≡ first ∷ bs
    → StartWith xs first (second_of (first ∷ bs))
start_from [] after first bs h e = cc
start_from (b ∷ []) after first bs h e = cc
start_from (b ∷ c ∷ cs) after first [] h e = cc
start_from (b ∷ c ∷ cs) after first (d ∷ ds) h e = let one : b ≡ first = cc in let two : c ≡ d = cc in (one, ap (λ (n : ℕ). Some n) two)

-- every lexeme here is a sign that starts so
signs_only : (first : ℕ) (bs other after : List ℕ) → is_letter first ≡ false → is_digit first ≡ false → other ++ after ≡ first ∷ bs
    → IsLexeme Own other → (sign : Sign) × (sign_bytes sign ≡ other) × StartWith (sign_bytes sign) first (second_of (first ∷ bs))
signs_only first bs other after no_letter no_digit e lexeme =
    let found = sign_starts other after bs first e lexeme no_letter no_digit in
    (found.0, found.1, start_from (sign_bytes found.0) after first bs (sign_heads found.0) (rw found.1 e))

-- a sign is apart from what follows, where no comment starts with it
pub sign_apart : (sign : Sign) (after : List ℕ) → starts_comment (sign_bytes sign ++ after) ≡ false → IsSignApart sign after
sign_apart LeftParen after h = tt
sign_apart Slash after h = h
sign_apart _ after h = tt

sign_from : (before : Before) (first : ℕ) (bs : List ℕ) (sign : Sign) (len : ℕ) → is_outside before ≡ true
    → IsLongestSign first (second_of (first ∷ bs)) (Some sign) → starts_comment (first ∷ bs) ≡ false
    → is_letter first ≡ false → is_digit first ≡ false → len ≡ length (sign_bytes sign)
    → StandsFirst Own before (first ∷ bs) (record { kind = Some (kind.Sign sign); len = len; behind = Others })
sign_from before first bs sign len out longest no_comment no_letter no_digit e =
    let found = start_split (sign_bytes sign) first bs longest.0 (sign_short sign) in
    record {
      piece = token (kind.Sign sign) (sign_bytes sign);
      after = found.0;
      split = found.1;
      fits = (
        and_from (is_outside before) true out refl,
        record {
          is_token = refl;
          longest = record {
            lexeme = a_sign sign refl;
            longest = λ other after whole lexeme.
                let t = signs_only first bs other after no_letter no_digit (whole ∙ found.1) lexeme in
                rw (← t.1) (longest.1 t.0 t.2);
          };
          apart = sign_apart sign found.0 (rw found.1 no_comment);
        },
      );
      length_is = sym e;
      kind_is = refl;
      behind_is = refl;
    }

-- the longest sign that starts with the first two bytes stands first, where no comment starts and no directive goes on
pub sign_stands : (before : Before) (rest : List ℕ) (sign : Sign) (len : ℕ) → is_outside before ≡ true → 1 ≤ length rest
    → starts_comment rest ≡ false → is_letter (get_or rest 0 0) ≡ false → is_digit (get_or rest 0 0) ≡ false
    → IsLongestSign (get_or rest 0 0) (second_of rest) (Some sign) → len ≡ length (sign_bytes sign)
    → StandsFirst Own before rest (record { kind = Some (kind.Sign sign); len = len; behind = Others })
sign_stands before [] sign len out some no_comment no_letter no_digit longest e = absurd (omega arith)
sign_stands before (first ∷ bs) sign len out some no_comment no_letter no_digit longest e =
    sign_from before first bs sign len out longest no_comment no_letter no_digit e

-- where no sign starts with the first two bytes, and nothing else does, nothing starts at all
pub nothing_stands : (before : Before) (rest : List ℕ) → 1 ≤ length rest → is_blank_at Own before rest ≡ false
    → starts_comment rest ≡ false → is_letter (get_or rest 0 0) ≡ false → is_digit (get_or rest 0 0) ≡ false
    → IsLongestSign (get_or rest 0 0) (second_of rest) None → NothingStarts Own before rest
nothing_stands before [] some no_blank no_comment no_letter no_digit none = absurd (omega arith)
nothing_stands before (first ∷ bs) some no_blank no_comment no_letter no_digit none = record {
  first = first;
  more = bs;
  split = refl;
  no_blank = no_blank;
  no_comment = no_comment;
  no_token = λ bytes after e lexeme. let t = signs_only first bs bytes after no_letter no_digit e lexeme in none t.0 t.2;
}
