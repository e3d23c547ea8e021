-- The parts of a generated text: how they fit, and which tokens stand where.
use Rattle.std.proofs.Common.{◌≡◌, ◌≤◌, ◌+◌, ◌-◌, ℕ, pos, Bool, true, false, not, ◌&&◌, List, [], ◌∷◌, ◌++◌, length, take, map, refl, sym}
use Rattle.std.proofs.Common.{ap, ap₂, ◌∙◌, subst, arith}
use Rattle.std.specs.List.{slice_range}
use Rattle.std.specs.Str.Parse.{digits_value}
use Rattle.std.proofs.lemmas.Bool.{and_parts, and_from, not-true}
use Rattle.std.proofs.lemmas.List.{append_assoc, length-append, take_at, drop_at}
use Rattle.lang_tokens.specs.declared.lexicon.Lexicon.TheVariants.{Own}
use Rattle.lang_tokens.specs.declared.token.Kind.TheVariants as kind
use Rattle.lang_tokens.specs.declared.sign.Sign.{Sign}
use Rattle.lang_tokens.specs.declared.word.Word.{Word}
use Rattle.lang_tokens.specs.Bytes.{is_blank, is_letter, is_digit, is_word_byte}
use Rattle.lang_tokens.specs.Words.{word_bytes}
use Rattle.lang_tokens.specs.Signs.{sign_bytes}
use Rattle.lang_tokens.specs.Lexemes.{is_numeral, is_padded, greatest_literal}
use Rattle.lang_tokens.specs.Reading.{Piece, blank, token, piece_bytes, spelling, Fits, AllFit, piece_tokens}
use Rattle.lang_tokens.specs.Reading.{tokens_from, is_outside, behind}
use Rattle.lang_tokens.specs.Directives.{starts_with_letter}
use Rattle.lang_tokens.specs.declared.before.Before.{Before}
use Rattle.lang_tokens.proofs.reading.Outside.{plain_blank, blank_outside}
use Rattle.lang_tokens.proofs.lexemes.Heads.{heads}
use Rattle.lang_grammar.specs.Grammar as g
use Rattle.lang_grammar.specs.View.{word_kind, sign_kind, token_of, tokens_of}
use Rattle.out_workload.proofs.bodies.WholeTokens.{is_second, a_whole_word, a_whole_sign, a_whole_letter, a_whole_number}

-- ---- the parts
-- a blank, a reserved word, a sign, a name of one letter, or a number with its digits
pub data Part : Type 0 where
  space : ℕ → Part
  word : Word → Part
  sign : Sign → Part
  letter : ℕ → Part
  number : ℕ → List ℕ → Part

abbrev pub piece_of : Part → Piece
piece_of (space b) = blank b
piece_of (word w) = token (kind.Word w) (word_bytes w)
piece_of (sign s) = token (kind.Sign s) (sign_bytes s)
piece_of (letter b) = token kind.Name (b ∷ [])
piece_of (number n bytes) = token (kind.Number (pos n)) bytes

abbrev pub part_bytes : Part → List ℕ
part_bytes (space b) = b ∷ []
part_bytes (word w) = word_bytes w
part_bytes (sign s) = sign_bytes s
part_bytes (letter b) = b ∷ []
part_bytes (number n bytes) = bytes

abbrev pub spelled : List Part → List ℕ
spelled [] = []
spelled (p ∷ ps) = part_bytes p ++ spelled ps

part_is : (p : Part) → piece_bytes (piece_of p) ≡ part_bytes p
part_is (space b) = refl
part_is (word w) = refl
part_is (sign s) = refl
part_is (letter b) = refl
part_is (number n bytes) = refl

-- the spelling of parts as pieces is their text
pub spelled_is : (ps : List Part) → spelling (map piece_of ps) ≡ spelled ps
spelled_is [] = refl
spelled_is (p ∷ ps) = ap₂ (λ (x y : List ℕ). x ++ y) (part_is p) (spelled_is ps)

-- the text of parts joined is their texts joined
pub spelled_append : (ps qs : List Part) → spelled (ps ++ qs) ≡ spelled ps ++ spelled qs
spelled_append [] qs = refl
spelled_append (p ∷ ps) qs = ap (λ (x : List ℕ). part_bytes p ++ x) (spelled_append ps qs)
    ∙ sym (append_assoc (part_bytes p) (spelled ps) (spelled qs))

-- ---- how they fit
-- what each part needs of the bytes after it
abbrev pub stands : Part → List ℕ → Bool
stands (space b) rest = is_blank b
stands (word w) rest = not (heads is_word_byte rest)
stands (sign s) rest = not (heads is_second rest)
stands (letter b) rest = not (heads is_word_byte rest)
stands (number n bytes) rest = not (heads is_digit rest) && not (starts_with_letter rest)

abbrev pub all_stand : List Part → List ℕ → Bool
all_stand [] rest = true
all_stand (p ∷ ps) rest = stands p (spelled ps ++ rest) && all_stand ps rest

-- the digits are those of the number
pub record IsNumeral (n : ℕ) (bytes : List ℕ) : Type 0 where
  -- they are digits of a numeral
  pub digits : is_numeral bytes ≡ true
  -- they don't begin with a 0 that isn't needed
  pub plain : is_padded bytes ≡ false
  -- they are worth the number
  pub value : digits_value 10 bytes ≡ n
  -- the number is at most the greatest literal
  pub small : n ≤ greatest_literal

-- a letter is one, and the digits of a number are its own
abbrev pub IsGood : Part → Type 0
IsGood (letter b) = is_letter b ≡ true
IsGood (number n bytes) = IsNumeral n bytes
IsGood _ = Unit {0}

-- all letters and numbers are such
abbrev pub AllGood : List Part → Type 0
AllGood [] = Unit {0}
AllGood (letter b ∷ ps) = (is_letter b ≡ true) × AllGood ps
AllGood (number n bytes ∷ ps) = IsNumeral n bytes × AllGood ps
AllGood (_ ∷ ps) = AllGood ps

-- where parts are good, the first and the rest are
pub good_parts : (p : Part) (ps : List Part) → AllGood (p ∷ ps) → IsGood p × AllGood ps
good_parts (space b) ps g = (tt, g)
good_parts (word w) ps g = (tt, g)
good_parts (sign s) ps g = (tt, g)
good_parts (letter b) ps g = (g.0, g.1)
good_parts (number n bytes) ps g = (g.0, g.1)

-- good parts joined are good
pub good_append : (ps qs : List Part) → AllGood ps → AllGood qs → AllGood (ps ++ qs)
good_append [] qs g h = h
good_append (space b ∷ ps) qs g h = good_append ps qs g h
good_append (word w ∷ ps) qs g h = good_append ps qs g h
good_append (sign s ∷ ps) qs g h = good_append ps qs g h
good_append (letter b ∷ ps) qs g h = (g.0, good_append ps qs g.1 h)
good_append (number n bytes ∷ ps) qs g h = (g.0, good_append ps qs g.1 h)

-- a token of the tool's own formats stands where no directive goes on
own_stands : (before : Before) → is_outside before ≡ true → (is_outside before && true) ≡ true
own_stands before out = and_from (is_outside before) true out refl

part_fits : (before : Before) (p : Part) (rest : List ℕ) → is_outside before ≡ true → IsGood p → stands p rest ≡ true
    → Fits Own before (piece_of p) rest
part_fits before (space b) rest out g h = plain_blank Own before b rest out h
part_fits before (word w) rest out g h = (own_stands before out, a_whole_word w rest (not-true (heads is_word_byte rest) h))
part_fits before (sign s) rest out g h = (own_stands before out, a_whole_sign s rest (not-true (heads is_second rest) h))
part_fits before (letter b) rest out g h = (own_stands before out, a_whole_letter b rest g (not-true (heads is_word_byte rest) h))
part_fits before (number n bytes) rest out g h =
    let both = and_parts (not (heads is_digit rest)) (not (starts_with_letter rest)) h in (
      own_stands before out,
      a_whole_number n bytes rest g.digits g.plain g.value g.small (not-true (heads is_digit rest) both.0)
          (not-true (starts_with_letter rest) both.1),
    )

-- no directive goes on behind a part
part_outside : (before : Before) (p : Part) (rest : List ℕ) → is_outside before ≡ true → stands p rest ≡ true
    → is_outside (behind before (piece_of p)) ≡ true
part_outside before (space b) rest out h = blank_outside before b out h
part_outside before (word w) rest out h = refl
part_outside before (sign s) rest out h = refl
part_outside before (letter b) rest out h = refl
part_outside before (number n bytes) rest out h = refl

-- good parts that stand before what follows them fit, where no directive goes on
pub all_fit : (before : Before) (ps : List Part) (rest : List ℕ) → is_outside before ≡ true → AllGood ps → all_stand ps rest ≡ true
    → AllFit Own before (map piece_of ps) rest
all_fit before [] rest out g h = tt
all_fit before (p ∷ ps) rest out g h =
    let both = and_parts (stands p (spelled ps ++ rest)) (all_stand ps rest) h in
    let good = good_parts p ps g in (
      subst (λ (x : List ℕ). Fits Own before (piece_of p) (x ++ rest)) (sym (spelled_is ps))
          (part_fits before p (spelled ps ++ rest) out good.0 both.0),
      all_fit (behind before (piece_of p)) ps rest (part_outside before p (spelled ps ++ rest) out both.0) good.1 both.1,
    )

and_true : (a b c : Bool) → a ≡ true → b ≡ c → (a && b) ≡ c
and_true true b c h e = e
and_true false b c h e = cc

-- where the first parts stand before the others, both joined stand where the others do
pub stand_append : (ps qs : List Part) (rest : List ℕ) → all_stand ps (spelled qs ++ rest) ≡ true
    → all_stand (ps ++ qs) rest ≡ all_stand qs rest
stand_append [] qs rest h = refl
stand_append (p ∷ ps) qs rest h =
    let both = and_parts (stands p (spelled ps ++ (spelled qs ++ rest))) (all_stand ps (spelled qs ++ rest)) h in
    let same : spelled (ps ++ qs) ++ rest ≡ spelled ps ++ (spelled qs ++ rest) =
    ap (λ (x : List ℕ). x ++ rest) (spelled_append ps qs) ∙ append_assoc (spelled ps) (spelled qs) rest in
    and_true (stands p (spelled (ps ++ qs) ++ rest)) (all_stand (ps ++ qs) rest) (all_stand qs rest) (ap (stands p) same ∙ both.0)
    (stand_append ps qs rest both.1)

-- ---- their tokens
abbrev pub part_tokens : ℕ → Part → List g.Token
part_tokens at (space b) = []
part_tokens at (word w) = g.token (word_kind w) at ∷ []
part_tokens at (sign s) = g.token (sign_kind s) at ∷ []
part_tokens at (letter b) = g.token (g.a_name (b ∷ [])) at ∷ []
part_tokens at (number n bytes) = g.token (g.a_number n) at ∷ []

abbrev pub tokens_at : ℕ → List Part → List g.Token
tokens_at at [] = []
tokens_at at (p ∷ ps) = part_tokens at p ++ tokens_at (at + length (part_bytes p)) ps

-- the tokens of parts joined are those of the first, and then of the others at their places
pub tokens_append : (at : ℕ) (ps qs : List Part) → tokens_at at (ps ++ qs) ≡ tokens_at at ps ++ tokens_at (at + length (spelled ps)) qs
tokens_append at [] qs = let e : at + 0 ≡ at = omega arith in ap (λ (x : ℕ). tokens_at x qs) (sym e)
tokens_append at (p ∷ ps) qs =
    let e : (at + length (part_bytes p)) + length (spelled ps) ≡ at + length (part_bytes p ++ spelled ps) =
    omega (arith, length-append (part_bytes p) (spelled ps)) in
    ap (λ (ts : List g.Token). part_tokens at p ++ ts) (tokens_append (at + length (part_bytes p)) ps qs
    ∙ ap (λ (x : ℕ). tokens_at (at + length (part_bytes p)) ps ++ tokens_at x qs) e)
    ∙ sym (append_assoc (part_tokens at p) (tokens_at (at + length (part_bytes p)) ps)
    (tokens_at (at + length (part_bytes p ++ spelled ps)) qs))

range_is : (front bytes after : List ℕ) (at end : ℕ) → length front ≡ at → at + length bytes ≡ end
    → slice_range (front ++ (bytes ++ after)) at end ≡ bytes
range_is front bytes after at end e f = let size : length bytes ≡ end - at = omega (arith, f) in
    ap (take (end - at)) (drop_at front (bytes ++ after) at e) ∙ take_at bytes after (end - at) size

part_tokens_are : (text front after : List ℕ) (at : ℕ) (p : Part) → front ++ (part_bytes p ++ after) ≡ text → length front ≡ at
    → map (token_of text) (piece_tokens at (piece_of p)) ≡ part_tokens at p
part_tokens_are text front after at (space b) e f = refl
part_tokens_are text front after at (word w) e f = refl
part_tokens_are text front after at (sign s) e f = refl
part_tokens_are text front after at (letter b) e f = ap (λ (x : List ℕ). g.token (g.a_name x) at ∷ [])
    (ap (λ (t : List ℕ). slice_range t at (at + 1)) (sym e) ∙ range_is front (b ∷ []) after at (at + 1) f refl)
part_tokens_are text front after at (number n bytes) e f = refl

map_append : {A B : Type 0} (f : A → B) (xs ys : List A) → map f (xs ++ ys) ≡ map f xs ++ map f ys
map_append f [] ys = refl
map_append f (x ∷ xs) ys = ap (λ l. f x ∷ l) (map_append f xs ys)

-- the tokens of the text, where these parts stand after a front
pub tokens_are : (text front after : List ℕ) (at : ℕ) (ps : List Part) → front ++ (spelled ps ++ after) ≡ text → length front ≡ at
    → tokens_of text (tokens_from at (map piece_of ps)) ≡ tokens_at at ps
tokens_are text front after at [] e f = refl
tokens_are text front after at (p ∷ ps) e f =
    let one : front ++ (part_bytes p ++ (spelled ps ++ after)) ≡ text =
    ap (λ (x : List ℕ). front ++ x) (sym (append_assoc (part_bytes p) (spelled ps) after)) ∙ e in
    let more : (front ++ part_bytes p) ++ (spelled ps ++ after) ≡ text = append_assoc front (part_bytes p) (spelled ps ++ after) ∙ one in
    let size : length (front ++ part_bytes p) ≡ at + length (part_bytes p) = omega (arith, length-append front (part_bytes p)) in
    map_append (token_of text) (piece_tokens at (piece_of p)) (tokens_from (at + length (piece_bytes (piece_of p))) (map piece_of ps))
    ∙ ap₂ (λ (x y : List g.Token). x ++ y) (part_tokens_are text front (spelled ps ++ after) at p one f)
    (ap (λ (x : List ℕ). tokens_of text (tokens_from (at + length x) (map piece_of ps))) (part_is p)
    ∙ tokens_are text (front ++ part_bytes p) after (at + length (part_bytes p)) ps more size)
