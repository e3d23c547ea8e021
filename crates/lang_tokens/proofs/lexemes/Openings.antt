-- What starts at a place, by the first two bytes and by what stands before it in its line.
use Rattle.std.proofs.Common.{◌≡◌, ℕ, Bool, true, false, cond, eqb, List, [], ◌∷◌, ◌++◌, refl, inl, inr, arith}
use Rattle.std.proofs.Common.{⊎_elim}
use Rattle.std.proofs.lemmas.Bool.{false_from_ne_true, leb-true, eqb-true, or_cases, or_parts, and_parts, not-true}
use Rattle.lang_tokens.specs.declared.lexicon.Lexicon.{Lexicon}
use Rattle.lang_tokens.specs.declared.lexicon.Lexicon.TheVariants.{Own, C}
use Rattle.lang_tokens.specs.Bytes.{is_blank, is_letter, is_digit, is_quote, is_stray}
use Rattle.lang_tokens.specs.declared.before.Before.{Before}
use Rattle.lang_tokens.specs.declared.before.Before.TheVariants.{Blanks, Others, Directive}
use Rattle.lang_tokens.specs.declared.fault.LexFault.{LexFault}
use Rattle.lang_tokens.specs.declared.fault.LexFault.TheVariants.{BadByte, OpenComment, LongNumber, LongName, BadNumber, NoMemory}
use Rattle.lang_tokens.specs.declared.word.Word.{Word}
use Rattle.lang_tokens.specs.declared.sign.Sign.{Sign}
use Rattle.lang_tokens.specs.declared.sign.Sign.TheVariants.{LeftParen, Slash}
use Rattle.lang_tokens.specs.declared.foreign.ForeignSign.{ForeignSign}
use Rattle.lang_tokens.specs.declared.foreign.ForeignSign.TheVariants.{Dot}
use Rattle.lang_tokens.specs.declared.token.Foreign.{Foreign}
use Rattle.lang_tokens.specs.declared.token.Foreign.TheVariants as foreign
use Rattle.lang_tokens.specs.declared.token.Aside.TheVariants as aside
use Rattle.lang_tokens.specs.declared.token.Kind.{Kind}
use Rattle.lang_tokens.specs.declared.token.Kind.TheVariants as kind
use Rattle.lang_tokens.specs.Signs.{sign_bytes, foreign_bytes}
use Rattle.lang_tokens.specs.Words.{word_bytes}
use Rattle.lang_tokens.specs.Lexemes.{IsLexeme, a_word, a_number, is_word, is_numeral, IsForeign, IsToken, literal}
use Rattle.lang_tokens.specs.Lexemes.{foreign_sign}
use Rattle.lang_tokens.specs.Lexemes.{foreign_outside, nothing_outside, second_spelling, stray}
use Rattle.lang_tokens.specs.Directives.{starts_comment, is_directive, is_joint}
use Rattle.lang_tokens.specs.Reading.{Piece, blank, line_comment, block_comment, token, piece_bytes, Fits, is_blank_at, is_own_blank}
use Rattle.lang_tokens.specs.Reading.{starts_with_blank, is_outside, is_own, may_stand, IsSignApart, IsApart, IsWholeToken}
use Rattle.lang_tokens.specs.Faults.{NothingStarts, IsJoined, is_strict, Stands}
use Rattle.lang_tokens.proofs.quoted.Parts.{quoted_test}
use Rattle.lang_tokens.proofs.lexemes.Heads.{heads, word_heads, numeral_heads, word_spelled, leads_number, number_heads, quoted_heads}
use Rattle.lang_tokens.proofs.lexemes.Heads.{plain_no_hash, plain_no_backslash}
use Rattle.lang_tokens.proofs.lexemes.Led.{c_no_blank}
use Rattle.lang_tokens.proofs.lexemes.Longest.{Leads, letter, digit, mark, leads}

-- what a text opens with: a blank, a comment of either kind, or anything else
pub data Opening : Type 0 where
  a_blank : Opening
  a_line_comment : Opening
  a_block_comment : Opening
  another : Opening

abbrev second_opening : List ℕ → Opening
second_opening [] = another
second_opening (b ∷ bs) = cond (eqb b 47) a_line_comment (cond (eqb b 42) a_block_comment another)

-- the opening of a text, by its first two bytes
abbrev pub opening : Lexicon → Before → List ℕ → Opening
opening lexicon before [] = another
opening lexicon before (b ∷ bs) =
    cond (starts_comment (b ∷ bs)) (second_opening bs) (cond (is_blank_at lexicon before (b ∷ bs)) a_blank another)

-- the opening of a text that starts with this piece
abbrev pub piece_opening : Piece → Opening
piece_opening (blank b) = a_blank
piece_opening (line_comment body) = a_line_comment
piece_opening (block_comment body) = a_block_comment
piece_opening (token kind bytes) = another

-- the opening of a text that starts with a comment that C joins with what follows
abbrev pub joined_opening : (rest : List ℕ) (backslash : ℕ) → IsJoined rest backslash → Opening
joined_opening rest backslash (inl line) = a_line_comment
joined_opening rest backslash (inr block) = a_block_comment

-- the opening of a text that starts with this fault
abbrev pub fault_opening : (lexicon : Lexicon) (fault : LexFault) (before : Before) (place : ℕ) (rest : List ℕ)
    → Stands lexicon fault before place rest → Opening
fault_opening lexicon (BadByte at) before place rest (inl s) = another
fault_opening lexicon (BadByte at) before place rest (inr s) = joined_opening rest s.0 s.2
fault_opening lexicon (OpenComment at) before place rest s = a_block_comment
fault_opening lexicon fault before place rest s = another

letter_no_blank : (b : ℕ) → is_letter b ≡ true → is_blank b ≡ true → ⊥
letter_no_blank b l k = grind (arith, leb-true, eqb-true)

letter_no_slash : (b : ℕ) → is_letter b ≡ true → eqb b 47 ≡ true → ⊥
letter_no_slash b l k = grind (arith, leb-true, eqb-true)

letter_no_hash : (b : ℕ) → is_letter b ≡ true → eqb b 35 ≡ true → ⊥
letter_no_hash b l k = grind (arith, leb-true, eqb-true)

letter_no_backslash : (b : ℕ) → is_letter b ≡ true → eqb b 92 ≡ true → ⊥
letter_no_backslash b l k = grind (arith, leb-true, eqb-true)

digit_no_blank : (b : ℕ) → is_digit b ≡ true → is_blank b ≡ true → ⊥
digit_no_blank b d k = grind (arith, leb-true, eqb-true)

digit_no_slash : (b : ℕ) → is_digit b ≡ true → eqb b 47 ≡ true → ⊥
digit_no_slash b d k = grind (arith, leb-true, eqb-true)

digit_no_hash : (b : ℕ) → is_digit b ≡ true → eqb b 35 ≡ true → ⊥
digit_no_hash b d k = grind (arith, leb-true, eqb-true)

digit_no_backslash : (b : ℕ) → is_digit b ≡ true → eqb b 92 ≡ true → ⊥
digit_no_backslash b d k = grind (arith, leb-true, eqb-true)

blank_no_slash : (b : ℕ) → is_blank b ≡ true → eqb b 47 ≡ true → ⊥
blank_no_slash b l k = grind (arith, eqb-true)

-- What the first byte of a lexeme is not.
pub record IsPlainLead (b : ℕ) : Type 0 where
  -- it is no blank
  pub no_blank : is_blank b ≡ false
  -- it is no `#`
  pub no_hash : eqb b 35 ≡ false
  -- it is no `\`
  pub no_backslash : eqb b 92 ≡ false

-- the first byte of a lexeme is no blank, no `#` and no `\`
pub lead_plain : (b : ℕ) → Leads b → IsPlainLead b
lead_plain b (letter h) = record {
  no_blank = false_from_ne_true (is_blank b) (letter_no_blank b h);
  no_hash = false_from_ne_true (eqb b 35) (letter_no_hash b h);
  no_backslash = false_from_ne_true (eqb b 92) (letter_no_backslash b h);
}
lead_plain b (digit h) = record {
  no_blank = false_from_ne_true (is_blank b) (digit_no_blank b h);
  no_hash = false_from_ne_true (eqb b 35) (digit_no_hash b h);
  no_backslash = false_from_ne_true (eqb b 92) (digit_no_backslash b h);
}
lead_plain b (mark m) = record {
  no_blank = m.no_blank;
  no_hash = plain_no_hash b m.no_stray;
  no_backslash = plain_no_backslash b m.no_stray;
}

-- a letter is no slash
pub letter_slash : (b : ℕ) → is_letter b ≡ true → eqb b 47 ≡ false
letter_slash b h = false_from_ne_true (eqb b 47) (letter_no_slash b h)

-- nor is a digit
pub digit_slash : (b : ℕ) → is_digit b ≡ true → eqb b 47 ≡ false
digit_slash b h = false_from_ne_true (eqb b 47) (digit_no_slash b h)

-- where no directive goes on, no blank stands where a byte does that is neither a blank nor `#`
pub plain_no_blank : (before : Before) (b : ℕ) (bs : List ℕ) → is_outside before ≡ true → is_blank b ≡ false → eqb b 35 ≡ false
    → is_own_blank before (b ∷ bs) ≡ false
plain_no_blank Blanks b bs out no_blank no_hash = rw (no_blank, no_hash) refl
plain_no_blank Others b bs out no_blank no_hash = no_blank
plain_no_blank Directive b bs out no_blank no_hash = cc

own_no_comment : (before : Before) (text : List ℕ) → is_own_blank before text ≡ true → starts_comment text ≡ false
own_no_comment before [] h = refl
own_no_comment Blanks (b ∷ bs) h = ⊎_elim
    (λ (is : is_blank b ≡ true). rw (false_from_ne_true (eqb b 47) (blank_no_slash b is)) refl)
    (λ (is : is_directive Own (b ∷ bs) ≡ true). let hash : b ≡ 35 = eqb-true b 35 (and_parts _ _ is).0 in rw hash refl)
    (or_cases (is_blank b) (is_directive Own (b ∷ bs)) h)
own_no_comment Others (b ∷ bs) h = rw (false_from_ne_true (eqb b 47) (blank_no_slash b h)) refl
own_no_comment Directive (b ∷ bs) h = (or_parts (starts_comment (b ∷ bs)) (is_joint (b ∷ bs)) (not-true _ h)).0

-- no comment starts where a blank does
pub blank_no_comment : (lexicon : Lexicon) (before : Before) (text : List ℕ) → is_blank_at lexicon before text ≡ true
    → starts_comment text ≡ false
blank_no_comment Own before text h = own_no_comment before text h
blank_no_comment C before [] h = refl
blank_no_comment C before (b ∷ bs) h = rw (false_from_ne_true (eqb b 47) (blank_no_slash b h)) refl

-- where no directive goes on, no blank of the tool's own formats stands where a lexeme of theirs does
pub lexeme_no_blank : (before : Before) (text bytes after : List ℕ) → is_outside before ≡ true → bytes ++ after ≡ text → IsLexeme Own bytes
    → is_own_blank before text ≡ false
lexeme_no_blank before [] bytes after out e lexeme = refl
lexeme_no_blank before (b ∷ bs) bytes after out e lexeme =
    let plain = lead_plain b (leads bytes after bs b e lexeme) in
    plain_no_blank before b bs out plain.no_blank plain.no_hash

-- no blank of C stands where a lexeme of C does
pub c_lexeme_no_blank : (text bytes after : List ℕ) → bytes ++ after ≡ text → IsLexeme C bytes → starts_with_blank text ≡ false
c_lexeme_no_blank [] bytes after e lexeme = refl
c_lexeme_no_blank (b ∷ bs) bytes after e lexeme = c_no_blank bytes after bs b e lexeme

-- no blank stands where a token may
pub token_no_blank : (lexicon : Lexicon) (before : Before) (kind : Kind) (bytes after : List ℕ) → may_stand lexicon before kind ≡ true
    → IsLexeme lexicon bytes → is_blank_at lexicon before (bytes ++ after) ≡ false
token_no_blank Own before kind bytes after may lexeme =
    lexeme_no_blank before (bytes ++ after) bytes after (and_parts (is_outside before) (is_own kind) may).0 refl lexeme
token_no_blank C before kind bytes after may lexeme = c_lexeme_no_blank (bytes ++ after) bytes after refl lexeme

-- a test that `/` fails
abbrev IsSlashless : (ℕ → Bool) → Type 0
IsSlashless p = (b : ℕ) → p b ≡ true → eqb b 47 ≡ false

slashless : (p : ℕ → Bool) → p 47 ≡ false → IsSlashless p
slashless p fails b h = false_from_ne_true (eqb b 47) (λ is. let slash : b ≡ 47 = eqb-true b 47 is in
    let yes : p 47 ≡ true = rw slash at h in cc)

head_no_comment : (p : ℕ → Bool) (bytes after : List ℕ) → IsSlashless p → heads p bytes ≡ true → starts_comment (bytes ++ after) ≡ false
head_no_comment p [] after fails h = cc
head_no_comment p (b ∷ bytes) after fails h = rw (fails b h) refl

letter_no_comment : (bytes after : List ℕ) → heads is_letter bytes ≡ true → starts_comment (bytes ++ after) ≡ false
letter_no_comment bytes after h = head_no_comment is_letter bytes after letter_slash h

word_no_comment : (word : Word) (after : List ℕ) → starts_comment (word_bytes word ++ after) ≡ false
word_no_comment word after = letter_no_comment (word_bytes word) after (word_heads (word_bytes word) (word_spelled word))

digit_no_comment : (bytes after : List ℕ) → heads is_digit bytes ≡ true → starts_comment (bytes ++ after) ≡ false
digit_no_comment bytes after h = head_no_comment is_digit bytes after digit_slash h

-- no comment starts with a sign that is apart from what follows
pub sign_no_comment : (sign : Sign) (after : List ℕ) → IsSignApart sign after → starts_comment (sign_bytes sign ++ after) ≡ false
sign_no_comment LeftParen after apart = refl
sign_no_comment Slash after apart = apart
sign_no_comment _ after apart = refl

foreign_sign_no_comment : (sign : ForeignSign) (after : List ℕ) → starts_comment (foreign_bytes sign ++ after) ≡ false
foreign_sign_no_comment Dot after = refl
foreign_sign_no_comment _ after = refl

foreign_no_comment : (sort : Foreign) (bytes after : List ℕ) → IsForeign sort bytes → starts_comment (bytes ++ after) ≡ false
foreign_no_comment foreign.Byte bytes after (literal q) =
    head_no_comment is_quote bytes after (slashless is_quote refl) (quoted_heads bytes (quoted_test bytes q))
foreign_no_comment foreign.Byte bytes after (foreign_sign sign own e) = rw (← e) (foreign_sign_no_comment sign after)
foreign_no_comment foreign.Number bytes after t =
    head_no_comment leads_number bytes after (slashless leads_number refl) (number_heads bytes (and_parts _ _ t).0)
foreign_no_comment foreign.LongNumber bytes after t = digit_no_comment bytes after (numeral_heads bytes t.digits)
foreign_no_comment foreign.LongName bytes after t = letter_no_comment bytes after (word_heads bytes t.word)

-- no comment starts where a whole token stands
pub token_no_comment : (lexicon : Lexicon) (kind : Kind) (bytes after : List ℕ) → IsWholeToken lexicon kind bytes after
    → starts_comment (bytes ++ after) ≡ false
token_no_comment lexicon k bytes after t = from k t.is_token t.apart
  where
    from : (k : Kind) → IsToken k bytes → IsApart k bytes after → starts_comment (bytes ++ after) ≡ false
    from (kind.Word word) is apart = rw (← is) (word_no_comment word after)
    from kind.Name is apart = letter_no_comment bytes after (word_heads bytes is.word)
    from (kind.Number value) is apart = digit_no_comment bytes after (numeral_heads bytes is.digits)
    from (kind.Sign sign) is apart = rw (← is) (sign_no_comment sign after apart)
    from (kind.Foreign sort) is apart = foreign_no_comment sort bytes after is
    from (kind.Aside aside.Hash) is apart = rw (← is) refl
    from (kind.Aside (aside.Word word)) is apart = rw (← is) (word_no_comment word after)
    from (kind.Aside aside.Name) is apart = letter_no_comment bytes after (word_heads bytes is.word)
    from (kind.Aside (aside.Number value)) is apart = digit_no_comment bytes after (numeral_heads bytes is.digits)
    from (kind.Aside (aside.Sign sign)) is apart = rw (← is) (sign_no_comment sign after apart)
    from (kind.Aside aside.Foreign) (foreign_outside sort is) apart = foreign_no_comment sort bytes after is
    from (kind.Aside aside.Foreign) (nothing_outside (second_spelling sign is e)) apart = rw (← e) (foreign_sign_no_comment sign after)
    from (kind.Aside aside.Foreign) (nothing_outside (stray b is e)) apart =
        rw (← e) (head_no_comment is_stray (b ∷ []) after (slashless is_stray refl) is)
    from kind.End is apart = absurd is

-- what starts with neither comment nor blank opens with something else
other_opening : (lexicon : Lexicon) (before : Before) (text : List ℕ) → starts_comment text ≡ false
    → is_blank_at lexicon before text ≡ false
    → opening lexicon before text ≡ another
other_opening lexicon before [] no_comment no_blank = refl
other_opening lexicon before (b ∷ bs) no_comment no_blank = rw (no_comment, no_blank) refl

blank_opening : (lexicon : Lexicon) (before : Before) (b : ℕ) (bs : List ℕ) → is_blank_at lexicon before (b ∷ bs) ≡ true
    → opening lexicon before (b ∷ bs) ≡ a_blank
blank_opening lexicon before b bs is = rw (blank_no_comment lexicon before (b ∷ bs) is, is) refl

word_opening : (before : Before) (rest bytes after : List ℕ) → is_outside before ≡ true → bytes ++ after ≡ rest → is_word bytes ≡ true
    → opening Own before rest ≡ another
word_opening before rest bytes after out e w = rw (← e) (other_opening Own before (bytes ++ after)
    (letter_no_comment bytes after (word_heads bytes w)) (lexeme_no_blank before (bytes ++ after) bytes after out refl (a_word w)))

numeral_opening : (before : Before) (rest bytes after : List ℕ) → is_outside before ≡ true → bytes ++ after ≡ rest → is_numeral bytes ≡ true
    → opening Own before rest ≡ another
numeral_opening before rest bytes after out e d = rw (← e) (other_opening Own before (bytes ++ after)
    (digit_no_comment bytes after (numeral_heads bytes d)) (lexeme_no_blank before (bytes ++ after) bytes after out refl (a_number d)))

-- a text that starts with a piece has the opening of that piece
pub opening_of_piece : (lexicon : Lexicon) (before : Before) (piece : Piece) (rest : List ℕ) → Fits lexicon before piece rest
    → opening lexicon before (piece_bytes piece ++ rest) ≡ piece_opening piece
opening_of_piece lexicon before (blank b) rest fits = blank_opening lexicon before b rest fits
opening_of_piece lexicon before (line_comment body) rest fits = refl
opening_of_piece lexicon before (block_comment body) rest fits = refl
opening_of_piece lexicon before (token kind bytes) rest fits = other_opening lexicon before (bytes ++ rest)
    (token_no_comment lexicon kind bytes rest fits.1) (token_no_blank lexicon before kind bytes rest fits.0 fits.1.longest.lexeme)

nothing_opening : (lexicon : Lexicon) (before : Before) (rest : List ℕ) → NothingStarts lexicon before rest
    → opening lexicon before rest ≡ another
nothing_opening lexicon before rest n = rw (← n.split) (other_opening lexicon before (n.first ∷ n.more) n.no_comment n.no_blank)

-- a text that starts with a joined comment has the opening of that comment
pub joined_opens : (lexicon : Lexicon) (before : Before) (rest : List ℕ) (backslash : ℕ) (j : IsJoined rest backslash)
    → opening lexicon before rest ≡ joined_opening rest backslash j
joined_opens lexicon before rest backslash (inl j) = rw (← j.split) refl
joined_opens lexicon before rest backslash (inr j) = rw (← j.split) refl

-- no number and no word is a fault in C files
pub lenient : (before : Before) → is_strict C before ≡ true → ⊥
lenient before strict = cc

-- a text that starts with a fault has the opening of that fault
pub opening_of_fault : (lexicon : Lexicon) (fault : LexFault) (before : Before) (place : ℕ) (rest : List ℕ)
    (stands : Stands lexicon fault before place rest) → opening lexicon before rest ≡ fault_opening lexicon fault before place rest stands
opening_of_fault lexicon (BadByte at) before place rest (inl s) = nothing_opening lexicon before rest s.1
opening_of_fault lexicon (BadByte at) before place rest (inr s) = joined_opens lexicon before rest s.0 s.2
opening_of_fault lexicon (OpenComment at) before place rest s = rw (← s.1.split) refl
opening_of_fault Own (LongNumber at) before place rest s = numeral_opening before rest s.2.bytes s.2.after s.1 s.2.split s.2.digits
opening_of_fault Own (LongName at) before place rest s = word_opening before rest s.2.bytes s.2.after s.1 s.2.split s.2.word
opening_of_fault Own (BadNumber at) before place rest s = numeral_opening before rest s.2.bytes s.2.after s.1 s.2.split s.2.digits
opening_of_fault C (LongNumber at) before place rest s = absurd (lenient before s.1)
opening_of_fault C (LongName at) before place rest s = absurd (lenient before s.1)
opening_of_fault C (BadNumber at) before place rest s = absurd (lenient before s.1)
opening_of_fault lexicon NoMemory before place rest s = absurd s
