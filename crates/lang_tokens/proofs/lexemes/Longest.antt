-- Which lexeme is the longest, by the first byte of a text.
use Rattle.std.proofs.Common.{◌≡◌, ◌+◌, ℕ, suc, Bool, true, false, cond, List, [], ◌∷◌, ◌++◌, take, drop, refl, ◌∙◌, arith}
use Rattle.std.proofs.lemmas.List.{take-append-drop, length-take-le}
use Rattle.std.proofs.lemmas.List.Sums.{prefix_len-le-length}
use Rattle.std.proofs.lemmas.Bool.{and_from, and_parts, or_left}
use Rattle.std.specs.List.{list_all, prefix_len}
use Rattle.lang_tokens.specs.declared.lexicon.Lexicon.{Lexicon}
use Rattle.lang_tokens.specs.declared.lexicon.Lexicon.TheVariants.{Own, C}
use Rattle.lang_tokens.specs.Bytes.{is_letter, is_digit, is_word_byte}
use Rattle.lang_tokens.specs.declared.sign.Sign.{Sign}
use Rattle.lang_tokens.specs.Signs.{sign_bytes}
use Rattle.lang_tokens.specs.Lexemes.{IsLexeme, a_word, a_number, a_sign, an_other, is_word, is_numeral}
use Rattle.lang_tokens.specs.Reading.{IsLongest}
use Rattle.lang_tokens.proofs.lexemes.Led.{c_word_starts}
use Rattle.lang_tokens.proofs.words.Runs.{all_run, run_longest}
use Rattle.lang_tokens.proofs.lexemes.Heads.{heads_front, is_mark, sign_heads, word_heads, numeral_heads, letter_no_digit, IsMark, mark_is}

-- the first byte of a lexeme, whatever follows
pub data Leads (b : ℕ) : Type 0 where
  letter : is_letter b ≡ true → Leads b
  digit : is_digit b ≡ true → Leads b
  mark : IsMark b → Leads b

module _ (other after bs : List ℕ) (b : ℕ) (front : other ++ after ≡ b ∷ bs) where
  -- the first byte of a lexeme is a letter, a digit or a mark
  pub leads : IsLexeme Own other → Leads b
  leads (a_word w) = letter (heads_front is_letter other after bs b front (word_heads other w))
  leads (a_number d) = digit (heads_front is_digit other after bs b front (numeral_heads other d))
  leads (a_sign sign e) = mark (mark_is b (heads_front is_mark other after bs b front (rw (← e) (sign_heads sign))))
  leads (an_other o) = absurd o

  -- a lexeme whose first byte is a letter is a word
  pub word_starts : IsLexeme Own other → is_letter b ≡ true → is_word other ≡ true
  word_starts (a_word w) l = w
  word_starts (a_number d) l = absurd (letter_no_digit b l (heads_front is_digit other after bs b front (numeral_heads other d)))
  word_starts (a_sign sign e) l = let m = mark_is b (heads_front is_mark other after bs b front (rw (← e) (sign_heads sign))) in
      let no : is_letter b ≡ false = m.no_letter in cc
  word_starts (an_other o) l = absurd o

  -- a lexeme whose first byte is a digit is a numeral
  pub numeral_starts : IsLexeme Own other → is_digit b ≡ true → is_numeral other ≡ true
  numeral_starts (a_number d) l = d
  numeral_starts (a_word w) l = absurd (letter_no_digit b (heads_front is_letter other after bs b front (word_heads other w)) l)
  numeral_starts (a_sign sign e) l = let m = mark_is b (heads_front is_mark other after bs b front (rw (← e) (sign_heads sign))) in
      let no : is_digit b ≡ false = m.no_digit in cc
  numeral_starts (an_other o) l = absurd o

  -- a lexeme whose first byte is neither letter nor digit is a sign
  pub sign_starts : IsLexeme Own other → is_letter b ≡ false → is_digit b ≡ false → (sign : Sign) × (sign_bytes sign ≡ other)
  sign_starts (a_sign sign e) l d = (sign, e)
  sign_starts (a_word w) l d = let yes : is_letter b ≡ true = heads_front is_letter other after bs b front (word_heads other w) in cc
  sign_starts (a_number n) l d = let yes : is_digit b ≡ true = heads_front is_digit other after bs b front (numeral_heads other n) in cc
  sign_starts (an_other o) l d = absurd o

word_passes : (bytes : List ℕ) → is_word bytes ≡ true → list_all is_word_byte bytes ≡ true
word_passes [] h = refl
word_passes (b ∷ bs) h =
    let both = and_parts (is_letter b) (list_all is_word_byte bs) h in
    and_from (is_word_byte b) (list_all is_word_byte bs) (or_left (is_letter b) (is_digit b) both.0) both.1

numeral_passes : (bytes : List ℕ) → is_numeral bytes ≡ true → list_all is_digit bytes ≡ true
numeral_passes [] h = refl
numeral_passes (b ∷ bs) h = h

word_run_cons : (b : ℕ) (bs : List ℕ) (n : ℕ) (t : Bool) → t ≡ true → is_letter b ≡ true → list_all is_word_byte (take n bs) ≡ true
    → is_word (take (cond t (1 + n) 0) (b ∷ bs)) ≡ true
word_run_cons b bs n true e l h = let one : 1 + n ≡ suc n = omega arith in rw one (and_from _ _ l h)
word_run_cons b bs n false e l h = cc

-- the longest front of word bytes is a word, where it starts with a letter
pub word_run : (b : ℕ) (bs : List ℕ) → is_letter b ≡ true → is_word (take (prefix_len is_word_byte (b ∷ bs)) (b ∷ bs)) ≡ true
word_run b bs l = word_run_cons b bs (prefix_len is_word_byte bs) (is_word_byte b) (or_left _ _ l) l (all_run is_word_byte bs)

numeral_run_cons : (b : ℕ) (bs : List ℕ) (n : ℕ) (t : Bool) → t ≡ true → is_digit b ≡ true → list_all is_digit (take n bs) ≡ true
    → is_numeral (take (cond t (1 + n) 0) (b ∷ bs)) ≡ true
numeral_run_cons b bs n true e d h = let one : 1 + n ≡ suc n = omega arith in rw one (and_from _ _ d h)
numeral_run_cons b bs n false e d h = cc

-- the longest front of digits is a numeral, where it starts with a digit
pub numeral_run : (b : ℕ) (bs : List ℕ) → is_digit b ≡ true → is_numeral (take (prefix_len is_digit (b ∷ bs)) (b ∷ bs)) ≡ true
numeral_run b bs d = numeral_run_cons b bs (prefix_len is_digit bs) (is_digit b) d d (all_run is_digit bs)

-- where every lexeme that starts here passes a test, the longest front that passes is the longest lexeme, if it is one
run_is_longest : (lexicon : Lexicon) (p : ℕ → Bool) (text : List ℕ) → ((other after : List ℕ) → other ++ after ≡ text
    → IsLexeme lexicon other → list_all p other ≡ true) → IsLexeme lexicon (take (prefix_len p text) text)
    → IsLongest lexicon (take (prefix_len p text) text) (drop (prefix_len p text) text)
run_is_longest lexicon p text passes lexeme = record {
  lexeme = lexeme;
  longest = λ other after e is_lexeme.
      let whole : other ++ after ≡ text = e ∙ take-append-drop (prefix_len p text) text in
      rw (length-take-le (prefix_len p text) text (prefix_len-le-length p text))
      (run_longest p other after text whole (passes other after whole is_lexeme));
}

-- where a text starts with a letter, its longest front of word bytes is its longest lexeme
pub word_longest : (lexicon : Lexicon) (b : ℕ) (bs : List ℕ) → is_letter b ≡ true
    → IsLongest lexicon (take (prefix_len is_word_byte (b ∷ bs)) (b ∷ bs)) (drop (prefix_len is_word_byte (b ∷ bs)) (b ∷ bs))
word_longest Own b bs l = run_is_longest Own is_word_byte (b ∷ bs)
    (λ other after e x. word_passes other (word_starts other after bs b e x l))
    (a_word (word_run b bs l))
word_longest C b bs l = run_is_longest C is_word_byte (b ∷ bs)
    (λ other after e x. word_passes other (c_word_starts other after bs b e x l))
    (a_word (word_run b bs l))

-- where a text starts with a digit, its longest front of digits is its longest lexeme
pub numeral_longest : (b : ℕ) (bs : List ℕ) → is_digit b ≡ true → IsLongest Own (take (prefix_len is_digit (b ∷ bs)) (b ∷ bs))
    (drop (prefix_len is_digit (b ∷ bs)) (b ∷ bs))
numeral_longest b bs d = run_is_longest Own is_digit (b ∷ bs) (λ other after e x. numeral_passes other
    (numeral_starts other after bs b e x d))
    (a_number (numeral_run b bs d))
