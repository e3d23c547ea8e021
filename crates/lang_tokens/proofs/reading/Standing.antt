-- What stands first in the rest of a text, from what the parts of the lexer measure.
use Rattle.std.proofs.Common.{◌≡◌, ◌≤◌, ◌<◌, ℕ, Bool, true, false, List, [], ◌∷◌, length, take, drop, get_or, refl, arith, Some, None}
use Rattle.std.proofs.lemmas.List.{take-append-drop, length-take-le}
use Rattle.std.proofs.lemmas.List.Sums.{prefix_len-le-length}
use Rattle.std.specs.List.{prefix_len}
use Rattle.std.specs.Str.Parse.{digits_value}
use Rattle.lang_tokens.specs.Bytes.{is_letter, is_digit, is_word_byte}
use Rattle.lang_tokens.specs.declared.lexicon.Lexicon.{Lexicon}
use Rattle.lang_tokens.specs.declared.lexicon.Lexicon.TheVariants.{Own, C}
use Rattle.lang_tokens.specs.declared.before.Before.{Before}
use Rattle.lang_tokens.specs.declared.token.Kind.{Kind}
use Rattle.lang_tokens.specs.Lexemes.{IsToken, is_word, is_numeral, longest_word, greatest_literal}
use Rattle.lang_tokens.specs.Reading.{blank, token, IsLongest, IsApart, may_stand, is_blank_at, behind_blank, behind_token}
use Rattle.lang_tokens.specs.Faults.{IsBadNumber, IsLongNumber, IsLongName, is_bad}
use Rattle.lang_tokens.specs.Steps.{StandsFirst, LexemeFirst, IsOfCode}
use Rattle.lang_tokens.proofs.lexemes.Longest.{word_longest, word_run, numeral_longest, numeral_run}

-- A front of this length is the longest lexeme, and passes the test of its class.
pub record IsLongestFront (lexicon : Lexicon) (test : List ℕ → Bool) (rest : List ℕ) (len : ℕ) : Type 0 where
  -- the front is the longest lexeme
  pub longest : IsLongest lexicon (take len rest) (drop len rest)
  -- the front passes the test of its class
  pub passes : test (take len rest) ≡ true
  -- the front has this length
  pub length_is : length (take len rest) ≡ len

-- where the rest starts with a letter, its front of word bytes is the longest lexeme, and a word
pub word_front : (lexicon : Lexicon) (rest : List ℕ) (len : ℕ) → len ≡ prefix_len is_word_byte rest → 1 ≤ length rest
    → is_letter (get_or rest 0 0) ≡ true → IsLongestFront lexicon is_word rest len
word_front lexicon [] len e some letter = absurd (omega arith)
word_front lexicon (b ∷ bs) len e some letter = rw e record {
  longest = word_longest lexicon b bs letter;
  passes = word_run b bs letter;
  length_is = length-take-le _ (b ∷ bs) (prefix_len-le-length is_word_byte (b ∷ bs));
}

-- where the rest starts with a digit, its front of digits is the longest lexeme, and a numeral
pub numeral_front : (rest : List ℕ) (len : ℕ) → len ≡ prefix_len is_digit rest → 1 ≤ length rest → is_digit (get_or rest 0 0) ≡ true
    → IsLongestFront Own is_numeral rest len
numeral_front [] len e some digit = absurd (omega arith)
numeral_front (b ∷ bs) len e some digit = rw e record {
  longest = numeral_longest b bs digit;
  passes = numeral_run b bs digit;
  length_is = length-take-le _ (b ∷ bs) (prefix_len-le-length is_digit (b ∷ bs));
}

-- a longest front that is a token stands first, where one may
pub token_stands : {test : List ℕ → Bool} (before : Before) (rest : List ℕ) (len : ℕ) (kind : Kind) → may_stand Own before kind ≡ true
    → IsLongestFront Own test rest len → IsToken kind (take len rest) → IsApart kind (take len rest) (drop len rest)
    → StandsFirst Own before rest (record { kind = Some kind; len = len; behind = behind_token kind })
token_stands before rest len kind out front is_token apart = record {
  piece = token kind (take len rest);
  after = drop len rest;
  split = take-append-drop len rest;
  fits = (out, record { is_token = is_token; longest = front.longest; apart = apart });
  length_is = front.length_is;
  kind_is = refl;
  behind_is = refl;
}

-- a longest front of C that is a token of code is the lexeme that stands first
pub lexeme_stands : {test : List ℕ → Bool} (rest : List ℕ) (len : ℕ) (kind : Kind) → IsLongestFront C test rest len
    → IsOfCode (Some kind) (take len rest) → LexemeFirst rest (record { kind = Some kind; len = len })
lexeme_stands rest len kind front of_code = record {
  bytes = take len rest;
  after = drop len rest;
  split = take-append-drop len rest;
  longest = front.longest;
  length_is = front.length_is;
  of_code = of_code;
}

-- a longest front that is a word of too many bytes is a long name
pub long_name : (rest : List ℕ) (len : ℕ) → IsLongestFront Own is_word rest len → longest_word < len → IsLongName rest
long_name rest len front long = record {
  bytes = take len rest;
  after = drop len rest;
  split = take-append-drop len rest;
  longest = front.longest;
  word = front.passes;
  long = rw front.length_is long;
}

-- a longest front that is a malformed numeral is a bad number
pub bad_number : (rest : List ℕ) (len : ℕ) → IsLongestFront Own is_numeral rest len → is_bad (take len rest) (drop len rest) ≡ true
    → IsBadNumber rest
bad_number rest len front bad = record {
  bytes = take len rest;
  after = drop len rest;
  split = take-append-drop len rest;
  longest = front.longest;
  digits = front.passes;
  bad = bad;
}

-- a longest front that is a numeral past the greatest literal is a long number
pub long_number : (rest : List ℕ) (len : ℕ) → IsLongestFront Own is_numeral rest len → is_bad (take len rest) (drop len rest) ≡ false
    → greatest_literal < digits_value 10 (take len rest) → IsLongNumber rest
long_number rest len front good great = record {
  bytes = take len rest;
  after = drop len rest;
  split = take-append-drop len rest;
  longest = front.longest;
  digits = front.passes;
  good = good;
  great = great;
}

-- a blank byte stands first as a blank
pub blank_stands : (lexicon : Lexicon) (before : Before) (rest : List ℕ) → is_blank_at lexicon before rest ≡ true
    → StandsFirst lexicon before rest (record { kind = None; len = 1; behind = behind_blank before (get_or rest 0 0) })
blank_stands Own before [] is = cc
blank_stands C before [] is = cc
blank_stands lexicon before (b ∷ bs) is = record {
  piece = blank b;
  after = bs;
  split = refl;
  fits = is;
  length_is = refl;
  kind_is = refl;
  behind_is = refl;
}
