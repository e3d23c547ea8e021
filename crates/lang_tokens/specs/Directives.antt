-- What begins a comment or a directive, and which lines C joins, by the bytes that follow.
use Rattle.std.specs.Prelude.{ℕ, Bool, false, ◌||◌, ◌&&◌, ◌==◌, List, [], ◌∷◌, ◌+◌, codes, take, drop, slice_index}
use Rattle.std.specs.List.{prefix_len}
use Rattle.std.specs.Str.{bytes_eq}
use Rattle.lang_tokens.specs.declared.lexicon.Lexicon.{Lexicon}
use Rattle.lang_tokens.specs.declared.lexicon.Lexicon.TheVariants.{Own, C}
use Rattle.lang_tokens.specs.Bytes.{is_line_blank, is_space, is_letter, is_digit, is_word_byte}

-- `/` or `*` at once
abbrev pub goes_on_as_comment : List ℕ → Bool
goes_on_as_comment [] = false
goes_on_as_comment (b ∷ bs) = (b == 47) || (b == 42)

-- `//` or `/*` at once
abbrev pub starts_comment : List ℕ → Bool
starts_comment [] = false
starts_comment (b ∷ bs) = (b == 47) && goes_on_as_comment bs

-- blanks alone before a line feed
abbrev pub is_blank_to_feed : List ℕ → Bool
is_blank_to_feed [] = false
is_blank_to_feed (b ∷ bs) = (b == 10) || (is_line_blank b && is_blank_to_feed bs)

-- a `\` at once, with blanks alone between it and a line feed: C joins its line with the next
abbrev pub is_joint : List ℕ → Bool
is_joint [] = false
is_joint (b ∷ bs) = (b == 92) && is_blank_to_feed bs

-- a `*` at this place, and such a `\` right behind it
abbrev pub is_star_joint : List ℕ → ℕ → Bool
is_star_joint text place = (slice_index text place == 42) && is_joint (drop (place + 1) text)

-- a digit at once
abbrev pub starts_with_digit : List ℕ → Bool
starts_with_digit [] = false
starts_with_digit (b ∷ bs) = is_digit b

-- a letter or `_` at once
abbrev pub starts_with_letter : List ℕ → Bool
starts_with_letter [] = false
starts_with_letter (b ∷ bs) = is_letter b

-- what follows the word that stands first
abbrev pub behind_word : List ℕ → List ℕ
behind_word text = drop (prefix_len is_word_byte text) text

-- what follows the spaces, tabs and carriage returns that stand first
abbrev pub behind_spaces : List ℕ → List ℕ
behind_spaces text = drop (prefix_len is_space text) text

-- the words of directives
abbrev pub is_directive_word : List ℕ → Bool
is_directive_word word = bytes_eq word (codes "include") || (bytes_eq word (codes "pragma") || bytes_eq word (codes "line"))

-- in C files also this word, with a letter or `_` behind it and spaces, tabs and carriage returns
abbrev pub names_definition : Lexicon → List ℕ → Bool
names_definition Own text = false
names_definition C text =
    bytes_eq (take (prefix_len is_word_byte text) text) (codes "define") && starts_with_letter (behind_spaces (behind_word text))

-- a digit at once, or one of these words, up to where no letter, digit or `_` follows
abbrev pub names_directive : Lexicon → List ℕ → Bool
names_directive lexicon text =
    starts_with_digit text || (is_directive_word (take (prefix_len is_word_byte text) text) || names_definition lexicon text)

-- a `#` at once, and such a digit or word behind it and spaces, tabs and carriage returns
abbrev pub is_directive : Lexicon → List ℕ → Bool
is_directive lexicon [] = false
is_directive lexicon (b ∷ bs) = (b == 35) && names_directive lexicon (behind_spaces bs)
