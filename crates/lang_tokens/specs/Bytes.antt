-- The classes of bytes that a text is told by.
use Rattle.std.specs.Prelude.{ℕ, Bool, not, ◌&&◌, ◌||◌, ◌==◌, nat_le}

-- space, tab, carriage return and line feed
abbrev pub is_blank : ℕ → Bool
is_blank b = (b == 32) || (b == 9) || (b == 13) || (b == 10)

-- `A` to `Z`, `a` to `z` and `_`
abbrev pub is_letter : ℕ → Bool
is_letter b = (nat_le 65 b && nat_le b 90) || (nat_le 97 b && nat_le b 122) || (b == 95)

-- `0` to `9`
abbrev pub is_digit : ℕ → Bool
is_digit b = nat_le 48 b && nat_le b 57

-- what a word goes on with
abbrev pub is_word_byte : ℕ → Bool
is_word_byte b = is_letter b || is_digit b

-- space, tab and carriage return: what may stand between the `#` of a directive and its word
abbrev pub is_space : ℕ → Bool
is_space b = (b == 32) || (b == 9) || (b == 13)

-- what stands on the line of a line comment
abbrev pub is_on_line : ℕ → Bool
is_on_line b = not (b == 10)

-- space, tab, carriage return, form feed and vertical tab: what a C compiler skips between a backslash and the end of its line
abbrev pub is_line_blank : ℕ → Bool
is_line_blank b = (b == 32) || (b == 9) || (b == 13) || (b == 12) || (b == 11)

-- `"` and `'`
abbrev pub is_quote : ℕ → Bool
is_quote b = (b == 34) || (b == 39)

-- `e`, `E`, `p` and `P`: a sign behind one of these belongs to a number of C
abbrev pub is_exponent : ℕ → Bool
is_exponent b = (b == 101) || (b == 69) || (b == 112) || (b == 80)

-- no blank, no quote, and nothing that a word, a number or a sign of C starts with: `#`, `$`, `@`, `\`, a backquote, and what is no
-- printable character of ASCII
abbrev pub is_stray : ℕ → Bool
is_stray b = not (is_blank b) && (nat_le b 31 || nat_le 127 b || (b == 35) || (b == 36) || (b == 64) || (b == 92) || (b == 96))
