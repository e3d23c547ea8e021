-- Words as parts of URIs (RFC 3986, section 2.1).
use Rattle.std.specs.Prelude.{◌+◌, ◌/◌, ◌%◌, ◌==◌, ◌||◌, ℕ, Bool, List, [], ◌∷◌, flat_map, nat_lt, if◌then◌else◌}
use Rattle.lang_tree.specs.Word.{is_word_byte}

-- a byte that stands for itself: a letter, a digit, or one of `- . _ ~ /`
abbrev pub is_plain : ℕ → Bool
is_plain b = is_word_byte b || b == 45 || b == 46 || b == 126 || b == 47

-- a hexadecimal digit, in capitals
abbrev pub capital_digit : ℕ → ℕ
capital_digit n = if nat_lt n 10 then 48 + n else 55 + n

-- a byte: as it is, or as `%` and two digits
abbrev pub uri_byte : ℕ → List ℕ
uri_byte b = if is_plain b then b ∷ [] else 37 ∷ capital_digit (b / 16) ∷ capital_digit (b % 16) ∷ []

-- the bytes of a word, one after another
abbrev pub uri_text : List ℕ → List ℕ
uri_text word = flat_map uri_byte word
