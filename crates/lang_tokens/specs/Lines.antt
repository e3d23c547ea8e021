-- Lines.
use Rattle.std.specs.Prelude.{ℕ, Bool, true, ◌+◌, ◌==◌, ◌||◌, ◌&&◌, List, [], ◌∷◌, take, count_by}
use Rattle.lang_tokens.specs.Bytes.{is_line_blank}

-- one more than the line feeds before this place
abbrev pub line_at : List ℕ → ℕ → ℕ
line_at text at = 1 + count_by (λ b. b == 10) (take at text)

-- nothing but blanks stands behind the last line feed, or in a text without one, if so far nothing else stood
abbrev pub stays_blank : Bool → List ℕ → Bool
stays_blank so_far [] = so_far
stays_blank so_far (b ∷ bs) = stays_blank ((b == 10) || (so_far && is_line_blank b)) bs

-- nothing but blanks stands between the beginning of the last line of a text and its end
abbrev pub ends_in_blanks : List ℕ → Bool
ends_in_blanks text = stays_blank true text
