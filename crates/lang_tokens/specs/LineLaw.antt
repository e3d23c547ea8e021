-- What stands before a place in its line is told by the bytes before it.
use Rattle.std.specs.Prelude.{◌≡◌, ℕ, IsTrue, List, take}
use Rattle.lang_tokens.specs.declared.lexicon.Lexicon.{Lexicon}
use Rattle.lang_tokens.specs.declared.before.Before.TheVariants.{Blanks}
use Rattle.lang_tokens.specs.declared.token.Token.{Token}
use Rattle.lang_tokens.specs.Lines.{ends_in_blanks}
use Rattle.lang_tokens.specs.Reading.{behind_all, ReadsUpTo}

-- A directive may begin where a reading has come to exactly if nothing but blanks stands between the beginning of the line and there.
abbrev pub LinesAreBytes : Type 0
LinesAreBytes = (lexicon : Lexicon) (text : List ℕ) (at : ℕ) (tokens : List Token) (rest : List ℕ)
    (reads : ReadsUpTo lexicon text at tokens rest)
    → (behind_all Blanks reads.pieces ≡ Blanks → IsTrue (ends_in_blanks (take at text)))
    × (IsTrue (ends_in_blanks (take at text)) → behind_all Blanks reads.pieces ≡ Blanks)
