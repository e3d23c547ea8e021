-- The bytes of names among the tokens of a text.
use Rattle.std.specs.Prelude.{◌≤◌, ◌+◌, ℕ, List, [], ◌∷◌, IsTrue, length, slice_range}
use Rattle.lang_tokens.specs.declared.token.Kind as lex_kind
use Rattle.lang_tokens.specs.declared.token.Token.{Token}
use Rattle.lang_tree.specs.Word.{is_word}

-- the bytes of a name are a word of the text
abbrev pub IsWordIn : lex_kind.Kind → List ℕ → Token → Type 0
IsWordIn lex_kind.TheVariants.Name text t = (t.at + t.len ≤ length text) × IsTrue (is_word (slice_range text t.at (t.at + t.len)))
IsWordIn _ text t = Unit {0}

abbrev pub IsProper : List ℕ → Token → Type 0
IsProper text t = IsWordIn t.kind text t

-- each of them is
abbrev pub AllProper : List ℕ → List Token → Type 0
AllProper text [] = Unit {0}
AllProper text (t ∷ ts) = IsProper text t × AllProper text ts
