-- What is no name is the same part, whatever number it is.
use Rattle.std.proofs.Common.{◌≡◌, ℕ, ℤ, Bool, true, false, List, Option, refl}
use Rattle.lang_tokens.specs.declared.word.Word as lex_word
use Rattle.lang_tokens.specs.declared.sign.Sign as lex_sign
use Rattle.lang_tokens.specs.declared.token.Kind as lex_kind
use Rattle.source_tokens.specs.View.{kind_of, sign_kind, word_kind}
use Rattle.source_grammar.specs.Tokens.{Kind, a_name, a_number}
use Rattle.source_grammar.specs.View.{plain_kind}
use Rattle.acsl_anchors.specs.Parts.{part_of}

-- whether it is a name
abbrev pub is_name : Kind → Bool
is_name (a_name x) = true
is_name _ = false

-- the part of a token of this kind
pub plain_part : (k : Kind) → is_name k ≡ false → part_of (plain_kind k) ≡ part_of k
plain_part (a_name x) h = cc
plain_part (a_number n) h = refl
plain_part _ h = refl

-- A token that is no name of the text is none to the grammar.
pub none_named : (bytes : List ℕ) (value : Option ℤ) (k : lex_kind.Kind) → (k ≡ lex_kind.TheVariants.Name → ⊥)
    → is_name (kind_of bytes value k) ≡ false
none_named bytes value lex_kind.TheVariants.Name h = absurd (h refl)
none_named bytes value (lex_kind.TheVariants.Word w) h = by_word w where
  by_word : (w : lex_word.Word) → is_name (word_kind w) ≡ false
  by_word lex_word.TheVariants.Int = refl
  by_word _ = refl
none_named bytes value (lex_kind.TheVariants.Sign s) h = by_sign s where
  by_sign : (s : lex_sign.Sign) → is_name (sign_kind s) ≡ false
  by_sign lex_sign.TheVariants.Comma = refl
  by_sign _ = refl
none_named bytes value _ h = refl
