-- What the search sees of a token that is no name.
use Rattle.std.proofs.Common.{◌≡◌, ◌∙◌, ℕ, ℤ, List, Option, refl, sym, ap}
use Rattle.lang_tokens.specs.declared.word.Word as lex_word
use Rattle.lang_tokens.specs.declared.sign.Sign as lex_sign
use Rattle.lang_tokens.specs.declared.token.Kind as lex_kind
use Rattle.source_grammar.specs.Tokens.{Kind, a_name}
use Rattle.source_grammar.specs.Symbols.{nameless, symbol_kind}
use Rattle.source_grammar.specs.View.{plain_kind}
use Rattle.source_grammar.specs.declared.symbol.Symbol as code_symbol
use Rattle.source_tokens.specs.View.{kind_of, sign_kind, word_kind}
use Rattle.source_packs.specs.Parts.{part_of}
use Rattle.source_packs.specs.declared.part.Part.{Part}

-- a kind that is no name
abbrev IsOther : Kind → Type 0
IsOther (a_name x) = ⊥
IsOther _ = Unit {0}

-- no word is one, nor is a sign
word_other : (w : lex_word.Word) → IsOther (word_kind w)
word_other lex_word.TheVariants.Int = tt
word_other _ = tt

sign_other : (s : lex_sign.Sign) → IsOther (sign_kind s)
sign_other lex_sign.TheVariants.LeftParen = tt
sign_other _ = tt

-- nor is any token but a name
kind_other : (bytes : List ℕ) (value : Option ℤ) (k : lex_kind.Kind) → (k ≡ lex_kind.TheVariants.Name → ⊥) → IsOther (kind_of bytes value k)
kind_other bytes value (lex_kind.TheVariants.Word w) h = word_other w
kind_other bytes value lex_kind.TheVariants.Name h = absurd (h refl)
kind_other bytes value (lex_kind.TheVariants.Number n) h = tt
kind_other bytes value (lex_kind.TheVariants.Sign s) h = sign_other s
kind_other bytes value _ h = tt

-- a name is no other kind
unlike : (k : Kind) → IsOther k → a_name nameless ≡ plain_kind k → ⊥
unlike (a_name x) h e = h
unlike _ h e = cc

-- a kind without its number is the same part
plain_part : (names : List (List ℕ)) (k : Kind) → IsOther k → part_of names (plain_kind k) ≡ part_of names k
plain_part names (a_name x) h = absurd h
plain_part names _ h = refl

-- What the symbol of a token is, the token is.
pub other_part : (names : List (List ℕ)) (bytes : List ℕ) (value : Option ℤ) (k : lex_kind.Kind)
    (symbol : code_symbol.Symbol) (result : Part)
    → (k ≡ lex_kind.TheVariants.Name → ⊥) → symbol_kind symbol ≡ plain_kind (kind_of bytes value k)
    → ((symbol ≡ code_symbol.TheVariants.Name → ⊥) → (ns : List (List ℕ)) → result ≡ part_of ns (symbol_kind symbol))
    → result ≡ part_of names (kind_of bytes value k)
other_part names bytes value k symbol result h e part =
    let other : IsOther (kind_of bytes value k) = kind_other bytes value k h in
    let named : symbol ≡ code_symbol.TheVariants.Name → ⊥ =
    λ n. unlike (kind_of bytes value k) other (ap symbol_kind (sym n) ∙ e) in
    part named names ∙ ap (λ (x : Kind). part_of names x) e ∙ plain_part names (kind_of bytes value k) other
