-- The bytes of a name are a word.
use Rattle.std.proofs.Common.{◌≡◌, ◌∙◌, ℕ, List, [], ◌∷◌, length, Bool, true, false, ◌&&◌, ◌||◌, IsTrue, refl, sym, ap₂}
use Rattle.std.proofs.Common.{subst}
use Rattle.std.proofs.lemmas.Bool.{le-leb}
use Rattle.std.specs.Char.{is_ascii_digit}
use Rattle.std.specs.List.{list_all}
use Rattle.lang_tokens.specs.declared.word.Word.{Word}
use Rattle.lang_tokens.specs.declared.word.Word.TheVariants.{Main}
use Rattle.lang_tokens.specs.declared.token.Kind.{Kind}
use Rattle.lang_tokens.specs.declared.token.Kind.TheVariants as kind
use Rattle.lang_tokens.specs.declared.token.Aside.TheVariants as aside
use Rattle.lang_tokens.specs.Lexemes.{IsName, IsToken}
use Rattle.lang_tokens.specs.Words.{word_bytes}
use Rattle.lang_tokens.specs.Lexemes as lexemes
use Rattle.lang_tree.specs.Word.{is_word, begins_word, is_letter, is_word_byte}
use Rattle.source_tokens.specs.Texts.{IsNaming}

first_twice : (a d l : Bool) → (a && l) ≡ (a && ((a || d) && l))
first_twice true d l = refl
first_twice false d l = refl

-- a word of the lexer is one of the trees
same_word : (bytes : List ℕ) → lexemes.is_word bytes ≡ (begins_word bytes && list_all is_word_byte bytes)
same_word [] = refl
same_word (b ∷ bs) = first_twice (is_letter b) (is_ascii_digit b) (list_all is_word_byte bs)

-- the bytes of a name are a word of at most 32 bytes
pub name_word : (bytes : List ℕ) → IsName bytes → IsTrue (is_word bytes)
name_word bytes n = ap₂ (λ p q. p && q) (le-leb (length bytes) 32 n.short) (sym (same_word bytes) ∙ n.word)

-- and so are those of a reserved word
reserved_word : (word : Word) → IsTrue (is_word (word_bytes word))
reserved_word Main = refl
reserved_word word = refl

reserved_is : (word : Word) (bytes : List ℕ) → word_bytes word ≡ bytes → IsTrue (is_word bytes)
reserved_is word bytes t = subst (λ bs. IsTrue (is_word bs)) t (reserved_word word)

-- and so those of each token that is a name or reserved
pub naming_word : (k : Kind) (bytes : List ℕ) → IsNaming k → IsToken k bytes → IsTrue (is_word bytes)
naming_word kind.Name bytes n t = name_word bytes t
naming_word (kind.Word word) bytes n t = reserved_is word bytes t
naming_word (kind.Aside aside.Name) bytes n t = name_word bytes t
naming_word (kind.Aside (aside.Word word)) bytes n t = reserved_is word bytes t
naming_word (kind.Aside aside.Hash) bytes n t = absurd n
naming_word (kind.Aside (aside.Number v)) bytes n t = absurd n
naming_word (kind.Aside (aside.Sign sign)) bytes n t = absurd n
naming_word (kind.Aside aside.Foreign) bytes n t = absurd n
naming_word (kind.Number m) bytes n t = absurd n
naming_word (kind.Sign sign) bytes n t = absurd n
naming_word (kind.Foreign sort) bytes n t = absurd n
naming_word kind.End bytes n t = absurd n
