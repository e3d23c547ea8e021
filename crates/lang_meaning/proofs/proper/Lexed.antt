-- The tokens of a text are proper, and end with `End`.
use Rattle.std.proofs.Common.{◌≡◌, ◌∙◌, ◌++◌, ◌+◌, ◌≤◌, ◌<◌, ℕ, zero, suc, List, [], ◌∷◌, length, get_or, take, drop, ◌-◌, Bool, true}
use Rattle.std.proofs.Common.{false, ◌&&◌, ◌||◌, IsTrue, nat_le, refl}
use Rattle.std.proofs.Common.{sym, subst, arith}
use Rattle.std.specs.Prelude.{slice_range}
use Rattle.std.proofs.lemmas.Bool.{le-leb}
use Rattle.lang_tokens.specs.declared.token.Kind.{Kind}
use Rattle.lang_tokens.specs.declared.token.Kind.TheVariants as kind
use Rattle.lang_tokens.specs.declared.token.Token.{Token}
use Rattle.lang_tokens.specs.Lexemes.{IsToken, IsName}
use Rattle.lang_tokens.specs.Reading.{end_at}
use Rattle.lang_tokens.specs.TokenLists.{AreTokensAfter, AreTokensOf}
use Rattle.lang_tree.specs.Word.{is_word, begins_word, is_letter, is_word_byte}
use Rattle.std.specs.Char.{is_ascii_digit}
use Rattle.lang_tokens.specs.Lexemes as lexemes
use Rattle.std.specs.List.{list_all}
use Rattle.lang_meaning.specs.Proper.{IsWordIn, IsProper, AllProper}
use Rattle.lang_meaning.proofs.forms.Ranges.{both_true}

-- a word of the lexer is one of the trees
first_twice : (a d l : Bool) → (a && l) ≡ (a && ((a || d) && l))
first_twice true d l = refl
first_twice false d l = refl

same_word : (bytes : List ℕ) → lexemes.is_word bytes ≡ (begins_word bytes && list_all is_word_byte bytes)
same_word [] = refl
same_word (b ∷ bs) = first_twice (is_letter b) (is_ascii_digit b) (list_all is_word_byte bs)

name_word : (bytes : List ℕ) → IsName bytes → IsTrue (is_word bytes)
name_word bytes n = both_true (nat_le (length bytes) 32) (begins_word bytes && list_all is_word_byte bytes)
    (le-leb (length bytes) 32 n.short) (sym (same_word bytes) ∙ n.word)

kind_proper : (k : Kind) (text : List ℕ) (t : Token) → t.at + t.len ≤ length text → IsToken k (slice_range text t.at (t.at + t.len))
    → IsWordIn k text t
kind_proper (kind.Word w) text t h i = tt
kind_proper kind.Name text t h i = (h, name_word _ i)
kind_proper (kind.Number n) text t h i = tt
kind_proper (kind.Sign s) text t h i = tt
kind_proper (kind.Foreign f) text t h i = tt
kind_proper (kind.Aside a) text t h i = tt
kind_proper kind.End text t h i = tt

front_proper : (text : List ℕ) (place : ℕ) (front : List Token) (n : ℕ) → AreTokensAfter text place front
    → AllProper text (front ++ end_at n ∷ [])
front_proper text place [] n h = (tt, tt)
front_proper text place (t ∷ ts) n h = (kind_proper t.kind text t h.0.within h.0.is_token, front_proper text (t.at + t.len) ts n h.1)

-- the names among the tokens of a text are words of it
pub all_proper : (text : List ℕ) (ts : List Token) → AreTokensOf text ts → AllProper text ts
all_proper text ts h = subst (AllProper text) h.ended (front_proper text 0 h.front (length text) h.placed)

-- where all tokens are proper, the one of each number is
pub proper_at : (text : List ℕ) (ts : List Token) (i : ℕ) (d : Token) → i < length ts → AllProper text ts → IsProper text (get_or ts i d)
proper_at text [] i d h p = absurd (omega arith)
proper_at text (t ∷ ts) zero d h p = p.0
proper_at text (t ∷ ts) (suc i) d h p = proper_at text ts i d (omega arith) p.1

-- what is true of all tokens is true of some of them
pub proper_range : (text : List ℕ) (ts : List Token) (i j : ℕ) → AllProper text ts → AllProper text (slice_range ts i j)
proper_range text ts i j p = taken (drop i ts) (j - i) (dropped ts i p) where
  dropped : (ts : List Token) (i : ℕ) → AllProper text ts → AllProper text (drop i ts)
  dropped ts zero p = p
  dropped [] (suc i) p = p
  dropped (t ∷ ts) (suc i) p = dropped ts i p.1

  taken : (ts : List Token) (n : ℕ) → AllProper text ts → AllProper text (take n ts)
  taken ts zero p = tt
  taken [] (suc n) p = tt
  taken (t ∷ ts) (suc n) p = (p.0, taken ts n p.1)
