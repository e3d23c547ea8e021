-- A name that comes next.
use Rattle.std.proofs.Common.{◌≡◌, ◌<◌, List, [], ◌∷◌, length, arith, subst, ℕ}
use Rattle.std.specs.Prelude.{IsTrue}
use Rattle.lang_tree.specs.Word.{is_word}
use Rattle.source_grammar.specs.Tokens.{Token}
use Rattle.source_reader.specs.Reading.{behind_first, first_kind, name_in}

-- there is a token where a word comes next
pub word_ahead : (ts : List Token) → IsTrue (is_word (name_in (first_kind ts))) → length (behind_first ts) < length ts
word_ahead [] h = absurd cc
word_ahead (t ∷ ts) h = omega arith

-- likewise of a word that is that name
pub word_next : (ts : List Token) (x : List ℕ) → x ≡ name_in (first_kind ts) → IsTrue (is_word x) → length (behind_first ts) < length ts
word_next ts x e h = let P : List ℕ → Type 0 = λ y. IsTrue (is_word y) in word_ahead ts (subst P e h)
