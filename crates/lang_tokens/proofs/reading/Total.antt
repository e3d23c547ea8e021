-- At every place a piece or a fault stands, so every text has a reading or a fault.
use Rattle.std.proofs.Common.{◌≡◌, ◌≤◌, ◌+◌, ◌⊎◌, ℕ, suc, zero, true, false, List, [], ◌∷◌, ◌++◌, length, drop, refl, ap, subst, arith}
use Rattle.std.proofs.Common.{inl, inr, ⊎_elim}
use Rattle.std.proofs.lemmas.Bool.{cases_Bool}
use Rattle.std.proofs.lemmas.List.{length-append, length-drop}
use Rattle.lang_tokens.specs.declared.lexicon.Lexicon.{Lexicon}
use Rattle.lang_tokens.specs.declared.lexicon.Lexicon.TheVariants.{Own, C}
use Rattle.lang_tokens.specs.declared.before.Before.{Before}
use Rattle.lang_tokens.specs.declared.before.Before.TheVariants.{Blanks}
use Rattle.lang_tokens.specs.declared.fault.LexFault.{LexFault}
use Rattle.lang_tokens.specs.declared.token.Token.{Token}
use Rattle.lang_tokens.specs.Directives.{starts_comment}
use Rattle.lang_tokens.specs.Reading.{spelling, is_blank_at, ReadsUpTo, Reads, end_at}
use Rattle.lang_tokens.specs.Faults.{HasFault}
use Rattle.lang_tokens.proofs.reading.Standing.{blank_stands}
use Rattle.lang_tokens.proofs.reading.AtComments.{AtPlace, a_piece, a_fault, at_comment}
use Rattle.lang_tokens.proofs.reading.AtOwn.{at_own}
use Rattle.lang_tokens.proofs.reading.AtC.{at_c}
use Rattle.lang_tokens.proofs.reading.Growth.{ReadsBehind, reads_none, reads_more, fault_behind, found_tokens, found_some, found_within}

at_byte : (lexicon : Lexicon) (before : Before) (place b : ℕ) (bs : List ℕ) → is_blank_at lexicon before (b ∷ bs) ≡ false
    → starts_comment (b ∷ bs) ≡ false → AtPlace lexicon before place (b ∷ bs)
at_byte Own before place b bs no_blank no_comment = at_own before place b bs no_blank no_comment
at_byte C before place b bs no_blank no_comment = at_c before place b bs no_blank no_comment

-- at every byte a piece or a fault stands
pub at_place : (lexicon : Lexicon) (before : Before) (place b : ℕ) (bs : List ℕ) → AtPlace lexicon before place (b ∷ bs)
at_place lexicon before place b bs = ⊎_elim
    (λ (comment : starts_comment (b ∷ bs) ≡ true). at_comment lexicon before place (b ∷ bs) comment)
    (λ (no_comment : starts_comment (b ∷ bs) ≡ false). ⊎_elim
    (λ (is : is_blank_at lexicon before (b ∷ bs) ≡ true). a_piece _ (blank_stands lexicon before (b ∷ bs) is))
    (λ (no_blank : is_blank_at lexicon before (b ∷ bs) ≡ false). at_byte lexicon before place b bs no_blank no_comment)
    (cases_Bool (is_blank_at lexicon before (b ∷ bs))))
    (cases_Bool (starts_comment (b ∷ bs)))

reads_end : (lexicon : Lexicon) (text : List ℕ) (at : ℕ) (tokens : List Token) → ReadsUpTo lexicon text at tokens []
    → Reads lexicon text (tokens ++ end_at (length text) ∷ [])
reads_end lexicon text at tokens reads =
    let whole : at ≡ length text = omega (arith, ap length reads.spelled, length-append (spelling reads.pieces) [], reads.place) in
    record { front = tokens; whole = subst (λ (n : ℕ). ReadsUpTo lexicon text n tokens []) whole reads; told = refl }

-- the tokens of a text, or its fault
abbrev pub HasAnswer : Lexicon → List ℕ → Type 0
HasAnswer lexicon text = ((tokens : List Token) × Reads lexicon text tokens) ⊎ ((fault : LexFault) × HasFault lexicon text fault)

answer_from : (lexicon : Lexicon) (most : ℕ) (text : List ℕ) (at : ℕ) (tokens : List Token) (rest : List ℕ) (before : Before)
    → length rest ≤ most
    → ReadsBehind lexicon text at tokens rest before → HasAnswer lexicon text
answer_from lexicon most text at tokens [] before short so_far =
    inl (tokens ++ end_at (length text) ∷ [], reads_end lexicon text at tokens so_far.reads)
answer_from lexicon zero text at tokens (b ∷ bs) before short so_far = absurd (omega arith)
answer_from lexicon (suc most) text at tokens (b ∷ bs) before short so_far = elim (at_place lexicon before at b bs) [
  | a_piece found stands ↦ answer_from lexicon most text (at + found.len) (tokens ++ found_tokens at found.kind found.len)
      (drop found.len (b ∷ bs))
      found.behind (omega (
        arith,
        length-drop found.len (b ∷ bs),
        found_some lexicon before (b ∷ bs) found stands,
        found_within lexicon before (b ∷ bs) found stands,
      ))
      (reads_more lexicon text at tokens (b ∷ bs) before found so_far stands)
  | a_fault fault stands ↦ inr (fault, fault_behind lexicon text at tokens (b ∷ bs) before fault so_far stands)
]

-- every text has a reading or a fault
pub has_answer : (lexicon : Lexicon) (text : List ℕ) → HasAnswer lexicon text
has_answer lexicon text = answer_from lexicon (length text) text 0 [] text Blanks (omega arith) (reads_none lexicon text)
