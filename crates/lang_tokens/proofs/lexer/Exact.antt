-- From an answer that is right to one that is exact.
use Rattle.std.proofs.Common.{◌≡◌, ◌⊎◌, ℕ, List, Result, Ok, Err, MatchResult, IfOk, IsErrAnd, inl, inr, ⊎_elim, Vec, Global}
use Rattle.lang_tokens.specs.declared.lexicon.Lexicon.{Lexicon}
use Rattle.lang_tokens.specs.declared.token.Token.{Token}
use Rattle.lang_tokens.specs.declared.fault.LexFault.{LexFault}
use Rattle.lang_tokens.specs.declared.fault.LexFault.TheVariants.{NoMemory}
use Rattle.lang_tokens.specs.Reading.{Reads}
use Rattle.lang_tokens.specs.Faults.{HasFault}
use Rattle.lang_tokens.specs.TokenLists.{AreTokensOf}
use Rattle.lang_tokens.proofs.reading.Once.{one_token_list, one_text_fault, no_fault}
use Rattle.lang_tokens.proofs.reading.Placed.{placed_tokens}

-- the tokens of the text, or its fault, or no memory
abbrev pub IsRight : Lexicon → List ℕ → Result (Vec Token Global) LexFault → Type 0
IsRight lexicon text result =
    MatchResult result (λ tokens. Reads lexicon text tokens.items) (λ fault. HasFault lexicon text fault ⊎ (fault ≡ NoMemory))

-- where the text has a reading, a right answer is its tokens or that memory ran out
pub reading_answered : (lexicon : Lexicon) (text : List ℕ) (result : Result (Vec Token Global) LexFault) → IsRight lexicon text result
    → (tokens : List Token)
    → Reads lexicon text tokens → MatchResult result (λ answer. answer.items ≡ tokens) (λ fault. fault ≡ NoMemory)
reading_answered lexicon text (Ok answer) right tokens reads = one_token_list lexicon text answer.items tokens right reads
reading_answered lexicon text (Err fault) right tokens reads =
    ⊎_elim (λ (has : HasFault lexicon text fault). absurd (no_fault lexicon text tokens fault reads has))
    (λ (none : fault ≡ NoMemory). none) right

-- where the text has a fault, a right answer is that fault or that memory ran out
pub fault_answered : (lexicon : Lexicon) (text : List ℕ) (result : Result (Vec Token Global) LexFault) → IsRight lexicon text result
    → (fault : LexFault)
    → HasFault lexicon text fault → IsErrAnd result (λ answer. (answer ≡ fault) ⊎ (answer ≡ NoMemory))
fault_answered lexicon text (Ok answer) right fault has = no_fault lexicon text answer.items fault right has
fault_answered lexicon text (Err answer) right fault has =
    ⊎_elim (λ (had : HasFault lexicon text answer). inl (one_text_fault lexicon text answer fault had has))
    (λ (none : answer ≡ NoMemory). inr none) right

-- the tokens of a right answer are tokens of the text in order, with its end last
pub tokens_placed : (lexicon : Lexicon) (text : List ℕ) (result : Result (Vec Token Global) LexFault) → IsRight lexicon text result
    → IfOk result (λ tokens. AreTokensOf text tokens.items)
tokens_placed lexicon text (Ok answer) right = placed_tokens lexicon text answer.items right
tokens_placed lexicon text (Err fault) right = tt
