-- What is told of the tokens of a text is what its functions are.
use Rattle.std.proofs.Common.{◌≡◌, ◌++◌, ℕ, List, [], ◌∷◌, length, sym, subst}
use Rattle.std.specs.Prelude.{Result, Ok, Err}
use Rattle.lang_tokens.specs.declared.lexicon.Lexicon.TheVariants.{C}
use Rattle.lang_tokens.specs.Reading.{Reads, end_at}
use Rattle.lang_tokens.specs.declared.token.Token.{Token}
use Rattle.source_file.specs.Gives.{NamesGive}
use Rattle.source_file.specs.Meaning.{NamesAre}
use Rattle.source_file.specs.declared.fault.SourceFault.{SourceFault}
use Rattle.source_file.specs.declared.fault.SourceFault.TheVariants.{NoMemory}
use Rattle.top_texts.specs.FunctionTexts.{Lists}

-- the names of functions, or a fault
abbrev pub Answer : Type 0
Answer = Result (List (List ℕ)) SourceFault

-- this is told of the tokens of a text before its end
abbrev pub AreTold : List ℕ → List Token → Answer → Type 0
AreTold text tokens result = (front : List Token) → front ++ end_at (length text) ∷ [] ≡ tokens
    → (wanted : Answer) × NamesAre text front wanted × NamesGive result wanted

-- the tokens of a text are those before its end, and its end
front_reads : (text : List ℕ) (tokens : List Token) (is : Reads C text tokens) → Reads C text (is.front ++ end_at (length text) ∷ [])
front_reads text tokens is = subst (λ ts. Reads C text ts) (sym is.told) is

-- names that are told are those of the text's functions
pub told_names : (text : List ℕ) (tokens : List Token) (names : List (List ℕ)) → Reads C text tokens → AreTold text tokens (Ok names)
    → Lists text (Ok names)
told_names text tokens names is told =
    let t = told is.front is.told in
    (is.front, front_reads text tokens is, subst (λ (a : Answer). NamesAre text is.front a) t.2 t.1)

-- a fault that is told is that of the text, unless memory is lacking
pub told_fault : (text : List ℕ) (tokens : List Token) (fault : SourceFault) → Reads C text tokens → AreTold text tokens (Err fault)
    → (answer : Answer) × Lists text answer × ((fault ≡ NoMemory → ⊥) → answer ≡ Err fault)
told_fault text tokens fault is told =
    let t = told is.front is.told in (t.0, (is.front, front_reads text tokens is, t.1), t.2)
