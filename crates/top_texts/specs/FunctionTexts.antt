-- The functions of the text of a C file, and what is written of them.
use Rattle.std.specs.Prelude.{◌≡◌, ◌++◌, ℕ, List, [], ◌∷◌, Result, Ok, Err, flat_map, length}
use Rattle.lang_tokens.specs.declared.lexicon.Lexicon.TheVariants.{C}
use Rattle.lang_tokens.specs.declared.token.Token.{Token}
use Rattle.lang_tokens.specs.Reading.{Reads, end_at}
use Rattle.lang_tokens.specs.Faults.{HasFault}
use Rattle.source_file.specs.Meaning.{NamesAre}
use Rattle.source_file.specs.declared.fault.SourceFault.{SourceFault}
use Rattle.flow_systems.specs.Report.{line}
use Rattle.top_status.specs.declared.status.TextCause.{TextCause}
use Rattle.top_status.specs.declared.status.TextCause.TheVariants.{Lex, Source}

-- the tokens of the text are those of a file whose functions have these names in order, or of one with a fault
abbrev pub Lists : List ℕ → Result (List (List ℕ)) SourceFault → Type 0
Lists text answer = (front : List Token) × Reads C text (front ++ end_at (length text) ∷ []) × NamesAre text front answer

-- the text is refused by this cause
abbrev pub AreNoFunctions : List ℕ → TextCause → Type 0
AreNoFunctions text (Lex fault) = HasFault C text fault
AreNoFunctions text (Source fault) = Lists text (Err fault)
AreNoFunctions text _ = ⊥

-- each name on a line
abbrev pub name_lines : List (List ℕ) → List ℕ
name_lines names = flat_map line names

-- the bytes are the names of the text's functions, each on a line
pub record AreFunctionsOf (text bytes : List ℕ) : Type 0 where
  pub names : List (List ℕ)
  pub lists : Lists text (Ok names)
  pub lines : bytes ≡ name_lines names
