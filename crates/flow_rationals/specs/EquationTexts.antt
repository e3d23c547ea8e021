-- The equations of a text, or its first fault.
use Rattle.std.specs.Prelude.{◌≡◌, ◌⊎◌, ◌++◌, ℕ, List, [], ◌∷◌, map, slice_get, Some, Result, Ok, Err}
use Rattle.lang_tokens.specs.declared.lexicon.Lexicon.TheVariants.{Own}
use Rattle.lang_tokens.specs.declared.token.Token.{Token}
use Rattle.lang_tokens.specs.declared.fault.LexFault.{LexFault}
use Rattle.lang_tokens.specs.Reading.{Reads}
use Rattle.lang_tokens.specs.Faults.{HasFault}
use Rattle.flow_rationals.specs.declared.fault.EquFault.{EquFault}
use Rattle.flow_rationals.specs.declared.fault.EquFault.TheVariants.{Lex, Unexpected, NoMemory}
use Rattle.flow_rationals.specs.declared.equation.Sum.{Sum}
use Rattle.flow_rationals.specs.declared.equation.Equation.{Equation}
use Rattle.flow_rationals.specs.declared.reading.written.Choice.{Choice}
use Rattle.flow_rationals.specs.declared.reading.written.Written.{Written}
use Rattle.flow_rationals.specs.Symbols.{symbols_of}
use Rattle.flow_rationals.specs.Grammar.{Spells, Begins}
use Rattle.flow_rationals.specs.WrittenSums.{ratio_value, signed_value, sum_of}
use Rattle.flow_rationals.specs.EquFaults.{faults_of, sums_of}

-- the alternative that is written
abbrev pub alternative_of : List Written → Choice → List Sum
alternative_of es c = map (sum_of es) (sums_of c)

-- the equation that is written
abbrev pub equation_of : List Written → Written → Equation
equation_of es e = record {
  name = e.name;
  start = signed_value e.minus (ratio_value e.start);
  alternatives = map (alternative_of es) e.choices;
}

-- the equations that are written
abbrev pub equations_of : List Written → List Equation
equations_of es = map (equation_of es) es

-- The text's tokens spell these equations.
pub record ReadsWritten (text : List ℕ) (es : List Written) : Type 0 where
  pub tokens : List Token
  pub reads : Reads Own text tokens
  pub spelled : Spells (symbols_of text tokens) es

-- The tokens before one at this place begin a text of equations, and with it they begin none.
pub record HasUnexpected (text : List ℕ) (at : ℕ) : Type 0 where
  pub front : List Token
  pub token : Token
  pub rest : List Token
  pub reads : Reads Own text (front ++ token ∷ rest)
  pub begins : Begins (symbols_of text front)
  pub stops : Begins (symbols_of text (front ++ token ∷ [])) → ⊥
  pub place : token.at ≡ at

-- What a text is: these equations, or this fault.
pub data Answers (text : List ℕ) (answer : Result (List Equation) EquFault) : Type 0 where
  a_lexical_fault : (fault : LexFault) → answer ≡ Err (Lex fault) → HasFault Own text fault → Answers text answer
  an_unexpected : (at : ℕ) → answer ≡ Err (Unexpected at) → HasUnexpected text at → Answers text answer
  a_fault : (fault : EquFault) → answer ≡ Err fault → (es : List Written) → ReadsWritten text es → slice_get (faults_of es) 0 ≡ Some fault
      → Answers text answer
  some_equations : (es : List Written) → answer ≡ Ok (equations_of es) → ReadsWritten text es → faults_of es ≡ [] → Answers text answer

-- The result is this answer, unless memory is wanted.
abbrev pub Gives : Result (List Equation) EquFault → Result (List Equation) EquFault → Type 0
Gives (Ok equations) answer = answer ≡ Ok equations
Gives (Err fault) answer = (fault ≡ NoMemory) ⊎ (answer ≡ Err fault)
