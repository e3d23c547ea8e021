-- What a text is by its grammar: a transition system, or its first fault.
use Rattle.std.specs.Prelude.{◌≡◌, ◌⊎◌, ℕ, List, Result, Ok, Err}
use Rattle.lang_tokens.specs.declared.lexicon.Lexicon.TheVariants.{Own}
use Rattle.lang_tokens.specs.declared.token.Token.{Token}
use Rattle.lang_tokens.specs.declared.fault.LexFault.{LexFault}
use Rattle.lang_tokens.specs.Reading.{Reads}
use Rattle.lang_tokens.specs.Faults.{HasFault}
use Rattle.flow_transitions.specs.declared.auto.Auto.{Auto}
use Rattle.flow_transitions.specs.declared.fault.AutoFault.{AutoFault}
use Rattle.flow_transitions.specs.declared.fault.AutoFault.TheVariants.{Lex, NoMemory}
use Rattle.flow_transitions.specs.AutoContents.{Content, AutoAnswer}
use Rattle.flow_transitions.specs.AutoGrammar.{tokens_here}
use Rattle.flow_transitions.specs.AutoTrees.{SystemMeans}

-- a transition system without its limits
abbrev pub content : Auto → Content
content a = record { names = a.names; points = a.points; edges = a.edges }

-- What a text is: its tokens spell a transition system without fault, and it is this one; or they have this fault first; or it has none.
pub data IsAuto (text : List ℕ) (answer : AutoAnswer) : Type 0 where
  no_tokens : (f : LexFault) → HasFault Own text f → answer ≡ Err (Lex f) → IsAuto text answer
  by_tokens : (tokens : List Token) → Reads Own text tokens → SystemMeans text (tokens_here text tokens) answer → IsAuto text answer

-- The result is this answer, unless memory is wanted.
abbrev pub GivesAuto : Result Auto AutoFault → AutoAnswer → Type 0
GivesAuto (Ok a) answer = answer ≡ Ok (content a)
GivesAuto (Err f) answer = (f ≡ NoMemory) ⊎ (answer ≡ Err f)
