-- Systems of generated programs. Their texts are read as programs of the language, which needs no function to be asked about.
use Rattle.std.specs.Prelude.{ℕ, List, Ok}
use Rattle.lang_tokens.specs.declared.lexicon.Lexicon.TheVariants.{Own}
use Rattle.lang_tokens.specs.declared.token.Token.{Token}
use Rattle.lang_tokens.specs.Reading.{Reads}
use Rattle.lang_grammar.specs.View.{tokens_of}
use Rattle.lang_meaning.specs.Meaning.{Answer, Means}
use Rattle.flow_templates.specs.Domains.{intervals_of}
use Rattle.flow_systems.specs.declared.system.System.{System}
use Rattle.out_workload.specs.Bodies.{generated_body, generated_names}
use Rattle.out_workload.specs.Texts.{generated_text}
use Rattle.top_texts.specs.Rounds.{IsSystemFor}

-- the text's tokens mean this in the language: names and statements, or a fault
abbrev pub ReadsAs : List ℕ → Answer → Type 0
ReadsAs text answer = (tokens : List Token) × Reads Own text tokens × Means text (tokens_of text tokens) answer

-- the system of a generated program over intervals: the text of the program means its names and its body, and these have the system
pub record IsGenerated (seed loops : ℕ) (system : System) : Type 0 where
  pub reading : ReadsAs (generated_text seed loops) (Ok (generated_names, generated_body seed loops))
  pub system_for : IsSystemFor generated_names (generated_body seed loops) (intervals_of 3) system
