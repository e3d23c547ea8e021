-- Every generated text reads, as a program within the limits.
use Rattle.std.specs.Prelude.{◌≡◌, ◌≤◌, ◌+◌, ◌*◌, ℕ, List, length, None, Ok}
use Rattle.base_limits.specs.declared.limits.TheConstants.{MOST_LOOPS, MOST_PROGRAM_BYTES}
use Rattle.lang_tokens.specs.declared.lexicon.Lexicon.TheVariants.{Own}
use Rattle.lang_tokens.specs.declared.token.Token.{Token}
use Rattle.lang_tokens.specs.Reading.{Reads}
use Rattle.lang_grammar.specs.View.{tokens_of}
use Rattle.lang_meaning.specs.Meaning.{Means}
use Rattle.flow_edges.specs.declared.edge.Edge.{Edge}
use Rattle.flow_edges.specs.Edges.{edges_of_program}
use Rattle.flow_edges.specs.Faults.{fault_of_program}
use Rattle.flow_edges.specs.Points.{points_of_program}
use Rattle.flow_edges.proofs.Each.{Each}
use Rattle.flow_templates.specs.Domains.{intervals_of}
use Rattle.flow_systems.specs.declared.limits.TheConstants.{MOST_UNKNOWNS}
use Rattle.out_workload.specs.Texts.{generated_text}
use Rattle.out_workload.specs.Bodies.{generated_names, generated_body}

-- an edge leads to its own point or on, by at most four actions
pub record LeadsOn (e : Edge) : Type 0 where
  pub on : e.from ≤ e.to
  pub few : length e.actions ≤ 4

-- The text of a number of loops from a seed is short enough to be read, and reads as tokens that mean the body over a, b and c. This has
-- points and edges within the limits, one point for each loop beside the entry and the exit; and its system over intervals has unknowns
-- within them. Its edges lead on, so that no two points depend on each other, and a joint problem is of one point.
pub record IsSolvable (seed loops : ℕ) : Type 0 where
  pub tokens : List Token
  pub short : length (generated_text seed loops) ≤ MOST_PROGRAM_BYTES
  pub reads : Reads Own (generated_text seed loops) tokens
  pub means : Means (generated_text seed loops) (tokens_of (generated_text seed loops) tokens)
      (Ok (generated_names, generated_body seed loops))
  pub within : fault_of_program (generated_body seed loops) ≡ None
  pub points : length (points_of_program (generated_body seed loops)) ≡ loops + 2
  pub unknowns : length (points_of_program (generated_body seed loops)) * length (intervals_of 3) ≤ MOST_UNKNOWNS
  pub edges : Each LeadsOn (edges_of_program (generated_body seed loops))

-- each text of as many loops as there may be
abbrev pub GeneratedTextsRead : Type 0
GeneratedTextsRead = (seed loops : ℕ) → loops ≤ MOST_LOOPS → IsSolvable seed loops
