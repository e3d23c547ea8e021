-- What is true of annotations: they may stand where they do, and what they say is so in every run.
use Rattle.std.specs.Prelude.{◌≡◌, ◌<◌, ◌++◌, ◌∷◌, ℕ, ℤ, List, [], Contains, IsTrue, length, slice_range}
use Rattle.std.specs.List.{All}
use Rattle.flow_systems.specs.Equations.{Vector}
use Rattle.flow_systems.specs.Solutions.{Holds, equations_of_program}
use Rattle.flow_edges.specs.declared.point.Point.{Point}
use Rattle.source_grammar.specs.Grammar.{Function, Reads}
use Rattle.source_tokens.specs.View.{tokens_of}
use Rattle.source_tokens.specs.declared.definition.Definition.{Definition}
use Rattle.source_constants.specs.Directives.{code_of}
use Rattle.lang_tokens.specs.declared.lexicon.Lexicon.TheVariants.{C}
use Rattle.lang_tokens.specs.Reading as lex
use Rattle.lang_tokens.specs.declared.token.Token as lex_token
use Rattle.lang_tree.specs.Runs.{Configuration, IsAt, IsRun}
use Rattle.lang_tree.specs.Tree.{Statements}
use Rattle.lang_tree.specs.Word.{is_word}
use Rattle.acsl_comments.specs.Places.{MayStand}
use Rattle.acsl_anchors.specs.Anchors.{anchors_of}
use Rattle.acsl_notes.specs.Clauses.{Clause, IsTrueAt, clauses}
use Rattle.acsl_notes.specs.Texts.{comments_from}

-- The comments of a function may be put into its text: its tokens are some of those of the text that stand in no directive, in which
-- `front` are all but the end.
abbrev pub CommentsMayStand : Type 0
CommentsMayStand = (constants : List Definition) (text : List ℕ) (tokens front : List lex_token.Token) (first end : ℕ) (f : Function)
    (names : List (List ℕ)) (points : List Point) (template : List (List ℤ)) (v : Vector) → lex.Reads C text tokens
    → front ++ lex.end_at (length text) ∷ [] ≡ tokens
    → Reads (tokens_of constants text (slice_range (code_of front) first end)) f → All (λ name. IsTrue (is_word name)) names
    → MayStand text tokens (comments_from text names template v 0 points (anchors_of f))

-- each condition that a vector gives at a point is true in every run, at every configuration that is there
abbrev pub SaysTruth : (variables : ℕ) → Statements → List (List ℤ) → Vector → Type 0
SaysTruth variables body template v = (p : ℕ) (known : List ℕ) (clause : Clause) → Contains (clauses known template (v p)) clause
    → (run : List Configuration) (now : Configuration) → IsRun variables body run → Contains run now → IsAt now p
    → IsTrueAt clause now.state

-- What a vector that holds in a program's runs says is so.
abbrev pub ClausesHold : Type 0
ClausesHold = (variables : ℕ) (body : Statements) (template : List (List ℤ)) (v : Vector) → 0 < length template
    → Holds (equations_of_program variables body template) body v → SaysTruth variables body template v
