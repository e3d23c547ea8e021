-- What is written: the text of a C file with the annotations of the least vector of the function that is asked about.
use Rattle.std.specs.Prelude.{◌≡◌, ◌++◌, ◌∷◌, ℕ, ℤ, List, [], Contains, Ok, length, map}
use Rattle.lang_tokens.specs.Lines.{line_at}
use Rattle.lang_tokens.specs.declared.lexicon.Lexicon.TheVariants.{C}
use Rattle.lang_tokens.specs.Reading as lex
use Rattle.lang_tokens.specs.declared.token.Token as lex_token
use Rattle.lang_tree.specs.Tree.{Statements}
use Rattle.source_grammar.specs.Grammar.{Function, Reads}
use Rattle.source_tree.specs.Statements as c
use Rattle.source_meaning.specs.Walk.{walk}
use Rattle.source_tokens.specs.View.{tokens_of}
use Rattle.source_tokens.specs.declared.definition.Definition.{Definition}
use Rattle.source_constants.specs.Directives.{code_of}
use Rattle.source_file.specs.Meaning.{IsChosen, item_of}
use Rattle.source_file.specs.declared.functions.Defined.{Defined}
use Rattle.flow_edges.specs.Points.{points_of_program}
use Rattle.flow_source.specs.ByC.{IsKeptByC}
use Rattle.flow_systems.specs.Equations.{Least, Vector}
use Rattle.flow_systems.specs.Solutions.{equations_of_program}
use Rattle.acsl_comments.specs.Law.{MeansWith}
use Rattle.acsl_comments.specs.Texts.{without_comments}
use Rattle.acsl_comments.specs.declared.comment.Comment.{Comment}
use Rattle.acsl_anchors.specs.Anchors.{anchors_of}
use Rattle.acsl_anchors.specs.Laws.{anchored, point_of}
use Rattle.acsl_notes.specs.Clauses.{Clause, IsTrueAt, clauses}
use Rattle.acsl_notes.specs.Laws.{SaysTruth}
use Rattle.acsl_notes.specs.Texts.{annotated, comments_from}
use Rattle.ask_files.specs.Files.{Request}
use Rattle.base_integers.specs.declared.integers.Integers.{Integers}
use Rattle.ask_words.specs.declared.request.Analysis.{Analysis}
use Rattle.ask_words.specs.declared.request.Domain.{Domain}
use Rattle.ask_words.specs.declared.request.Purpose.TheVariants.{Report}
use Rattle.ask_words.specs.declared.request.Request.TheVariants.{Analyse}
use Rattle.top_answer.specs.Commands.{Commands, command_of, done_writes}
use Rattle.top_status.specs.declared.status.Status.{Status}
use Rattle.top_texts.specs.Meanings.{Meanings}
use Rattle.top_texts.specs.Texts.{HasCore, IsReady, IsSolvable, Program}

-- the tree of the function of a file that is asked about: that of its tokens by what the file defines, which means these names and
-- statements of C
pub record IsTreeOf (program : Program) (names : List (List ℕ)) (statements : c.Statements) (tree : Function) : Type 0 where
  pub front : List lex_token.Token
  pub reads : lex.Reads C program.text (front ++ lex.end_at (length program.text) ∷ [])
  pub definitions : List Definition
  pub defined : Defined
  pub is_chosen : IsChosen program.integers program.text program.function front definitions defined
  pub tree_is : Reads (tokens_of definitions program.text (item_of (code_of front) defined)) tree
  pub means : walk program.integers (line_at program.text) tree ≡ Ok (names, statements)

-- the comments that say at the anchors of a function what a vector says at the points of its core
abbrev pub notes : (text : List ℕ) → List (List ℕ) → Statements → List (List ℤ) → Vector → Function → List Comment
notes text names body template v tree = comments_from text names template v 0 (points_of_program body) (anchors_of tree)

-- each condition that a vector gives at a point is true in every run by C of a function, at every configuration that is there
abbrev pub SaysTruthByC : Integers → (variables : ℕ) → c.Statements → List (List ℤ) → Vector → Type 0
SaysTruthByC integers variables statements template v = (p : ℕ) (known : List ℕ) (clause : Clause)
    → Contains (clauses known template (v p)) clause
    → IsKeptByC integers variables statements p (λ state. IsTrueAt clause state)

-- the bytes are the text of a file with the annotations of a vector of a function's core: each loop, each label and the end of the function
-- has, in their order, the point that is said of it; without them the bytes are the text, with them the function means the same, and what
-- they say is true in every run of the core, and in every run by C of the function
pub record IsTextWith (program : Program) (names : List (List ℕ)) (body : Statements) (template : List (List ℤ)) (v : Vector)
    (bytes : List ℕ) : Type 0 where
  pub has_core : HasCore program names body
  pub tree : Function
  pub is_tree : IsTreeOf program names has_core.statements tree
  pub points : map (point_of (line_at program.text)) (anchors_of tree) ≡ anchored (points_of_program body)
  pub written : bytes ≡ annotated program.text names (points_of_program body) template v (anchors_of tree)
  pub comes_out : without_comments 0 bytes (notes program.text names body template v tree) ≡ program.text
  pub means : MeansWith program.integers program.text (notes program.text names body template v tree) program.function names
      has_core.statements
  pub truth : SaysTruth (length names) body template v
  pub by_c : SaysTruthByC program.integers (length names) has_core.statements template v

-- they are the text of the file with the annotations of the function's least vector over the template of these rows
pub record IsAnnotatedOf (program : Program) (rows : Domain (List ℕ)) (bytes : List ℕ) : Type 0 where
  pub names : List (List ℕ)
  pub body : Statements
  pub template : List (List ℤ)
  pub ready : IsReady program rows names body template
  pub vector : Vector
  pub least : Least (equations_of_program (length names) body template) vector
  pub annotated : IsTextWith program names body template vector bytes

-- the texts of an analysis have least bounds, and the bytes are the text with the annotations of these
abbrev pub IsNoted : Analysis (List ℕ) → List ℕ → Type 0
IsNoted a bytes = IsSolvable a.program a.domain a.policy a.improvements × IsAnnotatedOf a.program a.domain bytes

-- what is written for a request, at an ending, by a program whose `solve` writes the text with the annotations of the least vector in place
-- of its report; it has one format
abbrev pub writes_noted : Meanings → Request → Status → List ℕ → Type 0
writes_noted m (Analyse Report a format) status bytes = done_writes (λ made. IsNoted a made) status bytes
writes_noted m asked status bytes = (command_of m asked).writes status bytes

-- the commands of that program: their endings, and what may exceed exact work, are those of the commands of `tmpl`
abbrev pub annotating : Meanings → Commands
annotating m asked = record (command_of m asked) { writes = λ status bytes. writes_noted m asked status bytes }
