-- A text with comments put in reads as the same program, and is the text again once they are taken out.
use Rattle.std.specs.Prelude.{◌≡◌, ◌++◌, ◌∷◌, ℕ, List, [], Option, Ok, length, map}
use Rattle.source_tokens.specs.View.{bytes_of, tokens_of}
use Rattle.lang_tokens.specs.Reading.{Reads, end_at}
use Rattle.lang_tokens.specs.declared.lexicon.Lexicon.TheVariants.{C}
use Rattle.lang_tokens.specs.declared.token.Token.{Token}
use Rattle.source_tokens.specs.declared.definition.Definition.{Definition}
use Rattle.source_tree.specs.Statements.{Statements}
use Rattle.source_core.specs.Core.{core_in}
use Rattle.source_file.specs.Meaning.{Means}
use Rattle.acsl_shift.specs.Moves.{moved, without_lines}
use Rattle.acsl_shift.specs.Sources.{without_places}
use Rattle.acsl_comments.specs.Places.{Ascend, MayStand}
use Rattle.acsl_comments.specs.Texts.{moved_by, with_comments, without_comments}
use Rattle.acsl_comments.specs.declared.comment.Comment.{Comment}
use Rattle.base_integers.specs.declared.integers.Integers.{Integers}

-- the same token where it stands after comments were put in
abbrev pub token_moved_by : List Comment → Token → Token
token_moved_by comments token = record { kind = token.kind; at = moved_by comments token.at; len = token.len }

-- the same definition where it stands then
abbrev pub definition_moved_by : List Comment → Definition → Definition
definition_moved_by comments d = record d { at = moved_by comments d.at }

-- Taking out what was put in gives the text back.
abbrev pub CommentsComeOut : Type 0
CommentsComeOut = (text : List ℕ) (comments : List Comment) → Ascend 0 (length text) (map (λ c. c.place) comments)
    → without_comments 0 (with_comments 0 text comments) comments ≡ text

-- what a text with comments reads as: the same tokens at the places where they stand then
pub record ReadsWith (text : List ℕ) (tokens : List Token) (comments : List Comment) : Type 0 where
  pub reads : Reads C (with_comments 0 text comments) (map (token_moved_by comments) tokens)
  -- with the same bytes
  pub bytes : map (bytes_of (with_comments 0 text comments)) (map (token_moved_by comments) tokens) ≡ map (bytes_of text) tokens
  -- and the same to the grammar of functions, but for their places, by whichever definitions, where these stand then
  pub same : (constants : List Definition)
      → tokens_of (map (definition_moved_by comments) constants) (with_comments 0 text comments) (map (token_moved_by comments) tokens)
      ≡ moved (moved_by comments) (tokens_of constants text tokens)

-- A text with comments has the same tokens, where comments may stand.
abbrev pub TokensStay : Type 0
TokensStay = (text : List ℕ) (tokens : List Token) (comments : List Comment) → Reads C text tokens → MayStand text tokens comments
    → ReadsWith text tokens comments

-- a text means the same function as before, but for its lines and the places of its tokens
pub record MeansWith (integers : Integers) (text : List ℕ) (comments : List Comment) (asked : Option (List ℕ)) (names : List (List ℕ))
    (body : Statements) :
    Type 0 where
  -- its tokens but for the end
  pub front : List Token
  -- what it means
  pub now : Statements
  pub reads : Reads C (with_comments 0 text comments) (front ++ end_at (length (with_comments 0 text comments)) ∷ [])
  pub means : Means integers (with_comments 0 text comments) asked front (Ok (names, now))
  -- it is the same without its lines and places
  pub same : without_places now ≡ without_places body
  -- so is its core but for its lines and the places of its checks
  pub core : without_lines (core_in integers (length names) now) ≡ without_lines (core_in integers (length names) body)

-- A text with comments means the same function but for its lines and the places of its tokens, where comments may stand.
abbrev pub ProgramsStay : Type 0
ProgramsStay = (integers : Integers) (text : List ℕ) (tokens front : List Token) (comments : List Comment) (asked : Option (List ℕ))
    (names : List (List ℕ))
    (body : Statements) → Reads C text tokens → front ++ end_at (length text) ∷ [] ≡ tokens
    → Means integers text asked front (Ok (names, body))
    → MayStand text tokens comments → MeansWith integers text comments asked names body
