-- What the conditions of annotations are in the language: their bytes read as its tokens, which are an expression of it.
use Rattle.std.specs.Prelude.{◌≡◌, ◌↔◌, ◌==◌, ◌<◌, ◌+◌, ◌++◌, ◌∷◌, ℕ, ℤ, pos, true, false, not, IsTrue, List, [], length, Option, Some, Ok}
use Rattle.std.specs.Prelude.{nat_abs}
use Rattle.std.specs.List.{All, list_any, slice_get}
use Rattle.lang_tokens.specs.Lexemes.{IsName, greatest_literal}
use Rattle.lang_tokens.specs.declared.lexicon.Lexicon.TheVariants.{Own, C}
use Rattle.lang_tokens.specs.Reading as lex
use Rattle.lang_tokens.specs.declared.token.Token as lex_token
use Rattle.lang_grammar.specs.View.{tokens_of}
use Rattle.lang_tree.specs.Meaning.{State, MayBe}
use Rattle.lang_tree.specs.Numbers.{is_number, are_numbers}
use Rattle.lang_tree.specs.Tree.{Condition}
use Rattle.lang_meaning.specs.Forms.{products}
use Rattle.lang_meaning.specs.Expressions.{a_condition}
use Rattle.lang_meaning.specs.ExpressionAnswers.{ExpressionMeans}
use Rattle.source_tree.specs.Statements.{Statements}
use Rattle.source_file.specs.Meaning.{Means}
use Rattle.acsl_notes.specs.Clauses.{Clause, never, at_most, equals, IsTrueAt}
use Rattle.acsl_notes.specs.Texts.{clause_text}
use Rattle.base_integers.specs.declared.integers.Integers.{Integers}

-- Each is a name of the language, and stands once.
pub record AreNames (names : List (List ℕ)) : Type 0 where
  pub each : All IsName names
  pub once : (i j : ℕ) (name : List ℕ) → slice_get names i ≡ Some name → slice_get names j ≡ Some name → i ≡ j

-- The names of a function that a file means are such names.
abbrev pub ProgramNamesAreNames : Type 0
ProgramNamesAreNames = (integers : Integers) (text : List ℕ) (tokens front : List lex_token.Token) (asked : Option (List ℕ))
    (names : List (List ℕ))
    (body : Statements) → lex.Reads C text tokens → front ++ lex.end_at (length text) ∷ [] ≡ tokens
    → Means integers text asked front (Ok (names, body)) → AreNames names

-- A row with a coefficient for each name, of which one isn't 0; its numbers, the factor and their products are numbers of the language.
pub record IsWritableRow (names : List (List ℕ)) (factor : ℕ) (row : List ℤ) : Type 0 where
  pub one_each : length row ≡ length names
  pub some : IsTrue (list_any (λ c. not (nat_abs c == 0)) row)
  pub numbers : IsTrue (are_numbers row)
  pub factor_fits : IsTrue (is_number (pos factor))
  pub products_fit : IsTrue (are_numbers (products (pos factor) row))

-- The clause is one that the language can say: `\false` isn't, nor is a bound that a comparison doesn't take.
abbrev pub IsWritable : List (List ℕ) → Clause → Type 0
IsWritable names never = ⊥
IsWritable names (at_most factor row bound) = IsWritableRow names factor row × (nat_abs bound < greatest_literal)
IsWritable names (equals factor row bound) = IsWritableRow names factor row × (nat_abs bound < greatest_literal)

-- The text of the clause reads as tokens of the language. All but the end are one expression, a condition over these names, which is true
-- at a state exactly where the clause is.
pub record SaysClause (names : List (List ℕ)) (clause : Clause) : Type 0 where
  pub tokens : List lex_token.Token
  pub condition : Condition
  pub size : ℕ
  pub reads : lex.Reads Own (clause_text names clause) tokens
  pub whole : length tokens ≡ size + 1
  pub means : ExpressionMeans (clause_text names clause) (tokens_of (clause_text names clause) tokens) 0 names
      (Ok (a_condition condition, size))
  pub exact : (state : State) → MayBe true condition state ↔ IsTrueAt clause state
  pub exact_not : (state : State) → MayBe false condition state ↔ ¬ (IsTrueAt clause state)

-- Each clause that the language can say is written as a condition that says it.
abbrev pub WrittenClausesMean : Type 0
WrittenClausesMean = (names : List (List ℕ)) (clause : Clause) → AreNames names → IsWritable names clause → SaysClause names clause
