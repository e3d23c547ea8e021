-- What is true of each text's tokens.
use Rattle.std.specs.Prelude.{◌≡◌, ℕ, List, Option, Result, Ok, Contains}
use Rattle.std.specs.List.{All}
use Rattle.lang_tokens.specs.declared.token.Token.{Token}
use Rattle.lang_tokens.specs.Lexemes.{IsName}
use Rattle.source_items.specs.declared.item.Item.{Item}
use Rattle.source_items.specs.Divisions as file
use Rattle.source_grammar.specs.Faults as grammar
use Rattle.source_tree.specs.Statements.{Statements}
use Rattle.source_meaning.specs.Laws.{AreApart}
use Rattle.source_tokens.specs.Texts.{AreTokensIn}
use Rattle.source_tokens.specs.declared.definition.Definition.{Definition}
use Rattle.source_tokens.specs.View.{marks_of, tokens_of}
use Rattle.source_constants.specs.Directives.{code_of}
use Rattle.source_file.specs.Functions.{functions_of}
use Rattle.source_file.specs.Meaning.{Answer, Means, NamesAre, item_of}
use Rattle.source_file.specs.declared.functions.Defined.{Defined}
use Rattle.source_file.specs.declared.fault.SourceFault.{SourceFault}
use Rattle.base_integers.specs.declared.integers.Integers.{Integers}

-- tokens mean one thing at most, whatever is asked
abbrev pub OneMeaning : Type 0
OneMeaning = (integers : Integers) (text : List ℕ) (asked : Option (List ℕ)) (ts : List Token) (one other : Answer)
    → Means integers text asked ts one → Means integers text asked ts other → one ≡ other

-- and something
abbrev pub SomeMeaning : Type 0
SomeMeaning = (integers : Integers) (text : List ℕ) (asked : Option (List ℕ)) (ts : List Token)
    → (answer : Answer) × Means integers text asked ts answer

-- and their functions are one list at most
abbrev pub OneList : Type 0
OneList = (text : List ℕ) (ts : List Token) (one other : Result (List (List ℕ)) SourceFault)
    → NamesAre text ts one → NamesAre text ts other → one ≡ other

-- a function's item never ends too early: it is a function, or has a token that doesn't fit
abbrev pub ItemsAreWhole : Type 0
ItemsAreWhole = (text : List ℕ) (ts : List Token) (items : List Item) (d : Defined)
    → file.Finds (file.divided items) (marks_of (code_of ts)) → (definitions : List Definition)
    → Contains (functions_of text (code_of ts) items) d
    → grammar.Finds grammar.short (tokens_of definitions text (item_of (code_of ts) d)) → ⊥

-- the variables of a function that tokens of a text mean are names of the language, no two of which are one
abbrev pub ProgramNamesAreNames : Type 0
ProgramNamesAreNames =
    (integers : Integers) (text : List ℕ) (asked : Option (List ℕ)) (ts : List Token) (names : List (List ℕ)) (body : Statements)
    → AreTokensIn text ts → Means integers text asked ts (Ok (names, body)) → All IsName names × AreApart names
