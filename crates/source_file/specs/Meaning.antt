-- What the tokens of a file mean: the function that is asked about, or the first fault. Faults of brackets come first, then names of
-- functions and of constants that stand twice, then that no function is meant; then those of the function that is: the first token that
-- stands in no function of the language or is a macro, and then those of its grammar, and of its walk.
use Rattle.std.specs.Prelude.{◌≡◌, ◌⊎◌, ℕ, List, [], ◌∷◌, Option, Some, None, Result, Err, length, map, nat_lt, slice_range, if◌then◌else◌}
use Rattle.std.specs.List.{slice_get}
use Rattle.lang_tokens.specs.declared.token.Token.{Token}
use Rattle.lang_tokens.specs.declared.token.Kind.TheVariants as kind
use Rattle.lang_tokens.specs.Lines.{line_at}
use Rattle.source_items.specs.declared.item.Item.{Item}
use Rattle.source_items.specs.Divisions as file
use Rattle.source_grammar.specs.Tokens as g
use Rattle.source_grammar.specs.Grammar.{Function, Reads}
use Rattle.source_grammar.specs.Faults as grammar
use Rattle.source_tree.specs.Statements.{Statements}
use Rattle.source_meaning.specs.declared.fault.FunctionFault.{FunctionFault}
use Rattle.source_meaning.specs.Walk.{walk}
use Rattle.source_tokens.specs.declared.definition.Definition.{Definition}
use Rattle.source_tokens.specs.View.{marks_of, tokens_of}
use Rattle.source_constants.specs.Directives.{code_of}
use Rattle.source_constants.specs.Items.{is_macro}
use Rattle.source_constants.specs.Definitions as constants
use Rattle.source_constants.specs.Definitions.{definitions_of}
use Rattle.base_integers.specs.declared.integers.Integers.TheVariants.{Mathematical}
use Rattle.source_file.specs.Functions.{functions_of}
use Rattle.source_file.specs.Choice.{repeated, chosen}
use Rattle.source_file.specs.declared.functions.Defined.{Defined}
use Rattle.source_file.specs.declared.fault.SourceFault.{SourceFault}
use Rattle.source_file.specs.declared.fault.SourceFault.TheVariants as fault
use Rattle.base_integers.specs.declared.integers.Integers.{Integers}

-- the variables in order of declaration, and the statements of C
abbrev pub Answer : Type 0
Answer = Result (List (List ℕ) × Statements) SourceFault

-- the place of the token of this number, or the end of the text
abbrev pub place_of : (text : List ℕ) → List Token → (index : ℕ) → ℕ
place_of text ts index = elim (slice_get ts index) [ None ↦ length text | Some t ↦ t.at ]

-- the tokens of a function, of those of code
abbrev pub item_of : List Token → Defined → List Token
item_of code d = slice_range code d.first d.end

-- what a function means, as an answer
abbrev pub walked : Result (List (List ℕ) × Statements) FunctionFault → Answer
walked (Result.Ok read) = Result.Ok read
walked (Result.Err e) = Err (fault.Function e)

-- what the tokens of an item mean that is a function
abbrev pub FunctionMeans : (integers : Integers) (text : List ℕ) → List g.Token → Answer → Type 0
FunctionMeans integers text ts r =
    ((a : ℕ) × grammar.Finds (grammar.unexpected a) ts × (r ≡ Err (fault.Unexpected a)))
    ⊎ (((a : ℕ) × grammar.Finds (grammar.nested a) ts × (r ≡ Err (fault.Nesting a)))
    ⊎ ((f : Function) × Reads ts f × grammar.Fine ts × (r ≡ walked (walk integers (line_at text) f))))

-- by these definitions
module _ (definitions : List Definition) (text : List ℕ) where
  -- a token that is one of code of a function, unless it is a macro
  abbrev pub unless_macro : Token → Option SourceFault
  unless_macro t = if is_macro definitions text t then Some (fault.Macro t.at) else None

  -- why a token may stand in no function
  abbrev pub outside : Token → Option SourceFault
  outside t = elim t.kind [ kind.Foreign foreign ↦ Some (fault.Foreign t.at foreign) | _ ↦ unless_macro t ]

  -- the first such token
  abbrev pub first_outside : List Token → Option SourceFault
  first_outside [] = None
  first_outside (t ∷ ts) = elim (outside t) [ None ↦ first_outside ts | Some e ↦ Some e ]

  -- what the tokens of an item mean where this is the first fault of one of them, or none is
  abbrev pub ItemMeans : (integers : Integers) → List Token → Option SourceFault → Answer → Type 0
  ItemMeans integers ts (Some e) r = r ≡ Err e
  ItemMeans integers ts None r = FunctionMeans integers text (tokens_of definitions text ts) r

  -- what is meant where this function is, of those whose tokens of code these are
  abbrev pub ChosenMeans : (integers : Integers) → List Token → Option Defined → Answer → Type 0
  ChosenMeans integers code None r = r ≡ Err fault.WhichFunction
  ChosenMeans integers code (Some d) r = ItemMeans integers (item_of code d) (first_outside (item_of code d)) r

  -- what is meant where these are the functions of the file, and this is the place of the first name that stands twice
  abbrev pub FunctionsMean : (integers : Integers) → (asked : Option (List ℕ)) → List Token → List Defined → Option ℕ → Answer → Type 0
  FunctionsMean integers asked code ds (Some at) r = r ≡ Err (fault.NameTwice at)
  FunctionsMean integers asked code ds None r = ChosenMeans integers code (chosen asked ds) r

-- the first of two places
abbrev pub first_place : Option ℕ → Option ℕ → Option ℕ
first_place None other = other
first_place (Some at) None = Some at
first_place (Some at) (Some other) = Some (if nat_lt other at then other else at)

-- the place of the first name of a function or of a constant that stood before
abbrev pub twice : List Defined → List Definition → Option ℕ
twice ds definitions = first_place (repeated [] ds) (constants.repeated [] definitions)

-- The tokens of a text, without its end, mean this where `asked` is the name of the function that is asked about, if one is named.
abbrev pub Means : (integers : Integers) (text : List ℕ) → (asked : Option (List ℕ)) → List Token → Answer → Type 0
Means integers text asked ts r =
    ((index : ℕ) × file.Finds (file.unexpected index) (marks_of (code_of ts))
    × (r ≡ Err (fault.Unexpected (place_of text (code_of ts) index))))
    ⊎ ((items : List Item) × file.Finds (file.divided items) (marks_of (code_of ts))
    × FunctionsMean (definitions_of integers text ts items) text integers asked (code_of ts) (functions_of text (code_of ts) items)
    (twice (functions_of text (code_of ts) items) (definitions_of integers text ts items)) r)

-- these are the functions of a file, and what it defines outside them; no two of either have one name
pub record AreFunctions (integers : Integers) (text : List ℕ) (ts : List Token) (definitions : List Definition) (ds : List Defined) : Type 0
  where
    pub items : List Item
    pub found : file.Finds (file.divided items) (marks_of (code_of ts))
    pub are : ds ≡ functions_of text (code_of ts) items
    pub defined : definitions ≡ definitions_of integers text ts items
    pub apart : twice ds definitions ≡ None

-- this function of a file is the one that is asked about, and all of its tokens may stand in one; this is what the file defines
pub record IsChosen (integers : Integers) (text : List ℕ) (asked : Option (List ℕ)) (ts : List Token) (definitions : List Definition)
    (d : Defined) : Type 0 where
  pub functions : List Defined
  pub are : AreFunctions integers text ts definitions functions
  pub picked : Some d ≡ chosen asked functions
  pub inside : first_outside definitions text (item_of (code_of ts) d) ≡ None

-- the names of functions, or that one stands twice, or a constant's
abbrev pub named_in : List Defined → Option ℕ → Result (List (List ℕ)) SourceFault
named_in ds (Some at) = Err (fault.NameTwice at)
named_in ds None = Result.Ok (map (λ (d : Defined). d.name) ds)

-- what the functions of a file are, in order, or its first fault; whether a constant stands twice is the same by all integers
abbrev pub NamesAre : (text : List ℕ) → List Token → Result (List (List ℕ)) SourceFault → Type 0
NamesAre text ts r =
    ((index : ℕ) × file.Finds (file.unexpected index) (marks_of (code_of ts))
    × (r ≡ Err (fault.Unexpected (place_of text (code_of ts) index))))
    ⊎ ((items : List Item) × file.Finds (file.divided items) (marks_of (code_of ts))
    × (r ≡ named_in (functions_of text (code_of ts) items)
    (twice (functions_of text (code_of ts) items) (definitions_of Mathematical text ts items))))
