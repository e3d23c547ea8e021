-- The functions of a file that may be asked about.
use Rattle.std.specs.Prelude.{◌∷◌, ℕ, List, [], Option, Some, None}
use Rattle.std.specs.List.{slice_get}
use Rattle.lang_tokens.specs.declared.token.Token.{Token}
use Rattle.lang_tokens.specs.declared.token.Kind.TheVariants as kind
use Rattle.lang_tokens.specs.declared.word.Word.{Word}
use Rattle.lang_tokens.specs.declared.word.Word.TheVariants.{Main}
use Rattle.source_items.specs.declared.item.Item.{Item}
use Rattle.source_tokens.specs.View.{bytes_of}
use Rattle.source_file.specs.declared.functions.Defined.{Defined}

-- the function with a body that an item of a text is, whose name is this token
abbrev pub function_at : (text : List ℕ) → Item → Token → Defined
function_at text item t = record { name = bytes_of text t; at = t.at; first = item.first; end = item.end }

-- a reserved word other than `main` names none that is asked about
abbrev pub if_main : {A : Type 0} → Word → A → Option A
if_main Main x = Some x
if_main word x = None

-- the function of an item whose name is this token, if it may be asked about
abbrev pub named_by : (text : List ℕ) → Item → Token → Option Defined
named_by text item t = elim t.kind [
  | kind.Name ↦ Some (function_at text item t)
  | kind.Word word ↦ if_main word (function_at text item t)
  | _ ↦ None
]

-- the function that an item is, if it is one
abbrev pub defined_by : (text : List ℕ) → (tokens : List Token) → Item → Option Defined
defined_by text tokens item = elim item.name [
  | None ↦ None
  | Some index ↦ elim (slice_get tokens index) [ None ↦ None | Some t ↦ named_by text item t ]
]

-- the functions of items in order
abbrev pub functions_of : (text : List ℕ) → (tokens : List Token) → List Item → List Defined
functions_of text tokens [] = []
functions_of text tokens (item ∷ items) = elim (defined_by text tokens item) [
  | None ↦ functions_of text tokens items
  | Some d ↦ d ∷ functions_of text tokens items
]
