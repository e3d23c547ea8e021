-- What the items of a file define: constants by `const int`, and those of enumerations.
use Rattle.std.specs.Prelude.{◌≤◌, length, ℕ, ℤ, Bool, true, false, List, [], ◌∷◌, slice_range, flat_map, Option, Some, None, if◌then◌else◌}
use Rattle.std.specs.List.{list_any}
use Rattle.lang_tokens.specs.declared.token.Token.{Token}
use Rattle.source_items.specs.declared.item.Item.{Item}
use Rattle.source_tokens.specs.declared.definition.Definition.{Definition}
use Rattle.source_tokens.specs.Constants.{defined_at}
use Rattle.source_tokens.specs.View.{bytes_of}
use Rattle.source_constants.specs.declared.part.Part.{Part}
use Rattle.source_constants.specs.declared.part.Part.TheVariants as part
use Rattle.source_constants.specs.Parts.{parts_of, opposite}
use Rattle.source_constants.specs.Enumerations.{of_enumeration}

-- a definition stands for no number
abbrev pub is_no_number : Definition → Bool
is_no_number d = elim d.value [ None ↦ true | Some v ↦ false ]

-- a token is a word that is a macro at its place: its last definition before it is one for no number
abbrev pub is_macro : List Definition → (text : List ℕ) → Token → Bool
is_macro ds text t = elim (defined_at ds (bytes_of text t) t.at) [ None ↦ false | Some d ↦ is_no_number d ]

-- what stands behind `static`, or all
abbrev pub behind_static : List Part → List Part
behind_static (part.Static ∷ ps) = ps
behind_static ps = ps

-- what `const int` with this name and this number defines
abbrev pub by_const : List ℕ → (at : ℕ) → ℤ → Definition
by_const x at n = record { name = x; at = at; value = Some n; by_item = true }

-- what `const int` defines with a name, and a number that is given
abbrev pub of_const : List Part → Option Definition
of_const (part.Const ∷ part.Int ∷ part.Name x at ∷ part.Assign ∷ part.Number n ∷ part.Semicolon ∷ []) = Some (by_const x at n)
of_const (part.Const ∷ part.Int ∷ part.Name x at ∷ part.Assign ∷ part.Minus ∷ part.Number n ∷ part.Semicolon ∷ []) =
    Some (by_const x at (opposite n))
of_const ps = None

-- one definition, if there is one
abbrev pub only_if : Option Definition → List Definition
only_if None = []
only_if (Some d) = d ∷ []

-- what an item defines without macros: an enumeration's constants, or else that of `const int`
abbrev pub of_item : List Part → List Definition
of_item ps = elim (of_enumeration ps) [ None ↦ only_if (of_const (behind_static ps)) | Some ds ↦ ds ]

-- what an item with these tokens defines: nothing where one of them is a macro
abbrev pub defined_in : List Definition → (text : List ℕ) → List Token → List Definition
defined_in macros text ts = if list_any (is_macro macros text) ts then [] else of_item (parts_of text ts)

-- the item's tokens are there
pub record IsItemOf (code : List Token) (item : Item) : Type 0 where
  pub order : item.first ≤ item.end
  pub within : item.end ≤ length code

-- the tokens of an item
abbrev pub item_tokens : List Token → Item → List Token
item_tokens code item = slice_range code item.first item.end

-- what items define, where directives define these
abbrev pub by_items : List Definition → (text : List ℕ) → (code : List Token) → List Item → List Definition
by_items macros text code items = flat_map (λ item. defined_in macros text (item_tokens code item)) items
