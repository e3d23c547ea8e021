-- What the division of a file's tokens into items finds.
use Rattle.std.specs.Prelude.{◌≡◌, ◌⊎◌, ◌<◌, ◌+◌, ℕ, suc, List, [], ◌∷◌, length, take, Some, None}
use Rattle.source_items.specs.declared.mark.Mark.{Mark}
use Rattle.source_items.specs.declared.item.Item.{Item}
use Rattle.source_items.specs.declared.division.Division.{Division}
use Rattle.source_items.specs.declared.division.Division.TheVariants.{Divided, Unexpected}
use Rattle.source_items.specs.Elements.{Elements, all_spelled, Holds, Begins}
use Rattle.source_items.specs.Items.{items_of, name_behind}

-- items in order, the first of which begins behind so many tokens
abbrev pub placed : ℕ → List Elements → List Item
placed at [] = []
placed at (es ∷ rest) = record {
  first = at;
  end = at + length (all_spelled es);
  name = name_behind at es;
} ∷ placed (at + length (all_spelled es)) rest

-- The tokens are those of elements that make these items.
pub record IsDivided (marks : List Mark) (items : List Item) : Type 0 where
  pub elements : Elements
  pub holds : Holds marks elements
  pub parts : List Elements
  pub makes : items_of elements ≡ Some parts
  pub are : items ≡ placed 0 parts

-- The tokens before this one begin a list of elements, and with it they begin none.
abbrev pub IsUnmatched : List Mark → ℕ → Type 0
IsUnmatched marks index = (index < length marks) × Begins (take index marks) × (Begins (take (suc index) marks) → ⊥)

-- They begin one, and where they are one, it makes no items: the file ends too early.
abbrev pub IsShort : List Mark → Type 0
IsShort marks = Begins marks × ((es : Elements) → Holds marks es → items_of es ≡ None)

-- what becomes of the tokens of a file: they are these items, or the token of this number is the first that doesn't fit
pub data Outcome : Type 0 where
  divided : List Item → Outcome
  unexpected : ℕ → Outcome

-- what an answer of the code says
abbrev pub outcome_of : Division → Outcome
outcome_of (Divided items) = divided items.items
outcome_of (Unexpected index) = unexpected index

-- what is found
abbrev pub Finds : Outcome → List Mark → Type 0
Finds (divided items) marks = IsDivided marks items
Finds (unexpected index) marks = IsUnmatched marks index ⊎ ((index ≡ length marks) × IsShort marks)
