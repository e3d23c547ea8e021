-- The elements of a list that are still to come.
use Rattle.std.specs.Prelude.{ℕ, Bool, true, false, List, Option, None, Some, is_some, length}
use Rattle.json.specs.Json.{items, value}
use Rattle.json.specs.Token.{Token}
use Rattle.serde_json.specs.Data.{Items, no_items}
use Rattle.serde_json.specs.Read.{converted, of_items}

-- how deep the elements of a list may nest that is a member of a text's object
abbrev pub element_depth : ℕ
element_depth = 125

-- the elements up to the end of a list
abbrev pub elements_at : List Token → Option (Items × List Token)
elements_at ts = converted of_items (items (value element_depth) (length ts) ts)

-- there are such elements
abbrev pub are_elements : List Token → Bool
are_elements ts = is_some (elements_at ts)

-- what was read, and nothing where nothing was
abbrev pub first_items : Option (Items × List Token) → Items
first_items None = no_items
first_items (Some p) = p.0

-- the tokens, unless the end was passed
abbrev pub unless_over : Bool → List Token → Option (List Token)
unless_over true ts = None
unless_over false ts = Some ts

-- the elements that are still to come
abbrev pub left_of : Option (List Token) → Items
left_of None = no_items
left_of (Some ts) = first_items (elements_at ts)
