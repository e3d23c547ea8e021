-- Lists of JSON values, each read or written in one way.
use Rattle.std.specs.Prelude.{Bool, true, false, ◌&&◌, List, [], ◌∷◌, Option, Some, None, option_map, option_and_then}
use Rattle.serde_json.specs.Data.{Data, Items, no_items, item, array}
use Rattle.serde_json.specs.Find.{as_array}

-- each value passes the test
abbrev pub all_items : (Data → Bool) → Items → Bool
all_items test no_items = true
all_items test (item d ds) = test d && all_items test ds

-- the same of values that may be absent
abbrev pub items_pass : (Data → Bool) → Option Items → Bool
items_pass test None = false
items_pass test (Some ds) = all_items test ds

-- it is a list, and each value in it passes the test
abbrev pub is_list : (Data → Bool) → Data → Bool
is_list test d = items_pass test (as_array d)

-- what each value is read as, where all of them are read
abbrev pub items_in : {A : Type 0} → (Data → Option A) → Items → Option (List A)
items_in read no_items = Some []
items_in read (item d ds) = option_and_then (λ x. option_map (λ xs. x ∷ xs) (items_in read ds)) (read d)

-- the list that a value is read as
abbrev pub list_in : {A : Type 0} → (Data → Option A) → Data → Option (List A)
list_in read d = option_and_then (items_in read) (as_array d)

-- the values that elements are written as
abbrev pub items_data : {A : Type 0} → (A → Data) → List A → Items
items_data write [] = no_items
items_data write (x ∷ xs) = item (write x) (items_data write xs)

-- the value that a list is written as
abbrev pub list_data : {A : Type 0} → (A → Data) → List A → Data
list_data write xs = array (items_data write xs)
