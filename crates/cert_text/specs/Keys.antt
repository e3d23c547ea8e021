-- Members of objects, and indexes.
use Rattle.std.specs.Prelude.{◌+◌, ◌*◌, ◌^◌, ◌&&◌, ◌==◌, ℕ, Bool, false, List, Option, Some, None, nat_lt, is_some, if◌then◌else◌}
use Rattle.std.specs.Prelude.{option_and_then, codes}
use Rattle.std.specs.Str.{bytes_eq}
use Rattle.serde_json.specs.Data.{Data, Items, Members, number, unsigned}
use Rattle.serde_json.specs.Events.{items_len, members_len}
use Rattle.serde_json.specs.Find.{as_array, as_number, as_object, as_str, as_u64, at, get}

-- how many members an object has, and 0 for any other value
abbrev pub count_members : Option Members → ℕ
count_members None = 0
count_members (Some ms) = members_len ms

-- the same of the members that a value has
abbrev pub member_count : Data → ℕ
member_count d = count_members (as_object d)

-- how many values a list has, and 0 for any other value
abbrev pub count_items : Option Items → ℕ
count_items None = 0
count_items (Some ds) = items_len ds

-- the same of the values in it
abbrev pub item_count : Data → ℕ
item_count d = count_items (as_array d)

-- there is a value, and it passes
abbrev pub passes : (Data → Bool) → Option Data → Bool
passes test None = false
passes test (Some d) = test d

-- the member of this key is there and passes
abbrev pub passes_at : (Data → Bool) → List ℕ → Data → Bool
passes_at test key d = passes test (get key d)

-- there is a text, and it is this one
abbrev pub same_text : List ℕ → Option (List ℕ) → Bool
same_text text None = false
same_text text (Some found) = bytes_eq found text

-- the member `kind` is this text
abbrev pub is_kind : List ℕ → Data → Bool
is_kind text d = same_text text (option_and_then as_str (get (codes "kind") d))

-- ---- indexes

-- a whole number from 0 to 4294967295
abbrev pub index_in : Data → Option ℕ
index_in d = option_and_then (λ n. if nat_lt n (2 ^ 32) then Some n else None) (option_and_then as_u64 (as_number d))

-- it is an index
abbrev pub is_index : Data → Bool
is_index d = is_some (index_in d)

-- the index that the member of this key is
abbrev pub index_at : List ℕ → Data → Option ℕ
index_at key d = option_and_then index_in (get key d)

-- the value of an index
abbrev pub index_data : ℕ → Data
index_data n = number (unsigned n)

-- ---- unknowns

-- the number of the unknown of a point and a row, where there is this number of rows
abbrev pub numbered : ℕ → ℕ → ℕ → Option ℕ
numbered rows point row = if nat_lt row rows && nat_lt (point * rows + row) (2 ^ 32) then Some (point * rows + row) else None

-- the same of a point and a row that may be absent
abbrev pub unknown_from : ℕ → Option ℕ → Option ℕ → Option ℕ
unknown_from rows point row = option_and_then (λ p. option_and_then (numbered rows p) row) point

-- an unknown is a list of two indexes, that of its point and that of its row
abbrev pub unknown_in : ℕ → Data → Option ℕ
unknown_in rows d = if item_count d == 2 then unknown_from rows (option_and_then index_in (at 0 d)) (option_and_then index_in (at 1 d))
    else None

-- it is an unknown
abbrev pub is_unknown : ℕ → Data → Bool
is_unknown rows d = is_some (unknown_in rows d)

-- the number of the unknown that the member of this key is
abbrev pub unknown_at : ℕ → List ℕ → Data → Option ℕ
unknown_at rows key d = option_and_then (unknown_in rows) (get key d)
