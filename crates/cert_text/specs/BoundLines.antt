-- Bounds: a list for each point, of one bound for each row.
use Rattle.std.specs.Prelude.{◌/◌, ◌&&◌, ◌==◌, ◌++◌, ℕ, zero, suc, Bool, List, [], ◌∷◌, Option, length, take, drop}
use Rattle.serde_json.specs.Data.{Data}
use Rattle.base_numbers.specs.Extended.{Ext as Extended}
use Rattle.base_fractions.specs.declared.ext.Ext.{Ext}
use Rattle.cert_text.specs.Lists.{is_list, list_data, list_in}
use Rattle.cert_text.specs.Numbers.{bound_data, ext_data, ext_in, is_text}
use Rattle.cert_text.specs.Keys.{item_count}

-- the bounds of one point: a text for each row
abbrev pub is_line : ℕ → Data → Bool
is_line rows d = is_list is_text d && (item_count d == rows)

-- the bounds that a value is
abbrev pub line_in : Data → Option (List Ext)
line_in d = list_in ext_in d

-- the value of the bounds of one point, as extended numbers
abbrev pub line_data : List Extended → Data
line_data line = list_data bound_data line

-- the same of bounds as the code has them
abbrev pub ext_line_data : List Ext → Data
ext_line_data line = list_data ext_data line

-- n lists of this length, one after another
abbrev pub lines_of : {A : Type 0} → ℕ → ℕ → List A → List (List A)
lines_of rows zero xs = []
lines_of rows (suc n) xs = take rows xs ∷ lines_of rows n (drop rows xs)

-- the list for each point; without rows there is none
abbrev pub bounds_data : ℕ → List Extended → Data
bounds_data rows bounds = list_data line_data (lines_of rows (length bounds / rows) bounds)

-- lists one after another
abbrev pub joined : {A : Type 0} → List (List A) → List A
joined [] = []
joined (xs ∷ xss) = xs ++ joined xss
