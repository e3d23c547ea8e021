-- The items of a step, whatever its kind.
use Rattle.std.specs.Prelude.{ℕ, zero, suc, Bool, true, false, List, [], ◌∷◌, length, get_or, nat_lt}
use Rattle.base_numbers.specs.Rational.{zero_ℚ}
use Rattle.cert_types.specs.declared.step.Step.{Step}
use Rattle.cert_types.specs.declared.step.Step.TheVariants.{Plain, Jump, Ray}
use Rattle.cert_types.specs.Certificates.{no_pieces, step_of}
use Rattle.theory_validity.specs.Steps.{Item}

-- how many items a step has
abbrev pub item_count : Step → ℕ
item_count (Plain items) = length items
item_count (Jump items) = length items
item_count (Ray items) = length items

-- they can be numbered by 32 bits
abbrev pub is_short : Step → Bool
is_short step = nat_lt (item_count step) 4294967296

-- the items of a step have a second trace
abbrev pub has_second : Step → Bool
has_second (Plain items) = false
has_second (Jump items) = true
has_second (Ray items) = true

-- what stands behind the end of a list of items
abbrev pub no_item : Item
no_item = record { point = 0; row = 0; edge = 0; low = no_pieces; second = no_pieces; number = zero_ℚ }

-- the item at a place of a step, where the template has so many rows
abbrev pub item_at : ℕ → Step → ℕ → Item
item_at rows step k = get_or (step_of rows step).items k no_item

-- the first items of a list, the last of them first
unfoldable pub earlier_items : List Item → ℕ → List Item
earlier_items items zero = []
earlier_items items (suc k) = get_or items k no_item ∷ earlier_items items k
