-- Lists of fractions, with all their entries or without zeros.
use Rattle.std.specs.Prelude.{◌&&◌, ◌==◌, ℕ, suc, Bool, true, false, List, Option, Some, None, not, nat_le, option_and_then, option_map}
use Rattle.std.specs.Prelude.{codes, if◌then◌else◌}
use Rattle.serde_json.specs.Data.{Data, Items, array, item, no_items}
use Rattle.serde_json.specs.Find.{as_array, as_str, at, get}
use Rattle.base_numbers.specs.Rational.{ℚ}
use Rattle.cert_written.specs.declared.pairs.Pair.{Pair}
use Rattle.cert_written.specs.declared.entries.Entries.{Entries}
use Rattle.cert_written.specs.declared.entries.Entries.TheVariants.{Dense, Sparse}
use Rattle.cert_written.specs.Entries.{without_zeros}
use Rattle.cert_written.specs.Pairs.{if_sparse}
use Rattle.cert_text.specs.Lists.{is_list, list_data, list_in}
use Rattle.cert_text.specs.Numbers.{frac_data, frac_in, is_text}
use Rattle.cert_text.specs.Keys.{index_data, index_in, item_count, passes, same_text}

-- a list of texts
abbrev pub are_texts : Data → Bool
are_texts d = is_list is_text d

-- the fractions that a value is
abbrev pub fracs_in : Data → Option (List ℚ)
fracs_in d = list_in frac_in d

-- ---- pairs of a place and a value that isn't 0

-- a text other than 0
abbrev pub is_value : Data → Bool
is_value d = is_text d && not (same_text (codes "0") (as_str d))

-- the place of a pair
abbrev pub place_in : Data → Option ℕ
place_in d = option_and_then index_in (at 0 d)

-- a list of two values: an index, and a text other than 0
abbrev pub is_pair : Data → Bool
is_pair d = item_count d == 2 && passes is_value (at 1 d)

-- there is a place, from this least one on
abbrev pub is_from : ℕ → Option ℕ → Bool
is_from least None = false
is_from least (Some place) = nat_le least place

-- the least place behind one
abbrev pub behind : Option ℕ → ℕ
behind None = 0
behind (Some place) = suc place

-- the places ascend from this least one on
abbrev pub ascend : ℕ → Items → Bool
ascend least no_items = true
ascend least (item d ds) = is_from least (place_in d) && ascend (behind (place_in d)) ds

-- the same of values that may be absent
abbrev pub do_ascend : Option Items → Bool
do_ascend None = false
do_ascend (Some ds) = ascend 0 ds

-- a list of pairs whose places ascend
abbrev pub are_pairs : Data → Bool
are_pairs d = is_list is_pair d && do_ascend (as_array d)

-- the pair that a value is
abbrev pub pair_in : Data → Option Pair
pair_in d = option_and_then (λ place. option_map (λ value. record { place = place; value = value }) (option_and_then frac_in (at 1 d)))
    (place_in d)

-- the pairs that a value is
abbrev pub pairs_in : Data → Option (List Pair)
pairs_in d = option_and_then if_sparse (list_in pair_in d)

-- the value of a pair
abbrev pub pair_data : Pair → Data
pair_data p = array (item (index_data p.place) (item (frac_data p.value) no_items))

-- the value of pairs
abbrev pub pairs_data : List Pair → Data
pairs_data ps = list_data pair_data ps

-- ---- either

-- a list of texts; or of pairs, where lists are without zeros
abbrev pub are_entries : Bool → Data → Bool
are_entries sparse d = if sparse then are_pairs d else are_texts d

-- the list that a value is
abbrev pub entries_in : Bool → Data → Option Entries
entries_in sparse d = if sparse then option_map (λ ps. Sparse ps) (pairs_in d) else option_map (λ qs. Dense qs) (fracs_in d)

-- the list that the member of this key is
abbrev pub entries_at : Bool → List ℕ → Data → Option Entries
entries_at sparse key d = option_and_then (entries_in sparse) (get key d)

-- the value of a list: its zeros aren't written
abbrev pub entries_data : Entries → Data
entries_data e = pairs_data (without_zeros e)
