-- The elements of a list, one after another.
use Rattle.std.proofs.Common.{◌≡◌, ◌-◌, ◌<◌, List, [], ◌∷◌, length, Bool, true, false, Option, Some, None, option_map}
use Rattle.std.proofs.Common.{option_and_then, refl, sym, ap, ◌∙◌, arith}
use Rattle.std.specs.Prelude.{is_some}
use Rattle.json.specs.Token.{Token}
use Rattle.json.specs.Json as json
use Rattle.json.specs.Json.{Parse, after_end_array, items, parse_map, value, value_with}
use Rattle.json.proofs.Grammar.{value-begin_array, value_is}
use Rattle.serde_json.specs.Data.{Data, Items, array, item, no_items, number, object, no_members}
use Rattle.serde_json.specs.Find.{as_array}
use Rattle.serde_json.specs.Read.{converted, number_of, of_items, of_json, of_members}
use Rattle.base_values.specs.Documents.{after_begin_array, read_at}
use Rattle.base_values.specs.Elements.{are_elements, elements_at, first_items}
use Rattle.base_values.proofs.Enough.{values_enough}
use Rattle.base_values.proofs.Turns.{item_read, items_over}

-- ---- an element more

more_items : (d : Data) (o : Option (Items × List Token)) → is_some (parse_map (item d) o) ≡ true
    → (first_items (parse_map (item d) o) ≡ item d (first_items o)) × (is_some o ≡ true)
more_items d None e = absurd cc
more_items d (Some p) e = (refl, refl)

next_is : (ts r : List Token) (d : Data) → after_end_array ts ≡ None → converted of_json (value 125 ts) ≡ Some (d, r) → length r < length ts
    → elements_at ts ≡ parse_map (item d) (elements_at r)
next_is ts r d going h less =
    item_read (value 125) (length ts) ts r d (omega arith) going h
    ∙ ap (λ o. parse_map (item d) (converted of_items o)) (values_enough 125 (length ts - 1) (length r) r (omega arith) (omega arith))

-- what is left is the element that was read, and then what is left behind it
pub next_element : (ts r : List Token) (d : Data) → after_end_array ts ≡ None → converted of_json (value 125 ts) ≡ Some (d, r)
    → length r < length ts → are_elements ts ≡ true
    → (first_items (elements_at ts) ≡ item d (first_items (elements_at r))) × (are_elements r ≡ true)
next_element ts r d going h less some =
    let same = next_is ts r d going h less in
    let more = more_items d (elements_at r) (sym (ap is_some same) ∙ some) in
    (ap first_items same ∙ more.0, more.1)

-- nothing is left where the list ends
pub ended : (ts r : List Token) → after_end_array ts ≡ Some r → first_items (elements_at ts) ≡ no_items
ended ts r e = ap first_items (items_over (value 125) (length ts) ts r (omega arith) e)

-- ---- a list that is opened

array_begun : (ts u : List Token) → after_begin_array ts ≡ Some u → ts ≡ Token.begin_array ∷ u
array_begun [] u e = absurd cc
array_begun (Token.begin_object ∷ ts) u e = absurd cc
array_begun (Token.end_object ∷ ts) u e = absurd cc
array_begun (Token.begin_array ∷ ts) u e = let same : ts ≡ u = cc in ap (λ r. Token.begin_array ∷ r) same
array_begun (Token.end_array ∷ ts) u e = absurd cc
array_begun (Token.key s ∷ ts) u e = absurd cc
array_begun (Token.string s ∷ ts) u e = absurd cc
array_begun (Token.number s ∷ ts) u e = absurd cc
array_begun (Token.boolean b ∷ ts) u e = absurd cc
array_begun (Token.null ∷ ts) u e = absurd cc
array_begun (Token.bad ∷ ts) u e = absurd cc

-- the value of what was read
abbrev first_data : Option (json.Json × List Token) → Option Data
first_data o = option_and_then of_json (option_map (λ p. p.0) o)

array_elements : (o : Option (json.Items × List Token)) → is_some (first_data (parse_map json.array o)) ≡ true
    → (is_some (converted of_items o) ≡ true)
    × (Some (first_items (converted of_items o)) ≡ option_and_then as_array (first_data (parse_map json.array o)))
array_elements None e = absurd cc
array_elements (Some (js, r)) e = by (of_items js) e
  where
    by : (x : Option Items) → is_some (option_map array x) ≡ true
        → (is_some {T = Items × List Token} (option_map (λ (b : Items). (b, r)) x) ≡ true)
        × (Some (first_items (option_map (λ (b : Items). (b, r)) x)) ≡ option_and_then as_array (option_map array x))
    by None f = absurd cc
    by (Some ds) f = (refl, refl)

-- the elements of a list whose bracket was taken
pub opened_is : (ts u : List Token) → after_begin_array ts ≡ Some u → is_some (read_at ts) ≡ true
    → (are_elements u ≡ true) × (Some (first_items (elements_at u)) ≡ option_and_then as_array (read_at ts))
opened_is ts u e h =
    let same : read_at ts ≡ first_data (parse_map json.array (items (value 125) (length u) u)) =
    ap read_at (array_begun ts u e) ∙ ap first_data (value-begin_array 126 u (omega arith)) in
    let both = array_elements (items (value 125) (length u) u) (sym (ap is_some same) ∙ h) in
    (both.0, both.1 ∙ ap (option_and_then as_array) (sym same))

abbrev no_list : json.Json → Bool
no_list json.null = true
no_list (json.boolean b) = true
no_list (json.number s) = true
no_list (json.string s) = true
no_list (json.array js) = false
no_list (json.object ms) = true

abbrev is_no_list : Option (json.Json × List Token) → Bool
is_no_list None = true
is_no_list (Some p) = no_list p.0

listless : (j : json.Json) → no_list j ≡ true → None ≡ option_and_then as_array (of_json j)
listless json.null e = refl
listless (json.boolean b) e = refl
listless (json.number s) e = by (number_of s)
  where
    by : (x : _) → None ≡ option_and_then as_array (option_map number x)
    by None = refl
    by (Some n) = refl
listless (json.string s) e = refl
listless (json.array js) e = absurd cc
listless (json.object ms) e = by (of_members ms no_members)
  where
    by : (x : _) → None ≡ option_and_then as_array (option_map object x)
    by None = refl
    by (Some all) = refl

first_listless : (o : Option (json.Json × List Token)) → is_no_list o ≡ true → None ≡ option_and_then as_array (first_data o)
first_listless None e = refl
first_listless (Some p) e = listless p.0 e

other_first : (a : Parse json.Items) (o : Parse json.Members) (ts : List Token) → after_begin_array ts ≡ None
    → is_no_list (value_with a o ts) ≡ true
other_first a o [] e = refl
other_first a o (Token.begin_object ∷ ts) e = by (o ts)
  where
    by : (x : Option (json.Members × List Token)) → is_no_list (parse_map json.object x) ≡ true
    by None = refl
    by (Some p) = refl
other_first a o (Token.end_object ∷ ts) e = refl
other_first a o (Token.begin_array ∷ ts) e = absurd cc
other_first a o (Token.end_array ∷ ts) e = refl
other_first a o (Token.key s ∷ ts) e = refl
other_first a o (Token.string s ∷ ts) e = refl
other_first a o (Token.number s ∷ ts) e = refl
other_first a o (Token.boolean b ∷ ts) e = refl
other_first a o (Token.null ∷ ts) e = refl
other_first a o (Token.bad ∷ ts) e = refl

-- no list begins with another token
pub unopened : (ts : List Token) → after_begin_array ts ≡ None → None ≡ option_and_then as_array (read_at ts)
unopened ts e = first_listless (value 126 ts) (ap is_no_list (value_is 126 ts) ∙ other_first _ _ ts e)
