-- Texts that are read, and the tokens of their members.
use Rattle.std.specs.Prelude.{ℕ, List, [], ◌∷◌, Option, None, Some, option_and_then, option_map}
use Rattle.json.specs.Json.{Json, value}
use Rattle.json.specs.Token.{Token}
use Rattle.serde_json.specs.Data.{Data, null}
use Rattle.serde_json.specs.Read.{of_json, read}
use Rattle.base_values.specs.Places.{count_at, last_at, member_depth}

-- a value, and null where there is none
abbrev pub or_null : Option Data → Data
or_null None = null
or_null (Some d) = d

-- the value that a text spells
abbrev pub value_of : List ℕ → Data
value_of text = or_null (read text)

-- what follows the brace that opens an object, where one stands
abbrev pub after_begin_object : List Token → Option (List Token)
after_begin_object [] = None
after_begin_object (Token.begin_object ∷ ts) = Some ts
after_begin_object (Token.end_object ∷ ts) = None
after_begin_object (Token.begin_array ∷ ts) = None
after_begin_object (Token.end_array ∷ ts) = None
after_begin_object (Token.key s ∷ ts) = None
after_begin_object (Token.string s ∷ ts) = None
after_begin_object (Token.number s ∷ ts) = None
after_begin_object (Token.boolean b ∷ ts) = None
after_begin_object (Token.null ∷ ts) = None
after_begin_object (Token.bad ∷ ts) = None

-- the same of the bracket that opens a list
abbrev pub after_begin_array : List Token → Option (List Token)
after_begin_array [] = None
after_begin_array (Token.begin_object ∷ ts) = None
after_begin_array (Token.end_object ∷ ts) = None
after_begin_array (Token.begin_array ∷ ts) = Some ts
after_begin_array (Token.end_array ∷ ts) = None
after_begin_array (Token.key s ∷ ts) = None
after_begin_array (Token.string s ∷ ts) = None
after_begin_array (Token.number s ∷ ts) = None
after_begin_array (Token.boolean b ∷ ts) = None
after_begin_array (Token.null ∷ ts) = None
after_begin_array (Token.bad ∷ ts) = None

-- how many members of a key the object has that the tokens spell
abbrev pub count_in : List ℕ → List Token → Option ℕ
count_in k ts = option_and_then (count_at k) (after_begin_object ts)

-- the last of them
abbrev pub last_in : List ℕ → List Token → Option Json
last_in k ts = option_and_then (last_at k) (after_begin_object ts)

-- the value that the next tokens spell
abbrev pub read_at : List Token → Option Data
read_at ts = option_and_then of_json (option_map (λ p. p.0) (value member_depth ts))
