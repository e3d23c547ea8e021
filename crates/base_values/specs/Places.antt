-- The last member of a key in an object.
use Rattle.std.specs.Prelude.{◌+◌, ℕ, List, Option, None, Some, if◌then◌else◌, length, option_and_then, option_map}
use Rattle.std.specs.Str.{bytes_eq}
use Rattle.json.specs.Json.{Json, Members, member, members, no_members, value}
use Rattle.json.specs.Token.{Token}

-- how deep the values of a text's object may nest
abbrev pub member_depth : ℕ
member_depth = 126

-- the members up to the end of an object
abbrev pub members_at : List Token → Option (Members × List Token)
members_at ts = members (value member_depth) (length ts) ts

-- how many members have this key
abbrev pub count_key : List ℕ → Members → ℕ
count_key k no_members = 0
count_key k (member l j ms) = if bytes_eq l k then 1 + count_key k ms else count_key k ms

-- the first, and else the second
abbrev pub or_else : Option Json → Option Json → Option Json
or_else (Some j) other = Some j
or_else None other = other

-- the last member of this key
abbrev pub last : List ℕ → Members → Option Json
last k no_members = None
last k (member l j ms) = or_else (last k ms) (if bytes_eq l k then Some j else None)

-- the same of an object whose brace was taken
abbrev pub count_at : List ℕ → List Token → Option ℕ
count_at k ts = option_map (λ p. count_key k p.0) (members_at ts)

abbrev pub last_at : List ℕ → List Token → Option Json
last_at k ts = option_and_then (λ p. last k p.0) (members_at ts)
