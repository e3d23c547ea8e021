-- What is kept of a value that is tested and not held.
use Rattle.serde_json.specs.Data.{Data, Members, member, no_members, null, number, boolean, string, array, object}

-- a number, and null in place of any other value
abbrev pub flat : Data → Data
flat null = null
flat (boolean b) = null
flat (number n) = number n
flat (string s) = null
flat (array ds) = null
flat (object ms) = null

-- the same keys, each value flat
abbrev pub flat_members : Members → Members
flat_members no_members = no_members
flat_members (member k d ms) = member k (flat d) (flat_members ms)

-- an object with its values flat, and null in place of any other value
abbrev pub outline_of : Data → Data
outline_of null = null
outline_of (boolean b) = null
outline_of (number n) = null
outline_of (string s) = null
outline_of (array ds) = null
outline_of (object ms) = object (flat_members ms)
