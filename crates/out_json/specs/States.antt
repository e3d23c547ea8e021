-- A state as a JSON value: an object with a member for each variable.
use Rattle.std.specs.Prelude.{◌≡◌, ℕ, List, [], ◌∷◌, length}
use Rattle.serde_json.specs.Data.{Data, string, object, Members, no_members, put}
use Rattle.base_numbers.specs.Rational.{ℚ}
use Rattle.base_fractions.specs.Texts.{frac_text}

-- the members, and the values of more variables among them: each where its name belongs in the order of bytes
abbrev pub members_with : Members → List (List ℕ) → List ℚ → Members
members_with ms [] xs = ms
members_with ms (name ∷ names) [] = ms
members_with ms (name ∷ names) (x ∷ xs) = members_with (put name (string (frac_text x)) ms) names xs

-- the variables of these names with their values
abbrev pub state_value : List (List ℕ) → List ℚ → Data
state_value names xs = object (members_with no_members names xs)
