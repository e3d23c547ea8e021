-- The members that the entries of a map of variables stand for.
use Rattle.std.specs.Prelude.{ℕ, List, [], ◌∷◌, Vec}
use Rattle.serde_json.specs.Data.{string, Members, no_members, member}
use Rattle.base_numbers.specs.Rational.{ℚ}
use Rattle.base_fractions.specs.Texts.{frac_text}

-- a member for each variable, with its value as a text
abbrev pub entry_members : {Z : Type 0} → List (Vec ℕ Z × ℚ) → Members
entry_members [] = no_members
entry_members (e ∷ es) = member e.0.items (string (frac_text e.1)) (entry_members es)
