-- The laws of packs.
use Rattle.std.specs.Prelude.{◌≡◌, ◌<◌, ◌≤◌, ℕ, List, [], true, length}
use Rattle.flow_templates.specs.Domains.{intervals_of, octagons_of}
use Rattle.lang_groups.specs.Groups.{are_together, SameTogether}
use Rattle.flow_packs.specs.Packs.{packs_of}

-- Groups by which the same variables are together have the same packs.
abbrev pub OneOfGroups : Type 0
OneOfGroups = (n : ℕ) (groups others : List (List ℕ)) → SameTogether groups others → packs_of n groups ≡ packs_of n others

-- Without groups, packs are intervals.
abbrev pub NoneAreIntervals : Type 0
NoneAreIntervals = (n : ℕ) → packs_of n [] ≡ intervals_of n

-- Where all variables are together, packs are octagons.
abbrev pub AllAreOctagons : Type 0
AllAreOctagons = (n : ℕ) (groups : List (List ℕ)) → ((i j : ℕ) → i < j → j < n → are_together groups i j ≡ true)
    → packs_of n groups ≡ octagons_of n

-- There are never more packs than octagons.
abbrev pub NoMoreThanOctagons : Type 0
NoMoreThanOctagons = (n : ℕ) (groups : List (List ℕ)) → length (packs_of n groups) ≤ length (octagons_of n)
