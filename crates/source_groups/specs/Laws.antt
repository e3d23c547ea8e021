-- What is true of each file.
use Rattle.std.specs.Prelude.{ℕ, List, Option}
use Rattle.base_integers.specs.declared.integers.Integers.{Integers}
use Rattle.lang_tokens.specs.declared.token.Token.{Token}
use Rattle.lang_groups.specs.Groups.{SameTogether}
use Rattle.source_groups.specs.Grouping.{AreGroups}

-- by any two lists of its groups the same variables stand together
abbrev pub OneGrouping : Type 0
OneGrouping = (integers : Integers) (text : List ℕ) (asked : Option (List ℕ)) (ts : List Token) (names : List (List ℕ))
    (one other : List (List ℕ)) → AreGroups integers text asked ts names one → AreGroups integers text asked ts names other
    → SameTogether one other
