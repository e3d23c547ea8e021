-- A law of divisions.
use Rattle.std.specs.Prelude.{◌≡◌, List}
use Rattle.source_items.specs.declared.mark.Mark.{Mark}
use Rattle.source_items.specs.Elements.{Elements, Holds}
use Rattle.source_items.specs.Divisions.{Outcome, Finds}

-- tokens are those of one list of elements at most, and one thing becomes of them
abbrev pub OneDivision : Type 0
OneDivision = (marks : List Mark)
    → ((es fs : Elements) → Holds marks es → Holds marks fs → es ≡ fs)
    × ((one other : Outcome) → Finds one marks → Finds other marks → one ≡ other)

-- and one of these is true of them
abbrev pub SomeDivision : Type 0
SomeDivision = (marks : List Mark) → (outcome : Outcome) × Finds outcome marks
