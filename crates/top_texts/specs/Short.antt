-- How long texts may be.
use Rattle.std.specs.Prelude.{◌≤◌, ℕ, List, length}
use Rattle.base_limits.specs.declared.limits.TheConstants.{MOST_PROGRAM_BYTES, MOST_TEXT_BYTES}
use Rattle.ask_words.specs.declared.request.Domain.{Domain}
use Rattle.ask_words.specs.declared.request.Domain.TheVariants.{Intervals, Zones, Octagons, Packs, Rows}

-- a text as short as a program has to be
abbrev pub IsShortProgram : List ℕ → Type 0
IsShortProgram text = length text ≤ MOST_PROGRAM_BYTES

-- a text as short as any other has to be
abbrev pub IsShort : List ℕ → Type 0
IsShort text = length text ≤ MOST_TEXT_BYTES

-- the text of its rows is short
abbrev pub HasShortRows : Domain (List ℕ) → Type 0
HasShortRows Intervals = Unit {0}
HasShortRows Zones = Unit {0}
HasShortRows Octagons = Unit {0}
HasShortRows Packs = Unit {0}
HasShortRows (Rows text) = IsShort text
