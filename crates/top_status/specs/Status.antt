-- The exit codes of a run, and where it has an output.
use Rattle.std.specs.Prelude.{ℕ, Bool, true, false}
use Rattle.top_status.specs.declared.status.Excess.TheVariants.{Wide, Large}
use Rattle.top_status.specs.declared.status.Status.{Status}
use Rattle.top_status.specs.declared.status.Status.TheVariants.{Done, Open, Certificate, Usage, Read, Text, Exceeded, Spent, Memory, Write}

-- the exit code
abbrev pub code_of : Status → ℕ
code_of Done = 0
code_of Open = 10
code_of (Certificate cause) = 1
code_of Usage = 2
code_of (Read cause) = 3
code_of (Text cause) = 4
code_of (Exceeded (Wide spot)) = 5
code_of (Exceeded (Large cells)) = 4
code_of (Spent improvements) = 6
code_of Memory = 7
code_of Write = 8

-- the whole output is put at this ending, and no message: the run is done, or a check is open
abbrev pub has_output : Status → Bool
has_output Done = true
has_output Open = true
has_output (Certificate cause) = false
has_output Usage = false
has_output (Read cause) = false
has_output (Text cause) = false
has_output (Exceeded excess) = false
has_output (Spent improvements) = false
has_output Memory = false
has_output Write = false
