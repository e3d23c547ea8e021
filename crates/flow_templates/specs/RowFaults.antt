-- The faults of rows that are given as lists, those of a file among them: how many they are, rows of zeros, lengths.
use Rattle.std.specs.Prelude.{◌==◌, ◌&&◌, ℕ, ℤ, if◌then◌else◌, List, [], ◌∷◌, ◌++◌, length, nat_le}
use Rattle.std.specs.List.{flat_map, enumerate_from}
use Rattle.flow_templates.specs.declared.fault.RowFault.{RowFault}
use Rattle.flow_templates.specs.declared.fault.RowFault.TheVariants.{ZeroRow, Count, Length}
use Rattle.flow_templates.specs.Rows.{is_row}
use Rattle.flow_templates.specs.declared.limits.TheConstants.{MOST_ROWS}

-- the fault of a row over n variables: its length comes before its coefficients
abbrev pub row_faults : ℕ → ℕ × List ℤ → List RowFault
row_faults n numbered =
    if length numbered.1 == n
    then (if is_row numbered.1 then [] else ZeroRow numbered.0 ∷ [])
    else Length numbered.0 ∷ []

-- the fault of a number of rows
abbrev pub count_faults : ℕ → List RowFault
count_faults count = if nat_le 1 count && nat_le count MOST_ROWS then [] else Count count ∷ []

-- the faults of these rows over n variables, the first of which stands on this line
abbrev pub faults_from : ℕ → ℕ → List (List ℤ) → List RowFault
faults_from n line rows = flat_map (row_faults n) (enumerate_from line rows)

-- all faults of rows over n variables, which are numbered from 1; the first fault decides
abbrev pub faults_of : ℕ → List (List ℤ) → List RowFault
faults_of n rows = faults_from n 1 rows ++ count_faults (length rows)
