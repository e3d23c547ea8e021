-- The summary of a generated program's bounds.
use Rattle.std.specs.Prelude.{◌++◌, ◌*◌, ◌-◌, ℕ, List, codes, decimal, length}
use Rattle.flow_systems.specs.declared.system.System.{System}
use Rattle.flow_systems.specs.Equations.{Vector}
use Rattle.flow_systems.specs.Report.{line, point_lines}
use Rattle.out_report.specs.Points.{point_of}

-- a line with a number after these words
abbrev pub counted_line : List ℕ → ℕ → List ℕ
counted_line words number = line (words ++ decimal number)

-- the number of the exit, which is the last point
abbrev pub exit_number : System → ℕ
exit_number s = length s.flow.points - 1

-- the exit's lines as in the report
abbrev pub exit_lines : System → Vector → List ℕ
exit_lines s v = point_lines s.flow.names s.template v (exit_number s) (point_of s.flow.points (exit_number s))

-- which program it was
abbrev pub bench_line : ℕ → ℕ → List ℕ
bench_line seed loops = line (codes "bench seed " ++ (decimal seed ++ (codes " loops " ++ decimal loops)))

-- how long its text is
abbrev pub program_line : ℕ → List ℕ
program_line bytes = line (codes "program " ++ (decimal bytes ++ codes " bytes"))

-- the seed and the loops, the bytes of the program, its points, its unknowns, the improvements, and the exit's lines
abbrev pub summary_of : ℕ → ℕ → ℕ → System → Vector → ℕ → List ℕ
summary_of seed loops bytes s v improvements =
    bench_line seed loops
    ++ (program_line bytes
    ++ (counted_line (codes "points ") (length s.flow.points)
    ++ (counted_line (codes "unknowns ") (length s.flow.points * length s.template)
    ++ (counted_line (codes "improvements ") improvements
    ++ exit_lines s v))))
