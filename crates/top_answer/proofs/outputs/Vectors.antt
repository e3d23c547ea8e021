-- What is written of a vector depends on its bounds at the points and the rows alone, where there is a row.
use Rattle.std.proofs.Common.{◌≡◌, ◌<◌, ℕ, List, length, arith}
use Rattle.flow_edges.specs.declared.point.Point.{Point}
use Rattle.flow_systems.specs.declared.footer.Footer.{Footer}
use Rattle.flow_systems.specs.Equations.{Equations, Least, Vector}
use Rattle.flow_systems.proofs.equations.Leastness.{at_most_one}
use Rattle.ask_words.specs.declared.format.Format.{Format}
use Rattle.top_written.specs.Formats.{report_in}
use Rattle.top_written.proofs.formats.Reports.{reports_agree as written_alike}

-- a system has one report of least vectors in a format, by its footer
pub reports_agree : (system : Equations) (format : Format) (names : List (List ℕ)) (points : List Point) (v w : Vector)
    (footer other : Footer) → length points ≡ system.points → 0 < length system.template → Least system v → Least system w → footer ≡ other
    → report_in format names points system.template v footer ≡ report_in format names points system.template w other
reports_agree system format names points v w footer other count some a b e =
    written_alike format names points system.template v w footer other some
    (λ p r h. at_most_one system v w a b.solves b.below p r (omega (arith, count))) e
