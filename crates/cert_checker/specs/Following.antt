-- What is done to follow a trace as it runs, or as a direction, and what it shows.
use Rattle.std.specs.Prelude.{ℤ, List}
use Rattle.base_numbers.specs.Rational.{ℚ}
use Rattle.flow_edges.specs.declared.edge.Edge.{Edge}
use Rattle.flow_systems.specs.declared.spot.Site.{Site}
use Rattle.flow_systems.specs.Equations.{Equations, Vector}
use Rattle.theory_validity.specs.Words.{Word, lin, end_form}
use Rattle.theory_validity.specs.Steps.{Pieces, end_value}
use Rattle.theory_validity.specs.Faults.{Fault}
use Rattle.cert_checker.specs.declared.following.Way.{Way}
use Rattle.cert_checker.specs.declared.following.Way.TheVariants.{Trace, Direction}
use Rattle.cert_checker.specs.Events.{Event}
use Rattle.cert_checker.specs.Runs.{run_events}
use Rattle.cert_checker.specs.StepEvents.{carry_events}

-- the value of a row at the end of a trace, or how far it rises along a direction
abbrev pub shown : Way → Equations → Edge → List ℤ → Word → ℚ
shown Trace system edge row w = end_value system edge row w
shown Direction system edge row w = lin (end_form system.variables edge.actions row) w

-- the sums and tests
abbrev pub shown_events : Way → Site → Fault → Equations → Vector → Edge → List ℤ → Pieces → List Event
shown_events Trace site fault system z edge row t = run_events site fault system z edge row t
shown_events Direction site fault system z edge row t = carry_events site fault system z edge row t
