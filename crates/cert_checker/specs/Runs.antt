-- What is done to follow a trace from a state that has to fit a vector.
use Rattle.std.specs.Prelude.{◌≡◌, ℕ, ℤ, Bool, true, false, List, [], ◌∷◌, ◌++◌, Some, None, Result, MatchResult}
use Rattle.base_numbers.specs.Rational.{ℚ}
use Rattle.base_numbers.specs.Extended.{fin, ◌≤ᴱ◌}
use Rattle.base_fractions.specs.declared.wide.Wide.{Wide}
use Rattle.base_fractions.specs.Operation.{operation_of}
use Rattle.flow_edges.specs.declared.edge.Edge.{Edge}
use Rattle.flow_systems.specs.declared.spot.Site.{Site}
use Rattle.flow_systems.specs.States.{RationalState, dotℚ}
use Rattle.flow_systems.specs.Equations.{Equations, Vector, Fits}
use Rattle.flow_systems.specs.FitTests.{fit_operations}
use Rattle.flow_systems.specs.TraceTests.{trace_operations}
use Rattle.theory_validity.specs.Words.{start_of}
use Rattle.theory_validity.specs.Steps.{Pieces, word}
use Rattle.theory_validity.specs.Decide.{dec_leᴱ, dec_rows, dec_runs}
use Rattle.theory_validity.specs.Faults.{Fault}
use Rattle.cert_checker.specs.Events.{Event, Test, sums, decided, first_stop, fault_answer, wide_answer}

-- whether a state fits a vector at a point
pub dec_fits : (system : Equations) (z : Vector) (p : ℕ) (x : RationalState) → Dec (Fits system z p x)
dec_fits system z p x = dec_rows {P = λ r row. fin (dotℚ row x) ≤ᴱ z p r} (λ r row. dec_leᴱ (fin (dotℚ row x)) (z p r)) system.template

-- the rows are summed up to the first that fails, and then it is told whether all fit
unfoldable pub fit_events : Site → Fault → Equations → Vector → ℕ → RationalState → List Event
fit_events site fault system z p x = sums site (fit_operations system.template (z p) 0 x) ++ Test (decided (dec_fits system z p x)) fault
    ∷ []

-- what the test says of a state, at whatever site and with whatever fault: it fits and nothing stops, or the test fails
abbrev pub Fitted : Equations → Vector → ℕ → RationalState → Bool → Type 0
Fitted system z p x true = Fits system z p x × ((site : Site) (fault : Fault) → first_stop (fit_events site fault system z p x) ≡ None)
Fitted system z p x false = (site : Site) (fault : Fault) → first_stop (fit_events site fault system z p x) ≡ Some (fault_answer fault)

-- what it answers: this, or the first operation that is wide
abbrev pub FitAnswers : Equations → Vector → ℕ → RationalState → Result Bool (Wide ℚ) → Type 0
FitAnswers system z p x result = MatchResult result (Fitted system z p x) (λ w. (site : Site) (fault : Fault) →
    first_stop (fit_events site fault system z p x) ≡ Some (wide_answer site (operation_of (λ q. q) w)))

-- the start has to fit at the edge's source; then the actions are followed up to the first guard that fails, with the row at the end; and
-- then it is told whether the trace runs
unfoldable pub run_events : Site → Fault → Equations → Vector → Edge → List ℤ → Pieces → List Event
run_events site fault system z edge row t =
    fit_events site fault system z edge.from (start_of system.variables (word t))
    ++ (sums site (trace_operations edge.actions t.start t.free row) ++
    Test (decided (dec_runs system z edge (word t))) fault ∷ [])
