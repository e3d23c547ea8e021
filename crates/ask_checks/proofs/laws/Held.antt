-- A proved check is true in every run.
use Rattle.std.proofs.Common.{refl}
use Rattle.flow_systems.specs.States.{rational}
use Rattle.flow_systems.specs.Solutions.{equations_of_program}
use Rattle.flow_systems.proofs.states.Checked.{checked_law}
use Rattle.ask_verdicts.specs.declared.outcome.Verdict.TheVariants.{Proved, Open}
use Rattle.ask_verdicts.proofs.laws.Held.{places_hold}
use Rattle.ask_verdicts.proofs.lists.Judged.{zip_at}
use Rattle.ask_checks.specs.Laws.{OpenStatesBreak, ProvedChecksHold, ProvedVerdictsHold, check_of}
use Rattle.ask_checks.specs.Verdicts.{IsCheckVerdict}
use Rattle.ask_checks.proofs.verdicts.Everywhere.{open_breaks_check}

-- where a run is at the check, a trace leads there from a state that fits, so that the condition isn't false
pub checks_hold : ProvedChecksHold
checks_hold variables body template v about c program over post none run is_run now is_in at_check may =
    let system = equations_of_program variables body template in
    let came = checked_law variables body template v run now about c program over post is_run is_in at_check in
    let reached = came.1 in
    places_hold system v reached.edge.from reached.before c
    (λ k l x b. none x (record {
      edge = reached.edge;
      listed = reached.listed;
      before = reached.before;
      place = reached.place;
      breaks = record { number = k; within = l; breaks = b };
    })) (rational came.0) now.state reached.starts reached.fits reached.trace may

-- so is each check of a list that is proved
pub proved_hold : ProvedVerdictsHold
proved_hold variables body template v checks verdicts k about c program over post a e f =
    let system = equations_of_program variables body template in
    checks_hold variables body template v about c program over post
    ((zip_at (IsCheckVerdict system v) checks verdicts k (check_of about c) Proved a e f).proved.0 refl)

-- the state of an open check breaks it at one of its places
pub open_breaks : OpenStatesBreak
open_breaks system z checks verdicts k check x a e f =
    open_breaks_check system z check x (zip_at (IsCheckVerdict system z) checks verdicts k check (Open x) a e f).state
