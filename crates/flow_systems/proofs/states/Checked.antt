-- Every post-solution of a program's system lets a run be where it is at a check.
use Rattle.std.proofs.Common.{◌∙◌}
use Rattle.std.proofs.lemmas.List.{length-map}
use Rattle.base_numbers.specs.Rational.{whole}
use Rattle.flow_edges.proofs.at_checks.CheckLaw.{check_law}
use Rattle.flow_systems.specs.CheckedStates.{ChecksFitBounds}
use Rattle.flow_systems.proofs.states.Sizes.{run_size}
use Rattle.flow_systems.proofs.states.Soundness.{acts_trace, program_soundness}

-- the run passed the source of an edge that has the check, where it fits, and what it did since is a trace
pub checked_law : ChecksFitBounds
checked_law variables body template v run now about c program over post is_run is_in at_check =
    let came = check_law variables body run now about c program is_run is_in at_check in
    let x = came.source.state in (
      x,
      record {
        edge = came.edge;
        listed = came.listed;
        before = came.before;
        place = came.place;
        starts = length-map x whole ∙ run_size variables body run came.source came.edge.from is_run came.passed
            came.at_source;
        fits = program_soundness variables body template v over post run came.source came.edge.from is_run came.passed came.at_source;
        trace = acts_trace came.before x now.state came.acts;
      },
    )
