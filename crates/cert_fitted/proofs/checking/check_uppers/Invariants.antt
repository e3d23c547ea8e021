use Rattle.std.proofs.Common.{◌≡◌, length, map, drop}
use Rattle.flow_systems.specs.View.{equations_of}
use Rattle.cert_types.specs.Certificates.{evidence_of}
use Rattle.theory_validity.specs.Certificates.{bounds_vector}
use Rattle.cert_checker.specs.Needs.{needs_left}
use Rattle.cert_checker.proofs.events.Supply.{UppersLeft}
use Rattle.cert_fitted.specs.Fitted.{uppers_for}
use Rattle.cert_fitted.specs.Needed.{guards_needed}
use Rattle.cert_fitted.proofs.fitted_laws.Evidence.{guards_of}
use Rattle.cert_fitted.proofs.checking.check_uppers.Given as goal

abbrev pub invariant-loop-upper : goal.invariant-loop-upper
invariant-loop-upper l = record {
  left : UppersLeft (equations_of l.system) (bounds_vector (equations_of l.system) l.bounds)
      (map evidence_of (uppers_for (length l.system.template) (guards_needed (equations_of l.system) l.bounds) l.uppers)) l.from
      l.upper-index;
  counts : drop l.upper-index (guards_needed (equations_of l.system) l.bounds)
      ≡ map guards_of (needs_left (equations_of l.system) (bounds_vector (equations_of l.system) l.bounds) l.from);
}
