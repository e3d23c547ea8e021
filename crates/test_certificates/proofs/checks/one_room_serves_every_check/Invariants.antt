use Rattle.flow_systems.specs.View.{equations_of}
use Rattle.cert_checker.specs.Rooms.{HasRoom}
use Rattle.test_certificates.proofs.checks.one_room_serves_every_check.Given as goal

abbrev pub invariant-loop-to : goal.invariant-loop-to
invariant-loop-to g l = HasRoom (equations_of l.system) l.scratch
