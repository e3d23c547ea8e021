use Rattle.std.proofs.Common.{◌≡◌}
use Rattle.cert_text.specs.BoundLines.{lines_of}
use Rattle.cert_text.proofs.bounds.cut.Given as goal

abbrev pub invariant-loop-point : goal.invariant-loop-point
invariant-loop-point l = l.lines.items ≡ lines_of l.rows l.point l.bounds
