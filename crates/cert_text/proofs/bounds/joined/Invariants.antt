use Rattle.std.proofs.Common.{◌≡◌, take}
use Rattle.cert_text.specs.BoundLines.{joined}
use Rattle.cert_text.proofs.bounds.joined.Given as goal

abbrev pub invariant-loop-line : goal.invariant-loop-line
invariant-loop-line l = l.list.items ≡ joined (take l.line-index l.lines)
