use Rattle.std.proofs.Common.{◌≡◌, take}
use Rattle.cert_written.specs.Pairs.{nonzero}
use Rattle.cert_written.proofs.pairs.pairs_of.Given as goal

abbrev pub invariant-loop-place : goal.invariant-loop-place
invariant-loop-place l = l.pairs.items ≡ nonzero 0 (take l.place l.list)
