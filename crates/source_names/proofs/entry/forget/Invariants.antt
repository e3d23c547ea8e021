use Rattle.std.proofs.Common.{◌≡◌}
use Rattle.source_names.proofs.entries.Switched.{switched}
use Rattle.source_names.proofs.entry.forget.Given as goal

abbrev pub invariant-loop-place : goal.invariant-loop-place
invariant-loop-place l = l.entries.items ≡ switched l.before l.place l.initial.entries.items
