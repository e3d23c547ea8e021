use Rattle.std.proofs.Common.{◌≡◌, ◌++◌, map, take}
use Rattle.flow_edges.proofs.listing.add_followed.Given as goal

abbrev pub invariant-loop-after : goal.invariant-loop-after
invariant-loop-after l = l.list.items ≡ l.initial.list.items ++ map (λ after. l.before ++ after) (take l.after-index l.others)
