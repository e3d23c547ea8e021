use Rattle.std.proofs.Common.{◌≡◌, map, take}
use Rattle.cert_fitted.specs.Dense.{dense_item}
use Rattle.cert_fitted.proofs.dense.items_of.Given as goal

abbrev pub invariant-loop-item : goal.invariant-loop-item
invariant-loop-item l = l.list.items ≡ map dense_item (take l.item-index l.items)
