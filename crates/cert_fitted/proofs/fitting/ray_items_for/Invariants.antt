use Rattle.std.proofs.Common.{◌≡◌, map, take}
use Rattle.flow_systems.specs.View.{equations_of}
use Rattle.cert_fitted.specs.Fitted.{ray_item_for}
use Rattle.cert_fitted.proofs.fitting.ray_items_for.Given as goal

abbrev pub invariant-loop-item : goal.invariant-loop-item
invariant-loop-item l = l.list.items ≡ map (ray_item_for (equations_of l.system)) (take l.item-index l.items)
