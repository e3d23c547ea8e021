use Rattle.std.proofs.Common.{◌≡◌, take}
use Rattle.source_constants.specs.Items.{by_items}
use Rattle.source_constants.proofs.item.by_items.Given as goal

abbrev pub invariant-loop-item : goal.invariant-loop-item
invariant-loop-item l = l.list.items ≡ by_items l.macros l.text l.code (take l.item-index l.items)
