use Rattle.std.proofs.Common.{◌≡◌, false, take}
use Rattle.std.specs.List.{list_any}
use Rattle.source_constants.specs.Items.{is_macro}
use Rattle.source_constants.proofs.item.has_macro.Given as goal

abbrev pub invariant-loop-token : goal.invariant-loop-token
invariant-loop-token l = list_any (is_macro l.macros l.text) (take l.token-index l.tokens) ≡ false
