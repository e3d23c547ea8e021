use Rattle.std.proofs.Common.{◌≡◌}
use Rattle.serde_json.specs.View.{items_view}
use Rattle.cert_text.specs.Pairs.{ascend}
use Rattle.cert_text.proofs.pairs.Ascending.{left}
use Rattle.cert_text.proofs.pairs.ascend.Given as goal

abbrev pub invariant-loop-value : goal.invariant-loop-value
invariant-loop-value l = ascend 0 (items_view l.values) ≡ left l.least l.values l.value-index
