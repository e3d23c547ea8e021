use Rattle.std.proofs.Common.{◌≡◌}
use Rattle.serde_json.specs.View.{items_view}
use Rattle.cert_text.specs.Lists.{all_items}
use Rattle.cert_text.proofs.entry.ReadLists.{left_to_test}
use Rattle.cert_text.proofs.entry.are_shaped.Given as goal

abbrev pub invariant-loop-value : goal.invariant-loop-value
invariant-loop-value g l = all_items (g.T.Entry.shaped l.setting) (items_view l.values)
    ≡ left_to_test (g.T.Entry.shaped l.setting) l.values l.value-index
