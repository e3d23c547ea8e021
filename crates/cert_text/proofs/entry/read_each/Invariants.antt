use Rattle.std.proofs.Common.{◌≡◌}
use Rattle.serde_json.specs.View.{items_view}
use Rattle.cert_text.specs.Lists.{items_in}
use Rattle.cert_text.proofs.entry.ReadLists.{after, left_to_read}
use Rattle.cert_text.proofs.entry.read_each.Given as goal

abbrev pub invariant-loop-value : goal.invariant-loop-value
invariant-loop-value g l = items_in (g.T.Entry.element_in l.setting) (items_view l.values)
    ≡ after (g.T.Entry.element_in l.setting) l.list.items (left_to_read (g.T.Entry.element_in l.setting) l.values l.value-index)
