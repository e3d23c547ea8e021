use Rattle.std.proofs.Common.{◌≡◌, ◌∙◌, ap, arith, length, sym, vec_len}
use Rattle.serde_json.proofs.Views.{items_len-items_view}
use Rattle.cert_text.specs.Keys.{count_items}
use Rattle.cert_text.proofs.keys.item_count.Goals as goal

pub returns-in-Some : goal.returns-in-Some
returns-in-Some c = c.len.ensures ∙ (let v = c.in-Some.items.now in let k : vec_len v ≡ length v.items = omega (arith, v.ok.0) in k)
    ∙ sym (items_len-items_view c.in-Some.items.now.items) ∙ ap count_items c.in-Some.ensures
