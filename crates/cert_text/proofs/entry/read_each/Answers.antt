use Rattle.std.proofs.Common.{◌∙◌, sym}
use Rattle.serde_json.specs.View.{items_view}
use Rattle.cert_text.specs.Lists.{items_in}
use Rattle.cert_text.proofs.entry.ReadLists.{pushed, stopped, ended}
use Rattle.cert_text.proofs.entry.read_each.Goals as goal

pub loop-value-preserved : goal.loop-value-preserved
loop-value-preserved g c =
    let read = g.T.Entry.element_in c.args.setting.now in
    let values = c.args.values.now in
    pushed read values c.loop-value.value-index c.value-item.result c.in-Some.element c.loop-value.list.items c.push.new.self.items
    (items_in read (items_view values)) c.loop-value-test.true c.value-item.is
    (sym c.in-Some.is ∙ c.in_ok-element.ensures) c.in_ok-push-in-Some.ensures.items c.loop-value.invariant

pub returns-in-None : goal.returns-in-None
returns-in-None g c =
    let read = g.T.Entry.element_in c.args.setting.now in
    let values = c.args.values.now in
    stopped read values c.loop-value.value-index c.value-item.result c.loop-value.list.items (items_in read (items_view values))
    c.loop-value-test.true c.value-item.is
    (sym c.in-None.is ∙ c.in_ok-element.ensures) c.loop-value.invariant

pub returns : goal.returns
returns g c =
    let read = g.T.Entry.element_in c.args.setting.now in
    let values = c.args.values.now in
    ended read values c.loop-value.value-index c.loop-value.list.items (items_in read (items_view values)) c.loop-value-test.false
    c.loop-value.invariant
