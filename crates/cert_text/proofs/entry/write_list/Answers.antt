use Rattle.std.proofs.Common.{◌≡◌, ◌∙◌, ap, map, take, subst, Some, true}
use Rattle.std.proofs.lemmas.List.{take_all}
use Rattle.serde_json.specs.Data.{array}
use Rattle.serde_json.proofs.Views.{view-Array}
use Rattle.cert_text.specs.Lists.{all_items, items_data, items_in}
use Rattle.cert_text.specs.Traces.{relisting}
use Rattle.cert_text.proofs.bounds.WrittenLists.{back_more, data_more, one_more, shape_more}
use Rattle.cert_text.proofs.entry.write_list.Goals as goal

pub loop-element-preserved : goal.loop-element-preserved
loop-element-preserved g c =
    let i = c.loop-element.element-index in
    let xs = c.args.list.now in
    let f = g.T.Entry.element_data c.args.rows c.args.names.now in
    let test = g.T.Entry.shaped (relisting c.args.rows c.args.names.now) in
    let read = g.T.Entry.element_in (relisting c.args.rows c.args.names.now) in
    let bare = g.T.Entry.bare in
    let x = c.element-item.result in
    let more = one_more xs i x c.loop-element-test.true c.element-item.is in
    record {
      data_is = data_more f c.loop-element.values.items c.push.new.self.items c.in_ok-write.field-0 (take i xs) x c.in_ok-push.ensures.items
          c.loop-element.invariant.data_is c.in_ok-write.ensures.value ∙ ap (items_data f) more;
      shape = subst (λ ys. all_items test (items_data f ys) ≡ true) more
          (shape_more f test (take i xs) x c.loop-element.invariant.shape c.in_ok-write.ensures.shape);
      back = subst (λ ys. items_in read (items_data f ys) ≡ Some (map bare ys)) more
          (back_more f read bare (take i xs) x c.loop-element.invariant.back c.in_ok-write.ensures.back);
    }

pub returns-clause-value : goal.returns-clause-value
returns-clause-value g c =
    view-Array c.loop-element.values ∙ ap array (c.loop-element.invariant.data_is
    ∙ ap (items_data (g.T.Entry.element_data c.args.rows c.args.names.now))
    (take_all c.loop-element.element-index c.args.list.now c.loop-element-test.false))
