use Rattle.std.proofs.Common.{◌≡◌, Some, ap, sym, ◌∙◌, arith}
use Rattle.serde_json.specs.Data.{item, no_items}
use Rattle.serde_json.specs.View.{view}
use Rattle.base_values.specs.Elements.{left_of}
use Rattle.cert_text.specs.Lists.{all_items}
use Rattle.cert_text.proofs.entry.ReadLists.{all_read, one_read, one_unread}
use Rattle.cert_text.proofs.listed.ElementsLeft.{all_shaped, from_misshapen, from_read, from_unread, misshapen, shaped, shorter}
use Rattle.cert_text.proofs.listed.read_elements.Goals as goal

pub elements-preserved : goal.elements-preserved
elements-preserved g c =
    let l = c.elements in
    let v = view c.in-Some.value in
    let rest = left_of c.next.new.self in
    let is : left_of l.elements ≡ item v rest = grind arith in
    record {
      shaped = shaped (g.T.Entry.shaped c.args.setting.now) (left_of l.elements) rest v _ is l.invariant.shaped
          (sym c.if-not-has_shape.false ∙ c.has_shape.ensures);
      read = one_read (g.T.Entry.element_in c.args.setting.now) (left_of l.elements) rest v is c.in-Some-2.element l.list.items
          c.push.new.self.items _ (sym c.in-Some-2.is ∙ c.in_ok-element.ensures) c.in_ok-push-in-Some-2.ensures.items l.invariant.read;
    }

pub elements-smaller : goal.elements-smaller
elements-smaller g c =
    let l = c.elements in
    let is : left_of l.elements ≡ item (view c.in-Some.value) (left_of c.next.new.self) = grind arith in
    shorter (left_of l.elements) (left_of c.next.new.self) (view c.in-Some.value) is

pub returns-then-not-has_shape : goal.returns-then-not-has_shape
returns-then-not-has_shape g c no_memory =
    let l = c.elements in
    let v = view c.in-Some.value in
    let rest = left_of c.next.new.self in
    let is : left_of l.elements ≡ item v rest = grind arith in
    let test = g.T.Entry.shaped c.args.setting.now in
    from_misshapen c.args.field test (g.T.Entry.element_in c.args.setting.now) _
    (misshapen test (left_of l.elements) rest v _ is l.invariant.shaped (sym c.if-not-has_shape.true ∙ c.has_shape.ensures))

pub returns-in-None : goal.returns-in-None
returns-in-None g c no_memory =
    let l = c.elements in
    let v = view c.in-Some.value in
    let rest = left_of c.next.new.self in
    let is : left_of l.elements ≡ item v rest = grind arith in
    let test = g.T.Entry.shaped c.args.setting.now in
    let read = g.T.Entry.element_in c.args.setting.now in
    from_unread c.args.field test read (left_of c.args.elements.now) (all_items test rest) c.in_ok-unread-in-None.field-0
    (shaped test (left_of l.elements) rest v _ is l.invariant.shaped (sym c.if-not-has_shape.false ∙ c.has_shape.ensures))
    (one_unread read (left_of l.elements) rest v is l.list.items _ (sym c.in-None.is ∙ c.in_ok-element.ensures) l.invariant.read)
    c.in_ok-unread-in-None.ensures

pub returns : goal.returns
returns g c =
    let l = c.elements in
    let over : left_of l.elements ≡ no_items = grind arith in
    let test = g.T.Entry.shaped c.args.setting.now in
    let read = g.T.Entry.element_in c.args.setting.now in
    from_read c.args.field test read (left_of c.args.elements.now) c.shrink_to_fit.new.self.items
    (all_shaped test (left_of l.elements) _ over l.invariant.shaped)
    (all_read read (left_of l.elements) l.list.items _ over l.invariant.read ∙ ap Some (sym c.shrink_to_fit.ensures.items))
