use Rattle.std.proofs.Common.{◌≡◌, sym, ◌∙◌, arith}
use Rattle.serde_json.specs.Data.{item, no_items}
use Rattle.serde_json.specs.View.{view}
use Rattle.base_values.specs.Elements.{left_of}
use Rattle.cert_text.specs.Lists.{all_items}
use Rattle.cert_text.proofs.listed.ElementsLeft.{IsCounted, all_counted, all_shaped, count_misshapen, count_read, count_unread, counted_on}
use Rattle.cert_text.proofs.listed.ElementsLeft.{misshapen, none_counted, shaped, shorter, under}
use Rattle.cert_text.proofs.naming.Counts.{count_in, one_uncounted}
use Rattle.cert_text.proofs.listed.count_elements.Given.{Over}
use Rattle.cert_text.proofs.listed.count_elements.Goals as goal
use Rattle.cert_text.proofs.listed.count_elements.Goals.{After-min-total}

pub elements-init : goal.elements-init
elements-init g c =
    none_counted (g.T.Entry.shaped c.args.setting.now) (g.T.Entry.element_in c.args.setting.now) g.T.Naming.traces_of
    (left_of c.args.elements.now)

one_more : (g : Over) (c : After-min-total g)
    → IsCounted (g.T.Entry.shaped c.args.setting.now) (g.T.Entry.element_in c.args.setting.now) g.T.Naming.traces_of
    (left_of c.args.elements.now) (left_of c.next.new.self) c.min-total.result
one_more g c =
    let v = view c.in-Some.value in
    let rest = left_of c.next.new.self in
    let is : left_of c.elements.elements ≡ item v rest = grind arith in
    counted_on (g.T.Entry.shaped c.args.setting.now) (g.T.Entry.element_in c.args.setting.now) g.T.Naming.traces_of
    (left_of c.args.elements.now) (left_of c.elements.elements) rest v c.elements.total c.elements.invariant is c.in-Some-values.more
    c.min-total.result (sym c.if-not-has_shape.false ∙ c.has_shape.ensures)
    (under g.T.Entry.element_in g.T.Naming.traces_of c.args.setting.now _ v _ c.requires
    (sym c.in-Some-values.is ∙ c.values.ensures.count)) c.min-total.ensures

pub elements-preserved : goal.elements-preserved
elements-preserved g c = one_more g (goal.at.elements-preserved g c).After-min-total

pub elements-preserved-in-Some-values : goal.elements-preserved-in-Some-values
elements-preserved-in-Some-values g c = one_more g (goal.at.elements-preserved-in-Some-values g c).After-min-total

pub elements-preserved-in-Some-values-2 : goal.elements-preserved-in-Some-values-2
elements-preserved-in-Some-values-2 g c = one_more g (goal.at.elements-preserved-in-Some-values-2 g c).After-min-total

pub elements-preserved-in-Some-values-3 : goal.elements-preserved-in-Some-values-3
elements-preserved-in-Some-values-3 g c = one_more g (goal.at.elements-preserved-in-Some-values-3 g c).After-min-total

pub elements-smaller : goal.elements-smaller
elements-smaller g c =
    let is : left_of c.elements.elements ≡ item (view c.in-Some.value) (left_of c.next.new.self) = grind arith in
    shorter (left_of c.elements.elements) (left_of c.next.new.self) (view c.in-Some.value) is

pub returns-then-not-has_shape : goal.returns-then-not-has_shape
returns-then-not-has_shape g c no_memory =
    let l = c.elements in
    let v = view c.in-Some.value in
    let rest = left_of c.next.new.self in
    let is : left_of l.elements ≡ item v rest = grind arith in
    let test = g.T.Entry.shaped c.args.setting.now in
    count_misshapen c.args.field test (g.T.Entry.element_in c.args.setting.now) (left_of c.args.elements.now) g.T.Naming.traces_of
    (misshapen test (left_of l.elements) rest v _ is l.invariant.shaped (sym c.if-not-has_shape.true ∙ c.has_shape.ensures))

pub returns-in-None : goal.returns-in-None
returns-in-None g c no_memory =
    let l = c.elements in
    let v = view c.in-Some.value in
    let rest = left_of c.next.new.self in
    let is : left_of l.elements ≡ item v rest = grind arith in
    let test = g.T.Entry.shaped c.args.setting.now in
    let read = g.T.Entry.element_in c.args.setting.now in
    count_unread c.args.field test read (left_of c.args.elements.now) g.T.Naming.traces_of (all_items test rest)
    c.in_ok-unread-in-None.field-0
    (shaped test (left_of l.elements) rest v _ is l.invariant.shaped (sym c.if-not-has_shape.false ∙ c.has_shape.ensures))
    (one_uncounted read g.T.Naming.traces_of (left_of l.elements) rest v is l.total
    (count_in read g.T.Naming.traces_of (left_of c.args.elements.now)) l.invariant.count
    (under g.T.Entry.element_in g.T.Naming.traces_of c.args.setting.now _ v _ c.requires (sym c.in-None.is ∙ c.values.ensures.count)))
    c.in_ok-unread-in-None.ensures

pub returns : goal.returns
returns g c =
    let l = c.elements in
    let over : left_of l.elements ≡ no_items = grind arith in
    let test = g.T.Entry.shaped c.args.setting.now in
    let read = g.T.Entry.element_in c.args.setting.now in
    count_read c.args.field test read (left_of c.args.elements.now) g.T.Naming.traces_of l.total
    (all_shaped test (left_of l.elements) (all_items test (left_of c.args.elements.now)) over l.invariant.shaped)
    (all_counted test read g.T.Naming.traces_of (left_of c.args.elements.now) (left_of l.elements) l.total l.invariant over)
