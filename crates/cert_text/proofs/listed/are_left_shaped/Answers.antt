use Rattle.std.proofs.Common.{◌≡◌, sym, ◌∙◌, arith}
use Rattle.serde_json.specs.Data.{item, no_items}
use Rattle.serde_json.specs.View.{view}
use Rattle.base_values.specs.Elements.{left_of}
use Rattle.cert_text.proofs.listed.ElementsLeft.{all_shaped, misshapen, shaped, shorter}
use Rattle.cert_text.proofs.listed.are_left_shaped.Goals as goal

pub elements-preserved : goal.elements-preserved
elements-preserved g c =
    let l = c.elements in
    let v = view c.in-Some.value in
    let rest = left_of c.next.new.self in
    let is : left_of l.elements ≡ item v rest = grind arith in
    shaped (g.T.Entry.shaped c.args.setting.now) (left_of l.elements) rest v _ is l.invariant
    (sym c.if-not-has_shape.false ∙ c.has_shape.ensures)

pub elements-smaller : goal.elements-smaller
elements-smaller g c =
    let l = c.elements in
    let is : left_of l.elements ≡ item (view c.in-Some.value) (left_of c.next.new.self) = grind arith in
    shorter (left_of l.elements) (left_of c.next.new.self) (view c.in-Some.value) is

pub returns-then-not-has_shape : goal.returns-then-not-has_shape
returns-then-not-has_shape g c =
    let l = c.elements in
    let v = view c.in-Some.value in
    let rest = left_of c.next.new.self in
    let is : left_of l.elements ≡ item v rest = grind arith in
    sym (misshapen (g.T.Entry.shaped c.args.setting.now) (left_of l.elements) rest v _ is l.invariant
    (sym c.if-not-has_shape.true ∙ c.has_shape.ensures))

pub returns : goal.returns
returns g c =
    let l = c.elements in
    let over : left_of l.elements ≡ no_items = grind arith in
    sym (all_shaped (g.T.Entry.shaped c.args.setting.now) (left_of l.elements) _ over l.invariant)
