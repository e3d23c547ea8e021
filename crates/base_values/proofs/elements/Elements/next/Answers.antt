use Rattle.std.proofs.Common.{◌≡◌, ◌<◌, ◌||◌, length, Bool, true, false, None, Some, refl, sym, ap, ◌∙◌}
use Rattle.json.specs.Json.{after_end_array, value}
use Rattle.serde_json.specs.Data.{item}
use Rattle.serde_json.specs.Read.{converted, of_json}
use Rattle.serde_json.specs.View.{view}
use Rattle.base_values.specs.Elements.{are_elements, left_of, unless_over}
use Rattle.base_values.proofs.Lists.{ended, next_element}
use Rattle.base_values.proofs.elements.Elements.next.Goals as goal

or_right : (a b : Bool) → b ≡ true → (a || b) ≡ true
or_right true b e = refl
or_right false b e = e

pub returns-then-take_end_array : goal.returns-then-take_end_array
returns-then-take_end_array c =
    let is : c.args.self.now ≡ Some c.self.inside.reader = sym c.self.view_is
    ∙ ap (λ b. unless_over b c.self.inside.reader) c.if-self.false in
    (ap left_of is ∙ ended c.self.inside.reader c.take_end_array.new.self c.if-take_end_array.ensures, refl)

pub invariant_of-self-in-Ok : goal.invariant_of-self-in-Ok
invariant_of-self-in-Ok c =
    let ts = c.self.inside.reader in
    let r = c.read_value.new.reader in
    let going : (after_end_array ts ≡ None) × (c.take_end_array.new.self ≡ ts) = c.if-take_end_array.ensures in
    let some : are_elements ts ≡ true = ap (λ b. b || are_elements ts) (sym c.if-self.false) ∙ c.self.invariant in
    let found : converted of_json (value 125 ts) ≡ Some (view c.in-Ok.value, r) = rw (← going.1) c.in-Ok.ensures.ok in
    let less : length r < length ts = rw (← going.1) c.in-Ok.ensures.shorter in
    or_right c.self.inside.over (are_elements r) (next_element ts r (view c.in-Ok.value) going.0 found less some).1

pub returns-in-Ok : goal.returns-in-Ok
returns-in-Ok c =
    let ts = c.self.inside.reader in
    let r = c.read_value.new.reader in
    let going : (after_end_array ts ≡ None) × (c.take_end_array.new.self ≡ ts) = c.if-take_end_array.ensures in
    let some : are_elements ts ≡ true = ap (λ b. b || are_elements ts) (sym c.if-self.false) ∙ c.self.invariant in
    let found : converted of_json (value 125 ts) ≡ Some (view c.in-Ok.value, r) = rw (← going.1) c.in-Ok.ensures.ok in
    let less : length r < length ts = rw (← going.1) c.in-Ok.ensures.shorter in
    let is : c.args.self.now ≡ Some ts = sym c.self.view_is ∙ ap (λ b. unless_over b ts) c.if-self.false in
    ap left_of is ∙ (next_element ts r (view c.in-Ok.value) going.0 found less some).0
    ∙ ap (λ b. item (view c.in-Ok.value) (left_of (unless_over b r))) (sym c.if-self.false)
