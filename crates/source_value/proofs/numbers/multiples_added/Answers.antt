use Rattle.std.proofs.Common.{◌≡◌, ◌∙◌, ◌++◌, ◌∷◌, [], ◌<◌, ◌+◌, ℤ, ◌+ℤ◌, ◌*ℤ◌, ap, ap₂, sym, subst, arith, rules, FitsSigned, w64, length}
use Rattle.std.proofs.Common.{false}
use Rattle.std.proofs.lemmas.Int.{to_z-of_z}
use mir.Syntax.{w128}
use Rattle.lang_tree.specs.Numbers.{is_number}
use Rattle.source_value.proofs.answers.Handed.{handed}
use Rattle.source_value.proofs.numbers.Lists.{IsMade, none_made, more_made, all_made, unfit_at, whole, get_or-whole, length-whole}
use Rattle.source_value.proofs.numbers.multiples_added.Goals as goal

pub loop-i-init : goal.loop-i-init
loop-i-init c = none_made _ c.new-list.result.items c.new-list.ensures.items

pub returns-in_err-multiple_added-clause-list : goal.returns-in_err-multiple_added-clause-list
returns-in_err-multiple_added-clause-list c =
    let xs = c.args.left.now in
    let ys = c.args.right.now in
    let z = c.args.factor in
    let f = c.ranges.factor in
    let l : FitsSigned w64 c.number_at.result = search rules in
    let r : FitsSigned w64 c.number_at-in-loop-i.result = search rules in
    let below : c.loop-i.i < length (whole xs z ys) = omega (arith, length-whole xs z ys) in
    handed _ _ _ _ _ c.from_residual.ensures.1
    (λ n. let e : is_number (c.number_at.result +ℤ (z *ℤ c.number_at-in-loop-i.result)) ≡ false =
    simp to_z-of_z at (c.in_err-multiple_added.ensures n) in
    unfit_at (whole xs z ys) c.loop-i.i below
    (ap is_number (get_or-whole xs z ys c.loop-i.i
    ∙ ap₂ (λ a b. a +ℤ (z *ℤ b)) (sym c.number_at.ensures) (sym c.number_at-in-loop-i.ensures)) ∙ e))

pub loop-i-preserved : goal.loop-i-preserved
loop-i-preserved c =
    let xs = c.args.left.now in
    let ys = c.args.right.now in
    let z = c.args.factor in
    let f = c.ranges.factor in
    let same = to_z-of_z w128 z f in
    let l : FitsSigned w64 c.number_at.result = search rules in
    let r : FitsSigned w64 c.number_at-in-loop-i.result = search rules in
    let h : FitsSigned w64 c.in_ok-multiple_added.field-0 = search rules in
    let below : c.loop-i.i < length (whole xs z ys) = omega (arith, length-whole xs z ys) in
    let e = simp to_z-of_z at c.in_ok-multiple_added.ensures in
    subst (λ (w : ℤ). IsMade (whole xs w ys) c.push.new.self.items (c.loop-i.i + 1)) (sym same)
    (more_made (whole xs z ys) c.loop-i.list.items c.push.new.self.items c.loop-i.i c.in_ok-multiple_added.field-0
    (subst (λ (w : ℤ). IsMade (whole xs w ys) c.loop-i.list.items c.loop-i.i) same c.loop-i.invariant) below
    (e.0 ∙ ap₂ (λ a b. a +ℤ (z *ℤ b)) c.number_at.ensures c.number_at-in-loop-i.ensures ∙ sym (get_or-whole xs z ys c.loop-i.i))
    (ap is_number e.0 ∙ e.1)
    (c.in_ok-push.ensures.items ∙ ap (λ x. c.loop-i.list.items ++ x ∷ []) (to_z-of_z w64 _ h)))

pub returns-clause-list : goal.returns-clause-list
returns-clause-list c =
    let xs = c.args.left.now in
    let ys = c.args.right.now in
    let z = c.args.factor in
    all_made (whole xs z ys) c.loop-i.list.items c.loop-i.i
    (subst (λ (w : ℤ). IsMade (whole xs w ys) c.loop-i.list.items c.loop-i.i) (to_z-of_z w128 z c.ranges.factor) c.loop-i.invariant)
    (omega (arith, length-whole xs z ys))

pub returns-clause-numbers : goal.returns-clause-numbers
returns-clause-numbers c = c.loop-i.invariant.numbers
