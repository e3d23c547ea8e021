use Rattle.std.proofs.Common.{◌≡◌, ◌∙◌, ◌-◌, length, get_or, sym, ap, subst, arith, below_more}
use Rattle.base_facts.specs.Elements.{In}
use Rattle.solve_joint.specs.Waits.{is_outside}
use Rattle.solve_joint.proofs.group.Members.{in_at, place_in}
use Rattle.solve_joint.proofs.cutting.Cutting.blocker_at.Goals as goal

pub loop-passed-preserved : goal.loop-passed-preserved
loop-passed-preserved c = below_more _ _ c.loop-passed.invariant (sym c.is_outside.ensures ∙ c.if-is_outside.false)

pub returns-then-is_outside : goal.returns-then-is_outside
returns-then-is_outside c =
    let xs = c.standing_at-places.result.now in
    let k = length xs - 1 - c.loop-passed.passed in
    let l = c.loop-passed-test.true in (
      subst (λ ys. In ys (get_or xs k 0)) c.standing_at-places.ensures (in_at xs k 0 (omega (arith, l))),
      sym c.is_outside.ensures ∙ c.if-is_outside.true,
    )

pub returns : goal.returns
returns c = λ i m.
    let xs = c.standing_at-places.result.now in
    let r = place_in xs i 0 (subst (λ ys. In ys i) (sym c.standing_at-places.ensures) m) in
    let l = r.1 in
    let t = c.loop-passed-test.false in
    let back : length xs - 1 - (length xs - 1 - r.0) ≡ r.0 = omega (arith, l) in
    ap (is_outside c.args.self.now.classes.items c.args.gone.now c.args.head) (sym (ap (λ k. get_or xs k 0) back ∙ r.2))
    ∙ c.loop-passed.invariant (length xs - 1 - r.0) (omega (arith, l, t))
