use Rattle.std.proofs.Common.{◌∙◌, ◌<◌, subst, arith}
use Rattle.base_facts.specs.Elements.{In}
use Rattle.base_facts.proofs.elements.Membership.{of_map}
use Rattle.solve_joint.specs.declared.node.Node.{Node}
use Rattle.solve_joint.proofs.group.Members.{place_in}
use Rattle.solve_joint.proofs.cutting.Cutting.of.Goals as goal

pub groups_by-requires-clause-within : goal.groups_by-requires-clause-within
groups_by-requires-clause-within c = λ k m.
    let classes = c.in_ok-classes.classes.items in
    let r = place_in classes k 0 (subst (λ xs. In xs k) c.as_slice-2.ensures.value m) in
    let l = r.1 in
    let e = r.2 in
    let size = c.in_ok-classes.ensures.size in
    let low = c.in_ok-classes.ensures.low r.0 (omega (arith, l, size)) in
    omega (arith, l, e, size, low)

pub groups_by-requires-2-clause-within : goal.groups_by-requires-2-clause-within
groups_by-requires-2-clause-within c = λ k m.
    let r = of_map (λ (a : Node). a.point) c.args.nodes.now k
    (subst (λ xs. In xs k) (c.as_slice-3.ensures.value ∙ c.in_ok-stand.ensures) m) in
    subst (λ p. p < c.args.points) r.2 (c.requires.within r.0 r.1).0
