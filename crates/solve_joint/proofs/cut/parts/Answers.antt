use Rattle.std.proofs.Common.{◌≡◌, ◌∙◌, List, arith, ap, ap₂, length, map, sym, subst}
use Rattle.base_facts.specs.Elements.{In}
use Rattle.solve_joint.specs.declared.node.Node.{Node}
use Rattle.solve_joint.specs.Numbers.{Rises}
use Rattle.solve_joint.specs.Tables.{closed}
use Rattle.solve_joint.specs.Cuts.{cut_from}
use Rattle.solve_joint.specs.PartLists.{part_numbers, each_listed, EachRises, NumberClasses, NumbersAdmissible, NumbersInOrder}
use Rattle.solve_joint.proofs.cut.Cutting.{length-cut}
use Rattle.solve_joint.proofs.cut.NearParts.{few_nodes, few_near, near_rises, near_points, near_parts}
use Rattle.solve_joint.proofs.cut.PartFacts.{parts_rise, parts_listed, number_classes, numbers_admissible, numbers_in_order}
use Rattle.solve_joint.proofs.cut.parts.Goals as goal

pub nearby-requires : goal.nearby-requires
nearby-requires c =
    let few = few_nodes c.args.system.now c.args.pick.now c.args.list.now c.requires.picked c.requires.rises c.as_slice.result.now
    (c.as_slice.ensures.value ∙ c.in_ok-nodes.ensures) in
    omega (arith, few)

pub of-requires-clause-within : goal.of-requires-clause-within
of-requires-clause-within c = λ a m.
    near_points c.args.system.now c.args.pick.now c.args.list.now c.requires.picked c.requires.rises c.as_slice.result.now
    (c.as_slice.ensures.value ∙ c.in_ok-nodes.ensures) c.in_ok-near.near.nodes.items c.in_ok-near.near.points c.in_ok-near.ensures a
    (subst (λ xs. In xs a) c.as_slice-2.ensures.value m)

pub of-requires-clause-rises : goal.of-requires-clause-rises
of-requires-clause-rises c = subst (λ (xs : List Node). Rises 0 (map (λ (a : Node). a.unknown) xs)) (sym c.as_slice-2.ensures.value)
    (near_rises c.args.system.now c.args.pick.now c.args.list.now c.requires.picked c.requires.rises c.as_slice.result.now
    (c.as_slice.ensures.value ∙ c.in_ok-nodes.ensures) c.in_ok-near.near.nodes.items c.in_ok-near.near.points c.in_ok-near.ensures)

pub of-requires-clause-few : goal.of-requires-clause-few
of-requires-clause-few c =
    let few = few_near c.args.system.now c.args.pick.now c.args.list.now c.requires.picked c.requires.rises c.as_slice.result.now
    (c.as_slice.ensures.value ∙ c.in_ok-nodes.ensures) c.in_ok-near.near.nodes.items c.in_ok-near.near.points c.in_ok-near.ensures in
    let size = ap length c.as_slice-2.ensures.value in
    omega (arith, few, size)

pub cut-requires-clause-few : goal.cut-requires-clause-few
cut-requires-clause-few c =
    let few = few_near c.args.system.now c.args.pick.now c.args.list.now c.requires.picked c.requires.rises c.as_slice.result.now
    (c.as_slice.ensures.value ∙ c.in_ok-nodes.ensures) c.in_ok-near.near.nodes.items c.in_ok-near.near.points c.in_ok-near.ensures in
    let size = ap length (c.in_ok-cutting.ensures.nodes ∙ c.as_slice-2.ensures.value) in
    omega (arith, few, size)

pub new-requires : goal.new-requires
new-requires c =
    let few = few_near c.args.system.now c.args.pick.now c.args.list.now c.requires.picked c.requires.rises c.as_slice.result.now
    (c.as_slice.ensures.value ∙ c.in_ok-nodes.ensures) c.in_ok-near.near.nodes.items c.in_ok-near.near.points c.in_ok-near.ensures in
    let cutting = c.in_ok-cutting.cutting in
    let nodes = cutting.nodes.now in
    let size = ap length (c.in_ok-cutting.ensures.nodes ∙ c.as_slice-2.ensures.value) in
    let most = length-cut (closed cutting.points nodes) (length nodes) nodes in
    omega (arith, few, size, most, ap length c.in_ok-lists.ensures)

pub returns : goal.returns
returns c =
    let system = c.args.system.now in
    let pick = c.args.pick.now in
    let list = c.args.list.now in
    let nodes = c.in_ok-cutting.ensures.nodes ∙ c.as_slice-2.ensures.value in
    let e : c.new.result ≡ part_numbers system pick list =
    c.new.ensures ∙ c.in_ok-lists.ensures
    ∙ ap₂ (λ p (xs : List Node). cut_from (closed p xs) (length xs) xs) c.in_ok-cutting.ensures.points nodes
    ∙ near_parts system pick list c.requires.picked c.requires.rises c.as_slice.result.now
    (c.as_slice.ensures.value ∙ c.in_ok-nodes.ensures) c.in_ok-near.near.nodes.items c.in_ok-near.near.points c.in_ok-near.ensures in
    record {
      parts = e;
      rise = subst EachRises (sym e) (parts_rise system pick list c.requires.picked c.requires.rises);
      listed = ap (each_listed system pick) e ∙ parts_listed system pick list;
      classes = subst (NumberClasses system pick list) (sym e) (number_classes system pick list);
      admissible = subst (NumbersAdmissible system pick list) (sym e) (numbers_admissible system pick list);
      lowest_first = subst (NumbersInOrder system pick list) (sym e) (numbers_in_order system pick list);
    }
