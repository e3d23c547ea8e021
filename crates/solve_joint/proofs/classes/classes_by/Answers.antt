use Rattle.std.proofs.Common.{◌+◌, get_or, sym, ap, subst, arith}
use Rattle.solve_joint.specs.declared.node.Node.{Node}
use Rattle.solve_joint.specs.Classes.{IsFirstPlace}
use Rattle.solve_joint.proofs.classes.Homes.{home_of}
use Rattle.solve_joint.proofs.group.Members.{in_at}
use Rattle.solve_joint.proofs.classes.Classing.{ClassesTo, classes_none, class_alone, class_inner, classes_all}
use Rattle.solve_joint.proofs.classes.classes_by.Goals as goal
use Rattle.solve_joint.proofs.classes.classes_by.Goals.{then-home-homes, else-home-homes}

pub loop-place-init : goal.loop-place-init
loop-place-init c = classes_none c.args.points c.args.homes.now c.args.nodes.now c.in_ok-firsts.firsts.items c.in_ok-classes.classes.items
    c.in_ok-firsts.ensures c.in_ok-classes.ensures.items

pub bounds-homes-node : goal.bounds-homes-node
bounds-homes-node c =
    let nodes = c.args.nodes.now in
    let k = c.loop-place.place in
    let d : Node = record { unknown = 0; point = 0; source = 0 } in
    let within = (c.requires.within (get_or nodes k d) (in_at nodes k d c.loop-place-test.true)).0 in
    let size = c.requires.homes.size in
    omega (arith, within, size)

pub bounds-homes-node-in-loop-place : goal.bounds-homes-node-in-loop-place
bounds-homes-node-in-loop-place c =
    let nodes = c.args.nodes.now in
    let k = c.loop-place.place in
    let d : Node = record { unknown = 0; point = 0; source = 0 } in
    let within = (c.requires.within (get_or nodes k d) (in_at nodes k d c.loop-place-test.true)).1 in
    let size = c.requires.homes.size in
    omega (arith, within, size)

pub first_place-class-requires : goal.first_place-class-requires
first_place-class-requires c =
    let nodes = c.args.nodes.now in
    let k = c.loop-place.place in
    let d : Node = record { unknown = 0; point = 0; source = 0 } in
    let within = (c.requires.within (get_or nodes k d) (in_at nodes k d c.loop-place-test.true)).0 in
    let low = (c.requires.homes.each (get_or nodes k d).point within).low in
    let size = c.loop-place.invariant.places in
    omega (arith, within, low, size)

pub loop-place-preserved : goal.loop-place-preserved
loop-place-preserved c =
    let points = c.args.points in
    let homes = c.args.homes.now in
    let nodes = c.args.nodes.now in
    let place = c.loop-place.place in
    let firsts = c.loop-place.firsts.items in
    let classes = c.loop-place.classes.items in
    elim c.if-home-homes.branch [
      | then-home-homes w ↦
          subst (λ xs. ClassesTo points homes nodes xs c.push.new.self.items (place + 1)) (ap (λ v. v.items) (sym w.firsts-is))
          (class_inner points homes nodes firsts classes place c.loop-place.invariant c.push.new.self.items c.if-home-homes.class
          c.in_ok-push.ensures.items w.first_place-class.new.firsts.items w.if-home-homes.true
          (subst (λ class. IsFirstPlace firsts (home_of homes nodes place) place w.first_place-class.new.firsts.items class)
          (sym w.class-is)
          w.first_place-class.ensures))
      | else-home-homes w ↦
          subst (λ xs. ClassesTo points homes nodes xs c.push.new.self.items (place + 1)) (ap (λ v. v.items) (sym w.firsts-is))
          (class_alone points homes nodes firsts classes place c.loop-place.invariant c.push.new.self.items c.if-home-homes.class
          c.in_ok-push.ensures.items w.if-home-homes.false w.class-is)
    ]

pub returns : goal.returns
returns c = classes_all c.args.points c.args.rows.now c.args.nodes.now c.requires.rows c.requires.within c.args.homes.now c.requires.homes
    c.requires.rises c.loop-place.firsts.items c.loop-place.classes.items
    (subst (λ n. ClassesTo c.args.points c.args.homes.now c.args.nodes.now c.loop-place.firsts.items c.loop-place.classes.items n)
    (let t = c.loop-place-test.false in let k = c.loop-place.auto.place-end in omega (arith, t, k)) c.loop-place.invariant)
