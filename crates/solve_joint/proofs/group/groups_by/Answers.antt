use Rattle.std.proofs.Common.{get_or, refl, ap, arith}
use Rattle.std.specs.Prelude.{slice_set}
use Rattle.solve_joint.proofs.group.Members.{in_at}
use Rattle.solve_joint.proofs.group.Grouping.{grouped_none, grouped_more, grouped_all}
use Rattle.solve_joint.proofs.group.groups_by.Goals as goal

pub loop-place-init : goal.loop-place-init
loop-place-init c = grouped_none c.args.count c.args.keys.now c.in_ok-groups.groups.items c.in_ok-groups.ensures

pub index_mut-requires : goal.index_mut-requires
index_mut-requires c =
    let keys = c.args.keys.now in
    let within = c.requires.within (get_or keys c.loop-place.place 0) (in_at keys c.loop-place.place 0 c.loop-place-test.true) in
    let size = c.loop-place.invariant.size in
    omega (arith, within, size)

pub loop-place-preserved : goal.loop-place-preserved
loop-place-preserved c =
    let keys = c.args.keys.now in
    let place = c.loop-place.place in
    grouped_more c.args.count keys c.loop-place.groups.items _ place
    (get_or keys place 0) c.index_mut.result.now c.loop-place.invariant refl
    (c.requires.within (get_or keys place 0) (in_at keys place 0 c.loop-place-test.true)) c.index_mut.ensures.value
    (ap (λ g. slice_set c.loop-place.groups.items (get_or keys place 0) g) c.in_ok-add.ensures)

pub returns : goal.returns
returns c = grouped_all c.args.count c.args.keys.now c.loop-place.groups.items c.loop-place.place
    (let t = c.loop-place-test.false in let k = c.loop-place.auto.place-end in omega (arith, t, k)) c.loop-place.invariant
