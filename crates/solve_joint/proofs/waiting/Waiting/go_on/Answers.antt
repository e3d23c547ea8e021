use Rattle.std.proofs.Common.{◌∙◌, ◌+◌, ⊎_elim, [], get_or, drop, sym, ap, subst, arith}
use Rattle.std.specs.Prelude.{slice_set}
use Rattle.std.proofs.lemmas.List.{get_or_default}
use Rattle.base_facts.specs.Elements.{In}
use Rattle.solve_joint.specs.Waits.{AllPlacedBut}
use Rattle.solve_joint.proofs.group.Members.{in_at}
use Rattle.solve_joint.proofs.cutting.Blocking.{member_at}
use Rattle.solve_joint.proofs.waiting.Placing.{taken_waiting, placed_again, rest_more, rest_none}
use Rattle.solve_joint.proofs.waiting.Waiting.go_on.Goals as goal

pub loop-member-init : goal.loop-member-init
loop-member-init c = record {
  waiting = c.requires.waiting;
  others = subst (λ xs. AllPlacedBut c.args.cutting.now.nodes.now c.args.cutting.now.classes.items c.args.gone.now
      c.args.self.now.ready.keys c.args.self.now.noted.items xs) (sym c.members_of-member-items.ensures) c.requires.others;
}

pub index_mut-requires : goal.index_mut-requires
index_mut-requires c =
    let cutting = c.args.cutting.now in
    let l = (member_at cutting.nodes.now cutting.classes.items cutting.sized c.args.head c.members_of-member-items.result.now
    c.loop-member.member-index c.members_of-member-items.ensures c.loop-member-test.true).0 in
    let size = c.loop-member.invariant.waiting.size in
    omega (arith, l, size, c.loop-member.self.noted.ok.0)

pub place_all-requires-clause-waiting : goal.place_all-requires-clause-waiting
place_all-requires-clause-waiting c =
    let cutting = c.args.cutting.now in
    let i = get_or c.members_of-member-items.result.now c.loop-member.member-index 0 in
    taken_waiting cutting.nodes.now cutting.classes.items c.args.gone.now c.loop-member.self.ready.keys c.loop-member.self.noted.items
    c.loop-member.invariant.waiting i _ (ap (λ g. slice_set c.loop-member.self.noted.items i g) c.take-heads.ensures.left)

pub place_all-requires-clause-heads : goal.place_all-requires-clause-heads
place_all-requires-clause-heads c = λ k m.
    let cutting = c.args.cutting.now in
    let noted = c.loop-member.self.noted.items in
    let i = get_or c.members_of-member-items.result.now c.loop-member.member-index 0 in
    let l = (member_at cutting.nodes.now cutting.classes.items cutting.sized c.args.head c.members_of-member-items.result.now
    c.loop-member.member-index c.members_of-member-items.ensures c.loop-member-test.true).0 in
    let size = c.loop-member.invariant.waiting.size in
    let heads = c.as_slice.ensures ∙ c.take-heads.ensures.taken ∙ c.index_mut.ensures.value
    ∙ get_or_default noted i c.index_mut.result.now [] (omega (arith, l, size)) in
    c.loop-member.invariant.waiting.noted_heads i k (subst (λ xs. In xs k) heads m)

pub loop-member-preserved : goal.loop-member-preserved
loop-member-preserved c =
    let cutting = c.args.cutting.now in
    let nodes = cutting.nodes.now in
    let classes = cutting.classes.items in
    let gone = c.args.gone.now in
    let ready = c.loop-member.self.ready.keys in
    let noted = c.loop-member.self.noted.items in
    let members = c.members_of-member-items.result.now in
    let n = c.loop-member.member-index in
    let i = get_or members n 0 in
    let l = (member_at nodes classes cutting.sized c.args.head members n c.members_of-member-items.ensures c.loop-member-test.true).0 in
    let size = c.loop-member.invariant.waiting.size in
    let heads = c.as_slice.ensures ∙ c.take-heads.ensures.taken ∙ c.index_mut.ensures.value
    ∙ get_or_default noted i c.index_mut.result.now [] (omega (arith, l, size)) in
    record {
      waiting = c.in_ok-place_all.ensures.waiting;
      others = placed_again nodes classes gone ready noted c.loop-member.invariant.waiting i
          (slice_set noted i c.take-heads.new.self) (ap (λ g. slice_set noted i g) c.take-heads.ensures.left)
          c.as_slice.result.now (drop (n + 1) members) c.place_all.new.self.ready.keys c.place_all.new.self.noted.items heads
          (c.requires.out i (subst (λ xs. In xs i) c.members_of-member-items.ensures (in_at members n 0 c.loop-member-test.true)))
          (subst (λ xs. AllPlacedBut nodes classes gone ready noted xs) (rest_more members n c.loop-member-test.true)
          c.loop-member.invariant.others)
          c.in_ok-place_all.ensures.kept c.in_ok-place_all.ensures.placed;
    }

pub returns-clause-placed : goal.returns-clause-placed
returns-clause-placed c = λ k is left. ⊎_elim
    (λ p. p)
    (λ q. absurd (subst (λ xs. In xs q.0) (rest_none c.members_of-member-items.result.now c.loop-member.member-index
    c.loop-member-test.false) q.1))
    (c.loop-member.invariant.others k is left)
