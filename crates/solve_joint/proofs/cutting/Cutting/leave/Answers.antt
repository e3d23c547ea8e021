use Rattle.std.proofs.Common.{sym, subst, arith}
use Rattle.std.proofs.lemmas.List.{take_all}
use Rattle.base_facts.specs.Elements.{In}
use Rattle.solve_joint.proofs.cutting.Blocking.{member_at, set_none, set_more}
use Rattle.solve_joint.proofs.cutting.Cutting.leave.Goals as goal

pub loop-member-init : goal.loop-member-init
loop-member-init c = set_none c.args.gone.now c.members_of-member-items.result.now

pub set-requires : goal.set-requires
set-requires c =
    let cutting = c.args.self.now in
    let within = (member_at cutting.nodes.now cutting.classes.items cutting.sized c.args.head c.members_of-member-items.result.now
    c.loop-member.member-index c.members_of-member-items.ensures c.loop-member-test.true).0 in
    let size = c.loop-member.invariant.size in
    omega (arith, within, size, c.requires.size)

pub loop-member-preserved : goal.loop-member-preserved
loop-member-preserved c =
    let cutting = c.args.self.now in
    let within = (member_at cutting.nodes.now cutting.classes.items cutting.sized c.args.head c.members_of-member-items.result.now
    c.loop-member.member-index c.members_of-member-items.ensures c.loop-member-test.true).0 in
    let size = c.loop-member.invariant.size in
    set_more c.args.gone.now c.members_of-member-items.result.now c.loop-member.gone c.set.new.self c.loop-member.member-index
    c.loop-member.invariant c.loop-member-test.true (omega (arith, within, size, c.requires.size)) c.set.ensures

pub returns-clause-out : goal.returns-clause-out
returns-clause-out c = λ i m. c.loop-member.invariant.out i
    (subst (λ xs. In xs i) (sym (take_all c.loop-member.member-index c.members_of-member-items.result.now c.loop-member-test.false))
    (subst (λ xs. In xs i) (sym c.members_of-member-items.ensures) m))

pub returns-clause-others : goal.returns-clause-others
returns-clause-others c = λ i m. c.loop-member.invariant.others i
    (λ k. m (subst (λ xs. In xs i) c.members_of-member-items.ensures
    (subst (λ xs. In xs i) (take_all c.loop-member.member-index c.members_of-member-items.result.now c.loop-member-test.false) k)))
