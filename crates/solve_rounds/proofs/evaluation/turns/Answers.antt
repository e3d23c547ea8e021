use Rattle.std.proofs.Common.{◌∙◌, ◌≤◌, ap, length, subst, arith}
use Rattle.std.proofs.lemmas.Result.{err_from_is_err_and}
use Rattle.solve_rounds.proofs.evaluation.NextPart.{numbered, numbered_part, numbered_few, numbered_more, numbered_waits}
use Rattle.solve_rounds.proofs.evaluation.NextPart.{numbered_stop}
use Rattle.solve_rounds.proofs.evaluation.Partings.{partings_start, partings_end}
use Rattle.solve_rounds.proofs.evaluation.turns.Goals as goal

pub loop-number-init : goal.loop-number-init
loop-number-init g c =
    let at = c.args.at.now in
    partings_start at.system.now at.pick.now at.raises.now at.places.now c.args.list.now c.args.turning.now
    c.requires.none c.requires.waiting

pub part-requires-clause-few : goal.part-requires-clause-few
part-requires-clause-few g c =
    let at = c.args.at.now in
    let n = numbered at.system.now at.pick.now c.args.list.now c.in_ok-parts.ensures.parts c.count-number-end.ensures.count
    c.loop-number-test.true c.list.ensures in
    let small = numbered_few at.system.now at.pick.now at.raises.now at.places.now c.args.list.now n c.requires.list
    c.in_ok-parts.ensures.parts c.in_ok-parts.ensures.rise in
    let few = c.loop-number.invariant.few in
    let count = c.count-number-end.ensures.few in
    omega arith

pub part-requires-clause-part : goal.part-requires-clause-part
part-requires-clause-part g c =
    let at = c.args.at.now in
    let n = numbered at.system.now at.pick.now c.args.list.now c.in_ok-parts.ensures.parts c.count-number-end.ensures.count
    c.loop-number-test.true c.list.ensures in
    numbered_part at.system.now at.pick.now at.raises.now at.places.now c.args.list.now n c.requires.list
    c.in_ok-parts.ensures.parts c.in_ok-parts.ensures.rise

pub part-requires-clause-waiting : goal.part-requires-clause-waiting
part-requires-clause-waiting g c =
    let at = c.args.at.now in
    let n = numbered at.system.now at.pick.now c.args.list.now c.in_ok-parts.ensures.parts c.count-number-end.ensures.count
    c.loop-number-test.true c.list.ensures in
    numbered_waits at.system.now at.pick.now at.raises.now at.places.now c.args.list.now n c.args.turning.now
    c.loop-number.turning at.chosen c.loop-number.invariant

pub returns-in_err-part-clause-stop : goal.returns-in_err-part-clause-stop
returns-in_err-part-clause-stop g c =
    let at = c.args.at.now in
    let q = err_from_is_err_and c.from_residual-in_err-part.result c.from_residual-in_err-part.ensures.1 in
    let n = numbered at.system.now at.pick.now c.args.list.now c.in_ok-parts.ensures.parts c.count-number-end.ensures.count
    c.loop-number-test.true c.list.ensures in
    rw (q.1, q.2)
    (numbered_stop at.system.now at.pick.now at.raises.now at.places.now c.args.list.now n c.args.turning.now
    c.loop-number.turning at.round c.in_err-part.field-0.0 c.requires.none c.loop-number.invariant c.in_err-part.ensures.stop)

pub loop-number-preserved : goal.loop-number-preserved
loop-number-preserved g c =
    let at = c.args.at.now in
    let n = numbered at.system.now at.pick.now c.args.list.now c.in_ok-parts.ensures.parts c.count-number-end.ensures.count
    c.loop-number-test.true c.list.ensures in
    numbered_more at.system.now at.pick.now at.raises.now at.places.now c.args.list.now n c.requires.list
    c.in_ok-parts.ensures.parts c.in_ok-parts.ensures.rise c.args.turning.now c.loop-number.turning c.part.new.turning
    at.chosen c.loop-number.invariant c.in_ok-part.ensures.done c.in_ok-part.ensures.others

pub returns-clause-done : goal.returns-clause-done
returns-clause-done g c =
    let at = c.args.at.now in
    let system = at.system.now in
    let pick = at.pick.now in
    let list = c.args.list.now in
    let same = c.in_ok-parts.ensures.parts in
    let size = c.count-number-end.ensures.count ∙ ap length same in
    partings_end system pick at.raises.now at.places.now list c.args.turning.now c.loop-number.number c.loop-number.turning
    (subst (λ n. n ≤ c.loop-number.number) size c.loop-number-test.false) c.loop-number.invariant

pub returns-clause-others : goal.returns-clause-others
returns-clause-others g c = c.loop-number.invariant.others
