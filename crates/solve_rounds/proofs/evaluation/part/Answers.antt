use Rattle.std.proofs.Common.{◌≡◌, ◌∙◌, ◌<◌, length, sym, subst, arith, vec_len}
use Rattle.std.proofs.lemmas.Result.{err_from_is_err_and}
use Rattle.solve_rounds.proofs.evaluation.Parting.{IsParting, not_none, none_there, no_element, parting_starts, parting_ends, left_stop}
use Rattle.solve_rounds.proofs.evaluation.Parting.{left_condition, left_more}
use Rattle.solve_rounds.proofs.evaluation.part.Goals as goal

pub loop-alloc-init : goal.loop-alloc-init
loop-alloc-init g c =
    let at = c.args.at.now in
    subst (λ l. IsParting at.system.now at.pick.now at.raises.now at.places.now c.args.list.now c.args.turning.now l
    c.args.turning.now) (sym c.in_ok-left.ensures.list)
    (parting_starts at.system.now at.pick.now at.raises.now at.places.now c.args.list.now c.args.turning.now
    c.requires.part)

pub turn-requires-clause-few : goal.turn-requires-clause-few
turn-requires-clause-few g c =
    let at = c.args.at.now in
    let left = c.as_slice.result.now in
    let h = subst (λ l. IsParting at.system.now at.pick.now at.raises.now at.places.now c.args.list.now c.args.turning.now l
    c.loop-alloc.turning) (sym c.as_slice.ensures.value) c.loop-alloc.invariant in
    let some : 0 < length left = subst (λ n. 0 < n) (sym c.as_slice.ensures.len)
    (not_none _ (sym c.is_empty.ensures ∙ c.loop-alloc-test.true)) in
    omega (arith, h.few, c.requires.few, some)

pub turn-requires-clause-condition : goal.turn-requires-clause-condition
turn-requires-clause-condition g c =
    let at = c.args.at.now in
    let system = at.system.now in
    let now = c.loop-alloc.turning in
    let left = c.as_slice.result.now in
    let h = subst (λ l. IsParting system at.pick.now at.raises.now at.places.now c.args.list.now c.args.turning.now l now)
    (sym c.as_slice.ensures.value) c.loop-alloc.invariant in
    left_condition system at.pick.now at.raises.now at.places.now c.args.list.now c.args.turning.now left now at.chosen
    c.requires.waiting h

pub returns-in_err-left-2-clause-stop : goal.returns-in_err-left-2-clause-stop
returns-in_err-left-2-clause-stop g c =
    let at = c.args.at.now in
    let q = err_from_is_err_and c.from_residual-in_err-left-2.result c.from_residual-in_err-left-2.ensures.1 in
    let system = at.system.now in
    let now = c.loop-alloc.turning in
    let left = c.as_slice.result.now in
    let h = subst (λ l. IsParting system at.pick.now at.raises.now at.places.now c.args.list.now c.args.turning.now l now)
    (sym c.as_slice.ensures.value) c.loop-alloc.invariant in
    let some = subst (λ n. 0 < n) (sym c.as_slice.ensures.len) (not_none _ (sym c.is_empty.ensures ∙ c.loop-alloc-test.true)) in
    rw (q.1, q.2)
    (left_stop system at.pick.now at.raises.now at.places.now c.args.list.now c.args.turning.now left now at.round
    c.in_err-left-2.field-0.0 c.requires.bounds some h c.in_err-left-2.ensures.stop)

pub loop-alloc-preserved : goal.loop-alloc-preserved
loop-alloc-preserved g c =
    let at = c.args.at.now in
    let system = at.system.now in
    let now = c.loop-alloc.turning in
    let left = c.as_slice.result.now in
    let h = subst (λ l. IsParting system at.pick.now at.raises.now at.places.now c.args.list.now c.args.turning.now l now)
    (sym c.as_slice.ensures.value) c.loop-alloc.invariant in
    let some = subst (λ n. 0 < n) (sym c.as_slice.ensures.len) (not_none _ (sym c.is_empty.ensures ∙ c.loop-alloc-test.true)) in
    left_more system at.pick.now at.raises.now at.places.now c.args.list.now c.args.turning.now left c.in_ok-left-2.left.items
    now c.turn.new.turning some h c.in_ok-left-2.ensures.turned c.in_ok-left-2.ensures.among c.in_ok-left-2.ensures.others

pub returns-clause-done : goal.returns-clause-done
returns-clause-done g c =
    let at = c.args.at.now in
    let v = c.loop-alloc.left in
    let k : vec_len v ≡ length v.items = omega (arith, v.ok.0) in
    parting_ends at.system.now at.pick.now at.raises.now at.places.now c.args.list.now c.args.turning.now
    c.loop-alloc.left.items c.loop-alloc.turning
    (no_element c.loop-alloc.left.items (sym k ∙ none_there _ (sym c.is_empty.ensures ∙ c.loop-alloc-test.false))) c.loop-alloc.invariant

pub returns-clause-others : goal.returns-clause-others
returns-clause-others g c = c.loop-alloc.invariant.others
