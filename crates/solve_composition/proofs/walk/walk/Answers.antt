use Rattle.std.proofs.Common.{◌≡◌, ◌∙◌, ◌+◌, List, length, map, vec_len, ap, sym, subst, arith}
use Rattle.std.proofs.lemmas.Result.{err_from_is_err_and}
use Rattle.solve_composition.specs.declared.affine.Affine.{Affine}
use Rattle.theory_validity.specs.Words.{free_count}
use Rattle.solve_composition.specs.Operations.{next_state}
use Rattle.solve_composition.specs.ComposedLaws.{form_of}
use Rattle.solve_composition.proofs.walk.Frees.{frees_left}
use Rattle.solve_composition.proofs.walk.States.{state_is}
use Rattle.solve_composition.proofs.operations.Walked.{IsWalked, walked_none, walked_more, walked_wide, walked_guards, walked_state}
use Rattle.solve_composition.proofs.operations.Walked.{walked_first, state_of, column_frees}
use Rattle.solve_composition.proofs.walk.walk.Goals as goal

pub loop-action-init : goal.loop-action-init
loop-action-init c =
    let v = c.args.state.now in
    let start = v.items in
    let k = length start in
    let next = c.len-next.result in
    let size : vec_len v ≡ k = omega (arith, v.ok.0) in
    let n : next ≡ k = c.len-next.ensures ∙ size in
    record {
      walked = λ forms e. (
        forms,
        subst (λ (gs : List Affine). IsWalked c.args.width k forms c.args.actions.now 0 next start gs forms)
            (sym c.new-guards.ensures.items) (walked_none c.args.width k forms c.args.actions.now next start n e),
      );
      state = c.requires.state;
      room = ap (λ m. m + free_count c.args.actions.now) n ∙ sym c.requires.width;
    }

pub step-requires-clause-next : goal.step-requires-clause-next
step-requires-clause-next c =
    let left = frees_left c.args.actions.now c.loop-action.action-index c.action-item.result c.loop-action-test.true c.action-item.is in
    let room = c.loop-action.invariant.room in
    omega (arith, left, room)

pub returns-in_err-next : goal.returns-in_err-next
returns-in_err-next c = λ forms e.
    let p = err_from_is_err_and c.from_residual.result c.from_residual.ensures.1 in
    let h = c.loop-action.invariant.walked forms e in
    rw (p.1, p.2)
    (walked_wide c.args.width (length c.args.state.now.items) forms c.args.actions.now c.loop-action.action-index c.loop-action.next
    c.loop-action.state.items c.loop-action.guards.items h.0 h.1 c.action-item.result c.loop-action-test.true c.action-item.is
    c.in_err-next.field-0.0 (c.in_err-next.ensures h.0 h.1.state_now))

pub loop-action-preserved : goal.loop-action-preserved
loop-action-preserved c =
    let s = c.in_ok-next.ensures (map form_of c.loop-action.state.items) (state_of c.args.width c.loop-action.state.items
    c.loop-action.invariant.state) in
    let left = frees_left c.args.actions.now c.loop-action.action-index c.action-item.result c.loop-action-test.true c.action-item.is in
    let room = c.loop-action.invariant.room in
    let more = column_frees c.loop-action.next c.action-item.result in
    let next = s.0 in
    record {
      walked = λ forms e.
          let h = c.loop-action.invariant.walked forms e in
          let f = c.in_ok-next.ensures h.0 h.1.state_now in (
            next_state c.loop-action.next h.0 c.action-item.result,
            walked_more c.args.width (length c.args.state.now.items) forms c.args.actions.now c.loop-action.action-index c.loop-action.next
                c.loop-action.state.items c.loop-action.guards.items h.0 h.1 c.action-item.result c.loop-action-test.true c.action-item.is
                c.in_ok-next.next c.step.new.state.items c.step.new.guards.items f.0 f.1 f.2 f.3,
          );
      state = state_is c.step.new.state.items c.args.width
          (next_state c.loop-action.next (map form_of c.loop-action.state.items) c.action-item.result) s.1;
      room = omega (arith, left, room, more, next);
    }

pub returns : goal.returns
returns c = λ forms e.
    let h = c.loop-action.invariant.walked forms e in
    let l = c.loop-action-test.false in (
      c.new.ensures ∙ walked_guards c.args.width (length c.args.state.now.items) forms c.args.actions.now c.loop-action.action-index
          c.loop-action.next c.loop-action.state.items c.loop-action.guards.items h.0 h.1 l,
      walked_state c.args.width (length c.args.state.now.items) forms c.args.actions.now c.loop-action.action-index c.loop-action.next
          c.loop-action.state.items c.loop-action.guards.items h.0 h.1 l,
      walked_first c.args.width (length c.args.state.now.items) forms c.args.actions.now c.loop-action.action-index c.loop-action.next
          c.loop-action.state.items c.loop-action.guards.items h.0 h.1 l,
    )
