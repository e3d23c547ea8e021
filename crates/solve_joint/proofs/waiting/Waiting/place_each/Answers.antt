use Rattle.std.proofs.Common.{◌∙◌, ◌+◌, ◌<◌, ℕ, sym, subst, arith, below_more}
use Rattle.solve_joint.specs.Waits.{IsHead, AreWaiting, IsPlaced}
use Rattle.solve_joint.proofs.waiting.Placing.{still_placed}
use Rattle.solve_joint.proofs.waiting.Waiting.place_each.Goals as goal
use Rattle.solve_joint.proofs.waiting.Waiting.place_each.Goals.{then-class-place+in_ok-place, else-class-place}

pub loop-place-preserved : goal.loop-place-preserved
loop-place-preserved c =
    let nodes = c.args.cutting.now.nodes.now in
    let classes = c.args.cutting.now.classes.items in
    let gone = c.args.gone.now in
    let n = c.loop-place.place in
    let old = c.loop-place.self in
    let before = c.loop-place.invariant in
    elim c.if-class-place.branch [
      | then-class-place+in_ok-place w ↦
          let new = w.place.new.self in
          record {
            waiting = subst (λ s. AreWaiting nodes classes gone s.ready.keys s.noted.items) (sym w.self-is) w.in_ok-place.ensures.waiting;
            placed = subst (λ s. (k : ℕ) → k < n + 1 → IsHead nodes classes k → IsPlaced nodes classes gone s.ready.keys s.noted.items k)
                (sym w.self-is)
                (below_more (λ k. IsHead nodes classes k → IsPlaced nodes classes gone new.ready.keys new.noted.items k) n
                (λ k l is. still_placed nodes classes gone old.ready.keys old.noted.items new.ready.keys new.noted.items k
                w.in_ok-place.ensures.kept (before.placed k l is))
                (λ is. w.in_ok-place.ensures.placed));
          }
      | else-class-place w ↦ record {
        waiting = subst (λ s. AreWaiting nodes classes gone s.ready.keys s.noted.items) (sym w.self-is) before.waiting;
        placed = subst (λ s. (k : ℕ) → k < n + 1 → IsHead nodes classes k → IsPlaced nodes classes gone s.ready.keys s.noted.items k)
            (sym w.self-is)
            (below_more (λ k. IsHead nodes classes k → IsPlaced nodes classes gone old.ready.keys old.noted.items k) n before.placed
            (λ is. absurd (w.if-class-place.false (c.class.ensures ∙ is.itself))));
      }
    ]

pub returns-clause-placed : goal.returns-clause-placed
returns-clause-placed c = λ k is left. c.loop-place.invariant.placed k
    (let l = is.within in let t = c.loop-place-test.false in omega (arith, l, t)) is
