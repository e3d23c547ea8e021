use Rattle.std.proofs.Common.{◌≡◌, ◌∙◌, ◌+◌, ℕ, false, get_or, take, sym, subst, true≢false}
use Rattle.std.proofs.lemmas.List.{take_all}
use Rattle.base_facts.specs.Elements.{In}
use Rattle.solve_joint.specs.Waits.{AreWaiting, AreKept, IsPlaced}
use Rattle.solve_joint.proofs.group.Members.{in_at}
use Rattle.solve_joint.proofs.waiting.Placing.{kept_all, kept_both, still_placed, each_more}
use Rattle.solve_joint.proofs.waiting.Waiting.place_all.Goals as goal
use Rattle.solve_joint.proofs.waiting.Waiting.place_all.Goals.{then-not-at+in_ok-place, else-not-at}

pub loop-head-init : goal.loop-head-init
loop-head-init c = record {
  waiting = c.requires.waiting;
  kept = kept_all c.args.self.now.ready.keys c.args.self.now.noted.items;
  placed = λ k m. absurd m;
}

pub place-requires-clause-head : goal.place-requires-clause-head
place-requires-clause-head c = c.requires.heads (get_or c.args.heads.now c.loop-head.head-index 0)
    (in_at c.args.heads.now c.loop-head.head-index 0 c.loop-head-test.true)

pub loop-head-preserved : goal.loop-head-preserved
loop-head-preserved c =
    let nodes = c.args.cutting.now.nodes.now in
    let classes = c.args.cutting.now.classes.items in
    let gone = c.args.gone.now in
    let heads = c.args.heads.now in
    let n = c.loop-head.head-index in
    let old = c.loop-head.self in
    let before = c.loop-head.invariant in
    elim c.if-not-at.branch [
      | then-not-at+in_ok-place w ↦
          let new = w.place.new.self in
          record {
            waiting = subst (λ s. AreWaiting nodes classes gone s.ready.keys s.noted.items) (sym w.self-is) w.in_ok-place.ensures.waiting;
            kept = subst (λ s. AreKept c.args.self.now.ready.keys c.args.self.now.noted.items s.ready.keys s.noted.items) (sym w.self-is)
                (kept_both c.args.self.now.ready.keys c.args.self.now.noted.items old.ready.keys old.noted.items new.ready.keys
                new.noted.items before.kept w.in_ok-place.ensures.kept);
            placed = subst (λ s. (k : ℕ) → In (take (n + 1) heads) k → get_or gone k false ≡ false
                → IsPlaced nodes classes gone s.ready.keys s.noted.items k) (sym w.self-is)
                (each_more (λ k. get_or gone k false ≡ false → IsPlaced nodes classes gone new.ready.keys new.noted.items k) heads n
                c.loop-head-test.true
                (λ k m left. still_placed nodes classes gone old.ready.keys old.noted.items new.ready.keys new.noted.items k
                w.in_ok-place.ensures.kept (before.placed k m left))
                (λ left. w.in_ok-place.ensures.placed));
          }
      | else-not-at w ↦ record {
        waiting = subst (λ s. AreWaiting nodes classes gone s.ready.keys s.noted.items) (sym w.self-is) before.waiting;
        kept = subst (λ s. AreKept c.args.self.now.ready.keys c.args.self.now.noted.items s.ready.keys s.noted.items) (sym w.self-is)
            before.kept;
        placed = subst (λ s. (k : ℕ) → In (take (n + 1) heads) k → get_or gone k false ≡ false
            → IsPlaced nodes classes gone s.ready.keys s.noted.items k) (sym w.self-is)
            (each_more (λ k. get_or gone k false ≡ false → IsPlaced nodes classes gone old.ready.keys old.noted.items k) heads n
            c.loop-head-test.true before.placed (λ left. absurd (true≢false (sym w.if-not-at.false ∙ c.at.ensures ∙ left))));
      }
    ]

pub returns-clause-placed : goal.returns-clause-placed
returns-clause-placed c = λ k m. c.loop-head.invariant.placed k
    (subst (λ xs. In xs k) (sym (take_all c.loop-head.head-index c.args.heads.now c.loop-head-test.false)) m)
