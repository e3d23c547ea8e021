use Rattle.std.proofs.Common.{◌≡◌, ◌∙◌, ◌-◌, ◌<◌, ◌++◌, inl, ⊎_elim, ℕ, List, Bool, false, length, get_or}
use Rattle.std.proofs.Common.{true≢false, refl, ap, sym, subst, arith}
use Rattle.std.proofs.lemmas.Bool.{cases_lt}
use Rattle.std.proofs.lemmas.List.{length-replicate}
use Rattle.base_facts.proofs.Lists.{empty_from_length, get_or_replicate_default}
use Rattle.base_facts.specs.Elements.{In}
use Rattle.solve_joint.specs.Tables.{closed}
use Rattle.solve_joint.specs.Cuts.{cut_from}
use Rattle.solve_joint.specs.Classes.{node_at}
use Rattle.solve_joint.specs.Waits.{left_of}
use Rattle.solve_joint.proofs.cut.Cutting.{cut_more, cut_stops, cut_all}
use Rattle.solve_joint.proofs.cut.Turning.{all_left, part_is, left_is, still_whole, still_waiting, placed_but, popped_is, none_ready}
use Rattle.solve_joint.proofs.cut.cut.Goals as goal

pub loop-turn-init : goal.loop-turn-init
loop-turn-init c =
    let nodes = c.args.cutting.now.nodes.now in
    let rows = closed c.args.cutting.now.points nodes in
    let gone = c.in_ok-gone.gone in
    let none = λ (i : ℕ). ap (λ (xs : List Bool). get_or xs i false) c.in_ok-gone.ensures ∙ get_or_replicate_default
    (length nodes) i false in
    record {
      size = ap (λ xs. length xs) c.in_ok-gone.ensures ∙ length-replicate (length nodes) false;
      whole = λ i l. none (get_or c.args.cutting.now.classes.items i 0) ∙ sym (none i);
      waiting = c.in_ok-waiting.ensures.waiting;
      placed = c.in_ok-waiting.ensures.placed;
      parts = sym (ap (λ (xs : List (List ℕ)). xs ++ cut_from rows (length nodes - 0) (left_of nodes gone)) c.new-lists.ensures.items
          ∙ ap (λ n. cut_from rows n (left_of nodes gone)) (let z : length nodes - 0 ≡ length nodes = omega arith in z)
          ∙ ap (cut_from rows (length nodes)) (all_left nodes gone none));
    }

pub part-requires : goal.part-requires
part-requires c = (c.loop-turn.invariant.waiting.ready_heads c.in-Some.head
    (subst (λ ks. In ks c.in-Some.head) (sym c.in-Some.ensures.removal) (inl refl))).within

pub leave-requires-clause-head : goal.leave-requires-clause-head
leave-requires-clause-head c = (c.loop-turn.invariant.waiting.ready_heads c.in-Some.head
    (subst (λ ks. In ks c.in-Some.head) (sym c.in-Some.ensures.removal) (inl refl))).within

pub go_on-requires-clause-head : goal.go_on-requires-clause-head
go_on-requires-clause-head c = (c.loop-turn.invariant.waiting.ready_heads c.in-Some.head
    (subst (λ ks. In ks c.in-Some.head) (sym c.in-Some.ensures.removal) (inl refl))).within

pub go_on-requires-clause-waiting : goal.go_on-requires-clause-waiting
go_on-requires-clause-waiting c =
    let cutting = c.args.cutting.now in
    let nodes = cutting.nodes.now in
    let head = c.in-Some.head in
    let before = c.loop-turn.invariant in
    let ready = subst (λ ks. In ks head) (sym c.in-Some.ensures.removal) (inl refl) in
    still_waiting (closed cutting.points nodes) nodes cutting.classes.items c.requires.classes c.loop-turn.gone c.leave.new.gone head
    (before.waiting.ready_heads head ready) (before.waiting.ready_left head ready) before.whole c.leave.ensures.out c.leave.ensures.others
    c.loop-turn.waiting.ready.keys c.pop_first.new.self.keys c.loop-turn.waiting.noted.items before.waiting c.in-Some.ensures.removal
    c.in-Some.ensures.all_above

pub go_on-requires-clause-others : goal.go_on-requires-clause-others
go_on-requires-clause-others c =
    let cutting = c.args.cutting.now in
    let nodes = cutting.nodes.now in
    let head = c.in-Some.head in
    let before = c.loop-turn.invariant in
    let ready = subst (λ ks. In ks head) (sym c.in-Some.ensures.removal) (inl refl) in
    placed_but (closed cutting.points nodes) nodes cutting.classes.items c.requires.classes c.loop-turn.gone c.leave.new.gone head
    (before.waiting.ready_heads head ready) (before.waiting.ready_left head ready) before.whole c.leave.ensures.out c.leave.ensures.others
    c.loop-turn.waiting.ready.keys c.pop_first.new.self.keys c.loop-turn.waiting.noted.items before.waiting c.in-Some.ensures.removal
    c.in-Some.ensures.all_above before.placed

pub loop-turn-preserved : goal.loop-turn-preserved
loop-turn-preserved c =
    let cutting = c.args.cutting.now in
    let nodes = cutting.nodes.now in
    let rows = closed cutting.points nodes in
    let classes = cutting.classes.items in
    let gone = c.loop-turn.gone in
    let head = c.in-Some.head in
    let before = c.loop-turn.invariant in
    let ready = subst (λ ks. In ks head) (sym c.in-Some.ensures.removal) (inl refl) in
    let is = before.waiting.ready_heads head ready in
    let here = before.waiting.ready_left head ready in
    let out = c.leave.ensures.out in
    let others = c.leave.ensures.others in
    let first = popped_is rows nodes classes c.requires.classes gone c.leave.new.gone head is here before.whole out others
    c.loop-turn.waiting.ready.keys c.pop_first.new.self.keys c.loop-turn.waiting.noted.items before.waiting c.in-Some.ensures.removal
    c.in-Some.ensures.all_above before.placed in
    let members = part_is rows nodes classes c.requires.classes gone c.leave.new.gone head is here before.whole out others in
    let within : c.loop-turn._turn < length nodes = c.loop-turn-test.true in
    let rest = left_is rows nodes classes c.requires.classes gone c.leave.new.gone head is here before.whole out others in
    record {
      size = c.leave.ensures.size ∙ before.size;
      whole = still_whole rows nodes classes c.requires.classes gone c.leave.new.gone head is here before.whole out others;
      waiting = c.in_ok-go_on-in-Some.ensures.waiting;
      placed = c.in_ok-go_on-in-Some.ensures.placed;
      parts = rw c.in_ok-push-in-Some.ensures.items
          (cut_more rows (length nodes) (cut_from rows (length nodes) nodes) c.loop-turn.lists.items c.loop-turn._turn (left_of nodes gone)
          before.parts within (node_at nodes head) c.new.result (left_of nodes c.leave.new.gone) (sym first)
          (c.new.ensures ∙ c.in_ok-list-in-Some.ensures ∙ sym members) rest);
    }

pub returns-in-None : goal.returns-in-None
returns-in-None c =
    let cutting = c.args.cutting.now in
    let nodes = cutting.nodes.now in
    let rows = closed cutting.points nodes in
    let before = c.loop-turn.invariant in
    let none = none_ready rows nodes cutting.classes.items c.requires.classes c.loop-turn.gone c.loop-turn.waiting.ready.keys
    c.loop-turn.waiting.noted.items before.whole
    (empty_from_length c.loop-turn.waiting.ready.keys
    (⊎_elim (λ l. absurd (true≢false (sym (c.in-None.ensures.variant.1 l)))) (λ l. omega (arith, l)) (cases_lt 0
    (length c.loop-turn.waiting.ready.keys))))
    before.placed in
    cut_stops rows (length nodes) (cut_from rows (length nodes) nodes) c.loop-turn.lists.items c.loop-turn._turn
    (left_of nodes c.loop-turn.gone) before.parts
    c.loop-turn-test.true (sym none)

pub returns : goal.returns
returns c =
    let nodes = c.args.cutting.now.nodes.now in
    let rows = closed c.args.cutting.now.points nodes in
    cut_all rows (length nodes) (cut_from rows (length nodes) nodes) c.loop-turn.lists.items c.loop-turn._turn
    (left_of nodes c.loop-turn.gone) c.loop-turn.invariant.parts
    c.loop-turn-test.false
