use Rattle.std.proofs.Common.{subst, ◌+◌, drop}
use Rattle.lang_tree.specs.View.{statement_of, statements_of}
use Rattle.flow_transitions.proofs.counted.Ways.{AreCounted, counted_more}
use Rattle.flow_transitions.proofs.made.Places.{room_at, statements-drop}
use Rattle.flow_transitions.proofs.counting.way_count.Goals as goal

pub choice_count-requires : goal.choice_count-requires
choice_count-requires c = room_at c.args.acts.now c.loop-act.act-index c.act-item.result c.loop-act-test.true c.act-item.is c.requires

pub loop-act-preserved : goal.loop-act-preserved
loop-act-preserved c =
    let acts = c.args.acts.now in
    let i = c.loop-act.act-index in
    let now = subst (λ rest. AreCounted (statements_of acts) rest c.loop-act.count)
    (statements-drop acts i c.act-item.result c.loop-act-test.true c.act-item.is) c.loop-act.invariant in
    counted_more (statements_of acts) (statement_of c.act-item.result) (statements_of (drop (i + 1) acts)) c.loop-act.count _
    c.min-count.result
    c.in_ok-choice_count.ensures.count c.in_ok-choice_count.ensures.narrow c.min-count.ensures now
