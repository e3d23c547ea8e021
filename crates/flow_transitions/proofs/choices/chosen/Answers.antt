use Rattle.std.proofs.Common.{◌∙◌, ◌+◌, drop, subst}
use Rattle.std.proofs.lemmas.List.{at_drop_all}
use Rattle.lang_tree.specs.View.{statement_of, statements_of}
use Rattle.flow_transitions.proofs.choosing.Chosen.{IsChosen, parts, chosen_more, chosen_all}
use Rattle.flow_transitions.proofs.made.Places.{room_at, statements-drop}
use Rattle.flow_transitions.proofs.choices.chosen.Goals as goal

pub few_choices-requires : goal.few_choices-requires
few_choices-requires c = room_at c.args.acts.now c.loop-act.act-index c.act-item.result c.loop-act-test.true c.act-item.is c.requires.room

pub add_choice-requires-clause-room : goal.add_choice-requires-clause-room
add_choice-requires-clause-room c = room_at c.args.acts.now c.loop-act.act-index c.act-item.result c.loop-act-test.true c.act-item.is
    c.requires.room

pub nonzero_div-number : goal.nonzero_div-number
nonzero_div-number c =
    let acts = c.args.acts.now in
    let i = c.loop-act.act-index in
    let now = subst (λ rest. IsChosen (statements_of acts) c.args.number rest c.loop-act.actions.items c.loop-act.left c.loop-act.number)
    (statements-drop acts i c.act-item.result c.loop-act-test.true c.act-item.is) c.loop-act.invariant in
    (parts (statements_of acts) c.args.number (statement_of c.act-item.result) (statements_of (drop (i + 1) acts)) c.loop-act.actions.items
    c.loop-act.left c.loop-act.number _ c.in_ok-left.ensures now).later_some

pub nonzero_rem-number : goal.nonzero_rem-number
nonzero_rem-number c =
    let acts = c.args.acts.now in
    let i = c.loop-act.act-index in
    let now = subst (λ rest. IsChosen (statements_of acts) c.args.number rest c.loop-act.actions.items c.loop-act.left c.loop-act.number)
    (statements-drop acts i c.act-item.result c.loop-act-test.true c.act-item.is) c.loop-act.invariant in
    (parts (statements_of acts) c.args.number (statement_of c.act-item.result) (statements_of (drop (i + 1) acts)) c.loop-act.actions.items
    c.loop-act.left c.loop-act.number _ c.in_ok-left.ensures now).later_some

pub add_choice-requires-clause-number : goal.add_choice-requires-clause-number
add_choice-requires-clause-number c =
    let acts = c.args.acts.now in
    let i = c.loop-act.act-index in
    let now = subst (λ rest. IsChosen (statements_of acts) c.args.number rest c.loop-act.actions.items c.loop-act.left c.loop-act.number)
    (statements-drop acts i c.act-item.result c.loop-act-test.true c.act-item.is) c.loop-act.invariant in
    let p = parts (statements_of acts) c.args.number (statement_of c.act-item.result) (statements_of (drop (i + 1) acts))
    c.loop-act.actions.items c.loop-act.left c.loop-act.number _ c.in_ok-left.ensures now in
    rw (← c.in_ok-left.ensures) p.first

pub loop-act-preserved : goal.loop-act-preserved
loop-act-preserved c =
    let acts = c.args.acts.now in
    let i = c.loop-act.act-index in
    let now = subst (λ rest. IsChosen (statements_of acts) c.args.number rest c.loop-act.actions.items c.loop-act.left c.loop-act.number)
    (statements-drop acts i c.act-item.result c.loop-act-test.true c.act-item.is) c.loop-act.invariant in
    chosen_more (statements_of acts) c.args.number (statement_of c.act-item.result) (statements_of (drop (i + 1) acts))
    c.loop-act.actions.items c.add_choice.new.actions.items
    c.loop-act.left c.loop-act.number _ c.in_ok-left.ensures now c.in_ok-add_choice.ensures

pub returns : goal.returns
returns c =
    let acts = c.args.acts.now in
    let now = subst (λ rest. IsChosen (statements_of acts) c.args.number rest c.loop-act.actions.items c.loop-act.left c.loop-act.number)
    (at_drop_all statements_of acts c.loop-act.act-index c.loop-act-test.false) c.loop-act.invariant in
    c.new.ensures ∙ chosen_all (statements_of acts) c.args.number c.loop-act.actions.items c.loop-act.left c.loop-act.number now
