use Rattle.std.proofs.Common.{◌≡◌, ◌≤◌, ◌∙◌, List, arith, ap, length, map, subst, sym}
use Rattle.source_constants.specs.Directives.{code_of}
use Rattle.ask_words.specs.Request.{source_text}
use Rattle.acsl_comments.specs.Places.{Ascend}
use Rattle.acsl_comments.specs.Texts.{with_comments}
use Rattle.acsl_comments.specs.declared.comment.Comment.{Comment}
use Rattle.acsl_annotate.specs.Annotated.{IsAnnotatedOf}
use Rattle.acsl_annotate.proofs.write.Coded.{code_length, code_placed}
use Rattle.acsl_annotate.proofs.write.Noted.{IsNoted, annotated_of, for_ok, in_order, noted_by}
use Rattle.acsl_annotate.proofs.write.annotated_text.Goals as goal

pub anchors-requires-clause-tokens : goal.anchors-requires-clause-tokens
anchors-requires-clause-tokens c = code_placed c.args.program.text.now c.in_ok-tokens.tokens.items c.deref-3.result.now
    (c.deref-3.ensures.value ∙ c.in_ok-code.ensures ∙ ap code_of c.deref-2.ensures.value) c.in_ok-tokens.ensures.placed

pub anchors-requires-clause-within : goal.anchors-requires-clause-within
anchors-requires-clause-within c =
    let tokens = c.in_ok-tokens.tokens.items in
    let chosen = c.in_ok-chosen.chosen in
    let few : length chosen.code.items ≤ length c.deref-3.result.now = code_length c.args.program.text.now tokens c.deref-3.result.now
    chosen.code.items
    (c.deref-3.ensures.value ∙ c.in_ok-code.ensures ∙ ap code_of c.deref-2.ensures.value) c.in_ok-tokens.ensures.placed
    (λ front e. c.in_ok-chosen.ensures.code front (e ∙ sym c.deref.ensures.value)) in
    omega (arith, c.in_ok-chosen.ensures.within, few)

pub with_comments-requires-clause-order : goal.with_comments-requires-clause-order
with_comments-requires-clause-order c =
    let program = source_text c.args.program in
    let bounds = c.args.least.now in
    let tokens = c.in_ok-tokens.tokens.items in
    let chosen = c.in_ok-chosen.chosen in
    let noted : IsNoted program bounds tokens chosen.definitions.items chosen.function c.in_ok-places.places.items c.in_ok-list.list.items =
    noted_by program bounds tokens c.deref.result.now chosen.code.items c.deref-3.result.now chosen.definitions.items chosen.function
    c.in_ok-places.places.items c.deref-4.result.now c.in_ok-list.list.items c.as_slice.result.now c.deref.ensures.value
    (c.deref-3.ensures.value ∙ c.in_ok-code.ensures ∙ ap code_of c.deref-2.ensures.value) c.deref-4.ensures.value c.as_slice.ensures
    c.in_ok-tokens.ensures.reads c.are_words.ensures c.in_ok-chosen.ensures.order c.in_ok-chosen.ensures.within
    c.in_ok-chosen.ensures.code c.in_ok-chosen.ensures.found c.in_ok-chosen.ensures.means c.in_ok-places.ensures c.in_ok-list.ensures in
    let f = c.requires.found in
    subst (λ (cs : List Comment). Ascend 0 (length program.text) (map (λ x. x.place) cs)) (sym c.deref-5.ensures.value)
    (in_order program f.0 f.1 f.2 bounds tokens chosen.definitions.items chosen.function c.in_ok-places.places.items c.in_ok-list.list.items
    f.3 noted c.one_reading.ensures.tokens c.comments_may_stand.ensures)

pub returns : goal.returns
returns c = λ rows policy limit found.
    let program = source_text c.args.program in
    let bounds = c.args.least.now in
    let tokens = c.in_ok-tokens.tokens.items in
    let chosen = c.in_ok-chosen.chosen in
    let list = c.in_ok-list.list.items in
    let noted : IsNoted program bounds tokens chosen.definitions.items chosen.function c.in_ok-places.places.items list =
    noted_by program bounds tokens c.deref.result.now chosen.code.items c.deref-3.result.now chosen.definitions.items chosen.function
    c.in_ok-places.places.items c.deref-4.result.now list c.as_slice.result.now c.deref.ensures.value
    (c.deref-3.ensures.value ∙ c.in_ok-code.ensures ∙ ap code_of c.deref-2.ensures.value) c.deref-4.ensures.value c.as_slice.ensures
    c.in_ok-tokens.ensures.reads c.are_words.ensures c.in_ok-chosen.ensures.order c.in_ok-chosen.ensures.within
    c.in_ok-chosen.ensures.code c.in_ok-chosen.ensures.found c.in_ok-chosen.ensures.means c.in_ok-places.ensures c.in_ok-list.ensures in
    for_ok (λ written. written.items ≡ with_comments 0 program.text c.deref-5.result.now)
    (λ bytes. IsAnnotatedOf program rows bytes.items) _
    (λ bytes written. annotated_of program rows policy limit bounds tokens chosen.definitions.items chosen.function
    c.in_ok-places.places.items list found noted c.one_reading.ensures.tokens c.comments_may_stand.ensures
    bytes.items (written ∙ ap (λ (cs : List Comment). with_comments 0 program.text cs) c.deref-5.ensures.value)
    c.has_rows.ensures c.anchors_are_points.ensures c.comments_come_out.ensures c.programs_stay.ensures c.clauses_hold.ensures
    c.post_solutions_hold.ensures.program)
    c.with_comments.ensures
