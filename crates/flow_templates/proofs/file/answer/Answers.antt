use Rattle.std.proofs.Common.{◌≡◌, ◌≤◌, ◌+◌, ◌∷◌, [], length, ap, sym, subst, ◌∙◌, refl, Ok, Err, arith}
use Rattle.std.proofs.lemmas.Result.{err_from_is_err_and}
use Rattle.base_limits.specs.declared.limits.TheConstants.{MOST_TEXT_BYTES}
use Rattle.flow_templates.specs.declared.fault.RowFault.TheVariants.{Count}
use Rattle.flow_templates.specs.Rows.{width_of}
use Rattle.flow_templates.specs.RowFaults.{count_faults}
use Rattle.flow_templates.specs.RowFiles.{lines_of, LinesRead, HasFault, a_template, a_count, a_fault}
use Rattle.flow_templates.proofs.file.Steps.{pieces}
use Rattle.flow_templates.proofs.file.Rows.{pieces_short, pieces_few, rows_over, count_is}
use Rattle.flow_templates.proofs.counted.Sound.{template_from, count_within}
use Rattle.flow_templates.proofs.file.answer.Goals as goal

pub rows_of-requires-clause-few : goal.rows_of-requires-clause-few
rows_of-requires-clause-few c =
    let few : length c.in_ok-lines.lines.items ≤ length c.args.text.now + 1 =
    pieces_few c.args.text.now c.in_ok-lines.lines.items c.in_ok-lines.ensures in
    rw c.deref.ensures.value (omega (arith, few, c.requires))

pub rows_of-requires-clause-short : goal.rows_of-requires-clause-short
rows_of-requires-clause-short c =
    rw c.deref.ensures.value (pieces_short MOST_TEXT_BYTES c.args.text.now c.in_ok-lines.lines.items c.requires c.in_ok-lines.ensures)

pub returns-in_err-rows-clause-refused : goal.returns-in_err-rows-clause-refused
returns-in_err-rows-clause-refused c =
    let p = err_from_is_err_and c.from_residual-in_err-rows.result c.from_residual-in_err-rows.ensures.1 in
    let lines : pieces c.deref.result.now ≡ lines_of c.args.text.now = ap pieces c.deref.ensures.value ∙ c.in_ok-lines.ensures in
    let fault = c.in_err-rows.field-0.0 in
    rw (p.1, p.2) (λ wanted. a_fault fault refl (subst (λ ls. HasFault c.args.names.now ls fault) lines
    (c.in_err-rows.ensures.refused wanted)))

pub returns-in-Some-clause-refused : goal.returns-in-Some-clause-refused
returns-in-Some-clause-refused c = λ wanted.
    let lines : pieces c.deref.result.now ≡ lines_of c.args.text.now = ap pieces c.deref.ensures.value ∙ c.in_ok-lines.ensures in
    let rows = c.in_ok-rows.rows.items in
    let many : length c.as_slice.result.now ≡ length rows = ap length c.as_slice.ensures.value in
    let fault : c.in-Some.fault ≡ Count (length c.as_slice.result.now) =
    count_is (length c.as_slice.result.now) c.in-Some.fault c.in-Some.ensures in
    a_count (length c.as_slice.result.now) (ap Err fault) (record {
      rows = rows;
      read = subst (λ ls. LinesRead c.args.names.now ls rows) lines c.in_ok-rows.ensures.rows;
      wrong = ap count_faults (sym many) ∙ (sym c.in-Some.ensures ∙ ap (λ f. f ∷ []) fault);
    })

pub new-requires : goal.new-requires
new-requires c =
    let many : length c.as_slice.result.now ≡ length c.in_ok-rows.rows.items = ap length c.as_slice.ensures.value in
    (template_from (length c.args.names.now) c.in_ok-rows.rows.items (rows_over c.args.names.now _ c.in_ok-rows.rows.items
    c.in_ok-rows.ensures.rows)
    (count_within (length c.in_ok-rows.rows.items) (ap count_faults (sym many) ∙ sym c.in-None.ensures))).0

pub returns-clause-template : goal.returns-clause-template
returns-clause-template c =
    let lines : pieces c.deref.result.now ≡ lines_of c.args.text.now = ap pieces c.deref.ensures.value ∙ c.in_ok-lines.ensures in
    let rows = c.in_ok-rows.rows.items in
    let many : length c.as_slice.result.now ≡ length rows = ap length c.as_slice.ensures.value in
    a_template rows (ap Ok c.new.ensures) (record {
      read = subst (λ ls. LinesRead c.args.names.now ls rows) lines c.in_ok-rows.ensures.rows;
      right = ap count_faults (sym many) ∙ sym c.in-None.ensures;
    })

pub returns-clause-width : goal.returns-clause-width
returns-clause-width c =
    let many : length c.as_slice.result.now ≡ length c.in_ok-rows.rows.items = ap length c.as_slice.ensures.value in
    ap width_of c.new.ensures
    ∙ (template_from (length c.args.names.now) c.in_ok-rows.rows.items
    (rows_over c.args.names.now _ c.in_ok-rows.rows.items c.in_ok-rows.ensures.rows)
    (count_within (length c.in_ok-rows.rows.items) (ap count_faults (sym many) ∙ sym c.in-None.ensures))).1

pub overflow_cast-as_slice : goal.overflow_cast-as_slice
overflow_cast-as_slice c =
    let lines : length c.in_ok-lines.lines.items ≤ length c.args.text.now + 1 =
    pieces_few c.args.text.now c.in_ok-lines.lines.items c.in_ok-lines.ensures in
    let slice : length c.deref.result.now ≡ length c.in_ok-lines.lines.items = ap length c.deref.ensures.value in
    let rows : length c.as_slice.result.now ≡ length c.in_ok-rows.rows.items = ap length c.as_slice.ensures.value in
    omega (arith, lines, slice, rows, c.requires, c.in_ok-rows.ensures.few)
