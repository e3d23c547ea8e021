use Rattle.std.proofs.Common.{◌≡◌, [], get_or, sym, ◌∙◌, w64}
use Rattle.std.proofs.lemmas.Int.{to_z-of_z}
use Rattle.std.proofs.lemmas.List.{get_or_read}
use Rattle.flow_templates.specs.Kept.{sum_at}
use Rattle.flow_templates.specs.Sums.{coefficient_by}
use Rattle.flow_templates.proofs.counted.Rows.{terms_more}
use Rattle.flow_templates.proofs.row.Steps.{coefficient_repeated, coefficient_first}
use Rattle.flow_templates.proofs.row.row_of.Goals.{then-is_among, else-is_among}
use Rattle.flow_templates.proofs.row.row_of.Goals as goal

pub loop-i-preserved : goal.loop-i-preserved
loop-i-preserved c =
    let names = c.args.names.now in
    let sum = sum_at c.args.sums.now in
    let name : get_or names c.loop-i.i [] ≡ c.bytes-name.result.now = sym
    (get_or_read names c.loop-i.i _ c.loop-i-test.true c.index-names-i.is []) ∙ sym c.bytes-name.ensures.bytes in
    terms_more (coefficient_by names sum) _ _ _ c.loop-i.i c.loop-i.invariant c.in_ok-push.ensures.items
    (elim c.if-is_among.branch [
      | then-is_among w ↦ w.coefficient-is ∙ sym (coefficient_repeated names sum c.loop-i.i c.bytes-name.result.now name
          (sym c.is_among.ensures ∙ w.if-is_among.true))
      | else-is_among w ↦ w.coefficient-is ∙ (to_z-of_z w64 w.sum_of-coefficient.result (record { sfits = w.sum_of-coefficient.type_inv })
          ∙ (w.sum_of-coefficient.ensures ∙ sym (coefficient_first names sum c.loop-i.i c.bytes-name.result.now name
          (sym c.is_among.ensures ∙ w.if-is_among.false))))
    ])
