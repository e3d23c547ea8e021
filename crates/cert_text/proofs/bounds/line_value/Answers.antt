use Rattle.std.proofs.Common.{◌≡◌, ◌∙◌, ◌&&◌, Some, true, ap, ap₂, eq-eqb, subst}
use Rattle.std.proofs.lemmas.Result.{IfOk-weaker}
use Rattle.cert_text.specs.Lists.{is_list}
use Rattle.cert_text.specs.Numbers.{ext_data, is_text}
use Rattle.cert_text.specs.BoundLines.{ext_line_data, line_in}
use Rattle.cert_text.proofs.bounds.WrittenLists.{all_true, map_same}
use Rattle.cert_text.proofs.bounds.LinesOf.{items_len-items_data}
use Rattle.cert_text.proofs.bounds.line_value.Goals as goal

pub write_list-requires : goal.write_list-requires
write_list-requires c = all_true c.as_slice.result.now

pub returns-clause-shape : goal.returns-clause-shape
returns-clause-shape c =
    IfOk-weaker c.write_list.result _ _ (λ _ h. ap₂ (λ a b. a && b)
    (subst (λ xs. is_list is_text (ext_line_data xs) ≡ true) (c.as_slice.ensures.value ∙ c.line.view_is) h)
    (eq-eqb _ c.args.rows (items_len-items_data ext_data c.args.line.now ∙ c.requires))) c.write_list.ensures.shape

pub returns-clause-back : goal.returns-clause-back
returns-clause-back c =
    IfOk-weaker c.write_list.result _ _ (λ _ h. subst (λ xs. line_in (ext_line_data xs) ≡ Some xs)
    (c.as_slice.ensures.value ∙ c.line.view_is) (h ∙ ap Some (map_same c.as_slice.result.now))) c.write_list.ensures.back
