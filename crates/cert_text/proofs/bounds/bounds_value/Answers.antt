use Rattle.std.proofs.Common.{◌≡◌, ◌∙◌, Some, true, ap, subst}
use Rattle.std.proofs.lemmas.Result.{IfOk-weaker}
use Rattle.cert_text.specs.Lists.{is_list, list_in}
use Rattle.cert_text.specs.BoundLines.{is_line, line_in}
use Rattle.cert_text.proofs.bounds.WrittenLists.{map_same}
use Rattle.cert_text.proofs.bounds.LinesOf.{bounds_data_is, cut_even, cut_joined}
use Rattle.cert_text.proofs.bounds.bounds_value.Goals as goal

pub write_list-requires : goal.write_list-requires
write_list-requires c = cut_even c.args.rows c.args.bounds.now c.as_slice.result.now c.as_slice-2.result.now c.as_slice.ensures
    (c.as_slice-2.ensures.value ∙ c.in_ok-lines.ensures) c.requires

pub returns-clause-value : goal.returns-clause-value
returns-clause-value c =
    let is = bounds_data_is c.args.rows c.args.bounds.now c.as_slice.result.now c.as_slice-2.result.now c.as_slice.ensures
    (c.as_slice-2.ensures.value ∙ c.in_ok-lines.ensures) in
    IfOk-weaker c.write_list.result _ _ (λ _ h. h ∙ is) c.write_list.ensures.value

pub returns-clause-shape : goal.returns-clause-shape
returns-clause-shape c =
    let is = bounds_data_is c.args.rows c.args.bounds.now c.as_slice.result.now c.as_slice-2.result.now c.as_slice.ensures
    (c.as_slice-2.ensures.value ∙ c.in_ok-lines.ensures) in
    IfOk-weaker c.write_list.result _ _ (λ _ h. subst (λ d. is_list (is_line c.args.rows) d ≡ true) is h) c.write_list.ensures.shape

pub returns-clause-back : goal.returns-clause-back
returns-clause-back c =
    let cut = c.as_slice-2.ensures.value ∙ c.in_ok-lines.ensures in
    let lines = c.as_slice-2.result.now in
    let is = bounds_data_is c.args.rows c.args.bounds.now c.as_slice.result.now lines c.as_slice.ensures cut in
    IfOk-weaker c.write_list.result _ _
    (λ _ h. (
      lines,
      subst (λ d. list_in line_in d ≡ Some lines) is (h ∙ ap Some (map_same lines)),
      cut_joined c.args.rows c.args.bounds.now c.as_slice.result.now lines
          c.as_slice.ensures cut c.requires,
    ))
    c.write_list.ensures.back
