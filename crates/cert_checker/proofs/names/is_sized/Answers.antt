use Rattle.std.proofs.Common.{◌≡◌, ◌∙◌, length, get_or, ap, sym, eq-eqb}
use Rattle.std.specs.List.{count_by}
use Rattle.flow_systems.specs.Cells.{is_havoc}
use Rattle.flow_systems.specs.View.{equations_of}
use Rattle.flow_systems.proofs.free_values.CellCounts.{free_count-is}
use Rattle.theory_validity.specs.Words.{free_count}
use Rattle.theory_validity.specs.Steps.{edge_of}
use Rattle.cert_checker.proofs.following.Traces.{count_same}
use Rattle.cert_checker.proofs.names.Items.{edge_is, eqb_out}
use Rattle.cert_checker.proofs.names.is_sized.Goals as goal

pub returns-then-as_slice : goal.returns-then-as_slice
returns-then-as_slice c = λ item q.
    let S = equations_of c.args.system.now in
    let e = c.index-as_slice-edge.result in
    let es = c.args.system.now.flow.edges in
    let is : e ≡ get_or es c.args.edge e = c.index-as_slice-edge.is ∙ ap (λ xs. get_or xs c.args.edge e) c.as_slice.ensures in
    let found : edge_of S item ≡ e = edge_is S item c.args.edge e q c.requires is in
    let count : c.frees.result ≡ free_count (edge_of S item).actions =
    c.frees.ensures ∙ ap (λ xs. count_by is_havoc xs) c.as_slice-then-as_slice-2.ensures ∙ sym (free_count-is e.actions)
    ∙ count_same e.actions ∙ ap (λ x. free_count x.actions) (sym found) in
    let start : length c.args.trace.now.start ≡ length c.args.system.now.flow.names =
    ap (λ x. length x) (sym c.as_slice-2.ensures) ∙ c.if-as_slice.true ∙ ap (λ x. length x) c.as_slice-3.ensures in
    let free = c.as_slice-then-as_slice.ensures in (
      (λ t. (start, ap (λ x. length x) (sym free) ∙ eqb_out (length c.as_slice-then-as_slice.result.now) c.frees.result t ∙ count)),
      (λ h. eq-eqb (length c.as_slice-then-as_slice.result.now) c.frees.result (ap (λ x. length x) free ∙ h.1 ∙ sym count)),
    )
