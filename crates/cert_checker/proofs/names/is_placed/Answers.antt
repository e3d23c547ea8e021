use Rattle.std.proofs.Common.{◌≡◌, ◌∙◌, ◌/◌, ◌*◌, ◌<◌, ◌≤◌, length, get_or, ap, ap₂, sym, subst, eq-eqb}
use Rattle.flow_systems.specs.View.{equations_of}
use Rattle.cert_checker.proofs.names.Items.{eqb_out, placed_iff}
use Rattle.cert_checker.proofs.following.Edges.{template_some}
use Rattle.cert_checker.proofs.names.is_placed.Goals as goal

pub returns : goal.returns
returns c = λ item point row same.
    let S = equations_of c.args.system.now in
    let u = c.args.unknown in
    let r = c.index-edges-edge.result in
    let here = get_or c.as_slice-edges.result.now c.args.edge r in
    let rows : length c.as_slice.result.now ≡ length c.args.system.now.template = ap (λ xs. length xs) c.as_slice.ensures.rows in
    let points : length c.as_slice-2.result.now ≡ length c.args.system.now.flow.points = ap (λ xs. length xs) c.as_slice-2.ensures in
    let low : length c.args.system.now.template ≤ u = subst (λ n. n ≤ u) rows c.if-unknown-rows.false in
    let high : u < length c.args.system.now.flow.points * length c.args.system.now.template =
    subst (λ n. u < n) (ap₂ (λ m n. m * n) points rows) c.if-unknown-points.false in
    let there : c.args.edge < length c.args.system.now.flow.edges = subst (λ xs. c.args.edge < length xs) c.as_slice-edges.ensures
    c.if-edge-edges.false in
    let is : r ≡ get_or c.args.system.now.flow.edges c.args.edge r = c.index-edges-edge.is
    ∙ ap (λ es. get_or es c.args.edge r) c.as_slice-edges.ensures in
    let iff = placed_iff S item u c.args.edge point row same (template_some c.args.system.now.template c.as_slice.ensures.template) low high
    there r is in (
      (λ t. iff.0 (ap (λ x. x.to) c.index-edges-edge.is ∙ eqb_out here.to (u / length c.as_slice.result.now) t ∙ ap (λ n. u / n) rows)),
      (λ h. eq-eqb here.to (u / length c.as_slice.result.now) (ap (λ x. x.to) (sym c.index-edges-edge.is) ∙ iff.1 h
          ∙ ap (λ n. u / n) (sym rows))),
    )
