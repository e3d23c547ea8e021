use Rattle.std.proofs.Common.{◌≡◌, ◌∙◌, ◌*◌, length, sym, ap, ap₂, arith}
use Rattle.std.proofs.lemmas.Bool.{leb-true, le-leb}
use Rattle.std.proofs.lemmas.List.{length-map}
use Rattle.base_fractions.specs.Extended.{extended}
use Rattle.flow_systems.specs.View.{equations_of}
use Rattle.theory_validity.specs.Certificates.{needs, bounds_vector}
use Rattle.cert_checker.proofs.events.Numbers.{stands_itself}
use Rattle.cert_checker.proofs.size.has_size.Goals as goal

pub returns-then-as_slice-points : goal.returns-then-as_slice-points
returns-then-as_slice-points c =
    let S = equations_of c.args.system.now in
    let rows : length c.as_slice-rows.result.now ≡ length c.args.system.now.template = ap (λ xs. length xs) c.as_slice-rows.ensures.rows in
    let points : length c.as_slice-points.result.now ≡ length c.args.system.now.flow.points =
    ap (λ xs. length xs) c.as_slice-points.ensures in
    let m = length-map c.as_slice.result.now extended in
    let b = ap (λ bs. length bs) c.as_slice.ensures in
    let size : length c.args.bounds.now ≡ length c.args.system.now.flow.points * length c.args.system.now.template =
    sym b ∙ m ∙ c.if-as_slice-points.true ∙ ap₂ (λ p r. p * r) points rows in
    let count : c.count_needed.result ≡ length (needs S (bounds_vector S c.args.bounds.now)) =
    c.count_needed.ensures (bounds_vector S c.args.bounds.now) (stands_itself S c.args.bounds.now size) in (
      (λ t. (size, (let l = leb-true c.args.evidence c.count_needed.result t in omega (arith, l, count)))),
      (λ h. le-leb c.args.evidence c.count_needed.result (let l = h.1 in omega (arith, l, count))),
    )
