use Rattle.std.proofs.Common.{◌≡◌, ◌∙◌, ◌%◌, ◌<◌, ⊎_elim, true≢false, length, Some, ap, sym, subst, arith}
use Rattle.std.specs.Prelude.{slice_get}
use Rattle.base_numbers.specs.Rational.{zero_ℚ, ◌≤ℚ◌, ◌<ℚ◌}
use Rattle.base_numbers.proofs.rational.Laws.{le_or_lt}
use Rattle.flow_systems.specs.View.{equations_of}
use Rattle.flow_systems.proofs.fit_tests.Tested.{test_le}
use Rattle.theory_validity.specs.Steps.{edge_of, row_of}
use Rattle.cert_types.specs.Certificates.{pieces_of}
use Rattle.solve_raise.specs.Raises.{choice_of}
use Rattle.solve_raise.proofs.lows.Raised.{edge_chosen, row_chosen, sized}
use Rattle.test_solver.proofs.edges.raises.for_ever.Goals as goal

pub raise-requires-clause-sizes : goal.raise-requires-clause-sizes
raise-requires-clause-sizes c =
    let S = equations_of c.in_ok-system.system in
    let n = length c.in_ok-system.system.template in
    let l : 0 < length c.in_ok-system.system.flow.edges = omega (arith, c.in_ok-system.ensures.edges) in (
      sized S n 2 0 (pieces_of c.in_ok-trace.trace) l (c.in_ok-trace.ensures.0 ∙ sym c.in_ok-system.ensures.names)
          (λ e f. c.in_ok-trace.ensures.1 ∙ sym (c.in_ok-system.ensures.free e f)),
      sized S n 2 0 (pieces_of c.in_ok-direction.direction) l (c.in_ok-direction.ensures.0 ∙ sym c.in_ok-system.ensures.names)
          (λ e f. c.in_ok-direction.ensures.1 ∙ sym (c.in_ok-system.ensures.free e f)),
    )

pub raise-requires-clause-rises : goal.raise-requires-clause-rises
raise-requires-clause-rises c =
    let S = equations_of c.in_ok-system.system in
    let n = length c.in_ok-system.system.template in
    let u = choice_of n 2 0 in
    let l : 0 < length c.in_ok-system.system.flow.edges = omega (arith, c.in_ok-system.ensures.edges) in
    let same : 2 % n ≡ 0 = ap (λ m. 2 % m) c.in_ok-system.ensures.rows in
    let k : 2 % n < n = subst (λ m. m < n) (sym same) (omega (arith, c.in_ok-system.ensures.rows)) in
    let g : slice_get c.in_ok-system.system.template 0 ≡ Some (row_of S u) =
    subst (λ m. slice_get c.in_ok-system.system.template m ≡ Some (row_of S u)) same (row_chosen S n 2 0 k) in
    let h = c.in-Ok.ensures (edge_of S u) (row_of S u) (edge_chosen S n 2 0 l) g in
    let t = test_le c.in-Ok.rate c.zero.result c.le.result c.le.ensures in
    let above : zero_ℚ <ℚ c.in-Ok.rate =
    ⊎_elim (λ (i : c.in-Ok.rate ≤ℚ zero_ℚ). absurd (true≢false (sym (t.1 (subst (λ q. c.in-Ok.rate ≤ℚ q) (sym c.zero.ensures.value) i))
    ∙ c.if-le.false))) (λ (i : zero_ℚ <ℚ c.in-Ok.rate). i) (le_or_lt c.in-Ok.rate zero_ℚ) in
    subst (λ q. zero_ℚ <ℚ q) h.0 above
