use Rattle.std.proofs.Common.{◌∙◌, length, sym}
use Rattle.std.proofs.lemmas.Result.{err_from_is_err_and}
use Rattle.base_numbers.proofs.rational.Laws.{ne_of_lt_ℚ}
use Rattle.base_fractions.specs.Extended.{extended}
use Rattle.flow_systems.specs.View.{equations_of}
use Rattle.theory_validity.specs.Steps.{edge_of, row_of}
use Rattle.cert_types.specs.Certificates.{pieces_of}
use Rattle.flow_systems.specs.declared.fault.Fault.TheVariants.{Wide}
use Rattle.solve_raise.specs.Raises.{choice_of}
use Rattle.solve_raise.proofs.lows.Raised.{edge_chosen, row_chosen, row_read, free_of, rate_wide, low_wide, for_ever}
use Rattle.solve_raise.proofs.raising.raise_for_ever.Goals as goal

pub carried-requires-clause-free : goal.carried-requires-clause-free
carried-requires-clause-free c = λ e f.
    free_of (equations_of c.args.system.now) (length c.args.system.now.template) c.args.unknown c.args.edge (pieces_of c.args.direction)
    c.requires.sizes.1 e f

pub low-requires-clause-free : goal.low-requires-clause-free
low-requires-clause-free c = λ e f.
    let S = equations_of c.args.system.now in
    let n = length c.args.system.now.template in (
      free_of S n c.args.unknown c.args.edge (pieces_of c.args.trace) c.requires.sizes.0 e f,
      free_of S n c.args.unknown c.args.edge (pieces_of c.args.direction) c.requires.sizes.1 e f,
    )

pub low-requires-clause-rate : goal.low-requires-clause-rate
low-requires-clause-rate c = λ z.
    let S = equations_of c.args.system.now in
    let n = length c.args.system.now.template in
    let u = choice_of n c.args.unknown c.args.edge in
    let g = row_read c.args.system.now.template c.as_slice.result.now c.args.unknown (length c.args.system.now.flow.points) (row_of S u)
    c.as_slice.ensures.rows c.requires.unknown (λ l. row_chosen S n c.args.unknown c.args.edge l) in
    let h = c.in_ok-rate.ensures (edge_of S u) (row_of S u) (edge_chosen S n c.args.unknown c.args.edge c.requires.edge) g in
    ne_of_lt_ℚ c.requires.rises (sym z ∙ h.0)

pub returns-in_err-rate : goal.returns-in_err-rate
returns-in_err-rate c =
    let p = err_from_is_err_and c.from_residual.result c.from_residual.ensures.1 in
    let S = equations_of c.args.system.now in
    let n = length c.args.system.now.template in
    let u = choice_of n c.args.unknown c.args.edge in
    let g = row_read c.args.system.now.template c.as_slice.result.now c.args.unknown (length c.args.system.now.flow.points) (row_of S u)
    c.as_slice.ensures.rows c.requires.unknown (λ l. row_chosen S n c.args.unknown c.args.edge l) in
    rw (p.1, p.2)
    (rate_wide S n c.args.unknown c.args.edge (extended c.args.bound) c.args.trace c.args.direction (Wide c.in_err-rate.field-0.0)
    (c.in_err-rate.ensures (edge_of S u) (row_of S u) (edge_chosen S n c.args.unknown c.args.edge c.requires.edge) g))

pub returns-in_err-low : goal.returns-in_err-low
returns-in_err-low c =
    let p = err_from_is_err_and c.from_residual-in_err-low.result c.from_residual-in_err-low.ensures.1 in
    let S = equations_of c.args.system.now in
    let n = length c.args.system.now.template in
    let u = choice_of n c.args.unknown c.args.edge in
    let f = edge_chosen S n c.args.unknown c.args.edge c.requires.edge in
    let g = row_read c.args.system.now.template c.as_slice.result.now c.args.unknown (length c.args.system.now.flow.points) (row_of S u)
    c.as_slice.ensures.rows c.requires.unknown (λ l. row_chosen S n c.args.unknown c.args.edge l) in
    let h = c.in_ok-rate.ensures (edge_of S u) (row_of S u) f g in
    rw (p.1, p.2) (low_wide S n c.args.unknown c.args.edge (extended c.args.bound) c.args.trace c.args.direction h.1 c.in_err-low.field-0.0
    (c.in_err-low.ensures (edge_of S u) (row_of S u) f g h.0))

pub returns : goal.returns
returns c =
    let S = equations_of c.args.system.now in
    let n = length c.args.system.now.template in
    let u = choice_of n c.args.unknown c.args.edge in
    let f = edge_chosen S n c.args.unknown c.args.edge c.requires.edge in
    let g = row_read c.args.system.now.template c.as_slice.result.now c.args.unknown (length c.args.system.now.flow.points) (row_of S u)
    c.as_slice.ensures.rows c.requires.unknown (λ l. row_chosen S n c.args.unknown c.args.edge l) in
    let h = c.in_ok-rate.ensures (edge_of S u) (row_of S u) f g in
    let k = c.in_ok-low.ensures (edge_of S u) (row_of S u) f g h.0 in
    for_ever S n c.args.unknown c.args.edge (extended c.args.bound) c.args.trace c.args.direction h.1 c.in_ok-low.low c.in_ok-rate.rate
    c.ray.result k.0 k.1 h.0 c.ray.ensures
