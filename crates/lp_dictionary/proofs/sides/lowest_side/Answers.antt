use Rattle.std.proofs.Common.{◌≡◌, ◌<◌, length, subst, sym, arith}
use Rattle.std.proofs.lemmas.List.{length-map}
use Rattle.base_numbers.specs.Rational.{◌≤ℚ◌}
use Rattle.base_numbers.proofs.compare.Compared.{test_lt, test_not_lt}
use Rattle.lp_dictionary.specs.declared.problem.Row.{Row}
use Rattle.lp_dictionary.specs.Exact.{exact}
use Rattle.lp_dictionary.specs.Sides.{IsLeastSoFar}
use Rattle.lp_dictionary.proofs.sides.LeastSides.{side_read, least_kept, least_found, least_lowest}
use Rattle.lp_dictionary.proofs.sides.lowest_side.Goals as goal
use Rattle.lp_dictionary.proofs.sides.lowest_side.Goals.{then-lt, else-lt}

pub loop-i-preserved : goal.loop-i-preserved
loop-i-preserved g c =
    let m = g.F.OrderedField.meaning in
    let p = c.args.problem.now in
    let f = (exact m p).side in
    let row = c.index.result.now in
    let k = p.rows.ok.0 in
    let l : c.loop-i.i < length p.rows.items = omega arith in
    let e : (exact m p).side c.loop-i.i ≡ m row.side = side_read m p c.loop-i.i row l c.index.ensures in
    elim c.if-lt.branch [
      | then-lt w ↦ rw (w.least-is, w.lowest-is)
          (least_found f c.loop-i.i (m c.loop-i.least) (m row.side) c.loop-i.lowest c.loop-i.invariant e
          (test_lt m g.met.F.OrderedField.ordered g.met.F.Ord.matches_partial_cmp row.side c.loop-i.least c.lt.result c.lt.ensures
          w.if-lt.true))
      | else-lt w ↦ rw (w.least-is, w.lowest-is)
          (least_kept f c.loop-i.i (m c.loop-i.least) c.loop-i.lowest c.loop-i.invariant
          (subst (λ x. m c.loop-i.least ≤ℚ x) (sym e) (test_not_lt m g.met.F.OrderedField.ordered g.met.F.Ord.matches_partial_cmp row.side
          c.loop-i.least c.lt.result c.lt.ensures w.if-lt.false)))
    ]

pub returns : goal.returns
returns g c =
    let m = g.F.OrderedField.meaning in
    let p = c.args.problem.now in
    let k = p.rows.ok.0 in
    let n = length-map p.rows.items (λ (r : Row _). m r.side) in
    let e : c.loop-i.i ≡ (exact m p).rows = omega arith in
    least_lowest (exact m p) (m c.loop-i.least) c.loop-i.lowest (subst
    (λ x. IsLeastSoFar (exact m p).side x (m c.loop-i.least) c.loop-i.lowest) e c.loop-i.invariant)
