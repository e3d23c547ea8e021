use Rattle.std.proofs.Common.{◌≡◌, ◌∙◌, ◌+◌, ◌*◌, inl, inr, true≢false, length, sym, ap, arith}
use Rattle.flow_systems.specs.View.{equations_of}
use Rattle.solve_offers.specs.AtBounds.{vector_at}
use Rattle.solve_offers.proofs.improvement.Improved.{improved_more, improved_until}
use Rattle.solve_offers.proofs.improvement.offer_edges.Goals as goal
use Rattle.solve_offers.proofs.improvement.offer_edges.Goals.{then-branch, else-branch}

pub loop-row-preserved : goal.loop-row-preserved
loop-row-preserved g c =
    let system = c.args.at.now.system.now in
    let E = equations_of system in
    let z = vector_at system c.args.at.now.bounds.now in
    let row = c.loop-row.row in
    let so_far = c.loop-row.invariant in
    let made = c.in_ok-offer_edge.ensures in
    let first = c.args.point * length system.template in
    let u = c.args.point * length c.as_slice.result.now + row in
    let here : u ≡ first + row = ap (λ n. c.args.point * n + row) (ap (λ t. length t) c.as_slice.ensures.rows) in
    record {
      improved = elim c.if-branch.branch [
        | then-branch w ↦
            improved_more E z _ first row u c.args.pick.now c.loop-row.pick c.offer_edge.new.pick c.loop-row.improved
            c.in_ok-offer_edge.field-0 c.if-branch.improved here so_far.improved made.others made.becomes (λ e. w.improved-is)
            (λ e. w.improved-is) (λ e. inr w.if-branch.true)
        | else-branch w ↦
            improved_more E z _ first row u c.args.pick.now c.loop-row.pick c.offer_edge.new.pick c.loop-row.improved
            c.in_ok-offer_edge.field-0 c.if-branch.improved here so_far.improved made.others made.becomes (λ e. w.improved-is ∙ e)
            (λ e. absurd (true≢false (sym e ∙ w.if-branch.false))) (λ e. inl (sym w.improved-is ∙ e))
      ];
      size = made.size ∙ so_far.size;
      known = made.known;
    }

pub returns-clause-improved : goal.returns-clause-improved
returns-clause-improved g c =
    let system = c.args.at.now.system.now in
    let rows = ap (λ t. length t) c.as_slice.ensures.rows in
    let last : c.loop-row.row ≡ length system.template = omega (arith, rows, c.loop-row-test.false, c.loop-row.auto.row-end) in
    improved_until (equations_of system) (vector_at system c.args.at.now.bounds.now) _ (c.args.point * length system.template)
    c.loop-row.row (length system.template) c.args.pick.now c.loop-row.pick c.loop-row.improved last c.loop-row.invariant.improved
