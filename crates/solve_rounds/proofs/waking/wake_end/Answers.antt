use Rattle.std.proofs.Common.{◌≡◌, ◌∙◌, ◌+◌, ◌*◌, ℕ, false, length, get_or, sym, ap, subst, arith}
use Rattle.std.specs.Prelude.{Some, None, slice_set}
use Rattle.flow_edges.specs.declared.edge.Edge.{Edge}
use Rattle.solve_offers.proofs.at_bounds.Ranges.{edge_here}
use Rattle.solve_rounds.specs.declared.growing.Growing.{Growing}
use Rattle.solve_rounds.proofs.waking.Woken.{WokenRows, woken_other, woken_more, woken_all}
use Rattle.solve_rounds.proofs.waking.wake_end.Goals as goal
use Rattle.solve_rounds.proofs.waking.wake_end.Goals.{in-Some+then-picked-edge, in-Some+else-picked-edge, in_default}

some_same : (a b : ℕ) → Some a ≡ Some b → a ≡ b
some_same a b e = cc

pub loop-row-preserved : goal.loop-row-preserved
loop-row-preserved c =
    let system = c.args.system.now in
    let pick = c.args.pick.now in
    let edge = c.args.edge in
    let old = c.args.growing.now in
    let mid = c.loop-row.growing in
    let row = c.loop-row.row in
    let point = (get_or c.as_slice-2.result.now c.args.edge c.index-as_slice-edge.result).to in
    let rows : length c.as_slice.result.now ≡ length system.template = ap (λ t. length t) c.as_slice.ensures.rows in
    let read : c.at.result ≡ get_or pick (point * length system.template + row) None =
    c.at.ensures ∙ ap (λ n. get_or pick (point * n + row) None) rows in
    elim c.match-at.branch [
      | in-Some+then-picked-edge w ↦
          woken_more system pick edge point row old mid c.loop-row.invariant c.match-at.growing
          (record {
            bounds = ap (λ (g : Growing). g.bounds) w.growing-is;
            raised = ap (λ (g : Growing). g.raised.items) w.growing-is;
            steps = ap (λ (g : Growing). g.steps.items) w.growing-is;
          })
          (ap (λ (g : Growing). g.quiet.items) w.growing-is ∙ ap (λ n. slice_set mid.quiet.items (point * n + row) false) rows)
          (ap (λ (g : Growing). g.calm.items) w.growing-is)
      | in-Some+else-picked-edge w ↦
          subst (WokenRows system pick edge point (row + 1) old) (sym w.growing-is)
          (woken_other system pick edge point row old mid c.loop-row.invariant
          (λ e. w.if-picked-edge.false (some_same w.in-Some.picked edge (sym w.in-Some.is ∙ read ∙ e))))
      | in_default w ↦
          subst (WokenRows system pick edge point (row + 1) old) (sym w.growing-is)
          (woken_other system pick edge point row old mid c.loop-row.invariant (λ e. w.in_default.not-Some edge (read ∙ e)))
    ]

pub returns-clause-wakes : goal.returns-clause-wakes
returns-clause-wakes c =
    let system = c.args.system.now in
    let edges = c.as_slice-2.result.now in
    let rows : length c.as_slice.result.now ≡ length system.template = ap (λ t. length t) c.as_slice.ensures.rows in
    let end = c.loop-row-test.false in
    let all = ap (λ es. length es) c.as_slice-2.ensures in
    let there = c.requires.edge in
    woken_all system c.args.pick.now c.args.edge (get_or edges c.args.edge c.index-as_slice-edge.result).to c.loop-row.row
    c.args.growing.now c.loop-row.growing c.loop-row.invariant (omega (arith, end, rows)) c.requires.pick c.requires.ends
    (ap (λ (e : Edge). e.to) (edge_here system edges c.args.edge c.index-as_slice-edge.result c.as_slice-2.ensures
    (omega (arith, all, there)) c.index-as_slice-edge.is ∙ c.index-as_slice-edge.is))
