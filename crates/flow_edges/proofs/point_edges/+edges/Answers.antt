use Rattle.std.proofs.Common.{◌≡◌, ◌∙◌, ⊎_elim, ℕ, ◌+◌, ap}
use Rattle.std.proofs.lemmas.Result.{on_ok_weaker}
use Rattle.lang_tree.specs.Tree.{Condition, LoopKind, while_loop, for_loop, do_loop, Statements, loop}
use Rattle.lang_tree.specs.View.{condition_of, deeds_of, statement_of, statements_of}
use Rattle.lang_tree.specs.PointNumbers.{points_of}
use Rattle.flow_edges.specs.declared.onward.JumpEdges.{JumpEdges}
use Rattle.flow_edges.specs.Edges.{arrived, deeds_ways, end_ways, ways_in}
use Rattle.flow_edges.specs.Trails.{begun_at, jumps_of, reached, walked}
use Rattle.flow_edges.proofs.point_edges.PointSteps.{looped, for_edges, do_edges}
use Rattle.flow_edges.proofs.point_edges.+edges.Goals as goal

pub add_edges_in-returns-in_ok-broken-in-While : goal.add_edges_in-returns-in_ok-broken-in-While
add_edges_in-returns-in_ok-broken-in-While t c =
    let s = statement_of c.args.stmt.now in
    let jumps = jumps_of c.args.jumps.now in
    let along = λ (k : ℕ). ways_in (statements_of c.args.rest.now) (c.args.first + k) jumps (walked c.args.next.now) in
    let past = c.in_ok-broken-in-While.ensures ∙ ap (λ k. reached (begun_at c.args.first) (along k)) c.points_of.ensures in
    let by = λ (kind : LoopKind) (cond : Condition) (body : Statements) (line : ℕ) (e : s ≡ loop kind cond body line).
    looped c.args.edges.now.items c.add_loop.new.edges.items s kind cond body line c.args.first jumps (along (points_of s))
    c.in_ok-broken-in-While.broken e past in
    on_ok_weaker c.add_loop.result
    (⊎_elim
    (λ h. by (while_loop h.0) (condition_of h.1) h.2 h.3 (ap statement_of h.4))
    (λ k. ⊎_elim
    (λ h. by (do_loop h.0) (condition_of h.1) h.2 h.3 (ap statement_of h.4))
    (λ h. by (for_loop h.0 h.2) (condition_of h.1) h.3 h.4 (ap statement_of h.5)) k)
    c.in-While.is)
    c.add_loop.ensures

pub add_loop-returns-in_ok-continued-in-For : goal.add_loop-returns-in_ok-continued-in-For
add_loop-returns-in_ok-continued-in-For t c =
    let jumps : JumpEdges = record { broken = c.args.broken; continued = c.in_ok-continued-in-For.continued; exit = c.args.exit } in
    let n = c.args.head in
    on_ok_weaker c.add_tested_loop-in-For.result
    (for_edges c.args.edges.now.items c.add_tested_loop-in-For.new.edges.items (statement_of c.args.stmt.now) c.in-For.prelude
    (deeds_of c.as_slice-deeds-in-For.result.now) c.in-For.change (condition_of c.in-For.cond) c.in-For.body
    (statements_of c.as_slice-in-For-2.result.now) c.in-For.line n jumps
    c.as_slice-deeds-in-For.ensures c.as_slice-in-For-2.ensures (ap statement_of c.in-For.is)
    (c.in_ok-continued-in-For.ensures ∙ ap (λ g. reached (begun_at n) (deeds_ways g (arrived n))) c.as_slice-in-For.ensures))
    c.add_tested_loop-in-For.ensures

pub add_loop-returns-in_ok-continued-in-Do : goal.add_loop-returns-in_ok-continued-in-Do
add_loop-returns-in_ok-continued-in-Do t c =
    let jumps : JumpEdges = record { broken = c.args.broken; continued = c.in_ok-continued-in-Do.continued; exit = c.args.exit } in
    let cond = condition_of c.in-Do.cond in
    let n = c.args.head in
    on_ok_weaker c.add_do.result
    (do_edges c.args.edges.now.items c.add_do.new.edges.items (statement_of c.args.stmt.now) c.in-Do.prelude cond c.in-Do.body
    (statements_of c.as_slice-in-Do-2.result.now) c.in-Do.line n jumps c.as_slice-in-Do-2.ensures (ap statement_of c.in-Do.is)
    (c.in_ok-continued-in-Do.ensures
    ∙ ap (λ p. reached (begun_at n) (end_ways (do_loop p) cond n (walked c.as_slice-in-Do.result.now))) c.as_slice-deeds-in-Do.ensures
    ∙ ap (λ es. reached (begun_at n) (end_ways (do_loop c.in-Do.prelude) cond n (walked es))) c.as_slice-in-Do.ensures))
    c.add_do.ensures
