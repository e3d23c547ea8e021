use Rattle.std.proofs.Common.{◌∙◌, ℕ, List, [], length, Ok, refl, ap, subst₂}
use Rattle.std.specs.Prelude.{IsTrue}
use Rattle.std.specs.List.{list_all}
use Rattle.flow_edges.specs.declared.point.Point.{Point}
use Rattle.flow_transitions.specs.declared.auto_edge.AutoEdge.{AutoEdge}
use Rattle.flow_transitions.specs.AutoLimits.{is_auto_edge}
use Rattle.flow_transitions.specs.AutoReading.{Content, AutoAnswer, progress, at_edge, at_end, points_of, ended}
use Rattle.flow_transitions.proofs.progress.Steps.{Goes}
use Rattle.flow_transitions.proofs.progress.Loops.{auto_within}
use Rattle.flow_transitions.proofs.reading.system_of.Goals as goal

pub returns-clause-system : goal.returns-clause-system
returns-clause-system c =
    let text = c.args.text.now in
    let tokens = c.args.tokens.now in
    let names = c.in_ok-names.names.items in
    let points = c.in_ok-points.points.items in
    let edges = c.in_ok-edges.edges.items in
    let at = c.in_ok-points.at in
    let end = c.in_ok-edges._end in
    let step : Goes text tokens (progress c.deref.result.now c.deref-2.result.now [] at_edge) at
    (progress c.deref.result.now c.deref-2.result.now edges at_end) end = c.in_ok-edges.ensures.reads in
    let stepped = subst₂ (λ n p. Goes text tokens (progress n p [] at_edge) at (progress n p edges at_end) end) c.deref.ensures.value
    c.deref-2.ensures.value step in
    let made = λ (n : List (List ℕ)) (p : List Point) (e : List AutoEdge).
    let whole : Content = record { names = n; points = p; edges = e } in let answer : AutoAnswer = Ok whole in answer in
    let by_names = ap (λ n. made n c.in_ok-points_of.field-0 c.new-2.result) c.new.ensures in
    let by_points = ap (λ p. made names p c.new-2.result) (c.in_ok-points_of.ensures ∙ ap points_of c.deref-3.ensures.value) in
    let by_edges = ap (λ e. made names (points_of points) e) c.new-2.ensures in
    let answer = made c.new.result c.in_ok-points_of.field-0 c.new-2.result in
    let last = ended (Ok (progress names points edges at_end)) end answer (progress names points edges at_end) refl refl
    (by_names ∙ by_points ∙ by_edges) in
    c.in_ok-names.ensures.reads answer (c.in_ok-points.ensures.reads names answer (stepped answer last))

pub invariant_of-result : goal.invariant_of-result
invariant_of-result c =
    let names = c.in_ok-names.names.items in
    let points = c.in_ok-points.points.items in
    let edges = c.in_ok-edges.edges.items in
    let fit : IsTrue (list_all (is_auto_edge (length c.deref.result.now) (length c.deref-2.result.now)) edges) =
    c.in_ok-edges.ensures.edges in
    let fits = subst₂ (λ n p. IsTrue (list_all (is_auto_edge (length n) (length p)) edges)) c.deref.ensures.value c.deref-2.ensures.value
    fit in
    let same_names = c.new.ensures in
    let same_points = c.in_ok-points_of.ensures ∙ ap points_of c.deref-3.ensures.value in
    let same_edges = c.new-2.ensures in
    record {
      within_limits = rw (same_names, same_points, same_edges)
          (auto_within names points edges c.in_ok-names.ensures.some c.in_ok-names.ensures.few c.in_ok-points.ensures.some
          c.in_ok-points.ensures.few fits);
    }
