use Rattle.std.proofs.Common.{◌≡◌, ◌+◌, ◌++◌, ℕ, [], length, drop, map, ap, sym, ◌∙◌, arith}
use Rattle.base_facts.proofs.Lists.{empty_from_length}
use Rattle.base_fractions.specs.Extended.{extended}
use Rattle.flow_systems.specs.View.{vector_at}
use Rattle.acsl_notes.specs.View.{comments_left}
use Rattle.acsl_notes.proofs.said.Points.{none_left}
use Rattle.acsl_notes.proofs.list.push_point.Goals as goal

pub returns-then-is_empty-clause-comments : goal.returns-then-is_empty-clause-comments
returns-then-is_empty-clause-comments c =
    let text = c.args.text.now in
    let system = c.args.system.now in
    let bounds = map extended c.args.bounds.now in
    let none : length c.args.anchors.now ≡ 0 = grind arith in
    let left : (k : ℕ) → comments_left text system bounds k c.args.anchors.now ≡ [] =
    λ k. ap (comments_left text system bounds k) (empty_from_length c.args.anchors.now none)
    ∙ none_left text system.flow.names system.template (vector_at system bounds) k (drop k system.flow.points) in
    ap (λ list. c.args.found.now.items ++ list) (left (c.args.point + 1) ∙ sym (left c.args.point))
