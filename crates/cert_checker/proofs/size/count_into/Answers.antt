use Rattle.std.proofs.Common.{◌≡◌, ◌∙◌, sym, rules}
use Rattle.std.specs.Prelude.{◌==◌}
use Rattle.std.specs.List.{count_by}
use Rattle.cert_checker.proofs.size.Counts.{length-into_needs}
use Rattle.cert_checker.proofs.size.count_into.Goals as goal

pub returns-clause-count : goal.returns-clause-count
returns-clause-count c = λ r k.
    let e : c.count.result ≡ count_by (λ edge. edge.to == c.args.point) c.args.edges.now = search rules in
    e ∙ sym (length-into_needs c.args.point r k c.args.edges.now)
