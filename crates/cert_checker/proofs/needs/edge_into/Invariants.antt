use Rattle.std.proofs.Common.{◌≡◌, ℕ, drop}
use Rattle.theory_validity.specs.Certificates.{into_needs}
use Rattle.cert_checker.proofs.needs.edge_into.Given as goal

abbrev pub invariant-loop-number : goal.invariant-loop-number
invariant-loop-number l = (r : ℕ) → into_needs l.point r l.first (drop l.first l.edges)
    ≡ into_needs l.point r l.number (drop l.number l.edges)
