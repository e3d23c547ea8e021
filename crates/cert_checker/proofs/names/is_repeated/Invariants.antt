use Rattle.std.proofs.Common.{ℕ, ◌<◌}
use Rattle.cert_types.specs.Certificates.{step_of}
use Rattle.theory_validity.specs.Steps.{Unnamed}
use Rattle.cert_checker.specs.Items.{item_at, earlier_items}
use Rattle.cert_checker.proofs.names.is_repeated.Given as goal

abbrev pub invariant-loop-j : goal.invariant-loop-j
invariant-loop-j l = (rows : ℕ) → 0 < rows → Unnamed (earlier_items (step_of rows l.step).items l.j) (item_at rows l.step l.k).point
    (item_at rows l.step l.k).row
