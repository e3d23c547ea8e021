use Rattle.std.proofs.Common.{sym, subst}
use Rattle.base_fractions.specs.Extended.{extended}
use Rattle.solve_rounds.specs.Growing.{IsKnownWithin}
use Rattle.solve_rounds.proofs.quiet_marks.KnownQuiet.{at_most}
use Rattle.solve_rounds.proofs.quiet_marks.is_known_within.Goals as goal

pub returns-in-Some : goal.returns-in-Some
returns-in-Some c h =
    subst (λ v. IsKnownWithin v c.args.bound) (sym c.in-Some.is)
    (at_most (extended c.in-Some.value) (extended c.args.bound) c.exceeds.result c.exceeds.ensures.1 h)
