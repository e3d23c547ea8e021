use Rattle.std.proofs.Common.{subst}
use Rattle.base_facts.specs.Elements.{In}
use Rattle.solve_rounds.proofs.turning.TurnItems.{in_place}
use Rattle.solve_rounds.proofs.guessed.is_listed.Goals as goal

pub returns-then-list-k : goal.returns-then-list-k
returns-then-list-k c t =
    subst (In c.args.list.now) c.if-list-k.true (in_place c.args.list.now 0 c.loop-k.k c.loop-k-test.true)
