use Rattle.std.proofs.Common.{subst, arith}
use Rattle.base_facts.specs.Elements.{In}
use Rattle.solve_rounds.proofs.guessed.ValidRay.{no_rate}
use Rattle.solve_rounds.proofs.turning.TurnItems.{place_of}
use Rattle.solve_ray.specs.declared.rate.RateOf.{RateOf}
use Rattle.solve_rounds.proofs.guessed.are_listed.Goals as goal

pub returns : goal.returns
returns c t rate m =
    let k = place_of c.args.rates.now rate no_rate m in
    let l = k.1 in
    subst (λ (r : RateOf). In c.args.list.now r.unknown) k.2 (c.loop-place.invariant k.0 (omega (arith, l, c.loop-place-test.false)))
