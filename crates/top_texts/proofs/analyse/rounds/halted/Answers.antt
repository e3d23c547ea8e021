use Rattle.std.proofs.Common.{refl, subst}
use Rattle.solve_rounds.specs.Halts.{IsHalt}
use Rattle.top_texts.specs.Policies.{rule_of}
use Rattle.top_texts.proofs.analyse.Halted.{runs_out}
use Rattle.top_texts.proofs.analyse.rounds.halted.Goals as goal

pub returns-in-Spent : goal.returns-in-Spent
returns-in-Spent c =
    λ purpose policy system h. (
      runs_out system policy c.args.limit c.in-Spent._bounds
          (subst (λ x. IsHalt system (rule_of policy) c.args.limit x) c.in-Spent.is h),
      refl,
    )
