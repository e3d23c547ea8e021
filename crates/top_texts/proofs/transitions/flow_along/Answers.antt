use Rattle.std.proofs.Common.{inr, ⊎_elim}
use Rattle.top_texts.proofs.transitions.flow_along.Goals as goal

pub returns-in-Err-clause-err : goal.returns-in-Err-clause-err
returns-in-Err-clause-err c =
    λ text rows reading. c.auto_refusal.ensures text rows
    (λ other. inr (c.args.auto.now, reading, ⊎_elim (λ e. absurd (other e)) (λ f. f) c.in-Err.ensures.fault))
