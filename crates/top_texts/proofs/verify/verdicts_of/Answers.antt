use Rattle.flow_systems.specs.View.{equations_of, vector_at}
use Rattle.top_texts.proofs.verify.verdicts_of.Goals as goal

pub returns-in-Err-clause-err : goal.returns-in-Err-clause-err
returns-in-Err-clause-err c =
    c.check_refusal.ensures (equations_of c.args.system.now) (vector_at c.args.system.now c.args.bounds.now) c.args.checks.now
    c.in-Err.ensures.refused
