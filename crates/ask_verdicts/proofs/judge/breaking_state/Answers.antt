use Rattle.flow_systems.specs.View.{equations_of, vector_at}
use Rattle.ask_verdicts.proofs.verdicts.Words.{says_state}
use Rattle.ask_verdicts.proofs.judge.breaking_state.Goals as goal

pub returns-clause-state : goal.returns-clause-state
returns-clause-state c =
    let s = c.args.system.now in
    let answer = c.in_ok-answer.answer in
    says_state (equations_of s) (vector_at s c.args.bounds.now) c.args.point c.args.before.now c.args.case.now answer.value answer.state
    c.in_ok-answer.ensures.value c.in_ok-answer.ensures.evidence c.in_ok-answer.ensures.state
