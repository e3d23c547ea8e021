use Rattle.std.proofs.Common.{subst, sym}
use Rattle.ask_words.specs.Request.{analysis_text, request_text}
use Rattle.top_answer.specs.Commands.{command_of}
use Rattle.top_answer.specs.Outcomes.{Says}
use Rattle.top_texts.specs.Exact.{exact}
use Rattle.top_answer.proofs.commands.Generated.{benched}
use Rattle.top_answer.proofs.commands.Claims.{proved}
use Rattle.top_answer.proofs.commands.Equations.{equated}
use Rattle.top_answer.proofs.commands.Named.{listed}
use Rattle.top_answer.proofs.commands.Pages.{helped}
use Rattle.top_answer.proofs.commands.Plain.{pointed, upgraded}
use Rattle.top_answer.proofs.commands.Transitions.{transited}
use Rattle.top_answer.proofs.commands.Verified.{verified}
use Rattle.top_answer.proofs.outcome.outcome_of.Goals as goal

pub returns-in-Analyse-clause-says : goal.returns-in-Analyse-clause-says
returns-in-Analyse-clause-says g c =
    subst (λ r. Says (command_of exact (request_text r)) c.analysed.result.status c.analysed.result.bytes.items) (sym c.in-Analyse.is)
    c.analysed.ensures.says

pub returns-in-Analyse-clause-rows : goal.returns-in-Analyse-clause-rows
returns-in-Analyse-clause-rows g c = λ count has. c.analysed.ensures.rows count
    (subst (λ r. (command_of exact (request_text r)).has_rows count) c.in-Analyse.is has)

pub returns-in-Bench-clause-says : goal.returns-in-Bench-clause-says
returns-in-Bench-clause-says g c =
    subst (λ r. Says (command_of exact (request_text r)) c.outcome_from.result.status c.outcome_from.result.bytes.items) (sym c.in-Bench.is)
    (benched c.in-Bench.seed c.in-Bench.loops _ _ _ c.bench_text.ensures.ok c.bench_text.ensures.err c.outcome_from.ensures.is)

pub returns-in-Upgrade-clause-says : goal.returns-in-Upgrade-clause-says
returns-in-Upgrade-clause-says g c =
    subst (λ r. Says (command_of exact (request_text r)) c.outcome_from-in-Upgrade.result.status
    c.outcome_from-in-Upgrade.result.bytes.items)
    (sym c.in-Upgrade.is)
    (upgraded c.in-Upgrade.certificate.now _ _ _ c.upgrade_text.ensures.ok c.upgrade_text.ensures.err c.outcome_from-in-Upgrade.ensures.is)

pub returns-in-Prove-clause-says : goal.returns-in-Prove-clause-says
returns-in-Prove-clause-says g c =
    subst (λ r. Says (command_of exact (request_text r)) c.outcome_from-in-Prove.result.status c.outcome_from-in-Prove.result.bytes.items)
    (sym c.in-Prove.is)
    (proved c.in-Prove.claims.now (analysis_text c.in-Prove.analysis) c.in-Prove.format _ _ _ c.prove_text-made.ensures.ok
    c.prove_text-made.ensures.err c.outcome_from-in-Prove.ensures.is)

pub returns-in-Transitions-clause-says : goal.returns-in-Transitions-clause-says
returns-in-Transitions-clause-says g c =
    subst (λ r. Says (command_of exact (request_text r)) c.outcome_from-in-Transitions.result.status
    c.outcome_from-in-Transitions.result.bytes.items) (sym c.in-Transitions.is)
    (transited (analysis_text c.in-Transitions.analysis) c.in-Transitions.format _ _ _ c.transitions_text-made.ensures.ok
    c.transitions_text-made.ensures.err c.outcome_from-in-Transitions.ensures.is)

pub returns-in-Equations-clause-says : goal.returns-in-Equations-clause-says
returns-in-Equations-clause-says g c =
    subst (λ r. Says (command_of exact (request_text r)) c.outcome_from-in-Equations.result.status
    c.outcome_from-in-Equations.result.bytes.items) (sym c.in-Equations.is)
    (equated c.in-Equations.file.now c.in-Equations.improvements c.in-Equations.policy c.in-Equations.format _ _ _
    c.equations_text.ensures.ok c.equations_text.ensures.err c.outcome_from-in-Equations.ensures.is)

pub returns-in-Points-clause-says : goal.returns-in-Points-clause-says
returns-in-Points-clause-says g c =
    subst (λ r. Says (command_of exact (request_text r)) c.outcome_from-in-Points.result.status c.outcome_from-in-Points.result.bytes.items)
    (sym c.in-Points.is)
    (pointed c.in-Points.program.now _ _ _ c.points_text.ensures.ok c.points_text.ensures.err c.outcome_from-in-Points.ensures.is)

pub returns-in-Functions-clause-says : goal.returns-in-Functions-clause-says
returns-in-Functions-clause-says g c =
    subst (λ r. Says (command_of exact (request_text r)) c.outcome_from-in-Functions.result.status
    c.outcome_from-in-Functions.result.bytes.items) (sym c.in-Functions.is)
    (listed c.in-Functions.file.now _ _ _ c.functions_text.ensures.ok c.functions_text.ensures.err c.outcome_from-in-Functions.ensures.is)

pub returns-in-Verify-clause-says : goal.returns-in-Verify-clause-says
returns-in-Verify-clause-says g c =
    subst (λ r. Says (command_of exact (request_text r)) c.outcome_by.result.status c.outcome_by.result.bytes.items) (sym c.in-Verify.is)
    (verified c.in-Verify.name.now (analysis_text c.in-Verify.analysis) c.in-Verify.format _ _ _
    c.verify_text-made.ensures.ok c.verify_text-made.ensures.err
    c.outcome_by.ensures)

pub returns-in-Help-clause-says : goal.returns-in-Help-clause-says
returns-in-Help-clause-says g c =
    subst (λ r. Says (command_of exact (request_text r)) c.outcome_from-in-Help.result.status c.outcome_from-in-Help.result.bytes.items)
    (sym c.in-Help.is)
    (helped c.in-Help.topic _ _ _ c.page_of.ensures.ok c.page_of.ensures.err c.outcome_from-in-Help.ensures.is)
