use Rattle.std.proofs.Common.{ap, ap₂, ◌∙◌}
use Rattle.clap.specs.Words.{App, with_subcommand}
use Rattle.ask_words.proofs.commands.command_line.Goals as goal

pub returns : goal.returns
returns c =
    c.in_ok-subcommand.ensures.shape c.in_ok-help_command.ensures.local
    ∙ ap₂ with_subcommand (c.in_ok-functions.ensures.shape c.in_ok-functions_command.ensures.local
    ∙ ap₂ with_subcommand (c.in_ok-verify.ensures.shape c.in_ok-formatted_command-2.ensures.local
    ∙ ap₂ with_subcommand (c.in_ok-points.ensures.shape c.in_ok-points_command.ensures.local
    ∙ ap₂ with_subcommand (c.in_ok-equations.ensures.shape c.in_ok-equations_command.ensures.local
    ∙ ap₂ with_subcommand (c.in_ok-transitions.ensures.shape c.in_ok-transitions_command.ensures.local
    ∙ ap₂ with_subcommand (c.in_ok-prove.ensures.shape c.in_ok-prove_command.ensures.local
    ∙ ap₂ with_subcommand (c.in_ok-upgrade.ensures.shape c.in_ok-upgrade_command.ensures.local
    ∙ ap₂ with_subcommand (c.in_ok-bench.ensures.shape c.in_ok-bench_command.ensures.local
    ∙ ap₂ with_subcommand (c.in_ok-check.ensures.shape c.in_ok-check_command.ensures.local
    ∙ ap₂ with_subcommand (c.in_ok-certify.ensures.shape c.in_ok-program_command.ensures.local
    ∙ ap₂ with_subcommand (c.in_ok-solve.ensures.shape c.in_ok-formatted_command.ensures.local
    ∙ ap₂ with_subcommand c.top_command.ensures (ap (λ (a : App). a.top) c.in_ok-formatted_command.ensures.app))
    (ap (λ (a : App). a.top) c.in_ok-program_command.ensures.app))
    (ap (λ (a : App). a.top) c.in_ok-check_command.ensures.app))
    (ap (λ (a : App). a.top) c.in_ok-bench_command.ensures.app))
    (ap (λ (a : App). a.top) c.in_ok-upgrade_command.ensures.app))
    (ap (λ (a : App). a.top) c.in_ok-prove_command.ensures.app))
    (ap (λ (a : App). a.top) c.in_ok-transitions_command.ensures.app))
    (ap (λ (a : App). a.top) c.in_ok-equations_command.ensures.app))
    (ap (λ (a : App). a.top) c.in_ok-points_command.ensures.app))
    (ap (λ (a : App). a.top) c.in_ok-formatted_command-2.ensures.app))
    (ap (λ (a : App). a.top) c.in_ok-functions_command.ensures.app))
    (ap (λ (a : App). a.top) c.in_ok-help_command.ensures.app)
