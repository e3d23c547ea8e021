use Rattle.std.proofs.Common.{ap₂, ◌∙◌}
use Rattle.clap.specs.Words.{with_rule}
use Rattle.ask_words.proofs.commands.check_command.Goals as goal

pub returns-clause-app : goal.returns-clause-app
returns-clause-app c =
    c.in_ok-arg.ensures.shape c.option-3.ensures.local
    ∙ ap₂ with_rule (c.in_ok-integers.ensures.shape c.option-2.ensures.local
    ∙ ap₂ with_rule (c.in_ok-function.ensures.shape c.option.ensures.local
    ∙ ap₂ with_rule (c.in_ok-certificate.ensures.shape c.word-2.ensures.local
    ∙ ap₂ with_rule (c.in_ok-program.ensures.shape c.word.ensures.local
    ∙ ap₂ with_rule c.new.ensures.app c.word.ensures.rule) c.word-2.ensures.rule) c.option.ensures.rule)
    c.option-2.ensures.rule) c.option-3.ensures.rule
