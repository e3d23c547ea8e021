use Rattle.std.proofs.Common.{◌≡◌, ◌++◌, true, refl, codes}
use Rattle.clap.proofs.OnLiterals.{clap_on_literals}
use Rattle.ask_words.specs.Help.{head_of, help_text, is_screen, options_of, stands_in}
use Rattle.ask_words.specs.Request.{request_of}
use Rattle.ask_words.specs.declared.help.Topic.{Topic}
use Rattle.ask_words.specs.declared.help.Topic.TheVariants as page
use Rattle.ask_words.proofs.laws.page_laws.Goals as goal

-- what is so of every page, it being so of the first four, of the next four and of the last four
each : (P : Topic → Type 0) → P page.Overview × P page.Solve × P page.Certify × P page.Check
    → P page.Bench × P page.Upgrade × P page.Prove × P page.Transitions
    → P page.Equations × P page.Points × P page.Verify × P page.Functions → (topic : Topic) → P topic
each P a b c page.Overview = a.0
each P a b c page.Solve = a.1
each P a b c page.Certify = a.2
each P a b c page.Check = a.3
each P a b c page.Bench = b.0
each P a b c page.Upgrade = b.1
each P a b c page.Prove = b.2
each P a b c page.Transitions = b.3
each P a b c page.Equations = c.0
each P a b c page.Points = c.1
each P a b c page.Verify = c.2
each P a b c page.Functions = c.3

pub returns-clause-commands : goal.returns-clause-commands
returns-clause-commands c = refl

pub returns-clause-unknown : goal.returns-clause-unknown
unfolding clap_on_literals request_of
returns-clause-unknown c = refl

pub returns-clause-screen : goal.returns-clause-screen
returns-clause-screen c = each (λ topic. is_screen (help_text topic) ≡ true) (refl, refl, refl, refl) (refl, refl, refl, refl)
    (refl, refl, refl, refl)

pub returns-clause-words : goal.returns-clause-words
returns-clause-words c = each (λ topic. stands_in (codes "usage: tmpl " ++ head_of topic ++ options_of topic) (help_text topic) ≡ true)
    (refl, refl, refl, refl) (refl, refl, refl, refl) (refl, refl, refl, refl)

pub returns-clause-listed : goal.returns-clause-listed
returns-clause-listed c = each (λ topic. stands_in (head_of topic) (help_text page.Overview) ≡ true) (refl, refl, refl, refl)
    (refl, refl, refl, refl) (refl, refl, refl, refl)
