-- The message of an ending.
use Rattle.std.specs.Prelude.{◌++◌, ◌∷◌, [], ℕ, List, codes}
use Rattle.top_texts.specs.Meanings.{Meanings}
use Rattle.top_status.specs.declared.status.Status.{Status}
use Rattle.top_status.specs.declared.status.Status.TheVariants.{Usage}

-- the line, with its line feed, that says which words are a program and its options
abbrev pub usage_text : List ℕ
usage_text = codes "usage: tmpl_acsl PROGRAM [--domain D] [--rows FILE] [--improvements N] [--policy P] [--progress] [--function NAME]"
    ++ (codes " [--int N]" ++ 10 ∷ [])

-- the message of an ending for which the program that reports has this one: the usage has a line of its own
abbrev pub said_for : Status → List ℕ → List ℕ
said_for Usage message = usage_text
said_for status message = message

-- what the parts mean, where the usage has a line of its own
abbrev pub saying : Meanings → Meanings
saying m = record m { message = λ line rows status. said_for status (m.message line rows status) }
