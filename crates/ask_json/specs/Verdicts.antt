-- Verdicts as members of JSON objects.
use Rattle.std.specs.Prelude.{ℕ, List, codes, count_by}
use Rattle.serde_json.specs.Data.{Data, null, string, Members, no_members, member}
use Rattle.ask_verdicts.specs.Lines.{is_proved}
use Rattle.ask_verdicts.specs.declared.outcome.Verdict.{Verdict}
use Rattle.ask_verdicts.specs.declared.outcome.Verdict.TheVariants.{Proved, Open}
use Rattle.out_json.specs.Pieces.{count}
use Rattle.out_json.specs.States.{state_value}

-- the word for a verdict
abbrev pub word_of : Verdict → List ℕ
word_of Proved = codes "proved"
word_of (Open state) = codes "open"

-- the state of an open one
abbrev pub state_of : List (List ℕ) → Verdict → Data
state_of names Proved = null
state_of names (Open state) = state_value names state

-- the word
abbrev pub word_members : Verdict → Members
word_members verdict = member (codes "verdict") (string (word_of verdict)) no_members

-- the state and the word
abbrev pub verdict_members : List (List ℕ) → Verdict → Members
verdict_members names verdict = member (codes "state") (state_of names verdict) (word_members verdict)

-- so many improvements were made, and so many verdicts are `Proved`
abbrev pub counted_members : ℕ → ℕ → Members
counted_members improvements proved =
    member (codes "improvements") (count improvements) (member (codes "proved") (count proved) no_members)

-- how many improvements were made, and how many verdicts are `Proved`
abbrev pub count_members : List Verdict → ℕ → Members
count_members verdicts improvements = counted_members improvements (count_by is_proved verdicts)
