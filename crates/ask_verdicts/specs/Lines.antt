-- Verdicts as bytes.
use Rattle.std.specs.Prelude.{◌++◌, ℕ, Bool, true, false, List, [], ◌∷◌, codes, count_by, decimal}
use Rattle.base_numbers.specs.Rational.{ℚ}
use Rattle.base_fractions.specs.Texts.{frac_text}
use Rattle.flow_systems.specs.Report.{line}
use Rattle.ask_verdicts.specs.declared.outcome.Verdict.{Verdict}
use Rattle.ask_verdicts.specs.declared.outcome.Verdict.TheVariants.{Proved, Open}

-- a name and its value
abbrev pub value_text : List ℕ → ℚ → List ℕ
value_text name x = name ++ codes " = " ++ frac_text x

-- each name with its value: these bytes stand before the first, and a comma before every later one; a value that has no name is that of a
-- hidden variable, and isn't told
abbrev pub state_text : List ℕ → List (List ℕ) → List ℚ → List ℕ
state_text before [] xs = []
state_text before (name ∷ names) [] = []
state_text before (name ∷ names) (x ∷ xs) = before ++ value_text name x ++ state_text (codes ", ") names xs

-- what a verdict says
abbrev pub verdict_text : List (List ℕ) → Verdict → List ℕ
verdict_text names Proved = codes "proved"
verdict_text names (Open state) = codes "open" ++ state_text (codes " at ") names state

-- whether a verdict is `Proved`
abbrev pub is_proved : Verdict → Bool
is_proved Proved = true
is_proved (Open state) = false

-- how many verdicts are `Proved`, of so many
abbrev pub count_line : ℕ → List Verdict → List ℕ
count_line all verdicts = line (codes "proved " ++ decimal (count_by is_proved verdicts) ++ codes " of " ++ decimal all)
