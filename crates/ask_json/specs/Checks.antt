-- Verdicts on checks as a JSON value.
use Rattle.std.specs.Prelude.{ℕ, List, [], ◌∷◌, codes}
use Rattle.serde_json.specs.Data.{Data, string, array, object, Items, no_items, item, Members, member}
use Rattle.lang_tokens.specs.Lines.{line_at}
use Rattle.lang_tree.specs.declared.check.Check.{Check}
use Rattle.lang_tree.specs.declared.check.CheckKind.{CheckKind}
use Rattle.flow_edges.specs.declared.checked.CheckCases.{CheckCases}
use Rattle.ask_verdicts.specs.declared.outcome.Verdict.{Verdict}
use Rattle.ask_checks.specs.Lines.{column_at, kind_text}
use Rattle.out_json.specs.Pieces.{count}
use Rattle.ask_json.specs.Verdicts.{count_members, verdict_members}

-- the line of a check and its verdict
abbrev pub line_members : ℕ → List (List ℕ) → Verdict → Members
line_members at names verdict = member (codes "line") (count at) (verdict_members names verdict)

-- what it is for, its line and its verdict
abbrev pub last_members : ℕ → List (List ℕ) → CheckKind → Verdict → Members
last_members at names kind verdict = member (codes "kind") (string (kind_text kind)) (line_members at names verdict)

-- a check of a text with its verdict
abbrev pub check_members : List ℕ → List (List ℕ) → Check → Verdict → Members
check_members text names check verdict = member (codes "column") (count (column_at text check.at))
    (last_members (line_at text check.at) names check.kind verdict)

-- the same as an object
abbrev pub check_value : List ℕ → List (List ℕ) → Check → Verdict → Data
check_value text names check verdict = object (check_members text names check verdict)

-- each check with its verdict
abbrev pub check_values : List ℕ → List (List ℕ) → List CheckCases → List Verdict → Items
check_values text names [] verdicts = no_items
check_values text names (check ∷ checks) [] = no_items
check_values text names (check ∷ checks) (verdict ∷ verdicts) =
    item (check_value text names check.check verdict) (check_values text names checks verdicts)

-- the checks of a text with their verdicts, how many improvements were made, and how many checks are proved
abbrev pub checks_value : List ℕ → List (List ℕ) → List CheckCases → List Verdict → ℕ → Data
checks_value text names checks verdicts improvements =
    object (member (codes "checks") (array (check_values text names checks verdicts)) (count_members verdicts improvements))
