-- Open checks as a log of SARIF 2.1.0.
use Rattle.std.specs.Prelude.{◌++◌, ℕ, Bool, true, List, [], ◌∷◌, codes}
use Rattle.serde_json.specs.Data.{Data, string, array, object, Items, no_items, item, Members, no_members, member}
use Rattle.serde_json.specs.Written.{comma_if, compact_text, members_text}
use Rattle.lang_tokens.specs.Lines.{line_at}
use Rattle.lang_tree.specs.declared.check.CheckKind.{CheckKind}
use Rattle.flow_edges.specs.declared.checked.CheckCases.{CheckCases}
use Rattle.ask_verdicts.specs.Lines.{verdict_text}
use Rattle.ask_verdicts.specs.declared.outcome.Verdict.{Verdict}
use Rattle.ask_verdicts.specs.declared.outcome.Verdict.TheVariants.{Proved, Open}
use Rattle.ask_checks.specs.Lines.{column_at, kind_text}
use Rattle.out_json.specs.Pieces.{count}
use Rattle.out_json.specs.Uris.{uri_text}

-- an object with one member
abbrev pub only : List ℕ → Data → Data
only key d = object (member key d no_members)

-- where in a text a place is
abbrev pub region : List ℕ → ℕ → Data
region text at = object (member (codes "startColumn") (count (column_at text at))
    (member (codes "startLine") (count (line_at text at)) no_members))

-- the same as a member
abbrev pub region_members : List ℕ → ℕ → Members
region_members text at = member (codes "region") (region text at) no_members

-- where it is in the file of this URI
abbrev pub physical_members : (uri text : List ℕ) → ℕ → Members
physical_members uri text at = member (codes "artifactLocation") (only (codes "uri") (string uri)) (region_members text at)

-- the same as an object
abbrev pub location : (uri text : List ℕ) → ℕ → Data
location uri text at = only (codes "physicalLocation") (object (physical_members uri text at))

-- what is said of a check: its line in the text of verdicts, behind its place
abbrev pub message : List (List ℕ) → CheckCases → Verdict → List ℕ
message names check verdict = kind_text check.check.kind ++ codes ": " ++ verdict_text names verdict

-- the rule of a check
abbrev pub rule_members : CheckKind → Members
rule_members kind = member (codes "ruleId") (string (kind_text kind)) no_members

-- the message and the rule of a check
abbrev pub last_members : List (List ℕ) → CheckCases → Verdict → Members
last_members names check verdict =
    member (codes "message") (only (codes "text") (string (message names check verdict))) (rule_members check.check.kind)

-- the place, the message and the rule of a check
abbrev pub placed_members : (uri text : List ℕ) → List (List ℕ) → CheckCases → Verdict → Members
placed_members uri text names check verdict =
    member (codes "locations") (array (item (location uri text check.check.at) no_items)) (last_members names check verdict)

-- a check that is told
abbrev pub finding_members : (uri text : List ℕ) → List (List ℕ) → CheckCases → Verdict → Members
finding_members uri text names check verdict =
    member (codes "level") (string (codes "warning")) (placed_members uri text names check verdict)

-- the same as an object
abbrev pub finding : (uri text : List ℕ) → List (List ℕ) → CheckCases → Verdict → Data
finding uri text names check verdict = object (finding_members uri text names check verdict)

-- what is written of a check that may be open, behind a comma where there is one before it
abbrev pub open_text : Bool → (uri text : List ℕ) → List (List ℕ) → CheckCases → Verdict → List ℕ
open_text later uri text names check Proved = []
open_text later uri text names check (Open state) = comma_if later ++ compact_text (finding uri text names check (Open state))

-- whether there is one before the next
abbrev pub is_later : Bool → Verdict → Bool
is_later later Proved = later
is_later later (Open state) = true

-- each open check
abbrev pub results : (uri text : List ℕ) → List (List ℕ) → List CheckCases → List Verdict → Items
results uri text names [] verdicts = no_items
results uri text names (check ∷ checks) [] = no_items
results uri text names (check ∷ checks) (Proved ∷ verdicts) = results uri text names checks verdicts
results uri text names (check ∷ checks) (Open state ∷ verdicts) =
    item (finding uri text names check (Open state)) (results uri text names checks verdicts)

-- what a check may be for
abbrev pub rules : Items
rules = item (only (codes "id") (string (codes "assert"))) (item (only (codes "id") (string (codes "divisor")))
    (item (only (codes "id") (string (codes "error"))) (item (only (codes "id") (string (codes "index")))
    (item (only (codes "id") (string (codes "range"))) no_items))))

-- the program that found it
abbrev pub tool : Data
tool = only (codes "driver") (object (member (codes "name") (string (codes "tmpl")) (member (codes "rules") (array rules) no_members)))

-- a log of one run with these results
abbrev pub log_value : Items → Data
log_value found =
    object (member (codes "$schema") (string (codes "https://json.schemastore.org/sarif-2.1.0.json"))
    (member (codes "runs") (array (item (object (member (codes "results") (array found) (member (codes "tool") tool no_members))) no_items))
    (member (codes "version") (string (codes "2.1.0")) no_members)))

-- the log of the open checks of a text in the file of this name
abbrev pub sarif_value : (file text : List ℕ) → List (List ℕ) → List CheckCases → List Verdict → Data
sarif_value file text names checks verdicts = log_value (results (uri_text file) text names checks verdicts)

-- what stands before the results
abbrev pub head_text : List ℕ
head_text = codes "{\"$schema\":\"https://json.schemastore.org/sarif-2.1.0.json\",\"runs\":[{\"results\":["

-- what stands behind them, and a line feed
abbrev pub tail_text : List ℕ
tail_text = members_text true (member (codes "tool") tool no_members)
    ++ (93 ∷ (members_text true (member (codes "version") (string (codes "2.1.0")) no_members) ++ 10 ∷ []))
