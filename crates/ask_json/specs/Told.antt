-- The lines that JSON values tell: those of the verdicts that they stand for.
use Rattle.std.specs.Prelude.{◌≡◌, ◌++◌, ℕ, suc, List, [], ◌∷◌, Option, Some, None, codes, decimal, length}
use Rattle.serde_json.specs.Data.{Data, object, string, Items, no_items, item, Members}
use Rattle.serde_json.specs.Find.{get}
use Rattle.flow_edges.specs.declared.checked.CheckCases.{CheckCases}
use Rattle.flow_systems.specs.Report.{line}
use Rattle.ask_verdicts.specs.declared.outcome.Verdict.{Verdict}
use Rattle.ask_verdicts.specs.declared.outcome.Verdict.TheVariants.{Proved, Open}
use Rattle.ask_checks.specs.Lines.{checks_text}
use Rattle.ask_claims.specs.Lines.{verdicts_text}
use Rattle.ask_claims.specs.declared.claim.Claim.{Claim}
use Rattle.out_json.specs.Told.{digits_told, items_told, text_told}
use Rattle.ask_json.specs.Checks.{checks_value}
use Rattle.ask_json.specs.Claims.{claims_value}

-- ---- a verdict

-- a name and its value, and what is told behind it; nothing where it has none
abbrev pub value_then : List ℕ → List ℕ → Option Data → List ℕ → List ℕ
value_then before name (Some d) rest = before ++ (name ++ codes " = " ++ text_told (Some d)) ++ rest
value_then before name None rest = []

-- the values of the variables of these names, by the members of a state: these bytes stand before the first, and a comma before every later
-- one
abbrev pub values_told : List ℕ → List (List ℕ) → Data → List ℕ
values_told before [] d = []
values_told before (name ∷ names) d = value_then before name (get name d) (values_told (codes ", ") names d)

-- the values of a state; nothing where there is none
abbrev pub state_told : List (List ℕ) → Option Data → List ℕ
state_told names (Some (object ms)) = values_told (codes " at ") names (object ms)
state_told names _ = []

-- what a verdict says
abbrev pub verdict_told : List (List ℕ) → Data → List ℕ
verdict_told names d = text_told (get (codes "verdict") d) ++ state_told names (get (codes "state") d)

-- how many items there are
abbrev pub items_len : Items → ℕ
items_len no_items = 0
items_len (item d ds) = suc (items_len ds)

-- how many are proved, of so many
abbrev pub proved_told : Items → Data → List ℕ
proved_told items d = line (codes "proved " ++ digits_told (get (codes "proved") d) ++ codes " of " ++ decimal (items_len items))

-- how many improvements were made
abbrev pub improvements_told : Data → List ℕ
improvements_told d = line (codes "improvements: " ++ digits_told (get (codes "improvements") d))

-- ---- claims and checks

-- a line for each claim, the first of them having the number k
abbrev pub claim_lines_told : List (List ℕ) → ℕ → Items → List ℕ
claim_lines_told names k no_items = []
claim_lines_told names k (item d ds) = line (codes "claim " ++ decimal k ++ codes " " ++ text_told (get (codes "label") d) ++ codes ": "
    ++ verdict_told names d) ++ claim_lines_told names (suc k) ds

-- the lines of verdicts on claims
abbrev pub claims_told : List (List ℕ) → Data → List ℕ
claims_told names d = claim_lines_told names 0 (items_told (get (codes "claims") d))
    ++ proved_told (items_told (get (codes "claims") d)) d ++ improvements_told d

-- a line for each check, the first of them having the number k
abbrev pub check_lines_told : List (List ℕ) → ℕ → Items → List ℕ
check_lines_told names k no_items = []
check_lines_told names k (item d ds) = line (codes "check " ++ decimal k ++ codes " at " ++ digits_told (get (codes "line") d)
    ++ codes ":" ++ digits_told (get (codes "column") d) ++ codes ": " ++ text_told (get (codes "kind") d) ++ codes ": "
    ++ verdict_told names d) ++ check_lines_told names (suc k) ds

-- the lines of verdicts on checks
abbrev pub checks_told : List (List ℕ) → Data → List ℕ
checks_told names d = check_lines_told names 0 (items_told (get (codes "checks") d))
    ++ proved_told (items_told (get (codes "checks") d)) d ++ improvements_told d

-- ---- laws

-- a name is none of these
abbrev pub IsNoneOf : List ℕ → List (List ℕ) → Type 0
IsNoneOf name [] = Unit {0}
IsNoneOf name (other ∷ others) = (name ≡ other → ⊥) × IsNoneOf name others

-- no name stands twice
abbrev pub AreApart : List (List ℕ) → Type 0
AreApart [] = Unit {0}
AreApart (name ∷ names) = IsNoneOf name names × AreApart names

-- the lines of verdicts on claims are those that their value tells, with the names in order of declaration
abbrev pub ClaimsAreTold : Type 0
ClaimsAreTold = (names : List (List ℕ)) (claims : List Claim) (verdicts : List Verdict) (improvements : ℕ) → AreApart names
    → length verdicts ≡ length claims
    → claims_told names (claims_value names claims verdicts improvements) ≡ verdicts_text names claims verdicts improvements

-- the lines of verdicts on checks are those that their value tells, with the names in order of declaration
abbrev pub ChecksAreTold : Type 0
ChecksAreTold = (text : List ℕ) (names : List (List ℕ)) (checks : List CheckCases) (verdicts : List Verdict) (improvements : ℕ)
    → AreApart names → length verdicts ≡ length checks
    → checks_told names (checks_value text names checks verdicts improvements) ≡ checks_text text names checks verdicts improvements
