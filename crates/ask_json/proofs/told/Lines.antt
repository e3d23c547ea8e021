-- The lines of verdicts are told by their values.
use Rattle.std.proofs.Common.{◌≡◌, ◌++◌, ℕ, suc, List, [], ◌∷◌, length, refl, ap, ap₂, arith}
use Rattle.std.specs.Prelude.{codes, count_by, decimal}
use Rattle.lang_tokens.specs.Lines.{line_at}
use Rattle.flow_edges.specs.declared.checked.CheckCases.{CheckCases}
use Rattle.flow_systems.specs.declared.footer.Footer.TheVariants.{Improvements}
use Rattle.flow_systems.specs.Report.{footer_line, line}
use Rattle.ask_verdicts.specs.Lines.{is_proved}
use Rattle.ask_verdicts.specs.declared.outcome.Verdict.{Verdict}
use Rattle.ask_checks.specs.Lines.{check_lines, checks_text, column_at, kind_text}
use Rattle.ask_claims.specs.Lines.{claim_lines, verdicts_text}
use Rattle.ask_claims.specs.declared.claim.Claim.{Claim}
use Rattle.ask_json.specs.Checks.{check_values, checks_value}
use Rattle.ask_json.specs.Claims.{claim_values, claims_value}
use Rattle.ask_json.specs.Told.{AreApart, check_lines_told, checks_told, claim_lines_told, claims_told, items_len}
use Rattle.ask_json.proofs.told.Verdicts.{verdict_is}

-- lines, and the last two
abbrev ends_with : List Verdict → ℕ → List ℕ → ℕ → List ℕ
ends_with verdicts improvements lines n = lines
    ++ line (codes "proved " ++ decimal (count_by is_proved verdicts) ++ codes " of " ++ decimal n)
    ++ footer_line (Improvements improvements)

claims_are : (names : List (List ℕ)) (k : ℕ) (claims : List Claim) (verdicts : List Verdict) → AreApart names
    → claim_lines_told names k (claim_values names claims verdicts) ≡ claim_lines names k claims verdicts
claims_are names k [] verdicts apart = refl
claims_are names k (claim ∷ claims) [] apart = refl
claims_are names k (claim ∷ claims) (verdict ∷ verdicts) apart =
    ap₂ (λ t u. line (codes "claim " ++ decimal k ++ codes " " ++ claim.label ++ codes ": " ++ t) ++ u)
    (verdict_is names verdict apart) (claims_are names (suc k) claims verdicts apart)

claim_count : (names : List (List ℕ)) (claims : List Claim) (verdicts : List Verdict) → length verdicts ≡ length claims
    → items_len (claim_values names claims verdicts) ≡ length claims
claim_count names [] verdicts e = refl
claim_count names (claim ∷ claims) [] e = absurd (omega arith)
claim_count names (claim ∷ claims) (verdict ∷ verdicts) e =
    let same : length verdicts ≡ length claims = omega arith in ap suc (claim_count names claims verdicts same)

-- those on claims
pub claims_are_told : (names : List (List ℕ)) (claims : List Claim) (verdicts : List Verdict) (improvements : ℕ) → AreApart names
    → length verdicts ≡ length claims
    → claims_told names (claims_value names claims verdicts improvements) ≡ verdicts_text names claims verdicts improvements
claims_are_told names claims verdicts improvements apart e =
    ap₂ (ends_with verdicts improvements) (claims_are names 0 claims verdicts apart)
    (claim_count names claims verdicts e)

checks_are : (text : List ℕ) (names : List (List ℕ)) (k : ℕ) (checks : List CheckCases) (verdicts : List Verdict) → AreApart names
    → check_lines_told names k (check_values text names checks verdicts) ≡ check_lines text names k checks verdicts
checks_are text names k [] verdicts apart = refl
checks_are text names k (check ∷ checks) [] apart = refl
checks_are text names k (check ∷ checks) (verdict ∷ verdicts) apart =
    ap₂ (λ t u. line (codes "check " ++ decimal k ++ codes " at " ++ decimal (line_at text check.check.at) ++ codes ":"
    ++ decimal (column_at text check.check.at) ++ codes ": " ++ kind_text check.check.kind ++ codes ": " ++ t) ++ u)
    (verdict_is names verdict apart) (checks_are text names (suc k) checks verdicts apart)

check_count : (text : List ℕ) (names : List (List ℕ)) (checks : List CheckCases) (verdicts : List Verdict)
    → length verdicts ≡ length checks → items_len (check_values text names checks verdicts) ≡ length checks
check_count text names [] verdicts e = refl
check_count text names (check ∷ checks) [] e = absurd (omega arith)
check_count text names (check ∷ checks) (verdict ∷ verdicts) e =
    let same : length verdicts ≡ length checks = omega arith in ap suc (check_count text names checks verdicts same)

-- those on checks
pub checks_are_told : (text : List ℕ) (names : List (List ℕ)) (checks : List CheckCases) (verdicts : List Verdict) (improvements : ℕ)
    → AreApart names → length verdicts ≡ length checks
    → checks_told names (checks_value text names checks verdicts improvements) ≡ checks_text text names checks verdicts improvements
checks_are_told text names checks verdicts improvements apart e =
    ap₂ (ends_with verdicts improvements) (checks_are text names 0 checks verdicts apart)
    (check_count text names checks verdicts e)
