-- What is left of the items of claims and checks, and what comes next of those of open checks.
use Rattle.std.proofs.Common.{◌≡◌, ◌∙◌, ⊎_elim, ◌≤◌, ℕ, Bool, List, [], ◌∷◌, ◌++◌, length, drop, min, refl, sym, ap, append_assoc, arith}
use Rattle.std.proofs.lemmas.Bool.{cases_lt}
use Rattle.std.proofs.lemmas.List.{drop_all}
use Rattle.serde_json.specs.Data.{Items, no_items}
use Rattle.serde_json.specs.Written.{comma_if, items_text}
use Rattle.flow_edges.specs.declared.checked.CheckCases.{CheckCases}
use Rattle.ask_verdicts.specs.declared.outcome.Verdict.{Verdict}
use Rattle.ask_verdicts.specs.declared.outcome.Verdict.TheVariants.{Proved, Open}
use Rattle.ask_claims.specs.declared.claim.Claim.{Claim}
use Rattle.ask_json.specs.Checks.{check_values}
use Rattle.ask_json.specs.Claims.{claim_values}
use Rattle.ask_json.specs.Sarif.{is_later, open_text, results}

-- nothing is left where one of two lists is at its end, if nothing is made of an empty one
rest_end : {A B : Type 0} (items : List A → List B → Items) → ((ys : List B) → items [] ys ≡ no_items)
    → ((xs : List A) → items xs [] ≡ no_items)
    → (xs : List A) (ys : List B) (i : ℕ) → min (length xs) (length ys) ≤ i → items (drop i xs) (drop i ys) ≡ no_items
rest_end items none nothing xs ys i h =
    ⊎_elim (λ l. let k : length ys ≤ i = omega (arith, l, h) in ap (items (drop i xs)) (drop_all i ys k) ∙ nothing (drop i xs))
    (λ k. ap (λ zs. items zs (drop i ys)) (drop_all i xs k) ∙ none (drop i ys)) (cases_lt i (length xs))

no_claims : (names : List (List ℕ)) (claims : List Claim) → claim_values names claims [] ≡ no_items
no_claims names [] = refl
no_claims names (claim ∷ claims) = refl

-- behind the last claim or the last verdict there is no item
pub claims_rest : (names : List (List ℕ)) (claims : List Claim) (verdicts : List Verdict) (i : ℕ)
    → min (length claims) (length verdicts) ≤ i → claim_values names (drop i claims) (drop i verdicts) ≡ no_items
claims_rest names = rest_end (claim_values names) (λ verdicts. refl) (no_claims names)

no_checks : (text : List ℕ) (names : List (List ℕ)) (checks : List CheckCases) → check_values text names checks [] ≡ no_items
no_checks text names [] = refl
no_checks text names (check ∷ checks) = refl

-- the same of checks
pub checks_rest : (text : List ℕ) (names : List (List ℕ)) (checks : List CheckCases) (verdicts : List Verdict) (i : ℕ)
    → min (length checks) (length verdicts) ≤ i → check_values text names (drop i checks) (drop i verdicts) ≡ no_items
checks_rest text names = rest_end (check_values text names) (λ verdicts. refl) (no_checks text names)

no_results : (uri text : List ℕ) (names : List (List ℕ)) (checks : List CheckCases) → results uri text names checks [] ≡ no_items
no_results uri text names [] = refl
no_results uri text names (check ∷ checks) = refl

-- the same of results
pub results_rest : (uri text : List ℕ) (names : List (List ℕ)) (checks : List CheckCases) (verdicts : List Verdict) (i : ℕ)
    → min (length checks) (length verdicts) ≤ i → results uri text names (drop i checks) (drop i verdicts) ≡ no_items
results_rest uri text names = rest_end (results uri text names) (λ verdicts. refl) (no_results uri text names)

-- a check and its verdict are told before those behind them
pub next_result : (later : Bool) (uri text : List ℕ) (names : List (List ℕ)) (check : CheckCases) (checks : List CheckCases)
    (verdict : Verdict) (verdicts : List Verdict)
    → items_text later (results uri text names (check ∷ checks) (verdict ∷ verdicts))
    ≡ open_text later uri text names check verdict ++ items_text (is_later later verdict) (results uri text names checks verdicts)
next_result later uri text names check checks Proved verdicts = refl
next_result later uri text names check checks (Open state) verdicts = sym (append_assoc (comma_if later) _ _)
