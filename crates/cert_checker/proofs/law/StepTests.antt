-- The tests of a step alone are those of the theory.
use Rattle.std.proofs.Common.{◌≡◌, ◌∙◌, ℕ, suc, List, [], ◌∷◌, ◌++◌, append_assoc, refl, sym, ap}
use Rattle.base_numbers.specs.Extended.{fin}
use Rattle.flow_systems.specs.Equations.{Equations, Vector}
use Rattle.theory_validity.specs.Steps.{word, Item, Kind, Plain, Jump, Ray, edge_of, row_of, item_value}
use Rattle.theory_validity.specs.Decide.{dec_and, dec_le_ℚ, dec_leᴱ, dec_ltᴱ, dec_runs}
use Rattle.theory_validity.specs.Faults.{TraceFault, LowFault, HighFault, unless, dec_named, bound_at, first_tests, first_pass, dec_lands}
use Rattle.cert_checker.specs.Events.{Event, Test, decided, first_fault}
use Rattle.cert_checker.specs.Runs.{run_events}
use Rattle.cert_checker.specs.StepEvents.{at_item, dec_open, dec_raised, first_events, first_pass_events, landing_events}
use Rattle.cert_checker.proofs.law.EvidenceTests.{test_then, run_then, unless_pair}

-- what is left after the names and the bound
rest_then : (kind : Kind) (system : Equations) (z : Vector) (s k : ℕ) (item : Item) (es : List Event) →
    first_fault ((run_events (at_item s k) (TraceFault s k) system z (edge_of system item) (row_of system item) item.low
    ++ Test (decided (dec_raised kind (bound_at z item) item.number (item_value system item (word item.low)))) (LowFault s k) ∷ []) ++ es)
    ≡ unless (dec_runs system z (edge_of system item) (word item.low)) (TraceFault s k)
    (unless (dec_raised kind (bound_at z item) item.number (item_value system item (word item.low))) (LowFault s k) (first_fault es))
rest_then kind system z s k item es =
    let run = run_events (at_item s k) (TraceFault s k) system z (edge_of system item) (row_of system item) item.low in
    let raised = dec_raised kind (bound_at z item) item.number (item_value system item (word item.low)) in
    ap first_fault (append_assoc run (Test (decided raised) (LowFault s k) ∷ []) es)
    ∙ run_then (at_item s k) (TraceFault s k) system z (edge_of system item) (row_of system item) item.low
    (Test (decided raised) (LowFault s k) ∷ es)
    ∙ ap (unless (dec_runs system z (edge_of system item) (word item.low)) (TraceFault s k)) (test_then raised (LowFault s k) es)

-- the tests of an item in their order
whole_then : (kind : Kind) (system : Equations) (z : Vector) (s k : ℕ) (earlier : List Item) (item : Item) (es : List Event) →
    first_fault (first_events kind system z s k earlier item ++ es)
    ≡ unless (dec_named kind system earlier item) (TraceFault s k) (unless (dec_open kind (bound_at z item)) (LowFault s k)
    (unless (dec_runs system z (edge_of system item) (word item.low)) (TraceFault s k)
    (unless (dec_raised kind (bound_at z item) item.number (item_value system item (word item.low))) (LowFault s k) (first_fault es))))
unfolding first_events
whole_then kind system z s k earlier item es =
    let opens = dec_open kind (bound_at z item) in
    let rest = (run_events (at_item s k) (TraceFault s k) system z (edge_of system item) (row_of system item) item.low
    ++ Test (decided (dec_raised kind (bound_at z item) item.number (item_value system item (word item.low)))) (LowFault s k) ∷ []) ++ es in
    test_then (dec_named kind system earlier item) (TraceFault s k) (Test (decided opens) (LowFault s k) ∷ rest)
    ∙ ap (unless (dec_named kind system earlier item) (TraceFault s k))
    (test_then opens (LowFault s k) rest ∙ ap (unless opens (LowFault s k)) (rest_then kind system z s k item es))

-- an item
first_then : (kind : Kind) (system : Equations) (z : Vector) (s k : ℕ) (earlier : List Item) (item : Item) (es : List Event) →
    first_fault (first_events kind system z s k earlier item ++ es) ≡ first_tests kind system z earlier s k item (first_fault es)
unfolding first_tests
first_then Plain system z s k earlier item es =
    let above = dec_ltᴱ (bound_at z item) (fin item.number) in
    let reached = dec_le_ℚ item.number (item_value system item (word item.low)) in
    whole_then Plain system z s k earlier item es
    ∙ ap (λ n. unless (dec_named Plain system earlier item) (TraceFault s k)
    (unless (dec_runs system z (edge_of system item) (word item.low)) (TraceFault s k) n))
    (sym (unless_pair (dec_and above reached) above reached (LowFault s k) (first_fault es) (λ h. h.0) (λ h. h.1) (λ a b. (a, b))))
first_then Jump system z s k earlier item es = whole_then Jump system z s k earlier item es
first_then Ray system z s k earlier item es = whole_then Ray system z s k earlier item es

-- all items
pub first_pass_then : (kind : Kind) (system : Equations) (z : Vector) (s k : ℕ) (earlier items : List Item)
    → first_fault (first_pass_events kind system z s k earlier items) ≡ first_pass kind system z s k earlier items
unfolding first_fault first_pass first_pass_events
first_pass_then kind system z s k earlier [] = refl
first_pass_then kind system z s k earlier (item ∷ items) =
    first_then kind system z s k earlier item (first_pass_events kind system z s (suc k) (item ∷ earlier) items)
    ∙ ap (first_tests kind system z earlier s k item) (first_pass_then kind system z s (suc k) (item ∷ earlier) items)

-- where a jump lands
pub landing_then : (system : Equations) (z p : Vector) (s k : ℕ) (item : Item) (es : List Event)
    → first_fault (landing_events system z p s k item ++ es) ≡ unless (dec_lands system z p item) (HighFault s k) (first_fault es)
unfolding landing_events
landing_then system z p s k item es =
    let f = HighFault s k in
    let rises = dec_leᴱ (bound_at z item) (fin item.number) in
    let runs = dec_runs system p (edge_of system item) (word item.second) in
    let reaches = dec_le_ℚ item.number (item_value system item (word item.second)) in
    let run = run_events (at_item s k) f system p (edge_of system item) (row_of system item) item.second in
    test_then rises f ((run ++ Test (decided reaches) f ∷ []) ++ es)
    ∙ ap (unless rises f)
    (ap first_fault (append_assoc run (Test (decided reaches) f ∷ []) es)
    ∙ run_then (at_item s k) f system p (edge_of system item) (row_of system item) item.second (Test (decided reaches) f ∷ es)
    ∙ ap (unless runs f) (test_then reaches f es)
    ∙ unless_pair (dec_and runs reaches) runs reaches f (first_fault es) (λ h. h.0) (λ h. h.1) (λ a b. (a, b)))
    ∙ unless_pair (dec_lands system z p item) rises (dec_and runs reaches) f (first_fault es) (λ h. h.0) (λ h. h.1) (λ a b. (a, b))
