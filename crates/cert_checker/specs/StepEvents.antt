-- What is done to check steps.
use Rattle.std.specs.Prelude.{◌≡◌, ℕ, suc, ℤ, List, [], ◌∷◌, ◌++◌, map, None}
use Rattle.base_numbers.specs.Rational.{ℚ, zero_ℚ, ◌≤ℚ◌}
use Rattle.base_numbers.specs.Extended.{Ext, neg_inf, fin, pos_inf, ◌<ᴱ◌}
use Rattle.base_fractions.specs.Fits.{long_limit}
use Rattle.base_fractions.specs.Operation.{first_wide}
use Rattle.flow_edges.specs.declared.edge.Edge.{Edge}
use Rattle.flow_systems.specs.declared.spot.Site.{Site}
use Rattle.flow_systems.specs.declared.spot.Site.TheVariants.{Step as StepSite}
use Rattle.flow_systems.specs.Equations.{Equations, Vector}
use Rattle.flow_systems.specs.TraceTests.{trace_operations}
use Rattle.theory_validity.specs.Words.{lin, end_form, start_of}
use Rattle.flow_systems.specs.Constants.{linear_action}
use Rattle.theory_validity.specs.Steps.{Pieces, word, Item, Kind, Plain, Jump, Ray, Step}
use Rattle.theory_validity.specs.Steps.{ValidStep, edge_of, row_of, put, new_value, after_step}
use Rattle.theory_validity.specs.Steps.{item_value}
use Rattle.theory_validity.specs.Decide.{dec_and, dec_le_ℚ, dec_lt_ℚ, dec_leᴱ, dec_ltᴱ, dec_finite, dec_falls}
use Rattle.theory_validity.specs.Faults.{Fault, TraceFault, LowFault, HighFault, RayFault, dec_named, bound_at}
use Rattle.cert_checker.specs.Events.{Event, Test, sums, decided, operations_of}
use Rattle.cert_checker.specs.Runs.{fit_events, run_events}

-- the site of an item
abbrev pub at_item : ℕ → ℕ → Site
at_item s k = StepSite s k

-- ---- at the vector that the step finds
-- a jump goes on from a fraction, and a ray from anything but +∞
abbrev pub IsOpen : Kind → Ext → Type 0
IsOpen Plain v = Unit {0}
IsOpen Jump v = (c : ℚ) × (v ≡ fin c)
IsOpen Ray v = v <ᴱ pos_inf

-- whether it does
abbrev pub dec_open : (kind : Kind) (v : Ext) → Dec (IsOpen kind v)
dec_open Plain v = yes tt
dec_open Jump v = dec_finite v
dec_open Ray v = dec_ltᴱ v pos_inf

-- the new bound of a plain step is above the old one and at most the trace's value; that of another step's trace is above the old bound
abbrev pub IsRaised : Kind → Ext → ℚ → ℚ → Type 0
IsRaised Plain v number value = (v <ᴱ fin number) × (number ≤ℚ value)
IsRaised Jump v number value = v <ᴱ fin value
IsRaised Ray v number value = v <ᴱ fin value

-- whether it is
abbrev pub dec_raised : (kind : Kind) (v : Ext) (number value : ℚ) → Dec (IsRaised kind v number value)
dec_raised Plain v number value = dec_and (dec_ltᴱ v (fin number)) (dec_le_ℚ number value)
dec_raised Jump v number value = dec_ltᴱ v (fin value)
dec_raised Ray v number value = dec_ltᴱ v (fin value)

-- item k of step s where it is named: the bound of its unknown, the low trace, and the trace's value
abbrev pub low_events : Kind → Equations → Vector → ℕ → ℕ → Item → List Event
low_events kind system z s k item =
    Test (decided (dec_open kind (bound_at z item))) (LowFault s k)
    ∷ (run_events (at_item s k) (TraceFault s k) system z (edge_of system item) (row_of system item) item.low
    ++ Test (decided (dec_raised kind (bound_at z item) item.number (item_value system item (word item.low)))) (LowFault s k) ∷ [])

-- item k of step s, after the earlier items: its names, and then its low trace
unfoldable pub first_events : Kind → Equations → Vector → ℕ → ℕ → List Item → Item → List Event
first_events kind system z s k earlier item =
    Test (decided (dec_named kind system earlier item)) (TraceFault s k) ∷ low_events kind system z s k item

-- the items from number k on
unfoldable pub first_pass_events : Kind → Equations → Vector → ℕ → ℕ → List Item → List Item → List Event
first_pass_events kind system z s k earlier [] = []
first_pass_events kind system z s k earlier (item ∷ items) = first_events kind system z s k earlier item ++
    first_pass_events kind system z s (suc k) (item ∷ earlier) items

-- ---- after all items have passed
-- a jump's item where p has every new bound in place: the new bound isn't below the old one, and the high trace reaches it
unfoldable pub landing_events : Equations → Vector → Vector → ℕ → ℕ → Item → List Event
landing_events system z p s k item =
    Test (decided (dec_leᴱ (bound_at z item) (fin item.number))) (HighFault s k)
    ∷ (run_events (at_item s k) (HighFault s k) system p (edge_of system item) (row_of system item) item.second
    ++ Test (decided (dec_le_ℚ item.number (item_value system item (word item.second)))) (HighFault s k) ∷ [])

-- where no item names a row, it may not rise along a ray if its bound is finite, and is free else
abbrev pub allowance : Ext → Ext
allowance neg_inf = pos_inf
allowance (fin c) = fin zero_ℚ
allowance pos_inf = pos_inf

-- how fast each row may rise: a named one by its item's rate
abbrev pub allowances : List Item → Vector → Vector
allowances items z = put (λ item. fin item.number) items (λ p r. allowance (z p r))

-- a direction: its start has to fit the rates that the rows at the source are allowed; then it is followed with every constant taken as 0
unfoldable pub carry_events : Site → Fault → Equations → Vector → Edge → List ℤ → Pieces → List Event
carry_events site fault system rates edge row d =
    fit_events site fault system rates edge.from (start_of system.variables (word d))
    ++ (sums site (trace_operations (map linear_action edge.actions) d.start d.free row)
    ++ Test (decided (dec_falls system edge (word d))) fault ∷ [])

-- a ray's item: its rate is above 0; its direction is carried; and the unknown's row rises by the rate
unfoldable pub going_events : Equations → Vector → List Item → ℕ → ℕ → Item → List Event
going_events system z items s k item =
    Test (decided (dec_lt_ℚ zero_ℚ item.number)) (RayFault s k)
    ∷ (carry_events (at_item s k) (RayFault s k) system (allowances items z) (edge_of system item) (row_of system item) item.second
    ++ Test (decided (dec_le_ℚ item.number (lin (end_form system.variables (edge_of system item).actions (row_of system item))
    (word item.second))))
    (RayFault s k) ∷ [])

-- one item by the kind of its step
abbrev pub second_events : Kind → Equations → Vector → List Item → ℕ → ℕ → Item → List Event
second_events Plain system z all s k item = []
second_events Jump system z all s k item = landing_events system z (put (new_value Jump) all z) s k item
second_events Ray system z all s k item = going_events system z all s k item

-- the items from number k on
unfoldable pub second_pass_events : Kind → Equations → Vector → List Item → ℕ → ℕ → List Item → List Event
second_pass_events kind system z all s k [] = []
second_pass_events kind system z all s k (item ∷ items) = second_events kind system z all s k item
    ++ second_pass_events kind system z all s (suc k) items

-- ---- steps
-- one step: its first pass, and then its second
unfoldable pub step_events : Equations → Vector → ℕ → Step → List Event
step_events system z s step = first_pass_events step.kind system z s 0 [] step.items
    ++ second_pass_events step.kind system z step.items s 0 step.items

-- a step passes at a vector: it is valid there, and no sum of its tests is wide
abbrev pub StepPasses : Equations → Vector → Step → Type 0
StepPasses system z step = ValidStep system z step × (first_wide long_limit (operations_of (step_events system z 0 step)) ≡ None)

-- the steps from number s on, each at the vector to which those before lead
unfoldable pub steps_events : Equations → Vector → ℕ → List Step → List Event
steps_events system z s [] = []
steps_events system z s (step ∷ steps) = step_events system z s step ++ steps_events system (after_step step z) (suc s) steps
