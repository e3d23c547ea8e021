-- What a check does, in order: sums and tests, of which the first that stops decides.
use Rattle.std.specs.Prelude.{◌≡◌, Bool, true, false, List, [], ◌∷◌, ◌++◌, map, if◌then◌else◌, Option, Some, None, Result, MatchResult}
use Rattle.std.specs.Prelude.{MatchOption}
use Rattle.base_fractions.specs.Fits.{long_limit}
use Rattle.base_fractions.specs.Operation.{Operation, is_wide, operation_of}
use Rattle.base_fractions.specs.declared.wide.Wide.{Wide as WideOperation}
use Rattle.base_numbers.specs.Rational.{ℚ}
use Rattle.flow_systems.specs.declared.spot.Site.{Site}
use Rattle.theory_validity.specs.Faults.{Fault, and_then, SizeFault, TraceFault, LowFault, HighFault, RayFault, FinalFault, UpperFault}
use Rattle.cert_checker.specs.declared.fault.CheckFault.{CheckFault}
use Rattle.cert_checker.specs.declared.fault.CheckFault.TheVariants.{Size, Trace, Low, High, Ray, Upper, Final, Wide}

-- an operation at a site, or a test that passes or has a fault
pub data Event : Type 0 where
  Sum : Site → Operation → Event
  Test : Bool → Fault → Event

-- the answer for a test that fails
abbrev pub fault_answer : Fault → CheckFault
fault_answer SizeFault = Size
fault_answer (TraceFault s k) = Trace s k
fault_answer (LowFault s k) = Low s k
fault_answer (HighFault s k) = High s k
fault_answer (RayFault s k) = Ray s k
fault_answer (FinalFault u) = Final u
fault_answer (UpperFault u e) = Upper u e

-- the answer for an operation that is wide: its site, outside rounds, with its operands
abbrev pub wide_answer : Site → Operation → CheckFault
wide_answer site o = Wide (record { round = 0; site = site; wide = record { op = o.op; left = o.left; right = o.right } })

-- an operation stops where its result is too wide, and a test where it fails
abbrev pub stop : Event → Option CheckFault
stop (Sum site o) = if is_wide long_limit o then Some (wide_answer site o) else None
stop (Test true fault) = None
stop (Test false fault) = Some (fault_answer fault)

-- the first of two answers
abbrev pub or_else : Option CheckFault → Option CheckFault → Option CheckFault
or_else None next = next
or_else (Some fault) next = Some fault

-- the first event that stops
unfoldable pub first_stop : List Event → Option CheckFault
first_stop [] = None
first_stop (event ∷ events) = or_else (stop event) (first_stop events)

-- the operations of a sum
unfoldable pub sums : Site → List Operation → List Event
sums site operations = map (Sum site) operations

-- whether what is decided is so
abbrev pub decided : {P : Type 0} → Dec P → Bool
decided (yes p) = true
decided (no n) = false

-- no event stops and this is so of the answer, or the fault is that of the first that does
abbrev pub IsRun : {A : Type 0} → (A → Type 0) → List Event → Result A CheckFault → Type 0
IsRun P events result = MatchResult result (λ r. P r × (first_stop events ≡ None)) (λ fault. first_stop events ≡ Some fault)

-- at whatever site and with whatever fault: no event stops and this is so of the answer, or a test fails, or the operation is the first
-- that is wide
abbrev pub Answers : {A : Type 0} → (A → Type 0) → (Site → Fault → List Event) → Result (Option A) (WideOperation ℚ) → Type 0
Answers P events result = (site : Site) (fault : Fault) → MatchResult result
    (λ o. MatchOption o (first_stop (events site fault) ≡ Some (fault_answer fault)) (λ r. P r × (first_stop (events site fault) ≡ None)))
    (λ w. first_stop (events site fault) ≡ Some (wide_answer site (operation_of (λ q. q) w)))

-- ---- the tests alone, and the sums alone
-- the fault of a test that fails
abbrev pub failed : Event → Option Fault
failed (Sum site o) = None
failed (Test true fault) = None
failed (Test false fault) = Some fault

-- the first test that fails, sums left out
unfoldable pub first_fault : List Event → Option Fault
first_fault [] = None
first_fault (event ∷ events) = and_then (failed event) (first_fault events)

-- the operation of a sum
abbrev pub summed : Event → List Operation
summed (Sum site o) = o ∷ []
summed (Test passes fault) = []

-- the operations in order, tests left out
unfoldable pub operations_of : List Event → List Operation
operations_of [] = []
operations_of (event ∷ events) = summed event ++ operations_of events
