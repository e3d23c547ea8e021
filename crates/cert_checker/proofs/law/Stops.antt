-- Where the first event stops, and where none does.
use Rattle.std.proofs.Common.{◌≡◌, ◌∙◌, ◌↔◌, Bool, true, false, cond, List, [], ◌∷◌, refl, sym, ap, if◌then◌else◌}
use Rattle.std.specs.Prelude.{Option, Some, None}
use Rattle.base_fractions.specs.Fits.{long_limit}
use Rattle.base_fractions.specs.Operation.{Operation, is_wide, first_wide}
use Rattle.flow_systems.specs.declared.spot.Site.{Site}
use Rattle.theory_validity.specs.Faults.{Fault, SizeFault, TraceFault, LowFault, HighFault, RayFault, FinalFault, UpperFault}
use Rattle.cert_checker.specs.declared.fault.CheckFault.{CheckFault}
use Rattle.cert_checker.specs.declared.fault.CheckFault.TheVariants.{Size, Trace, Low, High, Ray, Upper, Final, Wide}
use Rattle.cert_checker.specs.Events.{Event, Sum, Test, fault_answer, wide_answer, or_else, first_stop, first_fault, operations_of}

-- ---- where none does
sum_none : (b : Bool) (w : CheckFault) (o : Operation) (s : Option CheckFault) (f : Option Fault) (n : Option Operation)
    → ((s ≡ None) ↔ ((f ≡ None) × (n ≡ None))) →
    (or_else (if b then Some w else None) s ≡ None) ↔ ((f ≡ None) × (cond b (Some o) n ≡ None))
sum_none true w o s f n h = ((λ e. cc), (λ k. let j = k.1 in cc))
sum_none false w o s f n h = h

-- no test fails and no operation is wide
pub stop_none : (events : List Event) → (first_stop events ≡ None) ↔ ((first_fault events ≡ None)
    × (first_wide long_limit (operations_of events) ≡ None))
unfolding first_stop first_fault operations_of
stop_none [] = ((λ e. (refl, refl)), (λ h. refl))
stop_none (Sum site o ∷ events) = sum_none (is_wide long_limit o) (wide_answer site o) o (first_stop events) (first_fault events)
    (first_wide long_limit (operations_of events)) (stop_none events)
stop_none (Test true f ∷ events) = stop_none events
stop_none (Test false f ∷ events) = ((λ e. cc), (λ h. let k = h.0 in cc))

-- ---- where a test does
-- the fault of an answer
abbrev pub unanswer : CheckFault → Option Fault
unanswer Size = Some SizeFault
unanswer (Trace s k) = Some (TraceFault s k)
unanswer (Low s k) = Some (LowFault s k)
unanswer (High s k) = Some (HighFault s k)
unanswer (Ray s k) = Some (RayFault s k)
unanswer (Upper u e) = Some (UpperFault u e)
unanswer (Final u) = Some (FinalFault u)
unanswer (Wide spot) = None

-- that of a test's answer is the test's
pub unanswer_is : (f : Fault) → unanswer (fault_answer f) ≡ Some f
unanswer_is SizeFault = refl
unanswer_is (TraceFault s k) = refl
unanswer_is (LowFault s k) = refl
unanswer_is (HighFault s k) = refl
unanswer_is (RayFault s k) = refl
unanswer_is (FinalFault u) = refl
unanswer_is (UpperFault u e) = refl

sum_fault : (b : Bool) (site : Site) (o : Operation) (s : Option CheckFault) (r : Option Fault) (a : CheckFault) (f : Fault)
    → (s ≡ Some a → r ≡ Some f) →
    or_else (if b then Some (wide_answer site o) else None) s ≡ Some a → unanswer a ≡ Some f → r ≡ Some f
sum_fault true site o s r a f h e u =
    let k : wide_answer site o ≡ a = cc in
    let j : None ≡ Some f = ap unanswer k ∙ u in
    cc
sum_fault false site o s r a f h e u = h e

-- the test is the first that fails
pub stop_fault : (events : List Event) (a : CheckFault) (f : Fault) → first_stop events ≡ Some a → unanswer a ≡ Some f
    → first_fault events ≡ Some f
unfolding first_stop first_fault
stop_fault [] a f e u = cc
stop_fault (Sum site o ∷ events) a f e u = sum_fault (is_wide long_limit o) site o (first_stop events) (first_fault events) a f
    (λ k. stop_fault events a f k u) e u
stop_fault (Test true g ∷ events) a f e u = stop_fault events a f e u
stop_fault (Test false g ∷ events) a f e u =
    let k : fault_answer g ≡ a = cc in
    sym (unanswer_is g) ∙ ap unanswer k ∙ u
