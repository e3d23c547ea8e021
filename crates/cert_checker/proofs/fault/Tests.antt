-- What is told of an item by a trace that is followed.
use Rattle.std.proofs.Common.{◌≡◌, ◌∙◌, ◌↔◌, Bool, refl, ℕ, ◌+◌, ◌*◌, ◌/◌, ◌%◌, List, [], ◌∷◌, ◌++◌, length, get_or, sym, ap, subst, arith}
use Rattle.std.proofs.Common.{subst₂}
use Rattle.std.specs.Prelude.{Option, Some, None, Result, Ok, Err, MatchResult, MatchOption, IsOk, IfErr, IsTrue}
use Rattle.std.proofs.Math.Nat.{div-add-mod}
use Rattle.base_numbers.specs.Rational.{ℚ}
use Rattle.base_numbers.specs.Extended.{Ext, neg_inf}
use Rattle.base_fractions.specs.declared.wide.Wide.{Wide}
use Rattle.base_fractions.specs.Operation.{operation_of}
use Rattle.flow_systems.specs.declared.spot.Site.{Site}
use Rattle.flow_systems.specs.Equations.{Equations, Vector}
use Rattle.theory_validity.specs.Steps.{Item, Placed}
use Rattle.theory_validity.specs.Decide.{dec_le_ℚ}
use Rattle.theory_validity.specs.Faults.{Fault, bound_at}
use Rattle.cert_checker.specs.declared.fault.CheckFault.{CheckFault}
use Rattle.cert_checker.specs.Events.{Event, Test, Answers, IsRun, fault_answer, wide_answer, first_stop, decided}
use Rattle.cert_checker.specs.Stands.{Stands}
use Rattle.cert_checker.proofs.following.Traces.{stop_later, test_no, alone_yes}

-- ---- what a call that follows answers
-- a value, or the fault of the first event that stops
abbrev pub Found : ℚ → List Event → Result ℚ CheckFault → Type 0
Found x events r = IsRun (λ v. v ≡ x) events r

-- a call that finds a value, and one that doesn't
abbrev pub finds : ℚ → Result ℚ CheckFault
finds v = Ok v

-- an answer that is a fault
abbrev pub loses : CheckFault → Result ℚ CheckFault
loses e = Err e

-- what `value_or` makes of it
pub found_by : (x : ℚ) (events : Site → Fault → List Event) (followed : Result (Option ℚ) (Wide ℚ)) (site : Site) (fault : Fault)
    (r : Result ℚ CheckFault) → Answers (λ v. v ≡ x) events followed →
    MatchResult followed (λ o. MatchOption o (r ≡ Err (fault_answer fault)) (λ v. r ≡ Ok v))
    (λ w. r ≡ Err (wide_answer site (operation_of (λ q. q) w))) → Found x (events site fault) r
found_by x events (Ok (Some v)) site fault r ans e = subst (Found x (events site fault)) (sym e) (ans site fault)
found_by x events (Ok None) site fault r ans e = subst (Found x (events site fault)) (sym e) (ans site fault)
found_by x events (Err w) site fault r ans e = subst (Found x (events site fault)) (sym e) (ans site fault)

-- what `ensure` answers where its test is told by a definition
pub ensured : {Q : Type 0} (d : Dec Q) (passes : Bool) (fault : Fault) (r : Result (Unit {0}) CheckFault) → (IsTrue passes ↔ Q)
    → (IsOk r ↔ IsTrue passes) → IfErr r (λ f. f ≡ fault_answer fault) → IsRun (λ u. Unit {0}) (Test (decided d) fault ∷ []) r
ensured d passes fault (Ok u) told ok err = (tt, alone_yes d fault (told.0 (ok.0 refl)))
ensured d passes fault (Err f) told ok err = test_no d fault [] (λ q. let t = ok.1 (told.1 q) in cc) ∙ ap (λ x. Some x) (sym err)

-- events none of which stops leave the answer to what comes after them
pub run_after : {A : Type 0} (P : A → Type 0) (before rest : List Event) (r : Result A CheckFault) → first_stop before ≡ None
    → IsRun P rest r → IsRun P (before ++ rest) r
run_after P before rest (Ok x) none h = (h.0, stop_later before rest none ∙ h.1)
run_after P before rest (Err f) none h = stop_later before rest none ∙ h

-- where a test passes, the answer is left to a trace that is followed and tested at its end
pub then_reached : {Q : Type 0} {s : Site} {q : ℚ} (d : Dec Q) (fault : Fault) (site : Site) (to x : ℚ)
    (events : Site → Fault → List Event) (r : Result (Unit {0}) CheckFault) → first_stop (Test (decided d) fault ∷ []) ≡ None
    → s ≡ site → q ≡ to
    → IsRun (λ u. Unit {0}) (events s fault ++ Test (decided (dec_le_ℚ q x)) fault ∷ []) r
    → IsRun (λ u. Unit {0}) (Test (decided d) fault ∷ (events site fault ++ Test (decided (dec_le_ℚ to x)) fault ∷ [])) r
then_reached d fault site to x events r passed same_site same_number run =
    let rest : Site → ℚ → List Event = λ site to. events site fault ++ Test (decided (dec_le_ℚ to x)) fault ∷ [] in
    run_after (λ u. Unit {0}) (Test (decided d) fault ∷ []) (rest site to) r passed
    (subst₂ (λ s q. IsRun (λ u. Unit {0}) (rest s q) r) same_site same_number run)

-- a test that passes, and one that doesn't
abbrev pub goes_on : Result (Unit {0}) CheckFault
goes_on = Ok tt

-- a test that fails ends the check with its fault
abbrev pub ends_with : CheckFault → Result (Unit {0}) CheckFault
ends_with e = Err e

-- the bound of an item's unknown
pub bound_is : (system : Equations) (b : List Ext) (z : Vector) → Stands system b z → (item : Item) (u : ℕ)
    → item.point ≡ u / length system.template → item.row ≡ u % length system.template → Placed system item
    → get_or b u neg_inf ≡ bound_at z item
bound_is system b z h item u point row placed =
    let a = div-add-mod u (length system.template) in
    let m : length system.template * (u / length system.template) ≡ length system.template * item.point =
    ap (λ n. length system.template * n) (sym point) in
    let e : u ≡ item.point * length system.template + item.row = omega (arith, a, m, row) in
    ap (λ n. get_or b n neg_inf) e ∙ h.at item.point item.row placed.point_within placed.row_within
