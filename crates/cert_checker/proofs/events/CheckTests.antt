-- The tests of a check alone are those of the theory.
use Rattle.std.proofs.Common.{◌≡◌, ◌∙◌, ◌↔◌, ℕ, suc, ◌*◌, List, [], ◌∷◌, ◌++◌, length, get_or, append_assoc, refl, sym, ap, ap₂, subst}
use Rattle.std.proofs.Common.{arith}
use Rattle.std.specs.Prelude.{ℤ, Option, None, Some}
use native.Mathlib.Decide.{dec_lt, dec_le, ℕ_discrete}
use Rattle.base_facts.specs.Elements.{In}
use Rattle.base_numbers.specs.Rational.{ℚ, zero_ℚ, ◌+ℚ◌}
use Rattle.base_numbers.specs.Extended.{Ext, neg_inf, fin, ◌≤ᴱ◌}
use Rattle.base_numbers.proofs.rational.Laws.{ℚ_discrete}
use Rattle.base_fractions.specs.Fits.{long_limit}
use Rattle.base_fractions.specs.declared.wide.Op.TheVariants.{Add}
use Rattle.base_fractions.specs.Operation.{Operation, first_wide}
use Rattle.flow_edges.specs.declared.edge.Edge.{Edge}
use Rattle.flow_systems.specs.declared.spot.Site.{Site}
use Rattle.flow_systems.specs.declared.spot.Site.TheVariants.{Upper}
use Rattle.flow_systems.specs.Equations.{Equations, Vector, Least}
use Rattle.theory_validity.specs.Words.{width, end_form}
use Rattle.theory_validity.specs.Steps.{Item, Kind, Plain, Jump, Ray, Step, put, new_value, after_step, start_vector, Distinct, Placed}
use Rattle.theory_validity.specs.Certificates.{Evidence, Bound, Empty, Unreached, combination, side, Need, needs, after_steps, Certificate}
use Rattle.theory_validity.specs.Certificates.{bounds_vector, ValidCertificate, PointsInRange}
use Rattle.theory_validity.specs.Decide.{dec_and, dec_lt_ℚ, dec_leᴱ, dec_finite, ext_same}
use Rattle.theory_validity.specs.Faults.{Fault, SizeFault, FinalFault, UpperFault, HighFault, RayFault, unless, and_then, first_pass}
use Rattle.theory_validity.specs.Faults.{second_pass, step_fault, steps_fault, unknowns, final_fault, uppers_fault, certificate_fault}
use Rattle.theory_validity.specs.Faults.{dec_lands, dec_goes, dec_evidence}
use Rattle.theory_validity.proofs.faults.CertificateFaults.{certificate_fault_none}
use Rattle.theory_validity.proofs.steps.StepFaults.{step_fault_none}
use Rattle.theory_validity.proofs.steps.CertificateLaw.{certificate_least}
use Rattle.cert_checker.specs.Events.{Event, Test, sums, decided, fault_answer, first_stop, first_fault, operations_of}
use Rattle.cert_checker.specs.StepEvents.{StepPasses, first_pass_events, second_pass_events, step_events, steps_events}
use Rattle.cert_checker.specs.EvidenceEvents.{column_operations, side_operations, dec_multipliers, columns_events, columns_of}
use Rattle.cert_checker.specs.EvidenceEvents.{evidence_events}
use Rattle.cert_checker.specs.CheckEvents.{number_of, final_events, uppers_events, check_events}
use Rattle.cert_checker.proofs.law.EvidenceTests.{first_fault-append, sums_then, test_then, unless_pair, dec_from, each_then}
use Rattle.cert_checker.proofs.law.StepTests.{first_pass_then, landing_then}
use Rattle.cert_checker.proofs.law.RayTests.{going_then, ray_apart}
use Rattle.cert_checker.proofs.law.Stops.{stop_none, stop_fault, unanswer_is}

-- ---- steps
plain_none : (system : Equations) (z : Vector) (all : List Item) (s k : ℕ) (items : List Item)
    → second_pass Plain system z all s k items ≡ None
unfolding second_pass
plain_none system z all s k [] = refl
plain_none system z all s k (item ∷ items) = refl

plain_then : (system : Equations) (z : Vector) (all : List Item) (s k : ℕ) (items : List Item)
    → first_fault (second_pass_events Plain system z all s k items) ≡ None
unfolding first_fault second_pass_events
plain_then system z all s k [] = refl
plain_then system z all s k (item ∷ items) = plain_then system z all s (suc k) items

jump_then : (system : Equations) (z : Vector) (all : List Item) (s k : ℕ) (items : List Item)
    → first_fault (second_pass_events Jump system z all s k items) ≡ second_pass Jump system z all s k items
unfolding first_fault second_pass second_pass_events
jump_then system z all s k [] = refl
jump_then system z all s k (item ∷ items) =
    landing_then system z (put (new_value Jump) all z) s k item (second_pass_events Jump system z all s (suc k) items)
    ∙ ap (unless (dec_lands system z (put (new_value Jump) all z) item) (HighFault s k)) (jump_then system z all s (suc k) items)

ray_then : (system : Equations) (z : Vector) (all : List Item) → Distinct all → ((item : Item) → In all item → Placed system item)
    → (s k : ℕ) (items : List Item) →
    first_fault (second_pass_events Ray system z all s k items) ≡ second_pass Ray system z all s k items
unfolding first_fault second_pass second_pass_events
ray_then system z all apart placed s k [] = refl
ray_then system z all apart placed s k (item ∷ items) =
    going_then system z all item apart placed s k (second_pass_events Ray system z all s (suc k) items)
    ∙ ap (unless (dec_goes system z all item) (RayFault s k)) (ray_then system z all apart placed s (suc k) items)

second_then : (kind : Kind) (system : Equations) (z : Vector) (s : ℕ) (items : List Item) → first_pass kind system z s 0 [] items ≡ None →
    first_fault (second_pass_events kind system z items s 0 items) ≡ second_pass kind system z items s 0 items
second_then Plain system z s items e = plain_then system z items s 0 items ∙ sym (plain_none system z items s 0 items)
second_then Jump system z s items e = jump_then system z items s 0 items
second_then Ray system z s items e = let h = ray_apart system z s items e in ray_then system z items h.0 h.1 s 0 items

step_then : (system : Equations) (z : Vector) (s : ℕ) (step : Step) → first_fault (step_events system z s step) ≡ step_fault system z s step
unfolding step_events step_fault
step_then system z s step =
    let first = first_pass_events step.kind system z s 0 [] step.items in
    let second = second_pass_events step.kind system z step.items s 0 step.items in
    first_fault-append first second
    ∙ ap (λ a. and_then a (first_fault second)) (first_pass_then step.kind system z s 0 [] step.items)
    ∙ by (first_pass step.kind system z s 0 [] step.items) refl
  where
    by : (o : Option Fault) → first_pass step.kind system z s 0 [] step.items ≡ o →
        and_then (first_pass step.kind system z s 0 [] step.items) (first_fault
        (second_pass_events step.kind system z step.items s 0 step.items))
        ≡ and_then (first_pass step.kind system z s 0 [] step.items) (second_pass step.kind system z step.items s 0 step.items)
    by None e = ap (and_then (first_pass step.kind system z s 0 [] step.items)) (second_then step.kind system z s step.items e)
    by (Some f) e =
        ap (λ a. and_then a (first_fault (second_pass_events step.kind system z step.items s 0 step.items))) e
        ∙ sym (ap (λ a. and_then a (second_pass step.kind system z step.items s 0 step.items)) e)

-- nothing stops at a step exactly where it passes
pub unstopped_passes : (system : Equations) (z : Vector) (step : Step)
    → (first_stop (step_events system z 0 step) ≡ None) ↔ StepPasses system z step
unstopped_passes system z step =
    let stops = stop_none (step_events system z 0 step) in
    let tests = step_then system z 0 step in
    let valid = step_fault_none system z 0 step in
    ((λ e. let r = stops.0 e in (valid.0 (sym tests ∙ r.0), r.1)), (λ h. stops.1 (tests ∙ valid.1 h.0, h.1)))

-- steps
steps_then : (system : Equations) (z : Vector) (s : ℕ) (steps : List Step)
    → first_fault (steps_events system z s steps) ≡ steps_fault system z s steps
unfolding first_fault steps_events steps_fault
steps_then system z s [] = refl
steps_then system z s (step ∷ steps) =
    first_fault-append (step_events system z s step) (steps_events system (after_step step z) (suc s) steps)
    ∙ ap₂ and_then (step_then system z s step) (steps_then system (after_step step z) (suc s) steps)

-- ---- the end
final_then : (system : Equations) (z b : Vector) (us : List (ℕ × ℕ)) → first_fault (final_events system z b us) ≡ final_fault system z b us
unfolding first_fault final_events final_fault
final_then system z b [] = refl
final_then system z b (u ∷ us) =
    test_then (ext_same (z u.0 u.1) (b u.0 u.1)) (FinalFault (number_of system u.0 u.1)) (final_events system z b us)
    ∙ ap (unless (ext_same (z u.0 u.1) (b u.0 u.1)) (FinalFault (number_of system u.0 u.1))) (final_then system z b us)

-- ---- evidence
module _ (site : Site) (f : Fault) (system : Equations) (z : Vector) (edge : Edge) (row : List ℤ) (number : Ext) where
  -- the columns and what comes after them
  columns_then : (rows guards goal : List ℚ) (os : List Operation) {L : Type 0} (last : Dec L) (es : List Event) →
      first_fault ((columns_events site f system edge rows guards goal (columns_of system edge)
      ++ (sums site os ++ Test (decided last) f ∷ [])) ++ es)
      ≡ unless (dec_from {P = λ k. get_or (combination system edge rows guards) k zero_ℚ ≡ get_or goal k zero_ℚ}
      (λ k. ℚ_discrete (get_or (combination system edge rows guards) k zero_ℚ) (get_or goal k zero_ℚ)) 0
      (width system.variables edge.actions)) f (unless last f (first_fault es))
  columns_then rows guards goal os last es =
      let columns = columns_events site f system edge rows guards goal (columns_of system edge) in
      let d : (k : ℕ) → Dec (get_or (combination system edge rows guards) k zero_ℚ ≡ get_or goal k zero_ℚ) =
      λ k. ℚ_discrete (get_or (combination system edge rows guards) k zero_ℚ) (get_or goal k zero_ℚ) in
      let all = dec_from {P = λ k. get_or (combination system edge rows guards) k zero_ℚ ≡ get_or goal k zero_ℚ} d 0
      (width system.variables edge.actions) in
      ap first_fault (append_assoc columns (sums site os ++ Test (decided last) f ∷ []) es)
      ∙ each_then {P = λ k. get_or (combination system edge rows guards) k zero_ℚ ≡ get_or goal k zero_ℚ} d site f
      (column_operations system edge rows guards) ((sums site os ++ Test (decided last) f ∷ []) ++ es) 0
      (width system.variables edge.actions) all
      ∙ ap (unless all f) (ap first_fault (append_assoc (sums site os) (Test (decided last) f ∷ []) es)
      ∙ sums_then site os (Test (decided last) f ∷ es) ∙ test_then last f es)

  -- one piece
  evidence_then : (e : Evidence) (es : List Event) → first_fault (evidence_events site f system z edge row number e ++ es)
      ≡ unless (dec_evidence system z edge row number e) f (first_fault es)
  unfolding evidence_events
  evidence_then (Bound rows guards) es =
      let goal = (end_form system.variables edge.actions row).coeffs in
      let constant = (end_form system.variables edge.actions row).constant in
      let next = first_fault es in
      let ms = dec_multipliers system z edge rows guards in
      let finite = dec_finite number in
      let last = dec_leᴱ (fin (side system z edge rows guards +ℚ constant)) number in
      let os = side_operations system z edge rows guards ++ record { op = Add; left = side system z edge rows guards; right = constant }
      ∷ [] in
      let same = dec_from {P = λ k. get_or (combination system edge rows guards) k zero_ℚ ≡ get_or goal k zero_ℚ}
      (λ k. ℚ_discrete (get_or (combination system edge rows guards) k zero_ℚ) (get_or goal k zero_ℚ)) 0
      (width system.variables edge.actions) in
      let rest = (columns_events site f system edge rows guards goal (columns_of system edge)
      ++ (sums site os ++ Test (decided last) f ∷ [])) ++ es in
      test_then ms f (Test (decided finite) f ∷ rest)
      ∙ ap (unless ms f)
      (test_then finite f rest
      ∙ ap (unless finite f) (columns_then rows guards goal os last es
      ∙ unless_pair (dec_and same last) same last f next (λ h. h.0) (λ h. h.1) (λ a b. (a, b)))
      ∙ unless_pair (dec_and finite (dec_and same last)) finite (dec_and same last) f next (λ h. h.0) (λ h. h.1) (λ a b. (a, b)))
      ∙ unless_pair (dec_evidence system z edge row number (Bound rows guards)) ms (dec_and finite (dec_and same last)) f next
      (λ h. h.multipliers)
      (λ h. (
        (h.limit, h.finite),
        (
          (λ k l m. h.same k (omega (arith, m))),
          subst (λ v. fin (side system z edge rows guards +ℚ constant) ≤ᴱ v) (sym h.finite) h.small,
        ),
      ))
      (λ m r. record {
        multipliers = m;
        limit = r.0.0;
        finite = r.0.1;
        same = λ k l. r.1.0 k (omega arith) (omega (arith, l));
        small = subst (λ v. fin (side system z edge rows guards +ℚ constant) ≤ᴱ v) r.0.1 r.1.1;
      })
  evidence_then (Empty rows guards) es =
      let next = first_fault es in
      let ms = dec_multipliers system z edge rows guards in
      let last = dec_lt_ℚ (side system z edge rows guards) zero_ℚ in
      let os = side_operations system z edge rows guards in
      let same = dec_from {P = λ k. get_or (combination system edge rows guards) k zero_ℚ ≡ get_or [] k zero_ℚ}
      (λ k. ℚ_discrete (get_or (combination system edge rows guards) k zero_ℚ) (get_or [] k zero_ℚ)) 0
      (width system.variables edge.actions) in
      test_then ms f ((columns_events site f system edge rows guards [] (columns_of system edge)
      ++ (sums site os ++ Test (decided last) f ∷ [])) ++ es)
      ∙ ap (unless ms f) (columns_then rows guards [] os last es ∙ unless_pair (dec_and same last) same last f next (λ h. h.0) (λ h. h.1)
      (λ a b. (a, b)))
      ∙ unless_pair (dec_evidence system z edge row number (Empty rows guards)) ms (dec_and same last) f next
      (λ h. h.multipliers)
      (λ h. ((λ k l m. h.same k (omega (arith, m))), h.negative))
      (λ m r. record { multipliers = m; same = λ k l. r.0 k (omega arith) (omega (arith, l)); negative = r.1 })
  evidence_then (Unreached r) es =
      let next = first_fault es in
      let there = dec_lt r (length system.template) in
      let bottom = ext_same (z edge.from r) neg_inf in
      test_then there f (Test (decided bottom) f ∷ es)
      ∙ ap (unless there f) (test_then bottom f es)
      ∙ unless_pair (dec_evidence system z edge row number (Unreached r)) there bottom f next (λ h. h.0) (λ h. h.1) (λ a b. (a, b))

-- all pieces
uppers_then : (system : Equations) (z : Vector) (ns : List Need) (es : List Evidence)
    → first_fault (uppers_events system z ns es) ≡ uppers_fault system z ns es
unfolding first_fault uppers_events uppers_fault
uppers_then system z [] [] = refl
uppers_then system z [] (e ∷ es) = refl
uppers_then system z (n ∷ ns) [] = refl
uppers_then system z (n ∷ ns) (e ∷ es) =
    let u = number_of system n.edge.to n.row in
    let row = get_or system.template n.row [] in
    evidence_then (Upper u n.number) (UpperFault u n.number) system z n.edge row (z n.edge.to n.row) e (uppers_events system z ns es)
    ∙ ap (unless (dec_evidence system z n.edge row (z n.edge.to n.row) e) (UpperFault u n.number)) (uppers_then system z ns es)

-- ---- the whole check
-- the first test of a check that fails is the certificate's fault
pub tests_are_faults : (system : Equations) (certificate : Certificate)
    → first_fault (check_events system certificate) ≡ certificate_fault system certificate
unfolding check_events certificate_fault
tests_are_faults system certificate =
    let b = bounds_vector system certificate.bounds in
    let size = dec_and (ℕ_discrete (length certificate.bounds) (system.points * length system.template))
    (dec_le (length certificate.uppers) (length (needs system b))) in
    let steps = steps_events system start_vector 0 certificate.steps in
    let finals = final_events system (after_steps certificate.steps start_vector) b (unknowns system) in
    let uppers = uppers_events system b (needs system b) certificate.uppers in
    test_then size SizeFault (steps ++ (finals ++ uppers))
    ∙ ap (unless size SizeFault)
    (first_fault-append steps (finals ++ uppers)
    ∙ ap₂ and_then (steps_then system start_vector 0 certificate.steps)
    (first_fault-append finals uppers ∙ ap₂ and_then (final_then system (after_steps certificate.steps start_vector) b (unknowns system))
    (uppers_then system b (needs system b) certificate.uppers)))

-- nothing stops exactly where the certificate is valid and nothing is wide
pub unstopped_is_valid : (system : Equations) (certificate : Certificate) →
    (first_stop (check_events system certificate) ≡ None) ↔ (ValidCertificate system certificate
    × (first_wide long_limit (operations_of (check_events system certificate)) ≡ None))
unstopped_is_valid system certificate =
    let stops = stop_none (check_events system certificate) in
    let tests = tests_are_faults system certificate in
    let valid = certificate_fault_none system certificate in
    ((λ e. let r = stops.0 e in (valid.0 (sym tests ∙ r.0), r.1)), (λ h. stops.1 (tests ∙ valid.1 h.0, h.1)))

-- so the bounds are least
pub unstopped_is_least : (system : Equations) (certificate : Certificate) → PointsInRange system
    → first_stop (check_events system certificate) ≡ None → Least system (bounds_vector system certificate.bounds)
unstopped_is_least system certificate range e = certificate_least system certificate range ((unstopped_is_valid system certificate).0 e).0

-- a test that stops is the first that fails
pub stops_are_faults : (system : Equations) (certificate : Certificate) (fault : Fault)
    → first_stop (check_events system certificate) ≡ Some (fault_answer fault) → certificate_fault system certificate ≡ Some fault
stops_are_faults system certificate fault e =
    sym (tests_are_faults system certificate) ∙ stop_fault (check_events system certificate) (fault_answer fault) fault e
    (unanswer_is fault)
