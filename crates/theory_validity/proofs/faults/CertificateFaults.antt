-- A certificate has no failing test exactly where it is valid.
use Rattle.std.proofs.Common.{◌≡◌, ◌↔◌, inl, inr, ⊎_elim, ℕ, suc, ◌+◌, ◌*◌, ◌<◌, ◌≤◌, List, [], ◌∷◌, length, map, get_or, refl, ap, subst}
use Rattle.std.proofs.Common.{arith}
use Rattle.std.specs.Prelude.{None}
use Rattle.std.specs.List.{range_with_len}
use native.Mathlib.Decide.{dec_le, ℕ_discrete}
use Rattle.base_facts.proofs.elements.Membership.{in_map, in_flat_map, in_range, of_map, of_flat_map, of_range}
use Rattle.base_facts.specs.Elements.{In}
use Rattle.flow_systems.specs.Equations.{Equations, Vector}
use Rattle.theory_validity.specs.Steps.{Step, after_step, start_vector}
use Rattle.theory_validity.specs.Certificates.{Evidence, Need, needs, AllPass, ValidSteps, after_steps, Certificate, bounds_vector}
use Rattle.theory_validity.specs.Certificates.{ValidCertificate}
use Rattle.theory_validity.specs.Faults.{SizeFault, FinalFault, UpperFault, and_then, step_fault, steps_fault, unknowns, final_fault}
use Rattle.theory_validity.specs.Faults.{uppers_fault, certificate_fault, dec_evidence}
use Rattle.theory_validity.specs.Decide.{dec_and, ext_same}
use Rattle.theory_validity.proofs.steps.StepFaults.{unless_none, unless_yes, and_then_none, and_then_yes, step_fault_none}

-- ---- elements

-- the unknowns are the pairs in range
in_unknowns : (system : Equations) (p r : ℕ) → p < system.points → r < length system.template → In (unknowns system) (p, r)
unfolding unknowns
in_unknowns system p r h i =
    in_flat_map (λ p. map (λ r. (p, r)) (range_with_len 0 (length system.template))) (range_with_len 0 system.points) p (p, r)
    (in_range 0 system.points p (omega arith) (omega arith)) (in_map (λ r. (p, r)) (range_with_len 0 (length system.template)) r
    (in_range 0 (length system.template) r (omega arith) (omega arith)))

out_unknowns : (system : Equations) (u : ℕ × ℕ) → In (unknowns system) u → (u.0 < system.points) × (u.1 < length system.template)
unfolding unknowns
out_unknowns system u m =
    let a = of_flat_map (λ p. map (λ r. (p, r)) (range_with_len 0 (length system.template))) (range_with_len 0 system.points) u m in
    let b = of_map (λ r. (a.0, r)) (range_with_len 0 (length system.template)) u a.2 in
    let h = of_range 0 system.points a.0 a.1 in
    let i = of_range 0 (length system.template) b.0 b.1 in
    subst (λ v. (v.0 < system.points) × (v.1 < length system.template)) b.2 (omega (arith, h), omega (arith, i))

-- ---- steps
steps_fault_none : (system : Equations) (z : Vector) (s : ℕ) (steps : List Step) → (steps_fault system z s steps ≡ None)
    ↔ ValidSteps system z steps
unfolding steps_fault
steps_fault_none system z s [] = ((λ e. tt), (λ h. refl))
steps_fault_none system z s (step ∷ steps) =
    let first = step_fault_none system z s step in
    let rest = steps_fault_none system (after_step step z) (suc s) steps in (
      (λ e. let r = and_then_none (step_fault system z s step) (steps_fault system (after_step step z) (suc s) steps) e in
          (first.0 r.0, rest.0 r.1)),
      (λ h. and_then_yes (step_fault system z s step) (steps_fault system (after_step step z) (suc s) steps) (first.1 h.0) (rest.1 h.1)),
    )

-- ---- the last two tests
final_none : (system : Equations) (z b : Vector) (us : List (ℕ × ℕ)) → final_fault system z b us ≡ None → (u : ℕ × ℕ) → In us u
    → z u.0 u.1 ≡ b u.0 u.1
unfolding final_fault
final_none system z b [] e u m = absurd m
final_none system z b (v ∷ us) e u m =
    let r = unless_none (ext_same (z v.0 v.1) (b v.0 v.1)) (FinalFault (v.0 * length system.template + v.1)) (final_fault system z b us)
    e in
    ⊎_elim (λ f. subst (λ w. z w.0 w.1 ≡ b w.0 w.1) f r.0) (λ k. final_none system z b us r.1 u k) m

final_yes : (system : Equations) (z b : Vector) (us : List (ℕ × ℕ)) → ((u : ℕ × ℕ) → In us u → z u.0 u.1 ≡ b u.0 u.1)
    → final_fault system z b us ≡ None
unfolding final_fault
final_yes system z b [] h = refl
final_yes system z b (v ∷ us) h =
    unless_yes (ext_same (z v.0 v.1) (b v.0 v.1)) (FinalFault (v.0 * length system.template + v.1)) (final_fault system z b us)
    (h v (inl refl)) (final_yes system z b us (λ u m. h u (inr m)))

uppers_none : (system : Equations) (z : Vector) (ns : List Need) (es : List Evidence) → length es ≤ length ns
    → uppers_fault system z ns es ≡ None → AllPass system z ns es
unfolding uppers_fault
uppers_none system z [] [] l e = tt
uppers_none system z [] (x ∷ es) l e = absurd (omega arith)
uppers_none system z (n ∷ ns) [] l e = cc
uppers_none system z (n ∷ ns) (x ∷ es) l e =
    let r = unless_none (dec_evidence system z n.edge (get_or system.template n.row []) (z n.edge.to n.row) x)
    (UpperFault (n.edge.to * length system.template + n.row) n.number) (uppers_fault system z ns es) e in
    (r.0, uppers_none system z ns es (omega arith) r.1)

uppers_yes : (system : Equations) (z : Vector) (ns : List Need) (es : List Evidence) → AllPass system z ns es
    → uppers_fault system z ns es ≡ None
unfolding uppers_fault
uppers_yes system z [] [] h = refl
uppers_yes system z [] (x ∷ es) h = refl
uppers_yes system z (n ∷ ns) [] h = absurd h
uppers_yes system z (n ∷ ns) (x ∷ es) h =
    unless_yes (dec_evidence system z n.edge (get_or system.template n.row []) (z n.edge.to n.row) x)
    (UpperFault (n.edge.to * length system.template + n.row) n.number) (uppers_fault system z ns es) h.0 (uppers_yes system z ns es h.1)

as_many : (system : Equations) (z : Vector) (ns : List Need) (es : List Evidence) → AllPass system z ns es → length es ≡ length ns
as_many system z [] [] h = refl
as_many system z [] (x ∷ es) h = absurd h
as_many system z (n ∷ ns) [] h = absurd h
as_many system z (n ∷ ns) (x ∷ es) h = ap suc (as_many system z ns es h.1)

-- a certificate has no fault exactly where it is valid
pub certificate_fault_none : (system : Equations) (certificate : Certificate) → (certificate_fault system certificate ≡ None)
    ↔ ValidCertificate system certificate
unfolding certificate_fault
certificate_fault_none system certificate =
    let B = bounds_vector system certificate.bounds in
    let F = after_steps certificate.steps start_vector in
    let size = dec_and (ℕ_discrete (length certificate.bounds) (system.points * length system.template))
    (dec_le (length certificate.uppers) (length (needs system B))) in
    let steps = steps_fault_none system start_vector 0 certificate.steps in
    let finals = final_fault system F B (unknowns system) in
    let uppers = uppers_fault system B (needs system B) certificate.uppers in (
      (λ e.
          let a = unless_none size SizeFault (and_then (steps_fault system start_vector 0 certificate.steps) (and_then finals uppers)) e in
          let b = and_then_none (steps_fault system start_vector 0 certificate.steps) (and_then finals uppers) a.1 in
          let c = and_then_none finals uppers b.1 in
          record {
            size = a.0.0;
            steps = steps.0 b.0;
            final = λ p r h i. final_none system F B (unknowns system) c.0 (p, r) (in_unknowns system p r h i);
            uppers = uppers_none system B (needs system B) certificate.uppers a.0.1 c.1;
          }),
      (λ v.
          let many = as_many system B (needs system B) certificate.uppers v.uppers in
          unless_yes size SizeFault (and_then (steps_fault system start_vector 0 certificate.steps) (and_then finals uppers))
          (v.size, omega (arith, many))
          (and_then_yes (steps_fault system start_vector 0 certificate.steps) (and_then finals uppers) (steps.1 v.steps)
          (and_then_yes finals uppers
          (final_yes system F B (unknowns system) (λ u m. let o = out_unknowns system u m in v.final u.0 u.1 o.0 o.1))
          (uppers_yes system B (needs system B) certificate.uppers v.uppers)))),
    )
