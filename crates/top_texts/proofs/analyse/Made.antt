-- The certificate that rounds make can be checked, and only a wide operation stops its check.
use Rattle.std.proofs.Common.{◌≡◌, ◌∙◌, ◌⊎◌, inl, inr, ℕ, ◌*◌, ◌≤◌, ◌<◌, ◌^◌, Bool, true, false, List, [], ◌∷◌, length, sym, ap, subst}
use Rattle.std.proofs.Common.{arith, IsTrue}
use Rattle.std.specs.Prelude.{Option, Some, None, ◌&&◌, nat_le}
use Rattle.std.specs.List.{list_all}
use Rattle.serde_json.specs.Written.{compact_text}
use Rattle.flow_templates.specs.Rows.{is_template}
use Rattle.flow_systems.specs.declared.spot.Spot.{Spot}
use Rattle.flow_systems.specs.declared.system.System.{System}
use Rattle.flow_systems.specs.Equations.{Least}
use Rattle.flow_systems.specs.SystemLimits.{is_over}
use Rattle.flow_systems.specs.View.{equations_of, vector_of}
use Rattle.flow_systems.proofs.Sizes.{both}
use Rattle.theory_validity.specs.Certificates.{ValidCertificate}
use Rattle.theory_validity.specs.Faults.{Fault, certificate_fault}
use Rattle.theory_validity.proofs.faults.CertificateFaults.{certificate_fault_none}
use Rattle.cert_types.specs.Shaped.{IsShaped}
use Rattle.cert_types.specs.declared.cert.Cert.{Cert}
use Rattle.cert_types.specs.declared.step.Step.{Step}
use Rattle.cert_types.specs.declared.step.Step.TheVariants.{Plain, Jump, Ray}
use Rattle.cert_text.specs.Certificates.{IsBeyond, IsWithin, IsWritable, SpellsCert, SpellsTooMany, cert_data}
use Rattle.cert_written.specs.Bare.{bare_cert}
use Rattle.cert_written.specs.declared.cert.Cert.{Cert as WrittenCert}
use Rattle.cert_fitted.specs.Dense.{dense_cert}
use Rattle.cert_fitted.proofs.fitted_laws.Shaped.{dense_shaped}
use Rattle.cert_checker.specs.Items.{is_short}
use Rattle.cert_checker.proofs.events.CheckTests.{stops_are_faults}
use Rattle.solve_rounds.specs.declared.solution.Solved.{Solved}
use Rattle.solve_rounds.specs.Solutions.{AreNumbered, IsSolved, cert_with, has_most, made_certificate}
use Rattle.ask_words.specs.declared.request.Policy.{Policy}
use Rattle.top_texts.specs.Checks.{IsCheckSpot, IsCompositionSpot, IsStopped, NoneIsWide, theirs}
use Rattle.top_texts.specs.Outcomes.{IsHalted, IsRoundsCertificate, IsUnaccepted}
use Rattle.top_texts.specs.Policies.{rule_of}
use Rattle.top_texts.specs.Spots.{HasSpot}
use Rattle.ask_words.specs.declared.request.Purpose.TheVariants.{Certificate as AsCertificate}
use Rattle.top_texts.specs.declared.refusal.Refusal.{Refusal}
use Rattle.top_texts.specs.declared.refusal.Refusal.TheVariants as refusal
use Rattle.top_status.specs.declared.status.CertCause.TheVariants.{Form, Rows, Unknowns, Check}
use Rattle.top_status.specs.declared.status.Excess.TheVariants.{Wide, Large}
use Rattle.flow_systems.specs.declared.limits.TheConstants.{MOST_UNKNOWNS}

-- ---- its steps and items can be numbered

and_both : (a b : Bool) → a ≡ true → b ≡ true → (a && b) ≡ true
and_both true b h k = k
and_both false b h k = cc

short_step : (count : ℕ) (step : Step) → count ≤ MOST_UNKNOWNS → has_most count step ≡ true → is_short step ≡ true
short_step count (Plain items) l h = grind arith
short_step count (Jump items) l h = grind arith
short_step count (Ray items) l h = grind arith

short_steps : (count : ℕ) (steps : List Step) → count ≤ MOST_UNKNOWNS → IsTrue (list_all (has_most count) steps)
    → IsTrue (list_all is_short steps)
short_steps count [] l h = h
short_steps count (step ∷ steps) l h =
    let a = both (has_most count step) _ h in
    and_both (is_short step) _ (short_step count step l a.0) (short_steps count steps l a.1)

unknowns_within : (system : System) → length system.flow.points * length system.template ≤ MOST_UNKNOWNS
unknowns_within system =
    let h = (both (is_over (length system.flow.names) system.template) _ system.within_limits).1 in
    within (length system.flow.points * length system.template) h
  where
    within : (n : ℕ) → nat_le n MOST_UNKNOWNS ≡ true → n ≤ MOST_UNKNOWNS
    within n e = grind arith

module _ (system : System) (solved : Solved) (cert : Cert) (same : cert ≡ cert_with system solved) where
  -- the certificate has the rows of the system's template
  pub made_rows : system.template ≡ cert.rows
  made_rows = sym (ap (λ (c : Cert). c.rows) same)

  -- the certificate has fewer than 2 ^ 32 steps
  pub made_few : AreNumbered system solved.steps → length cert.steps < 2 ^ 32
  made_few h = subst (λ (c : Cert). length c.steps < 2 ^ 32) (sym same) h.few

  -- each step of the certificate is short
  pub made_short : AreNumbered system solved.steps → IsTrue (list_all is_short cert.steps)
  made_short h =
      subst (λ (c : Cert). IsTrue (list_all is_short c.steps)) (sym same)
      (short_steps (length system.flow.points * length system.template) solved.steps (unknowns_within system) h.short)

  -- the certificate can be written
  pub made_writable : (written : WrittenCert) → written ≡ dense_cert cert → IsShaped (cert_with system solved) → IsWritable written
  made_writable written is h = subst IsWritable (sym (is ∙ ap dense_cert same)) (inl (dense_shaped (cert_with system solved) h))

  -- ---- only a wide operation stops the check

  some_none : (f : Fault) (o : Option Fault) → o ≡ Some f → o ≡ None → ⊥
  some_none f o h k = cc

  stopped : (answer : _) → ValidCertificate (equations_of system) (made_certificate system solved)
      → IsStopped (equations_of system) (made_certificate system solved) answer → ⊥
  stopped answer valid (f, e, stops) =
      some_none f (certificate_fault (equations_of system) (made_certificate system solved))
      (stops_are_faults (equations_of system) (made_certificate system solved) f stops.stop)
      ((certificate_fault_none (equations_of system) (made_certificate system solved)).1 valid)

  module _ (policy : Policy) (limit : ℕ) (is : IsSolved system (rule_of policy) limit solved)
      (valid : ValidCertificate (equations_of system) (made_certificate system solved)) where
    wide_spot : (spot : Spot) → IsCompositionSpot (equations_of system) spot
        ⊎ IsCheckSpot (equations_of system) (made_certificate system solved) spot → HasSpot AsCertificate system policy limit spot
    wide_spot spot (inl h) = inl (inl (h.round, (h.edge, h.site, h.wide)))
    wide_spot spot (inr h) = inr (record { solved = solved; is_solved = is; stop = h.stop })

    halts : (r : Refusal) → IsUnaccepted (equations_of system) (made_certificate system solved) r
        → IsHalted AsCertificate system policy limit r
    halts (refusal.Text cause) h = absurd h
    halts (refusal.Certificate (Form fault)) h = absurd h
    halts (refusal.Certificate (Rows fault)) h = absurd h
    halts (refusal.Certificate (Unknowns count)) h = absurd h
    halts (refusal.Certificate (Check fault)) h = absurd (stopped fault valid h)
    halts (refusal.Exceeded (Wide spot)) h = wide_spot spot h
    halts (refusal.Exceeded (Large cells)) h = absurd h
    halts (refusal.Spent n) h = absurd h
    halts refusal.NoMemory h = tt

    -- a certificate of the rounds that is not accepted halts the analysis
    pub made_halts : (r : Refusal) → IsUnaccepted (equations_of system) (theirs cert) r → IsHalted AsCertificate system policy limit r
    made_halts r h = halts r (subst (λ (c : Cert). IsUnaccepted (equations_of system) (theirs c) r) same h)

    -- a certificate of the rounds is spelled by its bytes, or has too many
    pub made_certified : (dense : WrittenCert) → dense ≡ dense_cert cert → (bytes : List ℕ) → IsTrue (is_template system.template)
        → bytes ≡ compact_text (cert_data dense) → (IsWithin dense → SpellsCert bytes (bare_cert dense))
        → (IsBeyond dense → SpellsTooMany bytes) → NoneIsWide (equations_of system) (theirs cert)
        → Least (equations_of system) (vector_of (length system.template) solved.bounds) → IsRoundsCertificate system policy limit bytes
    made_certified dense made bytes template written spells expands narrow least = record {
      solved = solved;
      is_solved = is;
      template = template;
      written = written ∙ ap (λ (c : WrittenCert). compact_text (cert_data c)) (made ∙ ap dense_cert same);
      spells = subst (λ (c : WrittenCert). IsWithin c → SpellsCert bytes (bare_cert c)) (made ∙ ap dense_cert same) spells;
      expands = subst (λ (c : WrittenCert). IsBeyond c → SpellsTooMany bytes) (made ∙ ap dense_cert same) expands;
      valid = valid;
      narrow = subst (λ (c : Cert). NoneIsWide (equations_of system) (theirs c)) same narrow;
      least = least;
    }
