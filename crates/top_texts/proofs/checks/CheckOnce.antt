-- A program and the bytes of a certificate have one ending, by stages: each stage has one cause to end, or goes on to the
-- next.
-- So have the bytes of a certificate that is upgraded.
use Rattle.std.proofs.Common.{◌≡◌, ◌≤◌, ◌<◌, ◌⊎◌, inl, inr, ⊎_elim, ℕ, List, [], true, false, refl, sym, ap, ap₂, ◌∙◌, subst, arith}
use Rattle.std.specs.Prelude.{Bool, Option, Result, Ok, Err, Some, None, nat_lt, slice_get, length}
use Rattle.base_fractions.specs.Operation.{Operation, operation_of}
use Rattle.lang_tree.specs.Tree.{Statements}
use Rattle.flow_templates.specs.declared.fault.RowFault.{RowFault}
use Rattle.flow_templates.specs.RowFaults.{faults_of}
use Rattle.flow_systems.specs.declared.spot.Site.TheVariants.{Compose}
use Rattle.flow_systems.specs.declared.spot.Spot.{Spot}
use Rattle.theory_validity.specs.Faults.{Fault, SizeFault, TraceFault, LowFault, HighFault, RayFault, FinalFault, UpperFault}
use Rattle.cert_types.specs.declared.cert.Cert.{Cert}
use Rattle.serde_json.specs.Data.{Data}
use Rattle.cert_text.specs.Certificates.{Spells, SpellsCert, cert_in}
use Rattle.cert_text.specs.declared.fault.FormFault.{FormFault}
use Rattle.cert_text.specs.declared.fault.FormFault.TheVariants.{NotJson, Shape, Number, Version, Expanded, NoMemory}
use Rattle.cert_text.proofs.form_laws.Laws.{one_reading}
use Rattle.solve_composition.specs.Operations.{wide_composition}
use Rattle.cert_checker.specs.CheckEvents.{check_events}
use Rattle.cert_checker.specs.Events.{fault_answer, first_stop}
use Rattle.cert_checker.specs.declared.fault.CheckFault.{CheckFault}
use Rattle.cert_checker.specs.declared.fault.CheckFault.TheVariants as check
use Rattle.cert_checker.proofs.events.CheckTests.{unstopped_is_valid}
use Rattle.cert_written.specs.declared.cert.Cert.{Cert as WrittenCert}
use Rattle.top_texts.specs.Checks.{IsCompositionSpot, IsFormFault, SpellsFor, fitted_to, system_with, theirs}
use Rattle.top_texts.specs.Endings.{CheckEnd, UpgradeEnd}
use Rattle.top_texts.specs.Texts.{IsAnalysed, IsRefusedProgram, Program, unknowns}
use Rattle.top_texts.proofs.texts.Once.{analysed_unrefused, program_refused_once}
use Rattle.top_texts.proofs.texts.Readings.{program_once}
use Rattle.top_status.specs.declared.status.TextCause.{TextCause}
use Rattle.top_status.specs.declared.status.CertCause.TheVariants.{Form, Rows, Unknowns, Check}
use Rattle.top_status.specs.declared.status.Excess.TheVariants.{Wide, Large}
use Rattle.top_status.specs.declared.status.Status.{Status}
use Rattle.top_status.specs.declared.status.Status.TheVariants.{Done, Open, Certificate, Usage, Read, Text, Exceeded, Spent, Memory, Write}
use Rattle.flow_systems.specs.declared.limits.TheConstants.{MOST_UNKNOWNS}

-- ---- a fault of the form is the only one

-- what a fault says of the value that the bytes spell
form_view : (bytes : List ℕ) (f : FormFault) → IsFormFault bytes f → ((f ≡ NotJson) × ((d : Data) → Spells bytes d → ⊥))
    ⊎ ((d : Data) × Spells bytes d × (cert_in d ≡ Err f))
form_view bytes NotJson h = inl (refl, h)
form_view bytes (Shape field) h = inr h
form_view bytes (Number field) h = inr h
form_view bytes Version h = inr h
form_view bytes Expanded h = inr h
form_view bytes NoMemory h = absurd h

same_data : (bytes : List ℕ) (d e : Data) → Spells bytes d → Spells bytes e → d ≡ e
same_data bytes d e s t = some_same d e (sym s.value ∙ t.value)
  where
    some_same : (d e : Data) → Some d ≡ Some e → d ≡ e
    some_same d e h = cc

abbrev cert_answer : Result WrittenCert FormFault → Result WrittenCert FormFault
cert_answer a = a

same_fault : (f g : FormFault) → cert_answer (Err f) ≡ cert_answer (Err g) → f ≡ g
same_fault f g e = cc

no_cert : (f : FormFault) (c : WrittenCert) → cert_answer (Err f) ≡ cert_answer (Ok c) → ⊥
no_cert f c e = cc

form_fault_once : (bytes : List ℕ) (f g : FormFault) → IsFormFault bytes f → IsFormFault bytes g → f ≡ g
form_fault_once bytes f g h k =
    ⊎_elim (λ a. ⊎_elim (λ b. a.0 ∙ sym b.0) (λ b. absurd (a.1 b.0 b.1)) (form_view bytes g k))
    (λ a. ⊎_elim (λ b. absurd (b.1 a.0 a.1)) (λ b. same_fault f g (sym a.2 ∙ ap cert_in (same_data bytes a.0 b.0 a.1 b.1) ∙ b.2))
    (form_view bytes g k))
    (form_view bytes f h)

not_spelt : (bytes : List ℕ) (f : FormFault) (c : WrittenCert) → IsFormFault bytes f → SpellsCert bytes c → ⊥
not_spelt bytes f c h s =
    ⊎_elim (λ a. a.1 s.data_is s.spells) (λ a. no_cert f c (sym a.2 ∙ ap cert_in (same_data bytes a.0 s.data_is a.1 s.spells) ∙ s.reads))
    (form_view bytes f h)

-- ---- the last stage: rows, unknowns, composition, tests

-- the spot of the first wide operation of a composition
abbrev composition_spot : ℕ × Operation → Spot
composition_spot w = record { round = 0; site = Compose w.0; wide = record { op = w.1.op; left = w.1.left; right = w.1.right } }

-- the ending where the check stops
abbrev stopped : CheckFault → Status
stopped check.Size = Certificate (Check check.Size)
stopped (check.Trace s k) = Certificate (Check (check.Trace s k))
stopped (check.Low s k) = Certificate (Check (check.Low s k))
stopped (check.High s k) = Certificate (Check (check.High s k))
stopped (check.Ray s k) = Certificate (Check (check.Ray s k))
stopped (check.Upper u e) = Certificate (Check (check.Upper u e))
stopped (check.Final u) = Certificate (Check (check.Final u))
stopped (check.Wide spot) = Exceeded (Wide spot)

abbrev picked : Option RowFault → (many : Bool) → (count : ℕ) → Option (ℕ × Operation) → Option CheckFault → Status
picked (Some f) many count w stop = Certificate (Rows f)
picked None true count w stop = Certificate (Unknowns count)
picked None false count (Some w) stop = Exceeded (Wide (composition_spot w))
picked None false count None (Some fault) = stopped fault
picked None false count None None = Done

abbrev last_ending : List (List ℕ) → Statements → Cert → Status
last_ending names body cert =
    picked (slice_get (faults_of (length names) cert.rows) 0) (nat_lt MOST_UNKNOWNS (unknowns body cert.rows)) (unknowns body cert.rows)
    (wide_composition (system_with names body cert)) (first_stop (check_events (system_with names body cert) (theirs cert)))

rows_picked : (f : RowFault) (o : Option RowFault) (m : Bool) (count : ℕ) (w : Option (ℕ × Operation)) (s : Option CheckFault) → o ≡ Some f
    → Certificate (Rows f) ≡ picked o m count w s
rows_picked f o m count w s e = subst (λ o. Certificate (Rows f) ≡ picked o m count w s) (sym e) refl

many_picked : (o : Option RowFault) (m : Bool) (count : ℕ) (w : Option (ℕ × Operation)) (s : Option CheckFault) → o ≡ None → m ≡ true
    → Certificate (Unknowns count) ≡ picked o m count w s
many_picked o m count w s e h =
    subst (λ o. Certificate (Unknowns count) ≡ picked o m count w s) (sym e)
    (subst (λ m. Certificate (Unknowns count) ≡ picked None m count w s) (sym h) refl)

composed_picked : (x : ℕ × Operation) (o : Option RowFault) (m : Bool) (count : ℕ) (w : Option (ℕ × Operation)) (s : Option CheckFault)
    → o ≡ None → m ≡ false → w ≡ Some x
    → Exceeded (Wide (composition_spot x)) ≡ picked o m count w s
composed_picked x o m count w s e h k =
    subst (λ o. Exceeded (Wide (composition_spot x)) ≡ picked o m count w s) (sym e)
    (subst (λ m. Exceeded (Wide (composition_spot x)) ≡ picked None m count w s) (sym h)
    (subst (λ w. Exceeded (Wide (composition_spot x)) ≡ picked None false count w s) (sym k) refl))

stopped_picked : (f : CheckFault) (o : Option RowFault) (m : Bool) (count : ℕ) (w : Option (ℕ × Operation)) (s : Option CheckFault)
    → o ≡ None → m ≡ false → w ≡ None → s ≡ Some f
    → stopped f ≡ picked o m count w s
stopped_picked f o m count w s e h k i =
    subst (λ o. stopped f ≡ picked o m count w s) (sym e) (subst (λ m. stopped f ≡ picked None m count w s) (sym h)
    (subst (λ w. stopped f ≡ picked None false count w s) (sym k) (subst (λ s. stopped f ≡ picked None false count None s) (sym i) refl)))

done_picked : (o : Option RowFault) (m : Bool) (count : ℕ) (w : Option (ℕ × Operation)) (s : Option CheckFault) → o ≡ None → m ≡ false
    → w ≡ None → s ≡ None → Done ≡ picked o m count w s
done_picked o m count w s e h k i =
    subst (λ o. Done ≡ picked o m count w s) (sym e) (subst (λ m. Done ≡ picked None m count w s) (sym h)
    (subst (λ w. Done ≡ picked None false count w s) (sym k) (subst (λ s. Done ≡ picked None false count None s) (sym i) refl)))

above : (u : ℕ) → MOST_UNKNOWNS < u → nat_lt MOST_UNKNOWNS u ≡ true
above u h = grind arith

within : (u : ℕ) → u ≤ MOST_UNKNOWNS → nat_lt MOST_UNKNOWNS u ≡ false
within u h = grind arith

sound_rows : (fs : List RowFault) → fs ≡ [] → slice_get fs 0 ≡ None
sound_rows fs e = ap (λ fs. slice_get fs 0) e

-- a test's answer refuses the certificate
fault_stopped : (f : Fault) → stopped (fault_answer f) ≡ Certificate (Check (fault_answer f))
fault_stopped SizeFault = refl
fault_stopped (TraceFault s k) = refl
fault_stopped (LowFault s k) = refl
fault_stopped (HighFault s k) = refl
fault_stopped (RayFault s k) = refl
fault_stopped (FinalFault u) = refl
fault_stopped (UpperFault u e) = refl

spot_is : (spot : Spot) (edge : ℕ) → spot.round ≡ 0 → spot.site ≡ Compose edge
    → spot ≡ composition_spot (edge, operation_of (λ q. q) spot.wide)
spot_is spot edge e h = ap₂ (λ r s. record { round = r; site = s; wide = spot.wide }) e h

-- the ending of a written certificate
abbrev written_ending : List (List ℕ) → Statements → WrittenCert → Status
written_ending names body written = last_ending names body (fitted_to names body written)

-- ---- the stages before

-- the bytes spell no certificate, or one, from which this ending follows
pub data CertEnds (bytes : List ℕ) (last : WrittenCert → Status) (s : Status) : Type 0 where
  unspelt : (f : FormFault) → IsFormFault bytes f → s ≡ Certificate (Form f) → CertEnds bytes last s
  spelt : (cert : WrittenCert) → SpellsCert bytes cert → s ≡ last cert → CertEnds bytes last s

-- the program is refused, or its points and edges are within the limits
pub data CheckEnds (t : Program) (bytes : List ℕ) (s : Status) : Type 0 where
  refused : (c : TextCause) → IsRefusedProgram t c → s ≡ Text c → CheckEnds t bytes s
  program : (names : List (List ℕ)) (body : Statements) → IsAnalysed t names body → CertEnds bytes (written_ending names body) s
      → CheckEnds t bytes s

-- the bytes of a certificate have one ending, where what follows has one
pub cert_ends_once : (bytes : List ℕ) (last : WrittenCert → Status) (s u : Status) → CertEnds bytes last s → CertEnds bytes last u → s ≡ u
cert_ends_once bytes last s u (unspelt f h e) (unspelt g k i) = e ∙ ap (λ x. Certificate (Form x)) (form_fault_once bytes f g h k) ∙ sym i
cert_ends_once bytes last s u (unspelt f h e) (spelt c k i) = absurd (not_spelt bytes f c h k)
cert_ends_once bytes last s u (spelt c h e) (unspelt f k i) = absurd (not_spelt bytes f c k h)
cert_ends_once bytes last s u (spelt c h e) (spelt d k i) = e ∙ ap last (one_reading bytes c d h k) ∙ sym i

-- a program and a certificate's bytes have one ending by stages
pub check_ends_once : (t : Program) (bytes : List ℕ) (s u : Status) → CheckEnds t bytes s → CheckEnds t bytes u → s ≡ u
check_ends_once t bytes s u (refused c h e) (refused d k i) = e ∙ ap (λ x. Text x) (program_refused_once t c d h k) ∙ sym i
check_ends_once t bytes s u (refused c h e) (program names body a i) = absurd (analysed_unrefused t names body c h a)
check_ends_once t bytes s u (program names body a e) (refused c k i) = absurd (analysed_unrefused t names body c k a)
check_ends_once t bytes s u (program names body a e) (program others other b i) =
    cert_ends_once bytes (written_ending names body) s u e
    (subst (λ (p : List (List ℕ) × Statements). CertEnds bytes (written_ending p.0 p.1) u)
    (program_once t (others, other) (names, body) b.has_core a.has_core) i)

-- ---- an ending by its cause is one by stages

spelt_ends : (t : Program) (bytes : List ℕ) (names : List (List ℕ)) (body : Statements) (cert : Cert) (s : Status) → IsAnalysed t names body
    → SpellsFor names body bytes cert → s ≡ last_ending names body cert → CheckEnds t bytes s
spelt_ends t bytes names body cert s a c e =
    program names body a (spelt c.written c.spells (e ∙ ap (last_ending names body) c.fitted))

wide_spot : (names : List (List ℕ)) (body : Statements) (cert : Cert) (spot : Spot) → faults_of (length names) cert.rows ≡ []
    → unknowns body cert.rows ≤ MOST_UNKNOWNS
    → IsCompositionSpot (system_with names body cert) spot → Exceeded (Wide spot) ≡ last_ending names body cert
wide_spot names body cert spot r w h =
    ap (λ s. Exceeded (Wide s)) (spot_is spot h.edge h.round h.site)
    ∙ composed_picked (h.edge, operation_of (λ q. q) spot.wide) _ _ _ _ _ (sound_rows _ r) (within _ w) h.wide

-- the ending of a check is an ending by stages
pub check_staged : (t : Program) (bytes : List ℕ) (s : Status) → CheckEnd t bytes s → CheckEnds t bytes s
check_staged t bytes Done (names, body, cert, v, n) =
    spelt_ends t bytes names body cert Done v.system.spelt.analysed v.system.spelt.spells
    (done_picked _ _ _ _ _ (sound_rows _ v.system.rows) (within _ v.system.within) n.composition
    ((unstopped_is_valid (system_with names body cert) (theirs cert)).1 (v.valid, n.sums)))
check_staged t bytes (Certificate (Form f)) (names, body, a, h) = program names body a (unspelt f h refl)
check_staged t bytes (Certificate (Rows f)) (names, body, cert, y, e) =
    spelt_ends t bytes names body cert (Certificate (Rows f)) y.analysed y.spells (rows_picked f _ _ _ _ _ e)
check_staged t bytes (Certificate (Unknowns count)) (names, body, cert, y, r, h, e) =
    spelt_ends t bytes names body cert (Certificate (Unknowns count)) y.analysed y.spells
    (ap (λ c. Certificate (Unknowns c)) e ∙ many_picked _ _ _ _ _ (sound_rows _ r) (above _ h))
check_staged t bytes (Certificate (Check f)) (names, body, cert, y, (fault, e, stop)) =
    spelt_ends t bytes names body cert (Certificate (Check f)) y.spelt.analysed y.spelt.spells
    (ap (λ x. Certificate (Check x)) e ∙ sym (fault_stopped fault) ∙ stopped_picked (fault_answer fault) _ _ _ _ _ (sound_rows _ y.rows)
    (within _ y.within) stop.composition stop.stop)
check_staged t bytes Open h = absurd h
check_staged t bytes Usage h = absurd h
check_staged t bytes (Read cause) h = absurd h
check_staged t bytes (Text cause) h = refused cause h refl
check_staged t bytes (Exceeded (Wide spot)) (names, body, cert, y, h) =
    spelt_ends t bytes names body cert (Exceeded (Wide spot)) y.spelt.analysed y.spelt.spells
    (⊎_elim (λ c. wide_spot names body cert spot y.rows y.within c)
    (λ c. stopped_picked (check.Wide spot) _ _ _ _ _ (sound_rows _ y.rows) (within _ y.within) c.composition c.stop) h)
check_staged t bytes (Exceeded (Large cells)) h = absurd h
check_staged t bytes (Spent n) h = absurd h
check_staged t bytes Memory h = absurd h
check_staged t bytes Write h = absurd h

-- the ending of an upgrade is an ending by stages
pub upgrade_staged : (bytes : List ℕ) (s : Status) → UpgradeEnd bytes s → CertEnds bytes (λ cert. Done) s
upgrade_staged bytes Done (written, u) = spelt u.cert u.spells refl
upgrade_staged bytes (Certificate (Form f)) h = unspelt f h refl
upgrade_staged bytes (Certificate (Rows f)) h = absurd h
upgrade_staged bytes (Certificate (Unknowns count)) h = absurd h
upgrade_staged bytes (Certificate (Check f)) h = absurd h
upgrade_staged bytes Open h = absurd h
upgrade_staged bytes Usage h = absurd h
upgrade_staged bytes (Read cause) h = absurd h
upgrade_staged bytes (Text cause) h = absurd h
upgrade_staged bytes (Exceeded excess) h = absurd h
upgrade_staged bytes (Spent n) h = absurd h
upgrade_staged bytes Memory h = absurd h
upgrade_staged bytes Write h = absurd h
