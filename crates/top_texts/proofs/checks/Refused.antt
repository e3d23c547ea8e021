-- Refusals, from one stage to the next.
use Rattle.std.proofs.Common.{◌≡◌, ⊎_elim, ℕ, List, refl, ap, ◌∙◌}
use Rattle.std.specs.Prelude.{None, Some, Ok, Err}
use Rattle.lang_tree.specs.Tree.{Statements}
use Rattle.flow_systems.specs.declared.spot.Spot.{Spot}
use Rattle.flow_systems.specs.Equations.{Equations}
use Rattle.theory_validity.specs.Certificates.{Certificate as TheoryCertificate}
use Rattle.cert_checker.specs.CheckEvents.{check_events}
use Rattle.cert_checker.proofs.events.CheckTests.{stops_are_faults}
use Rattle.cert_checker.specs.Events.{fault_answer, first_stop}
use Rattle.cert_checker.specs.declared.fault.CheckFault.{CheckFault}
use Rattle.cert_checker.specs.declared.fault.CheckFault.TheVariants as check
use Rattle.theory_validity.specs.Faults.{Fault, SizeFault, TraceFault, LowFault, HighFault, RayFault, FinalFault, UpperFault}
use Rattle.solve_composition.specs.Operations.{wide_composition}
use Rattle.cert_types.specs.declared.cert.Cert.{Cert}
use Rattle.ask_words.specs.declared.request.Domain.{Domain}
use Rattle.top_texts.specs.Checks.{IsSpelt, IsSystemWith, system_with, theirs}
use Rattle.top_status.specs.CheckMessages.{rows_in}
use Rattle.top_status.specs.Messages.{line_in}
use Rattle.top_texts.specs.Outcomes.{GetsNoReport, HasNoFlow, HasNoRows, HasNoSystemOver, IsAnswerToCheck, IsMisspelt, IsNoSystem}
use Rattle.top_texts.specs.Outcomes.{IsRefusedBy, IsUnaccepted, IsUnread, IsUnspelt}
use Rattle.top_texts.specs.Outcomes.{refused}
use Rattle.top_texts.specs.Texts.{HasCore, HasGroups, IsAnalysed, Program, Serve}
use Rattle.top_texts.proofs.texts.Readings.{template_served}
use Rattle.top_texts.specs.declared.refusal.Refusal.{Refusal}
use Rattle.top_texts.specs.declared.refusal.Refusal.TheVariants as refusal
use Rattle.top_status.specs.declared.status.TextCause.TheVariants as text
use Rattle.top_status.specs.declared.status.CertCause.TheVariants.{Form, Rows, Unknowns, Check}
use Rattle.top_status.specs.declared.status.Excess.TheVariants.{Wide, Large}
use Rattle.top_status.specs.declared.status.Status.{Status}
use Rattle.top_status.specs.declared.status.Status.TheVariants.{Done, Write}

-- ---- no refusal is done

-- the status of a refusal is not that of success
pub not_done : (r : Refusal) (s : Status) → s ≡ refused r → s ≡ Done → ⊥
not_done (refusal.Text cause) s e d = cc
not_done (refusal.Certificate cause) s e d = cc
not_done (refusal.Exceeded excess) s e d = cc
not_done (refusal.Spent number) s e d = cc
not_done refusal.NoMemory s e d = cc

-- ---- a program

-- a program that cannot be read is refused
pub unread_refuses : (t : Program) (rows : Domain (List ℕ)) (r : Refusal) → IsUnread t r → IsRefusedBy t rows r
unread_refuses t rows (refusal.Text (text.Lex f)) h = h
unread_refuses t rows (refusal.Text (text.Source f)) h = h
unread_refuses t rows (refusal.Text (text.Flow f)) h = h
unread_refuses t rows (refusal.Text (text.Rows f)) h = absurd h
unread_refuses t rows (refusal.Text (text.Unknowns c)) h = absurd h
unread_refuses t rows (refusal.Text (text.Claims f)) h = absurd h
unread_refuses t rows (refusal.Text (text.Equ f)) h = absurd h
unread_refuses t rows (refusal.Text (text.Auto f)) h = absurd h
unread_refuses t rows (refusal.Certificate c) h = absurd h
unread_refuses t rows (refusal.Exceeded excess) h = absurd h
unread_refuses t rows (refusal.Spent k) h = absurd h
unread_refuses t rows refusal.NoMemory h = tt

-- with a program that cannot be read bytes spell no check
pub unread_unspelt : (t : Program) (bytes : List ℕ) (r : Refusal) → IsUnread t r → IsUnspelt t bytes r
unread_unspelt t bytes (refusal.Text c) h = h
unread_unspelt t bytes (refusal.Certificate c) h = absurd h
unread_unspelt t bytes (refusal.Exceeded excess) h = absurd h
unread_unspelt t bytes (refusal.Spent k) h = absurd h
unread_unspelt t bytes refusal.NoMemory h = tt

-- a program whose core has no points and edges within the limits cannot be read
pub flowless_unread : (t : Program) (names : List (List ℕ)) (body : Statements) (r : Refusal) → HasCore t names body → HasNoFlow body r
    → IsUnread t r
flowless_unread t names body (refusal.Text (text.Lex f)) c h = absurd h
flowless_unread t names body (refusal.Text (text.Source f)) c h = absurd h
flowless_unread t names body (refusal.Text (text.Flow f)) c h = (names, body, c, h)
flowless_unread t names body (refusal.Text (text.Rows f)) c h = absurd h
flowless_unread t names body (refusal.Text (text.Unknowns n)) c h = absurd h
flowless_unread t names body (refusal.Text (text.Claims f)) c h = absurd h
flowless_unread t names body (refusal.Text (text.Equ f)) c h = absurd h
flowless_unread t names body (refusal.Text (text.Auto f)) c h = absurd h
flowless_unread t names body (refusal.Certificate f) c h = absurd h
flowless_unread t names body (refusal.Exceeded excess) c h = absurd h
flowless_unread t names body (refusal.Spent k) c h = absurd h
flowless_unread t names body refusal.NoMemory c h = tt

module _ (t : Program) (groups : List (List ℕ)) (rows : Domain (List ℕ)) (names : List (List ℕ)) (body : Statements)
    (serve : Serve (HasGroups t names) rows groups) where
  rowless_refused : (r : Refusal) → IsAnalysed t names body → HasNoRows groups rows names body r → IsRefusedBy t rows r
  rowless_refused (refusal.Text (text.Lex f)) a h = absurd h
  rowless_refused (refusal.Text (text.Source f)) a h = absurd h
  rowless_refused (refusal.Text (text.Flow f)) a h = absurd h
  rowless_refused (refusal.Text (text.Rows f)) a h =
      (names, body, a, template_served (HasGroups t names) rows names groups (Err f) serve h)
  rowless_refused (refusal.Text (text.Unknowns n)) a (template, is, many, count) = (
    names,
    body,
    template,
    record { analysed = a; template_is = template_served (HasGroups t names) rows names groups (Ok template) serve is },
    many,
    count,
  )
  rowless_refused (refusal.Text (text.Claims f)) a h = absurd h
  rowless_refused (refusal.Text (text.Equ f)) a h = absurd h
  rowless_refused (refusal.Text (text.Auto f)) a h = absurd h
  rowless_refused (refusal.Certificate f) a h = absurd h
  rowless_refused (refusal.Exceeded excess) a h = absurd h
  rowless_refused (refusal.Spent k) a h = absurd h
  rowless_refused refusal.NoMemory a h = tt

  -- a program whose core has no system is refused
  pub systemless_refused : (r : Refusal) → HasCore t names body → HasNoSystemOver groups rows names body r → IsRefusedBy t rows r
  systemless_refused r c h =
      ⊎_elim (λ f. unread_refuses t rows r (flowless_unread t names body r c f))
      (λ n. rowless_refused r (record { has_core = c; within = n.0 }) n.1) h

-- ---- the form of a certificate

-- bytes that are misspelt spell no check
pub misspelt_unspelt : (t : Program) (bytes : List ℕ) (names : List (List ℕ)) (body : Statements) (r : Refusal) → IsAnalysed t names body
    → IsMisspelt bytes r → IsUnspelt t bytes r
misspelt_unspelt t bytes names body (refusal.Text c) a h = absurd h
misspelt_unspelt t bytes names body (refusal.Certificate (Form f)) a h = (names, body, a, h)
misspelt_unspelt t bytes names body (refusal.Certificate (Rows f)) a h = absurd h
misspelt_unspelt t bytes names body (refusal.Certificate (Unknowns c)) a h = absurd h
misspelt_unspelt t bytes names body (refusal.Certificate (Check f)) a h = absurd h
misspelt_unspelt t bytes names body (refusal.Exceeded excess) a h = absurd h
misspelt_unspelt t bytes names body (refusal.Spent k) a h = absurd h
misspelt_unspelt t bytes names body refusal.NoMemory a h = tt

-- ---- the check

-- an answer that isn't wide is that of a test
answer_is : (x : CheckFault) → ((spot : Spot) → x ≡ check.Wide spot → ⊥) → (f : Fault) × (x ≡ fault_answer f)
answer_is check.Size n = (SizeFault, refl)
answer_is (check.Trace s k) n = (TraceFault s k, refl)
answer_is (check.Low s k) n = (LowFault s k, refl)
answer_is (check.High s k) n = (HighFault s k, refl)
answer_is (check.Ray s k) n = (RayFault s k, refl)
answer_is (check.Upper u e) n = (UpperFault u e, refl)
answer_is (check.Final u) n = (FinalFault u, refl)
answer_is (check.Wide spot) n = absurd (n spot refl)

-- a check that is refused but not as wide has no wide composition
pub check_refused : (system : Equations) (certificate : TheoryCertificate) (x : CheckFault) → ((spot : Spot) → x ≡ check.Wide spot → ⊥)
    → wide_composition system ≡ None
    → first_stop (check_events system certificate) ≡ Some x → IsUnaccepted system certificate (refusal.Certificate (Check x))
check_refused system certificate x n composition stop =
    let a = answer_is x n in
    let at : first_stop (check_events system certificate) ≡ Some (fault_answer a.0) = stop ∙ ap Some a.1 in
    (a.0, a.1, record { first = stops_are_faults system certificate a.0 at; composition = composition; stop = at })

-- ---- the answers

-- texts that spell no check answer with their refusal
pub unspelt_answers : (t : Program) (bytes : List ℕ) (r : Refusal) → IsUnspelt t bytes r → IsAnswerToCheck t bytes (refused r)
unspelt_answers t bytes (refusal.Text c) h = h
unspelt_answers t bytes (refusal.Certificate (Form f)) h = h
unspelt_answers t bytes (refusal.Certificate (Rows f)) h = absurd h
unspelt_answers t bytes (refusal.Certificate (Unknowns c)) h = absurd h
unspelt_answers t bytes (refusal.Certificate (Check f)) h = absurd h
unspelt_answers t bytes (refusal.Exceeded excess) h = absurd h
unspelt_answers t bytes (refusal.Spent k) h = absurd h
unspelt_answers t bytes refusal.NoMemory h = tt

-- what is refused before the certificate is known names no unknown
pub unspelt_rows : (t : Program) (bytes : List ℕ) (r : Refusal) (cert : Cert) → IsUnspelt t bytes r → 0 ≡ rows_in cert (refused r)
unspelt_rows t bytes (refusal.Text c) cert h = refl
unspelt_rows t bytes (refusal.Certificate (Form f)) cert h = refl
unspelt_rows t bytes (refusal.Certificate (Rows f)) cert h = absurd h
unspelt_rows t bytes (refusal.Certificate (Unknowns c)) cert h = absurd h
unspelt_rows t bytes (refusal.Certificate (Check f)) cert h = absurd h
unspelt_rows t bytes (refusal.Exceeded excess) cert h = absurd h
unspelt_rows t bytes (refusal.Spent k) cert h = absurd h
unspelt_rows t bytes refusal.NoMemory cert h = refl

no_system_answers : (t : Program) (bytes : List ℕ) (names : List (List ℕ)) (body : Statements) (cert : Cert) (r : Refusal)
    → IsSpelt t bytes names body cert → IsNoSystem names body cert r → IsAnswerToCheck t bytes (refused r)
no_system_answers t bytes names body cert (refusal.Text c) y h = absurd h
no_system_answers t bytes names body cert (refusal.Certificate (Form f)) y h = absurd h
no_system_answers t bytes names body cert (refusal.Certificate (Rows f)) y h = (names, body, cert, y, h)
no_system_answers t bytes names body cert (refusal.Certificate (Unknowns c)) y h = (names, body, cert, y, h.0, h.1, h.2)
no_system_answers t bytes names body cert (refusal.Certificate (Check f)) y h = absurd h
no_system_answers t bytes names body cert (refusal.Exceeded excess) y h = absurd h
no_system_answers t bytes names body cert (refusal.Spent k) y h = absurd h
no_system_answers t bytes names body cert refusal.NoMemory y h = tt

unaccepted_answers : (t : Program) (bytes : List ℕ) (names : List (List ℕ)) (body : Statements) (cert : Cert) (r : Refusal)
    → IsSystemWith t bytes names body cert
    → IsUnaccepted (system_with names body cert) (theirs cert) r → IsAnswerToCheck t bytes (refused r)
unaccepted_answers t bytes names body cert (refusal.Text c) y h = absurd h
unaccepted_answers t bytes names body cert (refusal.Certificate (Form f)) y h = absurd h
unaccepted_answers t bytes names body cert (refusal.Certificate (Rows f)) y h = absurd h
unaccepted_answers t bytes names body cert (refusal.Certificate (Unknowns c)) y h = absurd h
unaccepted_answers t bytes names body cert (refusal.Certificate (Check f)) y h = (names, body, cert, y, h)
unaccepted_answers t bytes names body cert (refusal.Exceeded (Wide spot)) y h = (names, body, cert, y, h)
unaccepted_answers t bytes names body cert (refusal.Exceeded (Large cells)) y h = absurd h
unaccepted_answers t bytes names body cert (refusal.Spent k) y h = absurd h
unaccepted_answers t bytes names body cert refusal.NoMemory y h = tt

-- a certificate that gets no report answers with its refusal
pub unreported_answers : (t : Program) (bytes : List ℕ) (names : List (List ℕ)) (body : Statements) (cert : Cert) (r : Refusal)
    → IsSpelt t bytes names body cert → GetsNoReport names body cert r
    → IsAnswerToCheck t bytes (refused r)
unreported_answers t bytes names body cert r y h =
    ⊎_elim (λ a. no_system_answers t bytes names body cert r y a)
    (λ a. unaccepted_answers t bytes names body cert r (record { spelt = y; rows = a.0.rows; within = a.0.within }) a.1) h

-- a check has no line once the certificate is known
no_system_line : (t : List ℕ) (names : List (List ℕ)) (body : Statements) (cert : Cert) (r : Refusal) → IsNoSystem names body cert r
    → 0 ≡ line_in t (refused r)
no_system_line t names body cert (refusal.Text c) h = absurd h
no_system_line t names body cert (refusal.Certificate c) h = refl
no_system_line t names body cert (refusal.Exceeded excess) h = refl
no_system_line t names body cert (refusal.Spent k) h = refl
no_system_line t names body cert refusal.NoMemory h = refl

unaccepted_line : (t : List ℕ) (names : List (List ℕ)) (body : Statements) (cert : Cert) (r : Refusal)
    → IsUnaccepted (system_with names body cert) (theirs cert) r → 0 ≡ line_in t (refused r)
unaccepted_line t names body cert (refusal.Text c) h = absurd h
unaccepted_line t names body cert (refusal.Certificate c) h = refl
unaccepted_line t names body cert (refusal.Exceeded excess) h = refl
unaccepted_line t names body cert (refusal.Spent k) h = refl
unaccepted_line t names body cert refusal.NoMemory h = refl

-- a certificate that gets no report names no line
pub unreported_line : (t : List ℕ) (names : List (List ℕ)) (body : Statements) (cert : Cert) (r : Refusal) → GetsNoReport names body cert r
    → 0 ≡ line_in t (refused r)
unreported_line t names body cert r h = ⊎_elim (λ a. no_system_line t names body cert r a) (λ a. unaccepted_line t names body cert r a.1) h

-- ---- no refusal says that the output failed

-- no refusal is a failure to write
pub not_written : (r : Refusal) → refused r ≡ Write → ⊥
not_written (refusal.Text c) e = cc
not_written (refusal.Certificate c) e = cc
not_written (refusal.Exceeded excess) e = cc
not_written (refusal.Spent k) e = cc
not_written refusal.NoMemory e = cc
