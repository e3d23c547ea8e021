-- What the calls answer, part by part: what is put, or why nothing is.
use Rattle.std.specs.Prelude.{◌≡◌, ◌≤◌, ◌<◌, ◌⊎◌, ℕ, ℤ, List, [], IsTrue, Ok, Err, None, Some, length, slice_get}
use Rattle.lang_tree.specs.Tree.{Statements}
use Rattle.flow_edges.specs.declared.checked.CheckCases.{CheckCases}
use Rattle.flow_edges.specs.Faults.{fault_of_program}
use Rattle.flow_templates.specs.RowFaults.{faults_of}
use Rattle.flow_templates.specs.Rows.{is_template}
use Rattle.base_numbers.specs.Extended.{Ext}
use Rattle.flow_systems.specs.declared.footer.Footer.TheVariants.{Improvements}
use Rattle.flow_systems.specs.declared.system.System.{System}
use Rattle.flow_systems.specs.Equations.{Equations, Least, Vector}
use Rattle.flow_systems.specs.View.{equations_of, vector_of}
use Rattle.theory_validity.specs.Certificates.{Certificate as TheoryCertificate, ValidCertificate}
use Rattle.cert_types.specs.declared.cert.Cert.{Cert}
use Rattle.serde_json.specs.Written.{compact_text}
use Rattle.cert_text.specs.Certificates.{IsBeyond, IsWithin, SpellsCert, SpellsTooMany, cert_data}
use Rattle.cert_written.specs.Bare.{bare_cert}
use Rattle.cert_fitted.specs.Dense.{dense_cert}
use Rattle.solve_rounds.specs.declared.solution.Solved.{Solved}
use Rattle.solve_rounds.specs.Solutions.{IsSolved, cert_with, made_certificate}
use Rattle.ask_claims.specs.declared.claim.Claim.{Claim}
use Rattle.ask_words.specs.declared.format.Format.{Format}
use Rattle.ask_words.specs.declared.request.Domain.{Domain}
use Rattle.ask_words.specs.declared.request.Policy.{Policy}
use Rattle.top_texts.specs.Checks.{IsCheckSpot, IsCompositionSpot, IsFormFault, IsRefusedCertificate, NoneIsWide, IsStopped, system_with}
use Rattle.top_texts.specs.Checks.{theirs}
use Rattle.top_texts.specs.Endings.{CheckEnd, UpgradeEnd}
use Rattle.top_texts.specs.FunctionTexts.{AreNoFunctions}
use Rattle.top_written.specs.Formats.{report_of_in}
use Rattle.top_texts.specs.Questions.{IsExcessIn, Question, QuestionEnds}
use Rattle.top_texts.specs.Policies.{rule_of}
use Rattle.top_texts.specs.Rounds.{EndsWithin, HasRounds, IsSystemFor, RunsOut}
use Rattle.top_texts.specs.Spots.{HasExcess, IsWideFor, IsWideOn}
use Rattle.top_texts.specs.TransitionTexts.{AreNoTransitions}
use Rattle.top_texts.specs.Texts.{HasTemplateBy, IsRefused, IsRefusedProgram, Program, unknowns}
use Rattle.ask_words.specs.declared.request.Purpose.{Purpose}
use Rattle.ask_words.specs.declared.request.Purpose.TheVariants.{Report, Certificate as AsCertificate}
use Rattle.top_status.specs.declared.status.CertCause.TheVariants as form
use Rattle.top_status.specs.declared.status.Excess.TheVariants.{Wide}
use Rattle.top_status.specs.declared.status.TextCause.TheVariants as why
use Rattle.top_status.specs.declared.status.Status.{Status}
use Rattle.top_status.specs.declared.status.Status.TheVariants as status
use Rattle.top_texts.specs.declared.refusal.Refusal.{Refusal}
use Rattle.top_texts.specs.declared.refusal.Refusal.TheVariants.{Text, Certificate, Exceeded, Spent, NoMemory}
use Rattle.flow_systems.specs.declared.limits.TheConstants.{MOST_UNKNOWNS}

-- the program is refused by this cause; want of memory needs none
abbrev pub IsUnread : Program → Refusal → Type 0
IsUnread program (Text cause) = IsRefusedProgram program cause
IsUnread program NoMemory = Unit {0}
IsUnread program _ = ⊥

-- the texts are refused by this cause before there is a system; want of memory needs none
abbrev pub IsRefusedBy : Program → Domain (List ℕ) → Refusal → Type 0
IsRefusedBy program rows (Text cause) = IsRefused program rows cause
IsRefusedBy program rows NoMemory = Unit {0}
IsRefusedBy program rows _ = ⊥

-- the points and edges of a core are beyond the limits, by this cause; want of memory needs none
abbrev pub HasNoFlow : Statements → Refusal → Type 0
HasNoFlow body (Text (why.Flow fault)) = fault_of_program body ≡ Some fault
HasNoFlow body NoMemory = Unit {0}
HasNoFlow body _ = ⊥

-- the points and edges of a core within their limits have no system over the rows of these groups, by this cause; want of memory needs none
abbrev pub HasNoRows : List (List ℕ) → Domain (List ℕ) → List (List ℕ) → Statements → Refusal → Type 0
HasNoRows groups rows names body (Text (why.Rows fault)) = HasTemplateBy groups rows names (Err fault)
HasNoRows groups rows names body (Text (why.Unknowns count)) =
    (template : List (List ℤ)) × HasTemplateBy groups rows names (Ok template) × (MOST_UNKNOWNS < unknowns body template)
    × (count ≡ unknowns body template)
HasNoRows groups rows names body NoMemory = Unit {0}
HasNoRows groups rows names body _ = ⊥

-- a core has no system over the rows of these groups, by this cause
abbrev pub HasNoSystemOver : List (List ℕ) → Domain (List ℕ) → List (List ℕ) → Statements → Refusal → Type 0
HasNoSystemOver groups rows names body refusal =
    HasNoFlow body refusal ⊎ ((fault_of_program body ≡ None) × HasNoRows groups rows names body refusal)

-- a core has this system over the rows of these groups
pub record HasSystemOver (groups : List (List ℕ)) (rows : Domain (List ℕ)) (names : List (List ℕ)) (body : Statements) (system : System)
    : Type 0 where
  pub flows : fault_of_program body ≡ None
  pub template : List (List ℤ)
  pub template_is : HasTemplateBy groups rows names (Ok template)
  pub within : unknowns body template ≤ MOST_UNKNOWNS
  pub system_for : IsSystemFor names body template system

-- the texts of a transition system and of its rows are refused by this cause before there is a system; want of memory needs none
abbrev pub IsRefusedAlong : List ℕ → Domain (List ℕ) → Refusal → Type 0
IsRefusedAlong text rows (Text cause) = AreNoTransitions text rows cause
IsRefusedAlong text rows NoMemory = Unit {0}
IsRefusedAlong text rows _ = ⊥

-- why the analysis of a system has no end; want of memory needs none
abbrev pub IsHalted : Purpose → System → Policy → ℕ → Refusal → Type 0
IsHalted purpose system policy limit (Exceeded excess) = HasExcess purpose system policy limit excess
IsHalted purpose system policy limit (Spent number) = RunsOut system policy limit × (number ≡ limit)
IsHalted purpose system policy limit NoMemory = Unit {0}
IsHalted purpose system policy limit _ = ⊥

-- the bytes are the report of the least vector of a system in a format, with the number of its rounds
pub record IsRoundsReport (system : System) (policy : Policy) (limit : ℕ) (format : Format) (bytes : List ℕ) : Type 0 where
  pub rounds : ℕ
  pub within : rounds ≤ limit
  pub bounds : List Ext
  pub has_rounds : HasRounds system policy rounds (vector_of (length system.template) bounds)
  pub least : Least (equations_of system) (vector_of (length system.template) bounds)
  pub report : bytes ≡ report_of_in format system (vector_of (length system.template) bounds) (Improvements rounds)

-- the bytes are the certificate that the rounds over a system make; it is valid, no sum of its check is wide, and the bytes spell it
-- unless its traces hold too many values
pub record IsRoundsCertificate (system : System) (policy : Policy) (limit : ℕ) (bytes : List ℕ) : Type 0 where
  pub solved : Solved
  pub is_solved : IsSolved system (rule_of policy) limit solved
  pub template : IsTrue (is_template system.template)
  pub written : bytes ≡ compact_text (cert_data (dense_cert (cert_with system solved)))
  pub spells : IsWithin (dense_cert (cert_with system solved)) → SpellsCert bytes (bare_cert (dense_cert (cert_with system solved)))
  pub expands : IsBeyond (dense_cert (cert_with system solved)) → SpellsTooMany bytes
  pub valid : ValidCertificate (equations_of system) (made_certificate system solved)
  pub narrow : NoneIsWide (equations_of system) (made_certificate system solved)
  pub least : Least (equations_of system) (vector_of (length system.template) solved.bounds)

-- what is put of the analysis of a system
abbrev pub IsOutputOf : Purpose → System → Policy → ℕ → Format → List ℕ → Type 0
IsOutputOf Report system policy limit format bytes = IsRoundsReport system policy limit format bytes
IsOutputOf AsCertificate system policy limit format bytes = IsRoundsCertificate system policy limit bytes

-- the bytes spell no certificate, by this cause; want of memory needs none
abbrev pub IsMisspelt : List ℕ → Refusal → Type 0
IsMisspelt bytes (Certificate (form.Form fault)) = IsFormFault bytes fault
IsMisspelt bytes NoMemory = Unit {0}
IsMisspelt bytes _ = ⊥

-- the program or the bytes are refused before the certificate's rows are seen
abbrev pub IsUnspelt : Program → List ℕ → Refusal → Type 0
IsUnspelt program bytes (Text cause) = IsRefusedProgram program cause
IsUnspelt program bytes (Certificate (form.Form fault)) = IsRefusedCertificate program bytes (form.Form fault)
IsUnspelt program bytes NoMemory = Unit {0}
IsUnspelt program bytes _ = ⊥

-- the rows of a certificate are a template over a program's variables, with few enough unknowns
pub record FitsProgram (names : List (List ℕ)) (body : Statements) (cert : Cert) : Type 0 where
  pub rows : faults_of (length names) cert.rows ≡ []
  pub within : unknowns body cert.rows ≤ MOST_UNKNOWNS

-- why there are no verdicts on claims at a vector; want of memory needs none
abbrev pub AreUnjudged : Equations → Vector → List Claim → Refusal → Type 0
AreUnjudged system vector claims (Exceeded (Wide spot)) = IsWideFor system vector claims spot
AreUnjudged system vector claims NoMemory = Unit {0}
AreUnjudged system vector claims _ = ⊥

-- why there are no verdicts on checks at a vector; want of memory needs none
abbrev pub AreUnverified : Equations → Vector → List CheckCases → Refusal → Type 0
AreUnverified system vector checks (Exceeded (Wide spot)) = IsWideOn system vector checks spot
AreUnverified system vector checks NoMemory = Unit {0}
AreUnverified system vector checks _ = ⊥

-- why a system and a certificate aren't accepted
abbrev pub IsUnaccepted : Equations → TheoryCertificate → Refusal → Type 0
IsUnaccepted system certificate (Certificate (form.Check fault)) = IsStopped system certificate fault
IsUnaccepted system certificate (Exceeded (Wide spot)) = IsCompositionSpot system spot ⊎ IsCheckSpot system certificate spot
IsUnaccepted system certificate NoMemory = Unit {0}
IsUnaccepted system certificate _ = ⊥

-- why a program and a certificate are no system
abbrev pub IsNoSystem : List (List ℕ) → Statements → Cert → Refusal → Type 0
IsNoSystem names body cert (Certificate (form.Rows fault)) = slice_get (faults_of (length names) cert.rows) 0 ≡ Some fault
IsNoSystem names body cert (Certificate (form.Unknowns count)) =
    (faults_of (length names) cert.rows ≡ []) × (MOST_UNKNOWNS < unknowns body cert.rows) × (count ≡ unknowns body cert.rows)
IsNoSystem names body cert NoMemory = Unit {0}
IsNoSystem names body cert _ = ⊥

-- why a program and a certificate that is spelt get no report
abbrev pub GetsNoReport : List (List ℕ) → Statements → Cert → Refusal → Type 0
GetsNoReport names body cert refusal =
    IsNoSystem names body cert refusal ⊎ (FitsProgram names body cert × IsUnaccepted (system_with names body cert) (theirs cert) refusal)

-- the ending of a refusal
abbrev pub refused : Refusal → Status
refused (Text cause) = status.Text cause
refused (Certificate cause) = status.Certificate cause
refused (Exceeded excess) = status.Exceeded excess
refused (Spent number) = status.Spent number
refused NoMemory = status.Memory

-- what an answer to the analysis of a system says of it
abbrev pub IsAnswerToSystem : Purpose → System → Policy → ℕ → Status → Type 0
IsAnswerToSystem purpose system policy limit status.Done = EndsWithin system policy limit
IsAnswerToSystem purpose system policy limit (status.Exceeded excess) = HasExcess purpose system policy limit excess
IsAnswerToSystem purpose system policy limit (status.Spent number) = RunsOut system policy limit × (number ≡ limit)
IsAnswerToSystem purpose system policy limit status.Memory = Unit {0}
IsAnswerToSystem purpose system policy limit status.Write = EndsWithin system policy limit
IsAnswerToSystem purpose system policy limit _ = ⊥

-- what an answer to a question says of it
abbrev pub QuestionAnswer : Question → Status → Type 0
QuestionAnswer question status.Done = QuestionEnds question status.Done
QuestionAnswer question (status.Text cause) = question.is_refused cause
QuestionAnswer question (status.Exceeded excess) = IsExcessIn question excess
QuestionAnswer question (status.Spent number) = QuestionEnds question (status.Spent number)
QuestionAnswer question status.Memory = Unit {0}
QuestionAnswer question status.Write = QuestionEnds question status.Done
QuestionAnswer question _ = ⊥

-- why nothing is put of a question; want of memory needs no cause
abbrev pub IsUnanswered : Question → Refusal → Type 0
IsUnanswered question (Text cause) = question.is_refused cause
IsUnanswered question (Certificate cause) = ⊥
IsUnanswered question (Exceeded excess) = IsExcessIn question excess
IsUnanswered question (Spent number) = QuestionEnds question (status.Spent number)
IsUnanswered question NoMemory = Unit {0}

-- what an answer to the check of loaded texts says of them
abbrev pub IsAnswerToCheck : Program → List ℕ → Status → Type 0
IsAnswerToCheck program bytes status.Done = CheckEnd program bytes status.Done
IsAnswerToCheck program bytes (status.Certificate cause) = CheckEnd program bytes (status.Certificate cause)
IsAnswerToCheck program bytes (status.Text cause) = CheckEnd program bytes (status.Text cause)
IsAnswerToCheck program bytes (status.Exceeded excess) = CheckEnd program bytes (status.Exceeded excess)
IsAnswerToCheck program bytes status.Memory = Unit {0}
IsAnswerToCheck program bytes status.Write = CheckEnd program bytes status.Done
IsAnswerToCheck program bytes _ = ⊥

-- the functions of a text aren't listed, by this cause; want of memory needs none
abbrev pub AreUnlisted : List ℕ → Refusal → Type 0
AreUnlisted text (Text cause) = AreNoFunctions text cause
AreUnlisted text NoMemory = Unit {0}
AreUnlisted text _ = ⊥

-- what an answer to the bytes of a certificate that is upgraded says of them
abbrev pub IsAnswerToUpgrade : List ℕ → Status → Type 0
IsAnswerToUpgrade bytes status.Done = UpgradeEnd bytes status.Done
IsAnswerToUpgrade bytes (status.Certificate cause) = UpgradeEnd bytes (status.Certificate cause)
IsAnswerToUpgrade bytes status.Memory = Unit {0}
IsAnswerToUpgrade bytes status.Write = UpgradeEnd bytes status.Done
IsAnswerToUpgrade bytes _ = ⊥
