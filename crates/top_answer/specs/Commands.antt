-- What the commands do with the texts of their files, each in one record: which endings the texts have, what may exceed exact work, which
-- bytes are written, what its messages name, and within which limits its numbers and texts are.
use Rattle.std.specs.Prelude.{◌≡◌, ◌≤◌, ◌<◌, ℕ, ℤ, List, [], Ok, length}
use Rattle.base_limits.specs.declared.limits.TheConstants.{MOST_BENCH_IMPROVEMENTS, MOST_IMPROVEMENTS, MOST_LOOPS}
use Rattle.base_limits.specs.declared.limits.TheConstants.{MOST_PROGRAM_BYTES, MOST_TEXT_BYTES}
use Rattle.lang_tree.specs.Tree.{Statements}
use Rattle.flow_systems.specs.declared.footer.Footer.TheVariants.{Accepted}
use Rattle.flow_systems.specs.declared.spot.Spot.{Spot}
use Rattle.flow_systems.specs.declared.system.System.{System}
use Rattle.flow_systems.specs.Equations.{Least, Vector}
use Rattle.flow_systems.specs.Solutions.{equations_of_program}
use Rattle.flow_systems.specs.View.{equations_of}
use Rattle.ask_words.specs.Help.{help_text}
use Rattle.ask_words.specs.Request.{whole_source}
use Rattle.ask_words.specs.declared.format.Format.{Format}
use Rattle.ask_words.specs.declared.request.Analysis.{Analysis}
use Rattle.ask_words.specs.declared.request.Domain.{Domain}
use Rattle.ask_words.specs.declared.request.Policy.{Policy}
use Rattle.ask_words.specs.declared.request.Policy.TheVariants.{Best}
use Rattle.ask_words.specs.declared.request.Purpose.{Purpose}
use Rattle.ask_words.specs.declared.request.Purpose.TheVariants.{Report, Certificate as AsCertificate}
use Rattle.ask_words.specs.declared.request.Request.TheVariants.{Analyse, Check, Bench, Upgrade, Prove, Transitions, Equations, Points}
use Rattle.ask_words.specs.declared.request.Request.TheVariants.{Functions, Verify, Help}
use Rattle.cert_text.specs.declared.fault.FormFault.{FormFault}
use Rattle.cert_text.specs.declared.fault.FormFault.TheVariants.{Expanded}
use Rattle.ask_files.specs.Files.{Request}
use Rattle.top_status.specs.declared.status.CertCause.{CertCause}
use Rattle.top_status.specs.declared.status.CertCause.TheVariants.{Form}
use Rattle.top_status.specs.declared.status.Excess.{Excess}
use Rattle.top_status.specs.declared.status.Excess.TheVariants.{Wide}
use Rattle.top_status.specs.declared.status.Status.{Status}
use Rattle.top_status.specs.declared.status.Status.TheVariants.{Done, Certificate, Text, Exceeded}
use Rattle.top_status.specs.declared.status.TextCause.{TextCause}
use Rattle.top_status.specs.declared.status.TextCause.TheVariants.{Claims}
use Rattle.top_texts.specs.CheckTexts.{AreCheckVerdictsOf, IsJudged}
use Rattle.top_texts.specs.ClaimTexts.{AreVerdictsOf}
use Rattle.top_texts.specs.ByC.{HoldsInSource}
use Rattle.top_texts.specs.EquationTexts.{AreValuesOf}
use Rattle.top_texts.specs.FunctionTexts.{AreFunctionsOf, AreNoFunctions, Lists}
use Rattle.top_texts.specs.LeastReports.{ArePointsOf, IsLeastReport, IsReportOf}
use Rattle.top_texts.specs.Meanings.{Meanings}
use Rattle.top_texts.specs.Questions.{IsExcessIn, Question, QuestionEnds, analysis_question, bench_question, checks_question}
use Rattle.top_texts.specs.Questions.{claims_question, equations_question, transitions_question}
use Rattle.top_texts.specs.Rounds.{HasRounds}
use Rattle.top_texts.specs.Short.{HasShortRows, IsShort, IsShortProgram}
use Rattle.top_texts.specs.Texts.{IsAnalysed, IsReady, IsRefusedProgram, IsSolvedSystem, Program}
use Rattle.top_texts.specs.TransitionTexts.{IsAutoReport}

-- ---- endings that no question has

-- the program or the bytes of a certificate are refused by a cause, or an operation of the check is too wide, or the certificate is
-- accepted
pub data CheckEnds (m : Meanings) (program : Program) (bytes : List ℕ) (ending : Status) : Type 0 where
  program_refused : (cause : TextCause) → ending ≡ Text cause → IsRefusedProgram program cause → CheckEnds m program bytes ending
  certificate_refused : (cause : CertCause) → ending ≡ Certificate cause → m.refuses program bytes cause
      → CheckEnds m program bytes ending
  sum_too_wide : (spot : Spot) → ending ≡ Exceeded (Wide spot) → m.is_wide_in program bytes spot → CheckEnds m program bytes ending
  accepted : (names : List (List ℕ)) (body : Statements) (rows : List (List ℤ)) (vector : Vector) → ending ≡ Done
      → m.accepts program bytes names body rows vector
      → CheckEnds m program bytes ending

-- the bytes of a certificate have a fault of form, or the certificate that they spell is written; whether it is valid, and of which
-- program, doesn't matter
pub data UpgradeEnds (m : Meanings) (bytes : List ℕ) (ending : Status) : Type 0 where
  form_refused : (fault : FormFault) → ending ≡ Certificate (Form fault) → m.misspells bytes fault → UpgradeEnds m bytes ending
  rewritten : (written : List ℕ) → ending ≡ Done → m.upgrades bytes written → UpgradeEnds m bytes ending

-- the program is refused by a cause, or its points are written
pub data PointsEnd (program : Program) (ending : Status) : Type 0 where
  text_refused : (cause : TextCause) → ending ≡ Text cause → IsRefusedProgram program cause → PointsEnd program ending
  listed : (names : List (List ℕ)) (body : Statements) → ending ≡ Done → IsAnalysed program names body → PointsEnd program ending

-- the text of a file is refused by a cause, or the names of its functions are written
pub data FunctionsEnd (text : List ℕ) (ending : Status) : Type 0 where
  file_refused : (cause : TextCause) → ending ≡ Text cause → AreNoFunctions text cause → FunctionsEnd text ending
  names_listed : (names : List (List ℕ)) → ending ≡ Done → Lists text (Ok names) → FunctionsEnd text ending

-- the texts of a program and its rows are refused, or improvements are spent, as the question about its checks ends without success; or the
-- checks decide where improvements end: each is proved, or one is open
pub data VerifyEnds (m : Meanings) (a : Analysis (List ℕ)) (ending : Status) : Type 0 where
  unjudged : QuestionEnds (checks_question m a.program a.domain a.policy a.improvements) ending → (ending ≡ Done → ⊥)
      → VerifyEnds m a ending
  judged : IsJudged a.program a.domain a.policy a.improvements ending → VerifyEnds m a ending

-- ---- what is written

-- the bytes are the certificate that the rounds make of these texts; it is accepted for the program, unless its traces hold too many
-- values;
-- and its bounds are the least vector, and hold in every run by C
pub record IsCertificate (m : Meanings) (program : Program) (rows : Domain (List ℕ)) (policy : Policy) (limit : ℕ) (bytes : List ℕ) :
    Type 0 where
  pub made : m.certifies program rows policy limit bytes
  pub names : List (List ℕ)
  pub body : Statements
  pub template : List (List ℤ)
  pub ready : IsReady program rows names body template
  pub vector : Vector
  pub accepted : (m.refuses program bytes (Form Expanded) → ⊥) → m.accepts program bytes names body template vector
  pub least : Least (equations_of_program (length names) body template) vector
  pub by_c : HoldsInSource program names (equations_of_program (length names) body template) vector

-- they are the report in a format of the bounds of a certificate that is accepted; these are the least vector
pub record IsChecked (m : Meanings) (program : Program) (certificate : List ℕ) (format : Format) (bytes : List ℕ) : Type 0 where
  pub names : List (List ℕ)
  pub body : Statements
  pub rows : List (List ℤ)
  pub vector : Vector
  pub accepted : m.accepts program certificate names body rows vector
  pub least : IsLeastReport program names body rows vector Accepted format bytes

-- they are the summary of the least vector of a generated program, with the number of improvements by `best`
pub record IsSummary (m : Meanings) (seed loops : ℕ) (bytes : List ℕ) : Type 0 where
  pub system : System
  pub generated : m.generates seed loops system
  pub rounds : ℕ
  pub within : rounds ≤ MOST_BENCH_IMPROVEMENTS
  pub vector : Vector
  pub has_rounds : HasRounds system Best rounds vector
  pub least : Least (equations_of system) vector
  pub summary : bytes ≡ m.summary seed loops system vector rounds

-- what is written of an analysis, by its purpose; a certificate has one format
abbrev pub IsPut : Meanings → Purpose → Analysis (List ℕ) → Format → List ℕ → Type 0
IsPut m Report a format bytes = IsReportOf a.program a.domain a.policy a.improvements format bytes
IsPut m AsCertificate a format bytes = IsCertificate m a.program a.domain a.policy a.improvements bytes

-- ---- limits

-- the texts of an analysis are within their limits, and so is the number of its improvements: what is analysed has at most so many bytes
pub record IsWithin (most : ℕ) (analysis : Analysis (List ℕ)) : Type 0 where
  pub short : length analysis.program.text ≤ most
  pub short_rows : HasShortRows analysis.domain
  pub limit : analysis.improvements ≤ MOST_IMPROVEMENTS

-- the seed of a generated program is below 2^31, and it has 1 to 500 loops
abbrev pub AreGenerable : (seed loops : ℕ) → Type 0
AreGenerable seed loops = (seed < 2147483648) × (1 ≤ loops) × (loops ≤ MOST_LOOPS)

-- the text in which the message of an ending of claims names a line: that of the claims, where they are refused, or of the program
abbrev pub text_of_proof : (program claims : List ℕ) → Status → List ℕ
text_of_proof program claims (Text (Claims fault)) = claims
text_of_proof program claims _ = program

-- ---- the commands

-- what a command does with its texts: the endings that they have where there is memory and nothing exceeds exact work; what may exceed it
-- instead; and the bytes that are written at an ending, where it is done or a check is open. For its message: the text in which that of an
-- ending names a line, and how many rows each point has, by which it numbers an unknown. And the limits that its words and its loads keep:
-- of its numbers, and of these and its texts
pub record Command : Type 1 where
  pub ends : Status → Type 0
  pub exceeds : Excess → Type 0
  pub writes : Status → List ℕ → Type 0
  pub named : Status → List ℕ
  pub has_rows : ℕ → Type 0
  pub in_range : Type 0
  pub in_limits : Type 0

-- what is done for each request, with its texts in place of names
abbrev pub Commands : Type 1
Commands = Request → Command

-- bytes that are written where a command is done, and at no other ending
abbrev pub done_writes : (List ℕ → Type 0) → Status → List ℕ → Type 0
done_writes writes Done bytes = writes bytes
done_writes writes _ bytes = ⊥

-- a command that decides about its texts, where nothing may come in place of its endings, and which writes where it is done alone: its
-- messages name no line and no unknown, and it has no number and no text that needs a limit, unless it says otherwise
abbrev pub deciding : (Status → Type 0) → (List ℕ → Type 0) → Command
deciding ends writes = record {
  ends = ends;
  exceeds = λ excess. ⊥;
  writes = λ status bytes. done_writes writes status bytes;
  named = λ status. [];
  has_rows = λ count. ⊥;
  in_range = Unit {0};
  in_limits = Unit {0};
}

-- a command that asks a question about an equation system
abbrev pub asking : Question → (List ℕ → Type 0) → Command
asking question writes =
    record (deciding (λ status. QuestionEnds question status) writes) { exceeds = λ excess. IsExcessIn question excess }

-- the commands of the program
abbrev pub command_of : Meanings → Commands
command_of m (Analyse purpose a format) =
    record (asking (analysis_question m purpose a.program a.domain a.policy a.improvements) (λ bytes. IsPut m purpose a format bytes)) {
      named = λ status. a.program.text;
      has_rows = λ count. (system : System) × IsSolvedSystem a.program a.domain system × (count ≡ length system.template);
      in_range = a.improvements ≤ MOST_IMPROVEMENTS;
      in_limits = IsWithin MOST_PROGRAM_BYTES a;
    }
command_of m (Check program certificate format) =
    record (deciding (λ status. CheckEnds m program certificate status) (λ bytes. IsChecked m program certificate format bytes)) {
      named = λ status. program.text;
      has_rows = λ count. m.has_rows certificate count;
      in_limits = IsShortProgram program.text;
    }
command_of m (Bench seed loops) = record (asking (bench_question m seed loops) (λ bytes. IsSummary m seed loops bytes)) {
  in_range = AreGenerable seed loops;
  in_limits = AreGenerable seed loops;
}
command_of m (Upgrade certificate) = deciding (λ status. UpgradeEnds m certificate status) (λ bytes. m.upgrades certificate bytes)
command_of m (Prove given a format) =
    record (asking (claims_question m a.program a.domain given a.policy a.improvements)
    (λ bytes. AreVerdictsOf m a.program a.domain given a.policy a.improvements format bytes)) {
      named = λ status. text_of_proof a.program.text given status;
      in_range = a.improvements ≤ MOST_IMPROVEMENTS;
      in_limits = IsWithin MOST_PROGRAM_BYTES a × IsShort given;
    }
command_of m (Transitions a format) =
    record (asking (transitions_question m a.program.text a.domain a.policy a.improvements)
    (λ bytes. IsAutoReport a.program.text a.domain a.policy a.improvements format bytes)) {
      named = λ status. a.program.text;
      in_range = a.improvements ≤ MOST_IMPROVEMENTS;
      in_limits = IsWithin MOST_TEXT_BYTES a;
    }
command_of m (Equations text limit policy format) =
    record (asking (equations_question m text policy limit) (λ bytes. AreValuesOf text policy limit format bytes)) {
      named = λ status. text;
      in_range = limit ≤ MOST_IMPROVEMENTS;
      in_limits = IsShort text × (limit ≤ MOST_IMPROVEMENTS);
    }
command_of m (Points text) =
    record (deciding (λ status. PointsEnd (whole_source text) status) (λ bytes. ArePointsOf (whole_source text) bytes)) {
      named = λ status. text;
      in_limits = IsShortProgram text;
    }
command_of m (Functions text) = record (deciding (λ status. FunctionsEnd text status) (λ bytes. AreFunctionsOf text bytes)) {
  named = λ status. text;
  in_limits = IsShortProgram text;
}
command_of m (Verify name a format) = record (deciding (λ status. VerifyEnds m a status) (λ bytes. ⊥)) {
  exceeds = λ excess. IsExcessIn (checks_question m a.program a.domain a.policy a.improvements) excess;
  writes = λ status bytes. AreCheckVerdictsOf m name a.program a.domain a.policy a.improvements format status bytes;
  named = λ status. a.program.text;
  in_range = a.improvements ≤ MOST_IMPROVEMENTS;
  in_limits = IsWithin MOST_PROGRAM_BYTES a;
}
command_of m (Help topic) = deciding (λ status. status ≡ Done) (λ bytes. bytes ≡ help_text topic)
