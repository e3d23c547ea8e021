-- The files of a request in the order of their loads, which of them isn't read, and the request with what they hold in place of names.
use Rattle.std.specs.Prelude.{◌+◌, ℕ, List, [], ◌∷◌, Option, Some, None, length, map, nat_lt, slice_get, unwrap_or, if◌then◌else◌}
use Rattle.std.specs.Borrow.{Bor}
use Rattle.base_limits.specs.declared.limits.TheConstants.{MOST_CERTIFICATE_BYTES, MOST_PROGRAM_BYTES, MOST_TEXT_BYTES}
use Rattle.ask_words.specs.declared.request.Analysis.{Analysis}
use Rattle.ask_words.specs.declared.request.Domain.{Domain}
use Rattle.ask_words.specs.declared.request.Domain.TheVariants.{Intervals, Zones, Octagons, Packs, Rows}
use Rattle.ask_words.specs.declared.request.Request.{Request as RequestOf}
use Rattle.ask_words.specs.declared.request.Request.TheVariants.{Analyse, Check, Bench, Upgrade, Prove, Transitions, Equations, Points}
use Rattle.ask_words.specs.declared.request.Request.TheVariants.{Functions, Verify, Help}
use Rattle.ask_words.specs.declared.request.Source.{Source}
use Rattle.ask_files.specs.declared.which.ReadCause.{ReadCause}
use Rattle.ask_files.specs.declared.which.ReadCause.TheVariants.{Failed, TooLong}
use Rattle.ask_files.specs.declared.which.Which.{Which}
use Rattle.ask_files.specs.declared.which.Which.TheVariants as which

-- a command, with the names of its files as texts; and the same command with what the files hold in place of their names
abbrev pub Request : Type 0
Request = RequestOf (List ℕ)

-- what a file holds, and its name
abbrev pub NamedFile : Type 0
NamedFile = Which × List ℕ

-- the file of a domain's rows, where it has one, before other files
abbrev pub rows_before : Domain (List ℕ) → List NamedFile → List NamedFile
rows_before (Rows file) rest = (which.Rows, file) ∷ rest
rows_before Intervals rest = rest
rows_before Zones rest = rest
rows_before Octagons rest = rest
rows_before Packs rest = rest

-- the files of a request, in the order in which they are loaded
abbrev pub files_of : Request → List NamedFile
files_of (Analyse purpose analysis format) = (which.Program, analysis.program.text) ∷ rows_before analysis.domain []
files_of (Check program certificate format) = (which.Program, program.text) ∷ (which.Certificate, certificate) ∷ []
files_of (Bench seed loops) = []
files_of (Upgrade certificate) = (which.Certificate, certificate) ∷ []
files_of (Prove claims analysis format) = (which.Program, analysis.program.text) ∷ rows_before analysis.domain ((which.Claims, claims) ∷ [])
files_of (Transitions analysis format) = (which.System, analysis.program.text) ∷ rows_before analysis.domain []
files_of (Equations file improvements policy format) = (which.Equations, file) ∷ []
files_of (Points program) = (which.Program, program) ∷ []
files_of (Functions file) = (which.Program, file) ∷ []
files_of (Verify name analysis format) = (which.Program, analysis.program.text) ∷ rows_before analysis.domain []
files_of (Help topic) = []

-- how many bytes a file may have: a program 1,048,576, a certificate 16,777,216, and any other 65,536
abbrev pub most_bytes : Which → ℕ
most_bytes which.Program = MOST_PROGRAM_BYTES
most_bytes which.Certificate = MOST_CERTIFICATE_BYTES
most_bytes which.Rows = MOST_TEXT_BYTES
most_bytes which.Claims = MOST_TEXT_BYTES
most_bytes which.System = MOST_TEXT_BYTES
most_bytes which.Equations = MOST_TEXT_BYTES

-- why the first of these files isn't read that isn't, where these texts are what they hold, in order: there is no text for it, since its
-- load failed, or it has more bytes than such a file may have
abbrev pub unread : List NamedFile → List (List ℕ) → Option ReadCause
unread [] contents = None
unread (file ∷ files) [] = Some (Failed file.0)
unread (file ∷ files) (text ∷ contents) =
    if nat_lt (most_bytes file.0) (length text) then Some (TooLong file.0) else unread files contents

-- ---- what they hold in place of their names

-- contents as lists of bytes
abbrev pub texts_of : List (Bor (List ℕ)) → List (List ℕ)
texts_of contents = map (λ text. text.now) contents

-- the text with this number, counted from 0, or the empty text
abbrev pub text_at : List (List ℕ) → ℕ → List ℕ
text_at contents number = unwrap_or (slice_get contents number) []

-- a domain with this text in place of its file's name
abbrev pub domain_with : Domain (List ℕ) → List ℕ → Domain (List ℕ)
domain_with (Rows file) text = Rows text
domain_with Intervals text = Intervals
domain_with Zones text = Zones
domain_with Octagons text = Octagons
domain_with Packs text = Packs

-- how many files a domain has
abbrev pub rows_files : Domain (List ℕ) → ℕ
rows_files (Rows file) = 1
rows_files Intervals = 0
rows_files Zones = 0
rows_files Octagons = 0
rows_files Packs = 0

-- a program with the first text in place of its file's name; the name of its function and its integers stay
abbrev pub source_with : Source (List ℕ) → List (List ℕ) → Source (List ℕ)
source_with program contents = record { text = text_at contents 0; function = program.function; integers = program.integers }

-- an analysis with the first text as its program, and the second as its rows where they are a file
abbrev pub analysis_with : Analysis (List ℕ) → List (List ℕ) → Analysis (List ℕ)
analysis_with analysis contents = record {
  program = source_with analysis.program contents;
  domain = domain_with analysis.domain (text_at contents 1);
  improvements = analysis.improvements;
  policy = analysis.policy;
}

-- a request with these texts in place of its files' names, in the order of their loads; the names of a function
-- and of a file that is written stay
abbrev pub with_texts : Request → List (List ℕ) → Request
with_texts (Analyse purpose analysis format) contents = Analyse purpose (analysis_with analysis contents) format
with_texts (Check program certificate format) contents = Check (source_with program contents) (text_at contents 1) format
with_texts (Bench seed loops) contents = Bench seed loops
with_texts (Upgrade certificate) contents = Upgrade (text_at contents 0)
with_texts (Prove claims analysis format) contents =
    Prove (text_at contents (1 + rows_files analysis.domain)) (analysis_with analysis contents) format
with_texts (Transitions analysis format) contents = Transitions (analysis_with analysis contents) format
with_texts (Equations file improvements policy format) contents = Equations (text_at contents 0) improvements policy format
with_texts (Points program) contents = Points (text_at contents 0)
with_texts (Functions file) contents = Functions (text_at contents 0)
with_texts (Verify name analysis format) contents = Verify name (analysis_with analysis contents) format
with_texts (Help topic) contents = Help topic
