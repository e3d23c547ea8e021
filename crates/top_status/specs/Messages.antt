-- The messages of a run.
use Rattle.std.specs.Prelude.{ℕ, List, [], ◌++◌, Option, Some, None, codes, decimal}
use Rattle.lang_tokens.specs.declared.fault.LexFault.{LexFault}
use Rattle.lang_tokens.specs.declared.fault.LexFault.TheVariants as lex
use Rattle.lang_tokens.specs.declared.token.Foreign.{Foreign}
use Rattle.lang_tokens.specs.declared.token.Foreign.TheVariants as foreign
use Rattle.lang_tokens.specs.Lines.{line_at}
use Rattle.lang_meaning.specs.declared.fault.Limit.{Limit}
use Rattle.lang_meaning.specs.declared.fault.Limit.TheVariants.{Nesting, Variables, Statements, Leaves}
use Rattle.lang_meaning.specs.declared.fault.ParseFault.{ParseFault}
use Rattle.lang_meaning.specs.declared.fault.ParseFault.TheVariants as parse
use Rattle.source_meaning.specs.declared.fault.Limit.{Limit as FunctionLimit}
use Rattle.source_meaning.specs.declared.fault.Limit.TheVariants as limit
use Rattle.source_meaning.specs.declared.fault.FunctionFault.{FunctionFault}
use Rattle.source_meaning.specs.declared.fault.FunctionFault.TheVariants as function
use Rattle.source_file.specs.declared.fault.SourceFault.{SourceFault}
use Rattle.source_file.specs.declared.fault.SourceFault.TheVariants as source
use Rattle.flow_edges.specs.declared.fault.FlowFault.{FlowFault}
use Rattle.flow_edges.specs.declared.fault.FlowFault.TheVariants as flow
use Rattle.flow_templates.specs.declared.fault.RowFault.{RowFault}
use Rattle.flow_templates.specs.declared.fault.RowFault.TheVariants as rows
use Rattle.ask_claims.specs.declared.fault.ClaimFault.{ClaimFault}
use Rattle.ask_claims.specs.declared.fault.ClaimFault.TheVariants as claims
use Rattle.flow_rationals.specs.declared.fault.EquFault.{EquFault}
use Rattle.flow_rationals.specs.declared.fault.EquFault.TheVariants as equ
use Rattle.flow_transitions.specs.declared.fault.AutoFault.{AutoFault}
use Rattle.flow_transitions.specs.declared.fault.AutoFault.TheVariants as auto
use Rattle.ask_words.specs.Help.{usage_text}
use Rattle.top_status.specs.CheckMessages.{certificate_message, wide_message}
use Rattle.ask_files.specs.declared.which.Which.TheVariants as which
use Rattle.ask_files.specs.declared.which.ReadCause.{ReadCause}
use Rattle.ask_files.specs.declared.which.ReadCause.TheVariants.{Failed, TooLong}
use Rattle.top_status.specs.declared.status.Excess.TheVariants.{Wide, Large}
use Rattle.top_status.specs.declared.status.TextCause.{TextCause}
use Rattle.top_status.specs.declared.status.TextCause.TheVariants.{Lex, Source, Flow, Rows, Unknowns, Claims, Equ, Auto}
use Rattle.top_status.specs.declared.status.Status.{Status}
use Rattle.top_status.specs.declared.status.Status.TheVariants.{Done, Open, Certificate, Usage, Read, Text, Exceeded, Spent, Memory, Write}

-- ---- where a cause stands

-- the place of a lexer's fault
abbrev pub lex_place : LexFault → Option ℕ
lex_place (lex.BadByte at) = Some at
lex_place (lex.OpenComment at) = Some at
lex_place (lex.LongNumber at) = Some at
lex_place (lex.LongName at) = Some at
lex_place (lex.BadNumber at) = Some at
lex_place lex.NoMemory = None

-- the place of a parser's fault
abbrev pub parse_place : ParseFault → Option ℕ
parse_place (parse.Unexpected at) = Some at
parse_place (parse.UnknownName at) = Some at
parse_place (parse.NameTwice at) = Some at
parse_place (parse.NotAffine at) = Some at
parse_place (parse.NondetHere at) = Some at
parse_place (parse.Limit at which) = Some at
parse_place parse.NoVariables = None
parse_place (parse.BigNumber at) = Some at
parse_place (parse.OutsideLoop at) = Some at
parse_place parse.NoMemory = None

-- the place of a fault of a function
abbrev pub function_place : FunctionFault → Option ℕ
function_place (function.UnknownName at) = Some at
function_place (function.NameTwice at) = Some at
function_place (function.WrongKind at) = Some at
function_place (function.Array at) = Some at
function_place (function.BigNumber at) = Some at
function_place (function.SideEffect at) = Some at
function_place (function.Limit at which) = Some at
function_place (function.OutsideLoop at) = Some at
function_place function.NoVariables = None
function_place function.NoMemory = None

-- the place of a fault of a file, or of the function that is asked about
abbrev pub source_place : SourceFault → Option ℕ
source_place (source.Unexpected at) = Some at
source_place (source.Nesting at) = Some at
source_place (source.NameTwice at) = Some at
source_place source.WhichFunction = None
source_place (source.Foreign at foreign) = Some at
source_place (source.Macro at) = Some at
source_place (source.Function fault) = function_place fault
source_place source.NoMemory = None

-- the place of a fault of claims
abbrev pub claim_place : ClaimFault → Option ℕ
claim_place (claims.Lex fault) = lex_place fault
claim_place (claims.Parse fault) = parse_place fault
claim_place (claims.UnknownLabel at) = Some at
claim_place (claims.Count at) = Some at
claim_place (claims.Cases at) = Some at
claim_place claims.NoMemory = None

-- the place of a fault of equations
abbrev pub equation_place : EquFault → Option ℕ
equation_place (equ.Lex fault) = lex_place fault
equation_place (equ.Unexpected at) = Some at
equation_place (equ.NameTwice at) = Some at
equation_place (equ.Count count) = None
equation_place (equ.UnknownName at) = Some at
equation_place (equ.ZeroBelow at) = Some at
equation_place (equ.Terms at) = Some at
equation_place (equ.Big at) = Some at
equation_place (equ.Alternatives count) = None
equation_place equ.NoMemory = None

-- the place of a fault of a transition system
abbrev pub auto_place : AutoFault → Option ℕ
auto_place (auto.Lex fault) = lex_place fault
auto_place (auto.Parse fault) = parse_place fault
auto_place (auto.UnknownPoint at) = Some at
auto_place (auto.IntoEntry at) = Some at
auto_place (auto.Cases at) = Some at
auto_place (auto.Points count) = None
auto_place auto.Edges = None
auto_place (auto.Actions edge) = None
auto_place auto.NoMemory = None

-- the place of a cause in its text
abbrev pub place_of : TextCause → Option ℕ
place_of (Lex fault) = lex_place fault
place_of (Source fault) = source_place fault
place_of (Flow fault) = None
place_of (Rows fault) = None
place_of (Unknowns count) = None
place_of (Claims fault) = claim_place fault
place_of (Equ fault) = equation_place fault
place_of (Auto fault) = auto_place fault

abbrev pub line_at_place : List ℕ → Option ℕ → ℕ
line_at_place text None = 0
line_at_place text (Some at) = line_at text at

-- the line that a message names, 0 where it names none
abbrev pub line_in : List ℕ → Status → ℕ
line_in text (Text cause) = line_at_place text (place_of cause)
line_in text Done = 0
line_in text Open = 0
line_in text (Certificate cause) = 0
line_in text Usage = 0
line_in text (Read cause) = 0
line_in text (Exceeded excess) = 0
line_in text (Spent number) = 0
line_in text Memory = 0
line_in text Write = 0

-- ---- the words

-- what is refused, words, a number and words, with a line feed at the end
pub record Words : Type 0 where
  pub subject : List ℕ
  pub before : List ℕ
  pub number : Option ℕ
  pub after : List ℕ

abbrev pub words : List ℕ → Words
words before = record { subject = []; before = before; number = None; after = codes "\n" }

-- words after those that name what is refused
abbrev pub plain : (subject before : List ℕ) → Words
plain subject before = record { subject = subject; before = before; number = None; after = codes "\n" }

-- a number between words
abbrev pub counted_in : (subject before : List ℕ) → ℕ → List ℕ → Words
counted_in subject before number after = record { subject = subject; before = before; number = Some number; after = after }

-- words and a number behind them
abbrev pub counted : (subject before : List ℕ) → ℕ → Words
counted subject before number = counted_in subject before number (codes "\n")

abbrev pub program_refused : List ℕ
program_refused = codes "program refused: "

abbrev pub rows_refused : List ℕ
rows_refused = codes "rows refused: "

abbrev pub claims_refused : List ℕ
claims_refused = codes "claims refused: "

abbrev pub equations_refused : List ℕ
equations_refused = codes "equations refused: "

abbrev pub system_refused : List ℕ
system_refused = codes "system refused: "

-- ---- the faults of each text, after what is refused

abbrev pub lex_words : List ℕ → ℕ → LexFault → Words
lex_words subject line (lex.BadByte at) = counted subject (codes "bad byte at line ") line
lex_words subject line (lex.OpenComment at) = counted subject (codes "open comment at line ") line
lex_words subject line (lex.LongNumber at) = counted subject (codes "long number at line ") line
lex_words subject line (lex.LongName at) = counted subject (codes "long name at line ") line
lex_words subject line (lex.BadNumber at) = counted subject (codes "bad number at line ") line
lex_words subject line lex.NoMemory = words (codes "out of memory")

abbrev pub limit_words : List ℕ → ℕ → Limit → Words
limit_words subject line Nesting = counted subject (codes "nesting at line ") line
limit_words subject line Variables = counted subject (codes "variables at line ") line
limit_words subject line Statements = counted subject (codes "statements at line ") line
limit_words subject line Leaves = counted subject (codes "leaves at line ") line

abbrev pub parse_words : List ℕ → ℕ → ParseFault → Words
parse_words subject line (parse.Unexpected at) = counted subject (codes "unexpected token at line ") line
parse_words subject line (parse.UnknownName at) = counted subject (codes "unknown name at line ") line
parse_words subject line (parse.NameTwice at) = counted subject (codes "name twice at line ") line
parse_words subject line (parse.NotAffine at) = counted subject (codes "not affine at line ") line
parse_words subject line (parse.NondetHere at) = counted subject (codes "nondet at line ") line
parse_words subject line (parse.Limit at which) = limit_words subject line which
parse_words subject line parse.NoVariables = plain subject (codes "no variables")
parse_words subject line (parse.BigNumber at) = counted subject (codes "big number at line ") line
parse_words subject line (parse.OutsideLoop at) = counted subject (codes "outside a loop at line ") line
parse_words subject line parse.NoMemory = words (codes "out of memory")

abbrev pub function_limit_words : ℕ → FunctionLimit → Words
function_limit_words line limit.Variables = counted program_refused (codes "variables at line ") line
function_limit_words line limit.Hidden = counted program_refused (codes "values at line ") line
function_limit_words line limit.Leaves = counted program_refused (codes "leaves at line ") line
function_limit_words line limit.Statements = counted program_refused (codes "statements at line ") line

abbrev pub function_words : ℕ → FunctionFault → Words
function_words line (function.UnknownName at) = counted program_refused (codes "unknown name at line ") line
function_words line (function.NameTwice at) = counted program_refused (codes "name twice at line ") line
function_words line (function.WrongKind at) = counted program_refused (codes "wrong kind at line ") line
function_words line (function.Array at) = counted program_refused (codes "array at line ") line
function_words line (function.BigNumber at) = counted program_refused (codes "big number at line ") line
function_words line (function.SideEffect at) = counted program_refused (codes "side effect at line ") line
function_words line (function.Limit at which) = function_limit_words line which
function_words line (function.OutsideLoop at) = counted program_refused (codes "outside a loop at line ") line
function_words line function.NoVariables = plain program_refused (codes "no variables")
function_words line function.NoMemory = words (codes "out of memory")

abbrev pub foreign_words : ℕ → Foreign → Words
foreign_words line foreign.Byte = counted program_refused (codes "bad byte at line ") line
foreign_words line foreign.Number = counted program_refused (codes "bad number at line ") line
foreign_words line foreign.LongNumber = counted program_refused (codes "long number at line ") line
foreign_words line foreign.LongName = counted program_refused (codes "long name at line ") line

abbrev pub source_words : ℕ → SourceFault → Words
source_words line (source.Unexpected at) = counted program_refused (codes "unexpected token at line ") line
source_words line (source.Nesting at) = counted program_refused (codes "nesting at line ") line
source_words line (source.NameTwice at) = counted program_refused (codes "name twice at line ") line
source_words line source.WhichFunction = plain program_refused (codes "which function")
source_words line (source.Foreign at foreign) = foreign_words line foreign
source_words line (source.Macro at) = counted program_refused (codes "macro at line ") line
source_words line (source.Function fault) = function_words line fault
source_words line source.NoMemory = words (codes "out of memory")

abbrev pub flow_words : FlowFault → Words
flow_words (flow.Cases line) = counted program_refused (codes "cases at line ") line
flow_words (flow.Points count) = counted_in program_refused [] count (codes " points\n")
flow_words flow.Edges = plain program_refused (codes "edges")
flow_words (flow.Actions edge) = counted program_refused (codes "actions of edge ") edge
flow_words flow.AllActions = plain program_refused (codes "actions")
flow_words (flow.Checks count) = counted_in program_refused [] count (codes " checks\n")
flow_words flow.NoMemory = words (codes "out of memory")

abbrev pub row_words : RowFault → Words
row_words (rows.ZeroRow line) = counted rows_refused (codes "zero row at line ") line
row_words (rows.Count count) = counted_in rows_refused [] count (codes " rows\n")
row_words (rows.Large count) = counted_in program_refused [] count (codes " rows\n")
row_words (rows.UnknownName line) = counted rows_refused (codes "unknown name at line ") line
row_words (rows.BadRow line) = counted rows_refused (codes "bad row at line ") line
row_words (rows.Length line) = counted rows_refused (codes "length at line ") line
row_words rows.NoMemory = words (codes "out of memory")

abbrev pub claim_words : ℕ → ClaimFault → Words
claim_words line (claims.Lex fault) = lex_words claims_refused line fault
claim_words line (claims.Parse fault) = parse_words claims_refused line fault
claim_words line (claims.UnknownLabel at) = counted claims_refused (codes "unknown label at line ") line
claim_words line (claims.Count at) = counted claims_refused (codes "claims at line ") line
claim_words line (claims.Cases at) = counted claims_refused (codes "cases at line ") line
claim_words line claims.NoMemory = words (codes "out of memory")

abbrev pub equation_words : ℕ → EquFault → Words
equation_words line (equ.Lex fault) = lex_words equations_refused line fault
equation_words line (equ.Unexpected at) = counted equations_refused (codes "unexpected token at line ") line
equation_words line (equ.NameTwice at) = counted equations_refused (codes "name twice at line ") line
equation_words line (equ.Count count) = counted_in equations_refused [] count (codes " equations\n")
equation_words line (equ.UnknownName at) = counted equations_refused (codes "unknown name at line ") line
equation_words line (equ.ZeroBelow at) = counted equations_refused (codes "zero below at line ") line
equation_words line (equ.Terms at) = counted equations_refused (codes "terms at line ") line
equation_words line (equ.Big at) = counted equations_refused (codes "big number at line ") line
equation_words line (equ.Alternatives count) = counted_in equations_refused [] count (codes " alternatives\n")
equation_words line equ.NoMemory = words (codes "out of memory")

abbrev pub auto_words : ℕ → AutoFault → Words
auto_words line (auto.Lex fault) = lex_words system_refused line fault
auto_words line (auto.Parse fault) = parse_words system_refused line fault
auto_words line (auto.UnknownPoint at) = counted system_refused (codes "unknown point at line ") line
auto_words line (auto.IntoEntry at) = counted system_refused (codes "into the entry at line ") line
auto_words line (auto.Cases at) = counted system_refused (codes "cases at line ") line
auto_words line (auto.Points count) = counted_in system_refused [] count (codes " points\n")
auto_words line auto.Edges = plain system_refused (codes "edges")
auto_words line (auto.Actions edge) = counted system_refused (codes "actions of edge ") edge
auto_words line auto.NoMemory = words (codes "out of memory")

abbrev pub text_words : ℕ → TextCause → Words
text_words line (Lex fault) = lex_words program_refused line fault
text_words line (Source fault) = source_words line fault
text_words line (Flow fault) = flow_words fault
text_words line (Rows fault) = row_words fault
text_words line (Unknowns count) = counted_in program_refused [] count (codes " unknowns\n")
text_words line (Claims fault) = claim_words line fault
text_words line (Equ fault) = equation_words line fault
text_words line (Auto fault) = auto_words line fault

abbrev pub read_words : ReadCause → Words
read_words (Failed which.Program) = words (codes "cannot read the program")
read_words (Failed which.Rows) = words (codes "cannot read the rows")
read_words (Failed which.Certificate) = words (codes "cannot read the certificate")
read_words (Failed which.Claims) = words (codes "cannot read the claims")
read_words (Failed which.System) = words (codes "cannot read the system")
read_words (Failed which.Equations) = words (codes "cannot read the equations")
read_words (TooLong which.Program) = words (codes "too long: the program")
read_words (TooLong which.Rows) = words (codes "too long: the rows")
read_words (TooLong which.Certificate) = words (codes "too long: the certificate")
read_words (TooLong which.Claims) = words (codes "too long: the claims")
read_words (TooLong which.System) = words (codes "too long: the system")
read_words (TooLong which.Equations) = words (codes "too long: the equations")

-- the words of an ending; another message tells of a refused certificate and of a wide operation
abbrev pub words_of : ℕ → Status → Words
words_of line Done = words []
words_of line Open = words []
words_of line (Certificate cause) = words []
words_of line Usage = record { subject = []; before = usage_text; number = None; after = [] }
words_of line (Read cause) = read_words cause
words_of line (Text cause) = text_words line cause
words_of line (Exceeded (Wide spot)) = words []
words_of line (Exceeded (Large cells)) = counted_in program_refused [] cells (codes " cells\n")
words_of line (Spent number) = counted_in [] (codes "spent: ") number (codes " improvements\n")
words_of line Memory = words (codes "out of memory")
words_of line Write = words (codes "cannot write")

abbrev pub number_text : Option ℕ → List ℕ
number_text None = []
number_text (Some n) = decimal n

-- the whole line
abbrev pub line_text : Words → List ℕ
line_text w = w.subject ++ w.before ++ number_text w.number ++ w.after

-- the message of an ending, where this is the line of its cause, and each point has so many rows
abbrev pub message_of : (line rows : ℕ) → Status → List ℕ
message_of line rows Done = line_text (words_of line Done)
message_of line rows Open = line_text (words_of line Open)
message_of line rows (Certificate cause) = certificate_message rows cause
message_of line rows Usage = line_text (words_of line Usage)
message_of line rows (Read cause) = line_text (words_of line (Read cause))
message_of line rows (Text cause) = line_text (words_of line (Text cause))
message_of line rows (Exceeded (Wide spot)) = wide_message rows spot
message_of line rows (Exceeded (Large cells)) = line_text (words_of line (Exceeded (Large cells)))
message_of line rows (Spent number) = line_text (words_of line (Spent number))
message_of line rows Memory = line_text (words_of line Memory)
message_of line rows Write = line_text (words_of line Write)
