-- The commands: what `clap` is given, one simple command with twelve subcommands; and what a list of words asks for.
use Rattle.std.specs.Prelude.{ℕ, Bool, List, [], ◌∷◌, Option, Some, None, true, false, codes, option_and_then, option_map, unwrap_or}
use Rattle.std.specs.Prelude.{filter, map, if◌then◌else◌}
use Rattle.std.specs.List.{list_any}
use Rattle.std.specs.Option.{option_map_or}
use Rattle.std.specs.Str.{bytes_eq}
use Rattle.std.specs.Borrow.{Bor}
use Rattle.base_integers.specs.declared.integers.Integers.TheVariants.{Mathematical, Machine}
use Rattle.base_integers.specs.declared.integers.Width.{Width}
use Rattle.base_integers.specs.declared.integers.Width.TheVariants.{Bits8, Bits16, Bits32}
use Rattle.base_limits.specs.declared.limits.TheConstants.{MOST_IMPROVEMENTS, MOST_LOOPS}
use Rattle.clap.specs.Words.{App, Kinds, Row, Rule, Text, fault_of, first_of, new_app, new_rule, subcommand_of, with_rule, with_subcommand}
use Rattle.clap.specs.Simple.{on_top}
use Rattle.clap.specs.declared.builder.action.ArgAction.TheVariants.{SetTrue}
use Rattle.ask_words.specs.Help.{topic_in}
use Rattle.ask_words.specs.Values.{check_formats, domain_in, formats, integers_in, meaning_in, number_in, policies}
use Rattle.ask_words.specs.declared.format.Format.{Format}
use Rattle.ask_words.specs.declared.format.Format.TheVariants as format
use Rattle.ask_words.specs.declared.help.Topic.TheVariants as page
use Rattle.ask_words.specs.declared.request.Analysis.{Analysis}
use Rattle.ask_words.specs.declared.request.Domain.{Domain}
use Rattle.ask_words.specs.declared.request.Domain.TheVariants.{Intervals, Zones, Octagons, Packs, Rows}
use Rattle.ask_words.specs.declared.request.Request.{Request}
use Rattle.ask_words.specs.declared.request.Policy.{Policy}
use Rattle.ask_words.specs.declared.request.Policy.TheVariants.{Best, First}
use Rattle.ask_words.specs.declared.request.Request.TheVariants.{Analyse, Check, Bench, Upgrade, Prove, Transitions, Equations, Points}
use Rattle.ask_words.specs.declared.request.Request.TheVariants.{Functions, Verify, Help}
use Rattle.ask_words.specs.declared.request.Purpose.TheVariants.{Report, Certificate}
use Rattle.ask_words.specs.declared.request.Source.{Source}

-- ---- the command line, as `clap` sees it

-- a positional word that has to be there
abbrev pub word_rule : Text → Rule
word_rule id = record (new_rule id) { required = true }

-- a positional word that may be left out
abbrev pub optional_rule : Text → Rule
optional_rule id = new_rule id

-- an option of one value, which is given at most once
abbrev pub option_rule : Text → Rule
option_rule id = record (new_rule id) { long = Some id }

-- an option without a value, which is given at most once
abbrev pub flag_rule : Text → Rule
flag_rule id = record (new_rule id) { long = Some id; action = Some SetTrue }

-- a command whose output has a format
abbrev pub in_formats : App → App
in_formats app = with_rule app (option_rule (codes "format"))

-- a command that asks about a function of its program, and by which integers it computes
abbrev pub of_function : App → App
of_function app = with_rule (with_rule app (option_rule (codes "function"))) (option_rule (codes "int"))

-- a command that analyses what has points, with five options; `transitions FILE` has a format, too
abbrev pub analysis_app : Text → App
analysis_app name =
    with_rule (with_rule (with_rule (with_rule (with_rule (with_rule (new_app name)
    (word_rule (codes "program"))) (option_rule (codes "domain"))) (option_rule (codes "rows")))
    (option_rule (codes "improvements"))) (option_rule (codes "policy"))) (flag_rule (codes "progress"))

-- `certify PROGRAM`, with seven options; `solve PROGRAM` and `verify PROGRAM` have one more
abbrev pub program_app : Text → App
program_app name = of_function (analysis_app name)

-- `check PROGRAM CERT`
abbrev pub check_app : App
check_app = in_formats (of_function (with_rule (with_rule (new_app (codes "check")) (word_rule (codes "program")))
    (word_rule (codes "certificate"))))

-- `bench --seed N --loops K`
abbrev pub bench_app : App
bench_app = with_rule (with_rule (new_app (codes "bench")) (option_rule (codes "seed")))
    (option_rule (codes "loops"))

-- `upgrade CERT`
abbrev pub upgrade_app : App
upgrade_app = with_rule (new_app (codes "upgrade")) (word_rule (codes "certificate"))

-- `prove PROGRAM CLAIMS`, with the options of `solve`
abbrev pub prove_app : App
prove_app = in_formats (with_rule (program_app (codes "prove")) (word_rule (codes "claims")))

-- `equations FILE`, with four options
abbrev pub equations_app : App
equations_app = in_formats (with_rule (with_rule (with_rule (with_rule (new_app (codes "equations")) (word_rule (codes "file")))
    (option_rule (codes "improvements"))) (option_rule (codes "policy"))) (flag_rule (codes "progress")))

-- `points PROGRAM`
abbrev pub points_app : App
points_app = with_rule (new_app (codes "points")) (word_rule (codes "program"))

-- `functions PROGRAM`
abbrev pub functions_app : App
functions_app = with_rule (new_app (codes "functions")) (word_rule (codes "program"))

-- `help [COMMAND]`
abbrev pub help_app : App
help_app = with_rule (new_app (codes "help")) (optional_rule (codes "command"))

-- the program's own name isn't among the words, and one of the commands has to be; `help` is one of these, and not that of `clap`
abbrev pub top_app : App
top_app = on_top (λ s. record s { no_binary_name = true; subcommand_required = true; disable_help_subcommand = true })
    (new_app (codes "tmpl"))

-- the whole command line
abbrev pub tmpl_app : App
tmpl_app = with_subcommand (with_subcommand (with_subcommand (with_subcommand (with_subcommand (with_subcommand (with_subcommand
    (with_subcommand (with_subcommand (with_subcommand (with_subcommand (with_subcommand top_app
    (in_formats (program_app (codes "solve"))).top) (program_app (codes "certify")).top) check_app.top) bench_app.top)
    upgrade_app.top) prove_app.top) (in_formats (analysis_app (codes "transitions"))).top) equations_app.top) points_app.top)
    (in_formats (program_app (codes "verify"))).top) functions_app.top) help_app.top

-- ---- the texts of a request that borrows them

-- the domain with its file's name as a text
abbrev pub domain_text : Domain (Bor Text) → Domain Text
domain_text Intervals = Intervals
domain_text Zones = Zones
domain_text Octagons = Octagons
domain_text Packs = Packs
domain_text (Rows file) = Rows file.now

-- the program with the names of its file and of its function as texts
abbrev pub source_text : Source (Bor Text) → Source Text
source_text s = record { text = s.text.now; function = option_map (λ name. name.now) s.function; integers = s.integers }

-- the analysis with its names as texts
abbrev pub analysis_text : Analysis (Bor Text) → Analysis Text
analysis_text a = record {
  program = source_text a.program;
  domain = domain_text a.domain;
  improvements = a.improvements;
  policy = a.policy;
}

-- the request with its names as texts
abbrev pub request_text : Request (Bor Text) → Request Text
request_text (Analyse purpose a format) = Analyse purpose (analysis_text a) format
request_text (Check program certificate format) = Check (source_text program) certificate.now format
request_text (Bench seed loops) = Bench seed loops
request_text (Upgrade certificate) = Upgrade certificate.now
request_text (Prove claims a format) = Prove claims.now (analysis_text a) format
request_text (Transitions a format) = Transitions (analysis_text a) format
request_text (Equations file improvements policy format) = Equations file.now improvements policy format
request_text (Points program) = Points program.now
request_text (Functions file) = Functions file.now
request_text (Verify name a format) = Verify name.now (analysis_text a) format
request_text (Help topic) = Help topic

-- ---- commands, by the words and options that were given

-- how many improvements are made at most
abbrev pub improvements_in : List Row → Option ℕ
improvements_in given = number_in 0 MOST_IMPROVEMENTS (unwrap_or (first_of (codes "improvements") given) (codes "1000"))

-- by which rule an edge is picked
abbrev pub policy_in : List Row → Option Policy
policy_in given = meaning_in policies (unwrap_or (first_of (codes "policy") given) (codes "best"))

-- in which of these formats the output is written
abbrev pub format_in : List (Text × Format) → List Row → Option Format
format_in table given = meaning_in table (unwrap_or (first_of (codes "format") given) (codes "text"))

-- the program, the name of the function that is asked about, where one is given, and the integers by which it computes
abbrev pub source_in : List Row → Option (Source Text)
source_in given =
    option_and_then (λ text.
    option_map (λ integers. record {
      text = text;
      function = first_of (codes "function") given;
      integers = integers;
    }) (integers_in (first_of (codes "int") given)))
    (first_of (codes "program") given)

-- what is analysed, and how
abbrev pub analysis_in : List Row → Option (Analysis Text)
analysis_in given =
    option_and_then (λ program.
    option_and_then (λ domain.
    option_and_then (λ improvements.
    option_map (λ policy. record {
      program = program;
      domain = domain;
      improvements = improvements;
      policy = policy;
    }) (policy_in given))
    (improvements_in given))
    (domain_in (unwrap_or (first_of (codes "domain") given) (codes "intervals")) (first_of (codes "rows") given)))
    (source_in given)

-- `solve`: the report of an analysis, in a format
abbrev pub solve_in : List Row → Option (Request Text)
solve_in given = option_and_then (λ a. option_map (λ format. Analyse Report a format) (format_in formats given)) (analysis_in given)

-- `certify`: the certificate of an analysis
abbrev pub certify_in : List Row → Option (Request Text)
certify_in given = option_map (λ a. Analyse Certificate a format.Text) (analysis_in given)

-- `check`: a program and a certificate
abbrev pub check_in : List Row → Option (Request Text)
check_in given = option_and_then (λ program. option_and_then (λ certificate. option_map (λ format. Check program certificate format)
    (format_in formats given)) (first_of (codes "certificate") given)) (source_in given)

-- `bench`: a seed up to 2^31 - 1, and 1 to 500 loops
abbrev pub bench_in : List Row → Option (Request Text)
bench_in given = option_and_then (λ seed. option_map (λ loops. Bench seed loops)
    (option_and_then (number_in 1 MOST_LOOPS) (first_of (codes "loops") given)))
    (option_and_then (number_in 0 2147483647) (first_of (codes "seed") given))

-- `upgrade`: a certificate
abbrev pub upgrade_in : List Row → Option (Request Text)
upgrade_in given = option_map (λ certificate. Upgrade certificate) (first_of (codes "certificate") given)

-- `prove`: claims and an analysis
abbrev pub prove_in : List Row → Option (Request Text)
prove_in given = option_and_then (λ a. option_and_then (λ claims. option_map (λ format. Prove claims a format)
    (format_in formats given)) (first_of (codes "claims") given)) (analysis_in given)

-- `transitions`: an analysis of a file of transitions
abbrev pub transitions_in : List Row → Option (Request Text)
transitions_in given = option_and_then (λ a. option_map (λ format. Transitions a format) (format_in formats given)) (analysis_in given)

-- `equations`: a file of equations, how many improvements at most, and by which rule
abbrev pub equations_in : List Row → Option (Request Text)
equations_in given =
    option_and_then (λ file.
    option_and_then (λ improvements.
    option_and_then (λ policy.
    option_map (λ format. Equations file improvements policy format) (format_in formats given))
    (policy_in given))
    (improvements_in given))
    (first_of (codes "file") given)

-- `points`: a program
abbrev pub points_in : List Row → Option (Request Text)
points_in given = option_map (λ program. Points program) (first_of (codes "program") given)

-- `functions`: a file of functions
abbrev pub functions_in : List Row → Option (Request Text)
functions_in given = option_map (λ file. Functions file) (first_of (codes "program") given)

-- `verify`: an analysis whose program has checks; the name of its file stays with it
abbrev pub verify_in : List Row → Option (Request Text)
verify_in given =
    option_and_then (λ a. option_map (λ format. Verify a.program.text a format) (format_in check_formats given)) (analysis_in given)

-- `help`: a page
abbrev pub help_in : List Row → Option (Request Text)
help_in given = option_map (λ topic. Help topic) (topic_in (first_of (codes "command") given))

-- the request of a command by its name
abbrev pub command_in : Text × List Row → Option (Request Text)
command_in (name, given) = if bytes_eq name (codes "solve") then solve_in given
    else (if bytes_eq name (codes "certify") then certify_in given
    else (if bytes_eq name (codes "check") then check_in given
    else (if bytes_eq name (codes "bench") then bench_in given
    else (if bytes_eq name (codes "upgrade") then upgrade_in given
    else (if bytes_eq name (codes "prove") then prove_in given
    else (if bytes_eq name (codes "transitions") then transitions_in given
    else (if bytes_eq name (codes "equations") then equations_in given
    else (if bytes_eq name (codes "points") then points_in given
    else (if bytes_eq name (codes "verify") then verify_in given
    else (if bytes_eq name (codes "functions") then functions_in given
    else (if bytes_eq name (codes "help") then help_in given else None)))))))))))

-- what is asked, where `clap` finds no fault
abbrev pub unless_fault : Kinds → Option (Request Text) → Option (Request Text)
unless_fault [] asked = asked
unless_fault (kind ∷ kinds) asked = None

-- the request that the words make: `clap` takes them for the command line, and each value is in form
unfoldable pub request_of : List Text → Option (Request Text)
request_of words = unless_fault (fault_of tmpl_app words)
    (option_and_then command_in (subcommand_of tmpl_app words))

-- ---- progress

-- the option `--progress` is among the words of a command
abbrev pub has_progress : List Row → Bool
has_progress given = option_map_or (λ text. bytes_eq text (codes "true")) (first_of (codes "progress") given) false

-- it is among those of a subcommand
abbrev pub progress_in : Option (Text × List Row) → Bool
progress_in found = option_map_or has_progress (option_map (λ command. command.1) found) false

-- what is asked of progress, where `clap` finds no fault
abbrev pub told_unless_fault : Kinds → Bool → Bool
told_unless_fault [] told = told
told_unless_fault (kind ∷ kinds) told = false

-- the words ask that rounds, turns and pivots are told; this is no part of their request
unfoldable pub wants_progress : List Text → Bool
wants_progress words = told_unless_fault (fault_of tmpl_app words) (progress_in (subcommand_of tmpl_app words))

-- ---- examples

-- a program of which no function is named, and that computes by mathematical integers
abbrev pub whole_source : Text → Source Text
whole_source text = record { text = text; function = None; integers = Mathematical }

-- a program of which this function is asked about, by mathematical integers
abbrev pub source_of : (text function : Text) → Source Text
source_of text function = record (whole_source text) { function = Some function }

-- a program of which no function is named, by integers of a machine
abbrev pub source_by : Text → Width → Source Text
source_by text width = record (whole_source text) { integers = Machine width }

-- the analysis of a program over a domain, with the other options left out
abbrev pub analysis_of : Source Text → Domain Text → Analysis Text
analysis_of program domain = record { program = program; domain = domain; improvements = 1000; policy = Best }

-- with no function named, and by mathematical integers
abbrev pub plain_analysis : Text → Domain Text → Analysis Text
plain_analysis program domain = analysis_of (whole_source program) domain

-- words of each command that asks for no report of a program, and what they ask for
abbrev pub examples : List (List Text × Request Text)
examples =
    -- the file of the program comes first
    (codes "check" ∷ codes "p" ∷ codes "c" ∷ [], Check (whole_source (codes "p")) (codes "c") format.Text)
    ∷ (codes "bench" ∷ codes "--loops" ∷ codes "3" ∷ codes "--seed" ∷ codes "7" ∷ [], Bench 7 3)
    -- the file of a certificate alone is upgraded
    ∷ (codes "upgrade" ∷ codes "c" ∷ [], Upgrade (codes "c"))
    -- the program comes before its claims, wherever the options stand
    ∷ (
      codes "prove" ∷ codes "p" ∷ codes "--domain=zones" ∷ codes "c" ∷ [],
      Prove (codes "c") (plain_analysis (codes "p") Zones) format.Text,
    )
    -- a transition system is analysed as a program is
    ∷ (codes "transitions" ∷ codes "s" ∷ codes "--domain" ∷ codes "packs" ∷ [], Transitions (plain_analysis (codes "s") Packs) format.Text)
    -- equations are solved by the policy that is named, and by 1,000 improvements where none are
    ∷ (codes "equations" ∷ codes "e" ∷ codes "--policy=first" ∷ codes "--format=json" ∷ [], Equations (codes "e") 1000 First format.Json)
    -- the program alone has its points written
    ∷ (codes "points" ∷ codes "p" ∷ [], Points (codes "p"))
    -- a file alone has its functions named
    ∷ (codes "functions" ∷ codes "p" ∷ [], Functions (codes "p"))
    -- the checks of a program are judged by the bounds of its analysis
    ∷ (
      codes "verify" ∷ codes "p" ∷ codes "--domain=octagons" ∷ codes "--format" ∷ codes "sarif" ∷ [],
      Verify (codes "p") (plain_analysis (codes "p") Octagons) format.Sarif,
    )
    -- help is given on itself, and on a command
    ∷ (codes "help" ∷ [], Help page.Overview)
    ∷ (codes "help" ∷ codes "prove" ∷ [], Help page.Prove)
    ∷ []

-- words that name a function of the program, and what they ask for
abbrev pub function_examples : List (List Text × Request Text)
function_examples =
    -- a function is named before the program or behind it, in one word or in two, as any option
    (
      codes "solve" ∷ codes "--function=f" ∷ codes "p" ∷ [],
      Analyse Report (analysis_of (source_of (codes "p") (codes "f")) Intervals) format.Text,
    )
    -- its certificate is that of this function
    ∷ (
      codes "certify" ∷ codes "p" ∷ codes "--function" ∷ codes "f" ∷ [],
      Analyse Certificate (analysis_of (source_of (codes "p") (codes "f")) Intervals) format.Text,
    )
    -- and is checked against this function
    ∷ (codes "check" ∷ codes "p" ∷ codes "--function=f" ∷ codes "c" ∷ [], Check (source_of (codes "p") (codes "f")) (codes "c") format.Text)
    -- claims speak of the states of this function
    ∷ (
      codes "prove" ∷ codes "p" ∷ codes "c" ∷ codes "--function=f" ∷ [],
      Prove (codes "c") (analysis_of (source_of (codes "p") (codes "f")) Intervals) format.Text,
    )
    -- the checks are those of this function
    ∷ (
      codes "verify" ∷ codes "--function=f" ∷ codes "p" ∷ [],
      Verify (codes "p") (analysis_of (source_of (codes "p") (codes "f")) Intervals) format.Text,
    )
    ∷ []

-- words that ask for nothing: a function is named twice, or the option has no name behind it, or the command has no function
abbrev pub function_refusals : List (List Text)
function_refusals = (codes "solve" ∷ codes "p" ∷ codes "--function=f" ∷ codes "--function=f" ∷ [])
    ∷ (codes "solve" ∷ codes "p" ∷ codes "--function" ∷ [])
    ∷ (codes "transitions" ∷ codes "p" ∷ codes "--function=f" ∷ [])
    ∷ []

-- words that give the number of bits that integers have, and what they ask for
abbrev pub integer_examples : List (List Text × Request Text)
integer_examples =
    -- the number stands before the program or behind it, in one word or in two, as any option
    (
      codes "solve" ∷ codes "--int=8" ∷ codes "p" ∷ [],
      Analyse Report (analysis_of (source_by (codes "p") Bits8) Intervals) format.Text,
    )
    ∷ (
      codes "certify" ∷ codes "p" ∷ codes "--int" ∷ codes "16" ∷ [],
      Analyse Certificate (analysis_of (source_by (codes "p") Bits16) Intervals) format.Text,
    )
    ∷ (codes "check" ∷ codes "p" ∷ codes "--int=32" ∷ codes "c" ∷ [], Check (source_by (codes "p") Bits32) (codes "c") format.Text)
    -- zeros before it are passed over, as in any number
    ∷ (
      codes "prove" ∷ codes "p" ∷ codes "c" ∷ codes "--int=08" ∷ [],
      Prove (codes "c") (analysis_of (source_by (codes "p") Bits8) Intervals) format.Text,
    )
    -- and a function may be named beside it
    ∷ (
      codes "verify" ∷ codes "--int=16" ∷ codes "--function=f" ∷ codes "p" ∷ [],
      Verify (codes "p") (analysis_of (record (source_by (codes "p") Bits16) { function = Some (codes "f") }) Intervals) format.Text,
    )
    ∷ []

-- words that ask for nothing: the number is given twice, or there is none, or another one, or no number, or the command has no function
abbrev pub integer_refusals : List (List Text)
integer_refusals = (codes "solve" ∷ codes "p" ∷ codes "--int=8" ∷ codes "--int=8" ∷ [])
    ∷ (codes "solve" ∷ codes "p" ∷ codes "--int" ∷ [])
    ∷ (codes "certify" ∷ codes "p" ∷ codes "--int=" ∷ [])
    ∷ (codes "check" ∷ codes "p" ∷ codes "--int=64" ∷ codes "c" ∷ [])
    ∷ (codes "prove" ∷ codes "p" ∷ codes "c" ∷ codes "--int=9" ∷ [])
    ∷ (codes "verify" ∷ codes "p" ∷ codes "--int=+8" ∷ [])
    ∷ (codes "transitions" ∷ codes "p" ∷ codes "--int=8" ∷ [])
    ∷ []

-- the commands that have an option of this name, in the order of the command line
abbrev pub commands_with : Text → List Text
commands_with id = map (λ command. command.name) (filter (λ command. list_any (λ rule. bytes_eq rule.id id) command.rules) tmpl_app.subs)
