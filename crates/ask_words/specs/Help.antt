-- What the usage line and the pages of `tmpl help` say: each part stands here once.
use Rattle.std.specs.Prelude.{◌++◌, ◌&&◌, ◌||◌, ◌==◌, ◌+◌, ℕ, zero, suc, Bool, true, false, List, [], ◌∷◌, Option, Some, None, codes}
use Rattle.std.specs.Prelude.{if◌then◌else◌, nat_lt}
use Rattle.clap.specs.Words.{Text}
use Rattle.ask_words.specs.Values.{meaning_in}
use Rattle.ask_words.specs.declared.help.Topic.{Topic}
use Rattle.ask_words.specs.declared.help.Topic.TheVariants as page

-- ---- the words of a command

-- the command with the words that it has to have
abbrev pub head_of : Topic → Text
head_of page.Overview = codes "help [COMMAND]"
head_of page.Solve = codes "solve PROGRAM"
head_of page.Certify = codes "certify PROGRAM"
head_of page.Check = codes "check PROGRAM CERT"
head_of page.Bench = codes "bench --seed N --loops K"
head_of page.Upgrade = codes "upgrade CERT"
head_of page.Prove = codes "prove PROGRAM CLAIMS"
head_of page.Transitions = codes "transitions FILE"
head_of page.Equations = codes "equations FILE"
head_of page.Points = codes "points PROGRAM"
head_of page.Verify = codes "verify PROGRAM"
head_of page.Functions = codes "functions PROGRAM"

-- the options of `solve`, and of the commands that have the same ones
abbrev pub analysis_options : Text
analysis_options = codes "[--domain D] [--rows FILE] [--improvements N] [--policy P]"

-- the options of `equations`
abbrev pub equation_options : Text
equation_options = codes "[--improvements N] [--policy P]"

-- the option of all commands that solve something
abbrev pub progress_option : Text
progress_option = codes "[--progress]"

-- the option of commands whose output has a format
abbrev pub format_option : Text
format_option = codes "[--format F]"

-- the options of commands that ask about one function
abbrev pub function_options : Text
function_options = codes "[--function NAME] [--int N]"

-- a command that has the options of `solve`
abbrev pub as_solve : Topic → Text
as_solve topic = head_of topic ++ codes " (the options of solve)"

-- the line that a refusal of the words prints: the commands and their options
abbrev pub usage_text : Text
usage_text = codes "usage: tmpl " ++ head_of page.Solve ++ codes " " ++ analysis_options ++ codes " | certify (the same)"
    ++ codes " | " ++ head_of page.Check ++ codes " | " ++ head_of page.Bench ++ codes " | " ++ head_of page.Upgrade
    ++ codes " | " ++ as_solve page.Prove ++ codes " | " ++ as_solve page.Transitions
    ++ codes " | " ++ head_of page.Equations ++ codes " " ++ equation_options ++ codes " | " ++ head_of page.Points
    ++ codes " | " ++ as_solve page.Verify ++ codes " | solve, check, transitions, equations, prove, verify: " ++ format_option
    ++ codes " | solve, certify, prove, verify, transitions, equations: " ++ progress_option
    ++ codes " | " ++ head_of page.Overview ++ codes " | " ++ head_of page.Functions
    ++ codes " | solve, certify, check, prove, verify: " ++ function_options ++ codes "\n"

-- ---- the pages

-- what a command is for
abbrev pub purpose_of : Topic → Text
purpose_of page.Overview = codes "Finds the least bounds of linear forms over the variables of a program, without\n"
    ++ codes "widening, and proves claims and assertions by them. Its commands are\n"
    ++ codes "\n"
    ++ codes "  solve PROGRAM             the report of the least bounds\n"
    ++ codes "  certify PROGRAM           a certificate of these bounds\n"
    ++ codes "  check PROGRAM CERT        the report of the bounds of a valid certificate\n"
    ++ codes "  bench --seed N --loops K  the summary of a generated program\n"
    ++ codes "  upgrade CERT              a certificate, as it is written now\n"
    ++ codes "  prove PROGRAM CLAIMS      which claims the bounds prove\n"
    ++ codes "  transitions FILE          the report of a transition system's bounds\n"
    ++ codes "  equations FILE            the least solution of equations\n"
    ++ codes "  points PROGRAM            the points of a program, without bounds\n"
    ++ codes "  verify PROGRAM            which assertions of a program the bounds prove\n"
    ++ codes "  functions PROGRAM         the names of the functions of a file\n"
purpose_of page.Solve = codes "Prints the least bounds of a program: for each point, as loop heads, labels\n"
    ++ codes "and the exit, and for each row of the domain the least number that the row\n"
    ++ codes "never exceeds there.\n"
purpose_of page.Certify = codes "Writes a certificate of the least bounds of a program: how they are reached,\n"
    ++ codes "and why nothing smaller would do. Another program, or check, can follow it.\n"
purpose_of page.Check = codes "Checks a certificate, whoever made it, and prints the bounds of one that is\n"
    ++ codes "valid: they are the least bounds of the program over the certificate's rows.\n"
purpose_of page.Bench = codes "Solves a generated program, and prints a summary of what was found.\n"
purpose_of page.Upgrade = codes "Writes a certificate of an older format as certify writes certificates now.\n"
    ++ codes "It isn't checked.\n"
purpose_of page.Prove = codes "Says of each claim about the states at a label whether the least bounds of the\n"
    ++ codes "program prove it, with a state that they allow where it is open.\n"
purpose_of page.Transitions = codes "Prints the least bounds of a transition system: points, with guarded edges\n"
    ++ codes "between them, as another tool may write them down.\n"
purpose_of page.Equations = codes "Prints the least solution of rational equations with maxima and minima.\n"
purpose_of page.Points = codes "Lists the points of a program, with their lines and labels, without bounds.\n"
purpose_of page.Verify = codes "Says of each assertion of a program whether its least bounds prove it, with a\n"
    ++ codes "state that they allow where it is open.\n"
purpose_of page.Functions = codes "Lists the names of the functions that a C file defines, in their order.\n"

-- options on a line of their own
abbrev pub on_a_line : Text → Text
on_a_line options = codes "\n         " ++ options

-- all options of `solve`
abbrev pub program_options : Text
program_options = on_a_line analysis_options ++ on_a_line format_option ++ codes " " ++ progress_option ++ codes " " ++ function_options

-- the options of a command, where it has some
abbrev pub options_of : Topic → Text
options_of page.Overview = []
options_of page.Solve = program_options
options_of page.Certify = on_a_line analysis_options ++ on_a_line progress_option ++ codes " " ++ function_options
options_of page.Check = on_a_line format_option ++ codes " " ++ function_options
options_of page.Bench = []
options_of page.Upgrade = []
options_of page.Prove = program_options
options_of page.Transitions = on_a_line analysis_options ++ on_a_line format_option ++ codes " " ++ progress_option
options_of page.Equations = on_a_line equation_options ++ codes " " ++ format_option ++ codes " " ++ progress_option
options_of page.Points = []
options_of page.Verify = program_options
options_of page.Functions = []

-- the options of improvements
abbrev pub about_improvements : Text
about_improvements = codes "  --improvements N  up to N rounds of improvements, 1000 if absent\n"
    ++ codes "  --policy P        which edge a round picks: best if absent, or first\n"
    ++ codes "  --progress        tells rounds, turns and pivots on standard error\n"

-- the options of an analysis
abbrev pub about_analysis : Text
about_analysis = codes "  --domain D        rows: intervals if absent, zones, octagons, packs or rows\n"
    ++ codes "  --rows FILE       with the domain rows, the file that has them\n"
    ++ about_improvements

-- the format of an output that has no SARIF
abbrev pub about_format : Text
about_format = codes "  --format F        how it is written: text if absent, or json\n"

-- the function of a program
abbrev pub about_function : Text
about_function = codes "the function asked about; main, or the only one, if absent\n"

-- the integers by which it computes, on two lines; the second begins with these blanks
abbrev pub about_integers : (blanks : Text) → Text
about_integers blanks = codes "integers of N bits (8, 16 or 32), each operation checked\n"
    ++ blanks ++ codes "for overflow; mathematical integers if absent\n"

-- a program and the options of its analysis
abbrev pub about_program : Text
about_program = about_analysis ++ codes "  --function NAME   " ++ about_function
    ++ codes "  --int N           " ++ about_integers (codes "                    ")

-- what the words of a command stand for
abbrev pub about : Topic → Text
about page.Overview = codes "  COMMAND  says what this command takes, with an example and its exit codes\n"
about page.Solve = codes "  PROGRAM           a C file\n"
    ++ about_program ++ about_format
about page.Certify = codes "  PROGRAM           a C file\n"
    ++ about_program
about page.Check = codes "  PROGRAM          a C file\n"
    ++ codes "  CERT             a certificate, as certify writes it\n"
    ++ codes "  --function NAME  " ++ about_function
    ++ codes "  --int N          " ++ about_integers (codes "                   ")
    ++ codes "  --format F       how it is written: text if absent, or json\n"
about page.Bench = codes "  --seed N   from which the program is drawn, 0 to 2147483647\n"
    ++ codes "  --loops K  how many loops it has, 1 to 500\n"
about page.Upgrade = codes "  CERT  a certificate, in any format\n"
about page.Prove = codes "  PROGRAM           a C file\n"
    ++ codes "  CLAIMS            a file of claims, as LABEL: x <= 10;\n"
    ++ about_program ++ about_format
about page.Transitions = codes "  FILE              points and edges, instead of a program\n"
    ++ about_analysis ++ about_format
about page.Equations = codes "  FILE              equations, as x = max(0, 1:2*y + 1);\n"
    ++ about_improvements ++ about_format
about page.Points = codes "  PROGRAM  a C file\n"
about page.Verify = codes "  PROGRAM           a C file\n"
    ++ about_program
    ++ codes "  --format F        how it is written: text if absent, json or sarif\n"
about page.Functions = codes "  PROGRAM  a C file\n"

-- an option in examples
abbrev pub over_octagons : Text
over_octagons = codes " --domain octagons"

-- words that stand for themselves, as an example
abbrev pub example_of : Topic → Text
example_of page.Overview = codes "help solve"
example_of page.Solve = codes "solve examples/sum.c" ++ over_octagons
example_of page.Certify = codes "certify examples/sum.c" ++ over_octagons ++ codes " > sum.cert"
example_of page.Check = codes "check examples/sum.c sum.cert"
example_of page.Bench = codes "bench --seed 1 --loops 10"
example_of page.Upgrade = codes "upgrade old.cert > new.cert"
example_of page.Prove = codes "prove examples/pair.c examples/pair.claims"
example_of page.Transitions = codes "transitions examples/buffer.tsys"
example_of page.Equations = codes "equations examples/fair.equ"
example_of page.Points = codes "points examples/pair.c"
example_of page.Verify = codes "verify examples/assertions.c" ++ over_octagons
example_of page.Functions = codes "functions examples/pair.c"

-- the exit codes of an analysis
abbrev pub analysis_codes : Text
analysis_codes = codes "exit codes: 0 written, 2 wrong words, 3 file not read, 4 text refused or too\n"
    ++ codes "  large, 5 fraction too wide, 6 improvements spent, 7 out of memory,\n"
    ++ codes "  8 cannot write\n"

-- the exit codes of a list of what a file has
abbrev pub list_codes : Text
list_codes = codes "exit codes: 0 written, 2 wrong words, 3 file not read, 4 program refused,\n"
    ++ codes "  7 out of memory, 8 cannot write\n"

-- with which exit codes a command ends
abbrev pub codes_of : Topic → Text
codes_of page.Overview = codes "exit codes: 0 written, 1 certificate refused, 2 wrong words, 3 file not read,\n"
    ++ codes "  4 text refused or too large, 5 fraction too wide, 6 improvements spent,\n"
    ++ codes "  7 out of memory, 8 cannot write, 10 some assertion is open\n"
codes_of page.Solve = analysis_codes
codes_of page.Certify = analysis_codes
codes_of page.Check = codes "exit codes: 0 accepted, 1 certificate refused, 2 wrong words, 3 file not read,\n"
    ++ codes "  4 program refused, 5 fraction too wide, 7 out of memory, 8 cannot write\n"
codes_of page.Bench = codes "exit codes: 0 written, 2 wrong words, 4 linear program too large, 5 fraction too\n"
    ++ codes "  wide, 6 improvements spent, 7 out of memory, 8 cannot write\n"
codes_of page.Upgrade = codes "exit codes: 0 written, 1 no certificate, 2 wrong words, 3 file not read,\n"
    ++ codes "  7 out of memory, 8 cannot write\n"
codes_of page.Prove = analysis_codes
codes_of page.Transitions = analysis_codes
codes_of page.Equations = analysis_codes
codes_of page.Points = list_codes
codes_of page.Verify = codes "exit codes: 0 all are proved, 10 some assertion is open, 2 wrong words,\n"
    ++ codes "  3 file not read, 4 text refused or too large, 5 fraction too wide,\n"
    ++ codes "  6 improvements spent, 7 out of memory, 8 cannot write\n"
codes_of page.Functions = list_codes

-- the page of a command
abbrev pub help_text : Topic → Text
help_text topic = purpose_of topic
    ++ codes "\nusage: tmpl " ++ head_of topic ++ options_of topic
    ++ codes "\n\n" ++ about topic
    ++ codes "\nexample: tmpl " ++ example_of topic
    ++ codes "\n\n" ++ codes_of topic

-- the commands, each with its page
abbrev pub topics : List (Text × Topic)
topics = (codes "solve", page.Solve)
    ∷ (codes "certify", page.Certify)
    ∷ (codes "check", page.Check)
    ∷ (codes "bench", page.Bench)
    ∷ (codes "upgrade", page.Upgrade)
    ∷ (codes "prove", page.Prove)
    ∷ (codes "transitions", page.Transitions)
    ∷ (codes "equations", page.Equations)
    ∷ (codes "points", page.Points)
    ∷ (codes "verify", page.Verify)
    ∷ (codes "functions", page.Functions)
    ∷ (codes "help", page.Overview)
    ∷ []

-- the page that a word asks for, that of the command of this name; without a word it is that of `help`
abbrev pub topic_in : Option Text → Option Topic
topic_in None = Some page.Overview
topic_in (Some word) = meaning_in topics word

-- ---- what is so of them

-- a text goes on so
abbrev pub goes_on : (part text : Text) → Bool
goes_on [] text = true
goes_on (byte ∷ part) [] = false
goes_on (byte ∷ part) (other ∷ text) = byte == other && goes_on part text

-- this part stands somewhere in a text
abbrev pub stands_in : (part text : Text) → Bool
stands_in part [] = goes_on part []
stands_in part (byte ∷ text) = goes_on part (byte ∷ text) || stands_in part text

-- a text whose lines all end is on so many lines, of which none has more columns than a screen; the one that has begun has so many
abbrev pub is_on : (lines columns : ℕ) → Text → Bool
is_on lines columns [] = columns == 0
is_on zero columns (byte ∷ text) = false
is_on (suc lines) columns (byte ∷ text) =
    if byte == 10 then is_on lines 0 text else nat_lt columns 80 && is_on (suc lines) (columns + 1) text

-- a screen has 24 lines of 80 columns
abbrev pub is_screen : Text → Bool
is_screen text = is_on 24 0 text
