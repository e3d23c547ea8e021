-- Verdicts on checks as a list of bytes.
use Rattle.std.specs.Prelude.{◌+◌, ◌==◌, ◌++◌, ℕ, suc, not, List, [], ◌∷◌, codes, decimal, length, take}
use Rattle.std.specs.List.{suffix_len}
use Rattle.lang_tokens.specs.Lines.{line_at}
use Rattle.lang_tree.specs.declared.check.CheckKind.{CheckKind}
use Rattle.lang_tree.specs.declared.check.CheckKind.TheVariants.{Assert, Divisor, Error, Index, Range}
use Rattle.flow_edges.specs.declared.checked.CheckCases.{CheckCases}
use Rattle.flow_systems.specs.declared.footer.Footer.TheVariants.{Improvements}
use Rattle.flow_systems.specs.Report.{footer_line, line}
use Rattle.ask_verdicts.specs.Lines.{count_line, verdict_text}
use Rattle.ask_verdicts.specs.declared.outcome.Verdict.{Verdict}

-- one more than the bytes between the last line feed before a place and the place
abbrev pub column_at : List ℕ → ℕ → ℕ
column_at text at = 1 + suffix_len (λ b. not (b == 10)) (take at text)

-- what a check is for
abbrev pub kind_text : CheckKind → List ℕ
kind_text Assert = codes "assert"
kind_text Divisor = codes "divisor"
kind_text Error = codes "error"
kind_text Index = codes "index"
kind_text Range = codes "range"

-- the line of a check of a text
abbrev pub check_line : List ℕ → List (List ℕ) → ℕ → CheckCases → Verdict → List ℕ
check_line text names k check verdict =
    line (codes "check " ++ decimal k ++ codes " at " ++ decimal (line_at text check.check.at) ++ codes ":"
    ++ decimal (column_at text check.check.at) ++ codes ": " ++ kind_text check.check.kind ++ codes ": " ++ verdict_text names verdict)

-- a line for each check, the first of them having the number k
abbrev pub check_lines : List ℕ → List (List ℕ) → ℕ → List CheckCases → List Verdict → List ℕ
check_lines text names k [] verdicts = []
check_lines text names k (check ∷ checks) [] = []
check_lines text names k (check ∷ checks) (verdict ∷ verdicts) =
    check_line text names k check verdict ++ check_lines text names (suc k) checks verdicts

-- the checks of a text with their verdicts, how many are proved, and how many improvements were made
abbrev pub checks_text : List ℕ → List (List ℕ) → List CheckCases → List Verdict → ℕ → List ℕ
checks_text text names checks verdicts improvements = check_lines text names 0 checks verdicts ++ count_line (length checks) verdicts
    ++ footer_line (Improvements improvements)
