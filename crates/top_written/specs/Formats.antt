-- What is written in each format. Of checks alone there is a log of SARIF: for other outputs that format is JSON.
use Rattle.std.specs.Prelude.{ℕ, ℤ, List}
use Rattle.base_numbers.specs.Extended.{Ext}
use Rattle.flow_edges.specs.declared.checked.CheckCases.{CheckCases}
use Rattle.flow_edges.specs.declared.point.Point.{Point}
use Rattle.flow_systems.specs.declared.footer.Footer.{Footer}
use Rattle.flow_systems.specs.declared.system.System.{System}
use Rattle.flow_systems.specs.Equations.{Vector}
use Rattle.flow_systems.specs.Report.{report_text}
use Rattle.out_report.specs.Values.{values_text}
use Rattle.out_json.specs.Pieces.{value_line}
use Rattle.out_json.specs.Reports.{report_value}
use Rattle.out_json.specs.Values.{values_value}
use Rattle.ask_verdicts.specs.declared.outcome.Verdict.{Verdict}
use Rattle.ask_claims.specs.Lines.{verdicts_text}
use Rattle.ask_claims.specs.declared.claim.Claim.{Claim}
use Rattle.ask_checks.specs.Lines.{checks_text}
use Rattle.ask_json.specs.Checks.{checks_value}
use Rattle.ask_json.specs.Claims.{claims_value}
use Rattle.ask_json.specs.Sarif.{sarif_value}
use Rattle.ask_words.specs.declared.format.Format.{Format}
use Rattle.ask_words.specs.declared.format.Format.TheVariants.{Text, Json, Sarif}

-- the report of a vector
abbrev pub report_in : Format → List (List ℕ) → List Point → List (List ℤ) → Vector → Footer → List ℕ
report_in Text names points template v footer = report_text names points template v footer
report_in Json names points template v footer = value_line (report_value names points template v footer)
report_in Sarif names points template v footer = value_line (report_value names points template v footer)

-- the report of a vector of a system
abbrev pub report_of_in : Format → System → Vector → Footer → List ℕ
report_of_in format s v footer = report_in format s.flow.names s.flow.points s.template v footer

-- the values of names
abbrev pub values_in : Format → List (List ℕ) → (ℕ → Ext) → Footer → List ℕ
values_in Text names values footer = values_text names values footer
values_in Json names values footer = value_line (values_value names values footer)
values_in Sarif names values footer = value_line (values_value names values footer)

-- the verdicts on claims
abbrev pub claims_in : Format → List (List ℕ) → List Claim → List Verdict → ℕ → List ℕ
claims_in Text names claims verdicts improvements = verdicts_text names claims verdicts improvements
claims_in Json names claims verdicts improvements = value_line (claims_value names claims verdicts improvements)
claims_in Sarif names claims verdicts improvements = value_line (claims_value names claims verdicts improvements)

-- the verdicts on the checks of a text in the file of this name
abbrev pub checks_in : Format → (file text : List ℕ) → List (List ℕ) → List CheckCases → List Verdict → ℕ → List ℕ
checks_in Text file text names checks verdicts improvements = checks_text text names checks verdicts improvements
checks_in Json file text names checks verdicts improvements = value_line (checks_value text names checks verdicts improvements)
checks_in Sarif file text names checks verdicts improvements = value_line (sarif_value file text names checks verdicts)
