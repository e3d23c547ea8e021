-- Reports of least vectors, and the heads of points alone.
use Rattle.std.specs.Prelude.{◌≡◌, ◌≤◌, ℕ, ℤ, List, length}
use Rattle.lang_tree.specs.Tree.{Statements}
use Rattle.flow_edges.specs.Points.{points_of_program}
use Rattle.flow_systems.specs.declared.footer.Footer.{Footer}
use Rattle.flow_systems.specs.declared.footer.Footer.TheVariants.{Improvements}
use Rattle.flow_systems.specs.declared.system.System.{System}
use Rattle.flow_systems.specs.Equations.{Least, Vector}
use Rattle.flow_systems.specs.Solutions.{Holds, equations_of_program}
use Rattle.out_report.specs.Heads.{head_lines}
use Rattle.ask_words.specs.declared.format.Format.{Format}
use Rattle.ask_words.specs.declared.request.Domain.{Domain}
use Rattle.ask_words.specs.declared.request.Policy.{Policy}
use Rattle.top_written.specs.Formats.{report_in}
use Rattle.top_texts.specs.ByC.{HoldsInSource}
use Rattle.top_texts.specs.Rounds.{HasRounds, IsSystemFor}
use Rattle.top_texts.specs.Texts.{IsAnalysed, IsReady, Program}

-- the bytes are the report of a vector over a template, in a format, of a program with this core; this vector is the least one, and holds
-- in every run of the core, and in every run by C
pub record IsLeastReport (program : Program) (names : List (List ℕ)) (body : Statements) (template : List (List ℤ)) (vector : Vector)
    (footer : Footer) (format : Format) (bytes : List ℕ) : Type 0 where
  pub least : Least (equations_of_program (length names) body template) vector
  pub holds : Holds (equations_of_program (length names) body template) body vector
  pub by_c : HoldsInSource program names (equations_of_program (length names) body template) vector
  pub report : bytes ≡ report_in format names (points_of_program body) template vector footer

-- they are that of the program and the template of these texts, with the number of improvements by the policy
pub record IsReportOf (program : Program) (rows : Domain (List ℕ)) (policy : Policy) (limit : ℕ) (format : Format) (bytes : List ℕ) :
    Type 0 where
  pub names : List (List ℕ)
  pub body : Statements
  pub template : List (List ℤ)
  pub ready : IsReady program rows names body template
  pub system : System
  pub system_for : IsSystemFor names body template system
  pub rounds : ℕ
  pub within : rounds ≤ limit
  pub vector : Vector
  pub has_rounds : HasRounds system policy rounds vector
  pub least : IsLeastReport program names body template vector (Improvements rounds) format bytes

-- the points and edges of the program's core are within the limits, and the bytes are the heads of its points in order, as its report
-- has them
pub record ArePointsOf (program : Program) (bytes : List ℕ) : Type 0 where
  pub names : List (List ℕ)
  pub body : Statements
  pub analysed : IsAnalysed program names body
  pub heads : bytes ≡ head_lines 0 (points_of_program body)
