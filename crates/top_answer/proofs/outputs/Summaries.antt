-- A generated program has one summary.
use Rattle.std.proofs.Common.{◌≡◌, ◌∙◌, ◌++◌, ◌*◌, ◌-◌, ◌<◌, ℕ, List, length, sym, ap, ap₂, subst, arith}
use Rattle.std.specs.Prelude.{ℤ, codes}
use Rattle.flow_edges.specs.declared.point.Point.{Point}
use Rattle.flow_templates.specs.Domains.{intervals_of}
use Rattle.flow_systems.specs.declared.system.System.{System}
use Rattle.flow_systems.specs.Equations.{Equations, Least, Vector}
use Rattle.flow_systems.specs.Report.{point_lines}
use Rattle.flow_systems.specs.View.{equations_of}
use Rattle.flow_systems.proofs.equations.Leastness.{at_most_one}
use Rattle.out_report.specs.Points.{point_of}
use Rattle.out_workload.specs.Bodies.{generated_body, generated_names}
use Rattle.out_workload.specs.Summaries.{bench_line, counted_line, exit_lines, exit_number, program_line, summary_of}
use Rattle.out_workload.specs.Texts.{generated_text}
use Rattle.ask_words.specs.declared.request.Policy.TheVariants.{Best}
use Rattle.top_texts.specs.Exact.{exact}
use Rattle.top_texts.specs.Rounds.{IsSystemFor}
use Rattle.top_texts.proofs.rounds.OneChain.{rounds_once}
use Rattle.top_texts.proofs.texts.Once.{equations_are}
use Rattle.top_answer.specs.Commands.{IsSummary}
use Rattle.top_written.proofs.formats.Reports.{point_agrees}

module _ (s t : System) (names : s.flow.names ≡ t.flow.names) (points : s.flow.points ≡ t.flow.points)
    (template : s.template ≡ t.template) (some_point : 0 < length t.flow.points) (some_row : 0 < length t.template)
    (v w : Vector) (a : Least (equations_of t) v) (b : Least (equations_of t) w) where
  at_exit : (r : ℕ) → r < length t.template → v (exit_number t) r ≡ w (exit_number t) r
  at_exit r h = at_most_one (equations_of t) v w a b.solves b.below (exit_number t) r (omega arith) h

  exit_agrees : exit_lines s v ≡ exit_lines t w
  exit_agrees =
      ap (λ ns. point_lines ns s.template v (exit_number s) (point_of s.flow.points (exit_number s))) names
      ∙ ap (λ (ps : List Point). point_lines t.flow.names s.template v (length ps - 1) (point_of ps (length ps - 1))) points
      ∙ ap (λ rows. point_lines t.flow.names rows v (exit_number t) (point_of t.flow.points (exit_number t))) template
      ∙ point_agrees t.flow.names t.template some_row v w (exit_number t) (point_of t.flow.points (exit_number t)) at_exit

  -- systems of the same parts have one summary of least vectors, by the number of improvements
  summary_agrees : (seed loops bytes n m : ℕ) → n ≡ m → summary_of seed loops bytes s v n ≡ summary_of seed loops bytes t w m
  summary_agrees seed loops bytes n m rounds =
      let head : ℕ → ℕ → List ℕ → List ℕ = λ count unknowns rest. bench_line seed loops ++ (program_line bytes
      ++ (counted_line (codes "points ") count ++ (counted_line (codes "unknowns ") unknowns ++ rest))) in
      ap₂ (λ (ps : List Point) (rows : List (List ℤ)). head (length ps) (length ps * length rows)
      (counted_line (codes "improvements ") n ++ exit_lines s v)) points template
      ∙ ap₂ (λ k lines. head (length t.flow.points) (length t.flow.points * length t.template)
      (counted_line (codes "improvements ") k ++ lines)) rounds exit_agrees

-- a generated program has one summary
pub summary_once : (seed loops : ℕ) (one other : List ℕ) → IsSummary exact seed loops one → IsSummary exact seed loops other → one ≡ other
summary_once seed loops one other a b =
    let body = generated_body seed loops in
    let p : IsSystemFor generated_names body (intervals_of 3) a.system = a.generated.system_for in
    let q : IsSystemFor generated_names body (intervals_of 3) b.system = b.generated.system_for in
    let same : equations_of a.system ≡ equations_of b.system =
    equations_are generated_names body (intervals_of 3) a.system p ∙ sym (equations_are generated_names body (intervals_of 3) b.system q) in
    let some_point : 0 < length b.system.flow.points =
    subst (λ (ps : List Point). 0 < length ps) (sym q.points_are) (omega arith) in
    let some_row : 0 < length b.system.template = subst (λ (rows : List (List ℤ)). 0 < length rows) (sym q.template_is) (omega arith) in
    let least : Least (equations_of b.system) a.vector = subst (λ (e : Equations). Least e a.vector) same a.least in
    a.summary
    ∙ summary_agrees a.system b.system (p.names_are ∙ sym q.names_are) (p.points_are ∙ sym q.points_are)
    (p.template_is ∙ sym q.template_is) some_point some_row a.vector b.vector least b.least seed loops
    (length (generated_text seed loops)) a.rounds b.rounds
    (rounds_once a.system b.system Best a.rounds b.rounds a.vector b.vector same a.has_rounds b.has_rounds)
    ∙ sym b.summary
