-- The report of a system's least vector is that of its program and template.
use Rattle.std.proofs.Common.{◌≡◌, ℕ, List, [], ◌∷◌, length, refl, ap, ◌∙◌, subst}
use Rattle.std.specs.Prelude.{ℤ, Bool, IsTrue, ◌&&◌, ◌==◌, nat_le}
use Rattle.std.specs.List.{list_all}
use Rattle.lang_tree.specs.Tree.{Statements}
use Rattle.lang_tree.specs.PointNumbers.{point_count}
use Rattle.flow_edges.specs.declared.edge.Edge.{Edge}
use Rattle.flow_edges.specs.declared.point.Point.{Point}
use Rattle.flow_edges.specs.Edges.{edges_of_program}
use Rattle.flow_edges.specs.Points.{points_of_program}
use Rattle.flow_edges.proofs.points.Numbering.{numbering}
use Rattle.flow_templates.specs.Rows.{is_row, is_template, width_of}
use Rattle.flow_systems.specs.declared.system.System.{System}
use Rattle.flow_systems.specs.declared.footer.Footer.{Footer}
use Rattle.flow_systems.specs.Equations.{Equations, Least, Vector}
use Rattle.flow_systems.specs.Solutions.{equations_of_program}
use Rattle.flow_systems.specs.SystemLimits.{is_over}
use Rattle.flow_systems.specs.View.{equations_of}
use Rattle.flow_systems.proofs.Sizes.{both}
use Rattle.flow_systems.proofs.states.Soundness.{program_soundness}
use Rattle.ask_words.specs.declared.format.Format.{Format}
use Rattle.top_written.specs.Formats.{report_in, report_of_in}
use Rattle.top_texts.specs.Reports.{IsLeastReport}
use Rattle.top_texts.specs.Texts.{HasCore, Program}
use Rattle.top_texts.proofs.by_c.InSource.{bounds_in_source}
use Rattle.flow_templates.specs.declared.limits.TheConstants.{MOST_ROWS}

-- the equation system of these parts
abbrev made_of : ℕ → ℕ → List Edge → List (List ℤ) → Equations
made_of variables points edges template = record { variables = variables; points = points; edges = edges; template = template }

-- a flow and a template as the system of a program
pub same_equations : (names : List (List ℕ)) (body : Statements) (s : System) → s.flow.names ≡ names
    → s.flow.points ≡ points_of_program body → s.flow.edges ≡ edges_of_program body
    → equations_of s ≡ equations_of_program (length names) body s.template
same_equations names body s n p e =
    ap (λ k. made_of k (length s.flow.points) s.flow.edges s.template) (ap length n)
    ∙ ap (λ k. made_of (length names) k s.flow.edges s.template) (ap length p ∙ (numbering body).count)
    ∙ ap (λ es. made_of (length names) (point_count body) es s.template) e

text_of : (names : List (List ℕ)) (body : Statements) (template : List (List ℤ)) (ns : List (List ℕ)) (points : List Point) (v : Vector)
    (footer : Footer) (format : Format) (bytes : List ℕ)
    → ns ≡ names → points ≡ points_of_program body → bytes ≡ report_in format ns points template v footer
    → bytes ≡ report_in format names (points_of_program body) template v footer
text_of names body template ns points v footer format bytes n p h =
    subst (λ ps. bytes ≡ report_in format names ps template v footer) p
    (subst (λ xs. bytes ≡ report_in format xs points template v footer) n h)

-- the rows of a system's template are over its names
pub over_names : (names : List (List ℕ)) (s : System) → s.flow.names ≡ names → IsTrue (is_over (length names) s.template)
over_names names s e =
    subst (λ (ns : List (List ℕ)). IsTrue (is_over (length ns) s.template)) e
    (both (is_over (length s.flow.names) s.template) _ s.within_limits).0

-- the report of a system's least vector is that of its program and template
pub least_report : (program : Program) (names : List (List ℕ)) (body : Statements) (s : System) (v : Vector) (footer : Footer)
    (format : Format) (bytes : List ℕ) → HasCore program names body → s.flow.names ≡ names → s.flow.points ≡ points_of_program body
    → s.flow.edges ≡ edges_of_program body → Least (equations_of s) v → bytes ≡ report_of_in format s v footer
    → IsLeastReport program names body s.template v footer format bytes
least_report program names body s v footer format bytes core n p e least text =
    let moved : Least (equations_of_program (length names) body s.template) v =
    subst (λ q. Least q v) (same_equations names body s n p e) least in
    record {
      least = moved;
      holds = program_soundness (length names) body s.template v (over_names names s n) moved.solves.post;
      by_c = bounds_in_source program names body core s.template v (over_names names s n) moved;
      report = text_of names body s.template s.flow.names s.flow.points v footer format bytes n p text;
    }

-- ---- each row of a template is as wide as the first

and_true : (a b : Bool) → IsTrue a → IsTrue b → IsTrue (a && b)
and_true a b h k = rw (h, k) refl

rows_over : (n : ℕ) (rows others : List (List ℤ)) → width_of others ≡ n
    → IsTrue (list_all (λ row. is_row row && length row == width_of others) rows) → IsTrue (list_all (λ row. length row == n) rows)
rows_over n [] others e h = h
rows_over n (row ∷ rows) others e h =
    let t = both (is_row row && length row == width_of others) _ h in
    let u = both (is_row row) (length row == width_of others) t.0 in
    and_true (length row == n) _ (subst (λ w. IsTrue (length row == w)) e u.1) (rows_over n rows others e t.1)

-- a template of width n is over n variables
pub template_over : (n : ℕ) (template : List (List ℤ)) → IsTrue (is_template template) → width_of template ≡ n → IsTrue (is_over n template)
template_over n template h e =
    rows_over n template template e (both (nat_le 1 (length template) && nat_le (length template) MOST_ROWS) _ h).1
