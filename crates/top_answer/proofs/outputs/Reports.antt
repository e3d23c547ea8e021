-- Texts have one report: of a program, of a transition system, and of the bounds of a certificate.
use Rattle.std.proofs.Common.{◌≡◌, ◌∙◌, ◌<◌, ℕ, List, length, refl, sym, ap, ap₂, subst}
use Rattle.std.specs.Prelude.{ℤ, Ok}
use Rattle.lang_tree.specs.Tree.{Statements}
use Rattle.flow_edges.specs.Points.{points_of_program}
use Rattle.flow_edges.proofs.points.Numbering.{numbering}
use Rattle.flow_transitions.specs.AutoContents.{AutoAnswer, Content}
use Rattle.flow_transitions.specs.AutoTexts.{content}
use Rattle.flow_transitions.specs.Choices.{edges_of}
use Rattle.flow_transitions.proofs.progress.Once.{one_answer}
use Rattle.flow_systems.specs.declared.footer.Footer.TheVariants.{Accepted, Improvements}
use Rattle.flow_systems.specs.Equations.{Equations, Least, Vector}
use Rattle.flow_systems.specs.Solutions.{equations_of_program}
use Rattle.theory_validity.specs.Certificates.{bounds_vector}
use Rattle.cert_types.specs.declared.cert.Cert.{Cert}
use Rattle.cert_text.proofs.form_laws.Laws.{one_reading}
use Rattle.ask_words.specs.declared.format.Format.{Format}
use Rattle.ask_words.specs.declared.request.Domain.{Domain}
use Rattle.ask_words.specs.declared.request.Policy.{Policy}
use Rattle.cert_written.specs.declared.cert.Cert.{Cert as WrittenCert}
use Rattle.flow_transitions.specs.AutoGroups.{HasGroups as HasGroupsAlong}
use Rattle.top_texts.specs.Checks.{fitted_to, system_with}
use Rattle.top_texts.specs.Exact.{exact}
use Rattle.top_written.specs.Formats.{report_in}
use Rattle.top_texts.specs.LeastReports.{IsLeastReport, IsReportOf}
use Rattle.top_texts.specs.Texts.{HasGroups, HasTemplate, IsSolvedSystem, Program}
use Rattle.top_texts.specs.TransitionTexts.{HasTemplateAlong, IsAutoReport}
use Rattle.top_texts.proofs.by_c.InSource.{some_names}
use Rattle.top_texts.proofs.rounds.OneChain.{rounds_once}
use Rattle.top_texts.proofs.texts.Once.{solved_once}
use Rattle.top_texts.proofs.texts.Readings.{program_once, rows_once}
use Rattle.top_texts.proofs.transition_texts.Once.{one_template, systems_once}
use Rattle.top_answer.specs.Commands.{IsChecked}
use Rattle.top_answer.proofs.outputs.Templates.{auto_names, some_row}
use Rattle.top_answer.proofs.outputs.Vectors.{reports_agree}

-- ---- of a program

least_once : (program : Program) (format : Format) (names : List (List ℕ)) (body : Statements) (template : List (List ℤ)) (v w : Vector)
    (n m : ℕ)
    (one other : List ℕ) → 0 < length template → n ≡ m → IsLeastReport program names body template v (Improvements n) format one
    → IsLeastReport program names body template w (Improvements m) format other → one ≡ other
least_once program format names body template v w n m one other some rounds a b =
    a.report
    ∙ reports_agree (equations_of_program (length names) body template) format names (points_of_program body) v w (Improvements n)
    (Improvements m) (numbering body).count some a.least b.least (ap (λ k. Improvements k) rounds)
    ∙ sym b.report

-- the system of a report's texts
solved_of : (program : Program) (rows : Domain (List ℕ)) (policy : Policy) (limit : ℕ) (format : Format) (bytes : List ℕ)
    (r : IsReportOf program rows policy limit format bytes) → IsSolvedSystem program rows r.system
solved_of program rows policy limit format bytes r = record {
  names = r.names;
  body = r.body;
  template = r.template;
  ready = r.ready;
  system_for = r.system_for;
}

-- the texts of a program and of its rows have one report in a format
pub report_once : (program : Program) (rows : Domain (List ℕ)) (policy : Policy) (limit : ℕ) (format : Format) (one other : List ℕ)
    → IsReportOf program rows policy limit format one → IsReportOf program rows policy limit format other → one ≡ other
report_once program rows policy limit format one other a b =
    let same = program_once program (b.names, b.body) (a.names, a.body) b.ready.system.analysed.has_core a.ready.system.analysed.has_core in
    let template : b.template ≡ a.template =
    rows_once program rows a.names b.template a.template
    (subst (λ (x : List (List ℕ) × Statements). HasTemplate program rows x.0 (Ok b.template)) same b.ready.system.template_is)
    a.ready.system.template_is in
    let least : IsLeastReport program a.names a.body a.template b.vector (Improvements b.rounds) format other =
    subst (λ t. IsLeastReport program a.names a.body t b.vector (Improvements b.rounds) format other) template
    (subst (λ (x : List (List ℕ) × Statements). IsLeastReport program x.0 x.1 b.template b.vector (Improvements b.rounds) format other) same
    b.least) in
    let rounds = rounds_once a.system b.system policy a.rounds b.rounds a.vector b.vector
    (solved_once program rows a.system b.system (solved_of program rows policy limit format one a)
    (solved_of program rows policy limit format other b))
    a.has_rounds b.has_rounds in
    least_once program format a.names a.body a.template a.vector b.vector a.rounds b.rounds one other
    (some_row (HasGroups program a.names) rows a.names a.template (some_names program a.names a.body a.ready.system.analysed.has_core)
    a.ready.system.template_is)
    rounds a.least least

-- ---- of a transition system

-- an answer, named so that equations between answers have their type
abbrev answered : AutoAnswer → AutoAnswer
answered answer = answer

same_content : (c d : Content) → answered (Ok c) ≡ answered (Ok d) → c ≡ d
same_content c d e = cc

-- the equation system of a transition system and a template
abbrev along : Content → List (List ℤ) → Equations
along c template = record {
  variables = length c.names;
  points = length c.points;
  edges = edges_of (length c.points) c.edges;
  template = template;
}

-- the bytes are the report in a format of the least vector of a transition system and a template
record IsReportAlong (c : Content) (template : List (List ℤ)) (vector : Vector) (rounds : ℕ) (format : Format) (bytes : List ℕ) :
    Type 0 where
  least : Least (along c template) vector
  report : bytes ≡ report_in format c.names c.points template vector (Improvements rounds)

along_once : (c : Content) (template : List (List ℤ)) (v w : Vector) (n m : ℕ) (format : Format) (one other : List ℕ)
    → 0 < length template → n ≡ m → IsReportAlong c template v n format one → IsReportAlong c template w m format other → one ≡ other
along_once c template v w n m format one other some rounds a b =
    a.report
    ∙ reports_agree (along c template) format c.names c.points v w (Improvements n) (Improvements m) refl some a.least b.least
    (ap (λ k. Improvements k) rounds)
    ∙ sym b.report

-- the texts of a transition system and of its rows have one report in a format
pub auto_report_once : (text : List ℕ) (rows : Domain (List ℕ)) (policy : Policy) (limit : ℕ) (format : Format) (one other : List ℕ)
    → IsAutoReport text rows policy limit format one → IsAutoReport text rows policy limit format other → one ≡ other
auto_report_once text rows policy limit format one other a b =
    let p = a.meant in
    let q = b.meant in
    let c : Content = content p.auto in
    let d : Content = content q.auto in
    let same : d ≡ c = same_content d c (one_answer text (Ok d) (Ok c) q.over.text_is.reading p.over.text_is.reading) in
    let template : q.template ≡ p.template =
    one_template text rows p.auto.names q.template p.template
    (subst (λ (x : Content). HasTemplateAlong text rows x.names (Ok q.template)) same q.over.template_is) p.over.template_is in
    let ours : IsReportAlong c p.template a.vector a.rounds format one = record { least = a.least; report = a.report } in
    let theirs : IsReportAlong d q.template b.vector b.rounds format other = record { least = b.least; report = b.report } in
    let moved : IsReportAlong c p.template b.vector b.rounds format other =
    subst (λ t. IsReportAlong c t b.vector b.rounds format other) template
    (subst (λ x. IsReportAlong x q.template b.vector b.rounds format other) same theirs) in
    along_once c p.template a.vector b.vector a.rounds b.rounds format one other
    (some_row (HasGroupsAlong text) rows p.auto.names p.template (auto_names text c p.over.text_is.reading) p.over.template_is)
    (rounds_once a.system b.system policy a.rounds b.rounds a.vector b.vector (systems_once text rows a.system b.system p q) a.has_rounds
    b.has_rounds) ours moved

-- ---- of a certificate that is accepted

-- the report in a format of the bounds of a certificate of a program
abbrev bounds_report : Format → List (List ℕ) × Statements → Cert → List ℕ
bounds_report format p cert =
    report_in format p.0 (points_of_program p.1) cert.rows (bounds_vector (system_with p.0 p.1 cert) cert.bounds) Accepted

is_bounds_report : (program : Program) (certificate : List ℕ) (format : Format) (bytes : List ℕ)
    (r : IsChecked exact program certificate format bytes)
    → bytes ≡ bounds_report format (r.names, r.body) r.accepted.cert
is_bounds_report program certificate format bytes r =
    r.least.report
    ∙ ap₂ (λ rows (v : Vector). report_in format r.names (points_of_program r.body) rows v Accepted) (sym r.accepted.rows_are)
    (sym r.accepted.vector_is)

-- a program and the bytes of a certificate have one report in a format
pub checked_once : (program : Program) (certificate : List ℕ) (format : Format) (one other : List ℕ)
    → IsChecked exact program certificate format one
    → IsChecked exact program certificate format other → one ≡ other
checked_once program certificate format one other a b =
    let p = a.accepted.valid.system.spelt in
    let q = b.accepted.valid.system.spelt in
    is_bounds_report program certificate format one a
    ∙ ap₂ (bounds_report format) (program_once program (a.names, a.body) (b.names, b.body) p.analysed.has_core q.analysed.has_core)
    (p.spells.fitted
    ∙ ap₂ (λ (d : List (List ℕ) × Statements) (w : WrittenCert). fitted_to d.0 d.1 w)
    (program_once program (a.names, a.body) (b.names, b.body) p.analysed.has_core q.analysed.has_core)
    (one_reading certificate p.spells.written q.spells.written p.spells.spells q.spells.spells)
    ∙ sym q.spells.fitted)
    ∙ sym (is_bounds_report program certificate format other b)
