-- What the analysis of a system puts is what the texts of its program and template get.
use Rattle.std.proofs.Common.{◌≡◌, ◌∙◌, ℕ, ◌+◌, ◌≤◌, Bool, true, false, List, [], ◌∷◌, length, refl, sym, ap, subst, IsTrue}
use Rattle.std.specs.Prelude.{ℤ, ◌&&◌, ◌==◌, nat_le, Ok}
use Rattle.std.specs.List.{list_all}
use Rattle.lang_tree.specs.Tree.{Statements}
use Rattle.flow_templates.specs.Rows.{is_row, is_template, width_of}
use Rattle.flow_templates.specs.RowFaults.{count_faults, faults_from, faults_of, row_faults}
use Rattle.flow_systems.specs.declared.footer.Footer.TheVariants.{Improvements}
use Rattle.flow_systems.specs.declared.system.System.{System}
use Rattle.flow_systems.specs.Equations.{Least}
use Rattle.flow_systems.specs.Solutions.{equations_of_program}
use Rattle.flow_systems.specs.SystemLimits.{is_over}
use Rattle.flow_systems.specs.View.{equations_of, vector_of}
use Rattle.flow_systems.proofs.Sizes.{both}
use Rattle.theory_validity.specs.Certificates.{ValidCertificate}
use Rattle.cert_written.specs.Bare.{bare_cert}
use Rattle.cert_fitted.specs.Dense.{dense_cert}
use Rattle.solve_rounds.specs.Solutions.{cert_with, made_certificate}
use Rattle.ask_words.specs.declared.format.Format.{Format}
use Rattle.ask_words.specs.declared.request.Domain.{Domain}
use Rattle.ask_words.specs.declared.request.Policy.{Policy}
use Rattle.top_status.specs.CheckMessages.{rows_of}
use Rattle.top_texts.specs.Checks.{NoneIsWide, system_with}
use Rattle.top_texts.specs.Exact.{exact}
use Rattle.top_status.specs.Messages.{line_in}
use Rattle.top_texts.specs.Outcomes.{IsAnswerToSystem, IsHalted, IsOutputOf}
use Rattle.top_texts.specs.Outcomes.{IsRefusedBy, IsRoundsCertificate, IsRoundsReport, QuestionAnswer}
use Rattle.top_texts.specs.Outcomes.{refused}
use Rattle.top_texts.specs.Questions.{analysis_question, rounds_end, rounds_spent}
use Rattle.top_texts.specs.Reports.{IsCertificateOf, IsLeastReport, IsPutOf, IsReportOf}
use Rattle.top_texts.specs.Rounds.{EndsWithin}
use Rattle.top_texts.specs.Texts.{HasTemplate, IsSolvedSystem, Program, unknowns}
use Rattle.ask_words.specs.declared.request.Purpose.{Purpose}
use Rattle.ask_words.specs.declared.request.Purpose.TheVariants.{Report, Certificate as AsCertificate}
use Rattle.top_texts.specs.declared.refusal.Refusal.{Refusal}
use Rattle.top_texts.specs.declared.refusal.Refusal.TheVariants as refusal
use Rattle.top_status.specs.declared.status.Status.{Status}
use Rattle.top_status.specs.declared.status.Status.TheVariants.{Done, Open, Certificate, Usage, Read, Text, Exceeded, Spent, Memory, Write}
use Rattle.top_texts.proofs.checks.Fitting.{valid_fitted}
use Rattle.top_texts.proofs.rounds.OneChain.{solved_ends}
use Rattle.top_texts.proofs.by_c.InSource.{bounds_in_source}
use Rattle.top_texts.proofs.texts.Once.{equations_are, rows_over}
use Rattle.top_texts.proofs.texts.Readings.{program_once, rows_once}
use Rattle.top_texts.proofs.analyse.Solved.{least_report, same_equations}
use Rattle.flow_systems.specs.declared.limits.TheConstants.{MOST_UNKNOWNS}
use Rattle.flow_templates.specs.declared.limits.TheConstants.{MOST_ROWS}

-- ---- answers to a system

-- where bytes are put, the improvements have ended
pub output_ends : (purpose : Purpose) (system : System) (policy : Policy) (limit : ℕ) (format : Format) (bytes : List ℕ)
    → IsOutputOf purpose system policy limit format bytes → EndsWithin system policy limit
output_ends Report system policy limit format bytes r = (r.rounds, r.within, vector_of (length system.template) r.bounds, r.has_rounds)
output_ends AsCertificate system policy limit format bytes r = solved_ends system policy limit r.solved r.is_solved

halted_system : (purpose : Purpose) (system : System) (policy : Policy) (limit : ℕ) (r : Refusal) → IsHalted purpose system policy limit r
    → IsAnswerToSystem purpose system policy limit (refused r)
halted_system purpose system policy limit (refusal.Text c) h = absurd h
halted_system purpose system policy limit (refusal.Certificate c) h = absurd h
halted_system purpose system policy limit (refusal.Exceeded excess) h = h
halted_system purpose system policy limit (refusal.Spent n) h = h
halted_system purpose system policy limit refusal.NoMemory h = tt

-- a halt of the rounds answers with its status
pub halted_answer : (purpose : Purpose) (system : System) (policy : Policy) (limit : ℕ) (r : Refusal) (s : Status) → s ≡ refused r
    → IsHalted purpose system policy limit r → IsAnswerToSystem purpose system policy limit s
halted_answer purpose system policy limit r s e h = subst (λ x. IsAnswerToSystem purpose system policy limit x) (sym e)
    (halted_system purpose system policy limit r h)

-- ---- and to its texts

-- the analysis of a system answers for the texts of its program and template
pub system_texts : (purpose : Purpose) (program : Program) (rows : Domain (List ℕ)) (system : System) (policy : Policy) (limit : ℕ)
    (status : Status) → IsSolvedSystem program rows system
    → IsAnswerToSystem purpose system policy limit status
    → QuestionAnswer (analysis_question exact purpose program rows policy limit) status
system_texts purpose program rows system policy limit Done is h = rounds_end system refl is h
system_texts purpose program rows system policy limit (Certificate cause) is h = absurd h
system_texts purpose program rows system policy limit Open is h = absurd h
system_texts purpose program rows system policy limit Usage is h = absurd h
system_texts purpose program rows system policy limit (Read cause) is h = absurd h
system_texts purpose program rows system policy limit (Text cause) is h = absurd h
system_texts purpose program rows system policy limit (Exceeded excess) is h = record { system = system; meant = is; exceeds = h }
system_texts purpose program rows system policy limit (Spent n) is h = rounds_spent system (ap Spent h.1) is h.0
system_texts purpose program rows system policy limit Memory is h = tt
system_texts purpose program rows system policy limit Write is h = rounds_end system refl is h

refused_texts : (purpose : Purpose) (t : Program) (rows : Domain (List ℕ)) (policy : Policy) (limit : ℕ) (r : Refusal)
    → IsRefusedBy t rows r
    → QuestionAnswer (analysis_question exact purpose t rows policy limit) (refused r)
refused_texts purpose t rows policy limit (refusal.Text c) h = h
refused_texts purpose t rows policy limit (refusal.Certificate c) h = absurd h
refused_texts purpose t rows policy limit (refusal.Exceeded excess) h = absurd h
refused_texts purpose t rows policy limit (refusal.Spent n) h = absurd h
refused_texts purpose t rows policy limit refusal.NoMemory h = tt

-- a refusal of a text answers with its status
pub refused_answer : (purpose : Purpose) (t u : Program) (rows : Domain (List ℕ)) (policy : Policy) (limit : ℕ) (r : Refusal) (s : Status)
    → s ≡ refused r → u ≡ t → IsRefusedBy u rows r
    → QuestionAnswer (analysis_question exact purpose t rows policy limit) s
refused_answer purpose t u rows policy limit r s e i h =
    subst (λ x. QuestionAnswer (analysis_question exact purpose t rows policy limit) x) (sym e)
    (refused_texts purpose t rows policy limit r (subst (λ x. IsRefusedBy x rows r) i h))

-- ---- no line, and the rows of the template

-- the line of a system's analysis is that of its status
pub system_line : (purpose : Purpose) (text : List ℕ) (system : System) (policy : Policy) (limit : ℕ) (status : Status)
    → IsAnswerToSystem purpose system policy limit status → 0 ≡ line_in text status
system_line purpose text system policy limit Done h = refl
system_line purpose text system policy limit (Certificate cause) h = refl
system_line purpose text system policy limit Open h = refl
system_line purpose text system policy limit Usage h = refl
system_line purpose text system policy limit (Read cause) h = refl
system_line purpose text system policy limit (Text cause) h = absurd h
system_line purpose text system policy limit (Exceeded excess) h = refl
system_line purpose text system policy limit (Spent n) h = refl
system_line purpose text system policy limit Memory h = refl
system_line purpose text system policy limit Write h = refl

template_once : (program : Program) (rows : Domain (List ℕ)) (s t : System) → IsSolvedSystem program rows s → IsSolvedSystem program rows t
    → s.template ≡ t.template
template_once program rows s t a b =
    let same = program_once program (a.names, a.body) (b.names, b.body) a.ready.system.analysed.has_core b.ready.system.analysed.has_core in
    a.system_for.template_is
    ∙ rows_once program rows b.names a.template b.template
    (subst (λ (p : List (List ℕ) × Statements). HasTemplate program rows p.0 (Ok a.template)) same a.ready.system.template_is)
    b.ready.system.template_is
    ∙ sym b.system_for.template_is

-- the row count of a system's analysis is that of its texts
pub system_rows : (program : Program) (rows : Domain (List ℕ)) (s t : System) (count : ℕ) (status : Status) → IsSolvedSystem program rows s
    → count ≡ rows_of (length s.template) status → IsSolvedSystem program rows t
    → count ≡ rows_of (length t.template) status
system_rows program rows s t count status a e b = e ∙ ap (λ (rs : List (List ℤ)). rows_of (length rs) status)
    (template_once program rows s t a b)

-- texts that are refused have the row count of the refusal
pub refused_rows : (program : Program) (rows : Domain (List ℕ)) (r : Refusal) (count : ℕ) → IsRefusedBy program rows r
    → 0 ≡ rows_of count (refused r)
refused_rows program rows (refusal.Text c) count h = refl
refused_rows program rows (refusal.Certificate c) count h = absurd h
refused_rows program rows (refusal.Exceeded excess) count h = absurd h
refused_rows program rows (refusal.Spent n) count h = absurd h
refused_rows program rows refusal.NoMemory count h = refl

-- ---- rows of a template have no fault

both_true : (a b : Bool) → (a && b) ≡ true → (a ≡ true) × (b ≡ true)
both_true true true e = (refl, refl)
both_true true false e = cc
both_true false b e = cc

row_sound : (n line : ℕ) (row : List ℤ) → is_row row ≡ true → (length row == n) ≡ true → row_faults n (line, row) ≡ []
row_sound n line row h k = rw (k, h) refl

no_row_faults : (n m line : ℕ) (rows : List (List ℤ)) → IsTrue (list_all (λ row. is_row row && length row == m) rows)
    → IsTrue (list_all (λ row. length row == n) rows) → faults_from n line rows ≡ []
no_row_faults n m line [] h k = refl
no_row_faults n m line (row ∷ rows) h k =
    let a = both (is_row row && length row == m) _ h in
    let b = both (is_row row) (length row == m) a.0 in
    let c = both (length row == n) _ k in
    rw (row_sound n line row b.0 c.0) (no_row_faults n m (line + 1) rows a.1 c.1)

count_sound : (count : ℕ) → (nat_le 1 count && nat_le count MOST_ROWS) ≡ true → count_faults count ≡ []
count_sound count h = rw h refl

sound : (n : ℕ) (template : List (List ℤ)) → IsTrue (is_template template) → IsTrue (is_over n template) → faults_of n template ≡ []
sound n template h k =
    let a = both (nat_le 1 (length template) && nat_le (length template) MOST_ROWS) _ h in
    rw (no_row_faults n (width_of template) 1 template a.1 k) (count_sound (length template) a.0)

-- ---- what is put

report_put : (program : Program) (rows : Domain (List ℕ)) (system : System) (policy : Policy) (limit : ℕ) (format : Format)
    (bytes : List ℕ) → IsSolvedSystem program rows system → IsRoundsReport system policy limit format bytes
    → IsReportOf program rows policy limit format bytes
report_put program rows system policy limit format bytes is r = record {
  names = is.names;
  body = is.body;
  template = is.template;
  ready = is.ready;
  system = system;
  system_for = is.system_for;
  rounds = r.rounds;
  within = r.within;
  has_rounds = r.has_rounds;
  vector = vector_of (length system.template) r.bounds;
  least = subst
      (λ t. IsLeastReport program is.names is.body t (vector_of (length system.template) r.bounds) (Improvements r.rounds) format bytes)
      is.system_for.template_is
      (least_report program is.names is.body system (vector_of (length system.template) r.bounds) (Improvements r.rounds) format bytes
      is.ready.system.analysed.has_core is.system_for.names_are is.system_for.points_are is.system_for.edges_are r.least r.report);
}

certificate_put : (program : Program) (rows : Domain (List ℕ)) (system : System) (policy : Policy) (limit : ℕ) (bytes : List ℕ)
    → IsSolvedSystem program rows system → IsRoundsCertificate system policy limit bytes → IsCertificateOf program rows policy limit bytes
certificate_put program rows system policy limit bytes is r =
    let same : equations_of system ≡ system_with is.names is.body (cert_with system r.solved) =
    same_equations is.names is.body system is.system_for.names_are is.system_for.points_are is.system_for.edges_are in
    let over : IsTrue (is_over (length system.flow.names) system.template) =
    (both (is_over (length system.flow.names) system.template) _ system.within_limits).0 in
    let bounds = vector_of (length is.template) r.solved.bounds in
    let least : Least (equations_of_program (length is.names) is.body is.template) bounds =
    subst (λ t. Least (equations_of_program (length is.names) is.body is.template) (vector_of (length t) r.solved.bounds))
    is.system_for.template_is (subst (λ q. Least q (vector_of (length system.template) r.solved.bounds))
    (equations_are is.names is.body is.template system is.system_for) r.least) in
    record {
      names = is.names;
      body = is.body;
      template = is.template;
      ready = is.ready;
      system = system;
      system_for = is.system_for;
      solved = r.solved;
      is_solved = r.is_solved;
      written = r.written;
      valid = subst (λ q. ValidCertificate q (made_certificate system r.solved)) same r.valid;
      accepted = λ few. record {
        system = record {
          spelt = record {
            analysed = is.ready.system.analysed;
            spells = record {
              written = bare_cert (dense_cert (cert_with system r.solved));
              spells = r.spells few;
              fitted = valid_fitted is.names is.body (cert_with system r.solved) (subst
                  (λ (names : List (List ℕ)). IsTrue (is_over (length names) system.template)) is.system_for.names_are over)
                  (subst (λ q. ValidCertificate q (made_certificate system r.solved)) same r.valid);
            };
          };
          rows = sound (length is.names) system.template r.template (subst
              (λ (names : List (List ℕ)). IsTrue (is_over (length names) system.template)) is.system_for.names_are over);
          within = subst (λ t. unknowns is.body t ≤ MOST_UNKNOWNS) (sym is.system_for.template_is) is.ready.within;
        };
        valid = subst (λ q. ValidCertificate q (made_certificate system r.solved)) same r.valid;
      };
      expands = r.expands;
      narrow = subst (λ q. NoneIsWide q (made_certificate system r.solved)) same r.narrow;
      least = least;
      by_c = bounds_in_source program is.names is.body is.ready.system.analysed.has_core is.template bounds
          (rows_over is.names is.body is.template system is.system_for) least;
    }

-- what the analysis of a system puts is what its texts get
pub output_put : (purpose : Purpose) (program : Program) (rows : Domain (List ℕ)) (system : System) (policy : Policy) (limit : ℕ)
    (format : Format) (bytes : List ℕ) → IsSolvedSystem program rows system → IsOutputOf purpose system policy limit format bytes
    → IsPutOf purpose program rows policy limit format bytes
output_put Report program rows system policy limit format bytes is r = report_put program rows system policy limit format bytes is r
output_put AsCertificate program rows system policy limit format bytes is r = certificate_put program rows system policy limit bytes is r
