-- Commands of one text that ask no question: a certificate that is written anew, and the points of a program.
use Rattle.std.proofs.Common.{◌≡◌, ◌∙◌, ℕ, List, [], refl, sym, ap, subst}
use Rattle.std.specs.Prelude.{IfOk, IfErr, Result, Some, Vec, codes}
use Rattle.std.specs.declared.alloc.Global.{Global}
use Rattle.clap.specs.Words.{Row, Text as WordText, first_of}
use Rattle.lang_tree.specs.Tree.{Statements}
use Rattle.flow_edges.specs.Points.{points_of_program}
use Rattle.out_report.specs.Heads.{head_lines}
use Rattle.ask_files.specs.Files.{Request, text_at}
use Rattle.ask_files.specs.declared.which.ReadCause.{ReadCause}
use Rattle.ask_files.specs.declared.which.Which.TheVariants as which
use Rattle.ask_words.specs.Request.{points_in, upgrade_in, whole_source}
use Rattle.ask_words.specs.declared.request.Request.TheVariants.{Points, Upgrade}
use Rattle.top_answer.specs.Commands.{PointsEnd, UpgradeEnds, command_of, form_refused, listed, rewritten, text_refused}
use Rattle.top_answer.specs.Outcomes.{HasOutcome, Says}
use Rattle.top_status.specs.declared.status.CertCause.TheVariants as cause
use Rattle.top_status.specs.declared.status.Status.{Status}
use Rattle.top_status.specs.declared.status.Status.TheVariants.{Done, Read, Text, Write}
use Rattle.top_texts.specs.Endings.{UpgradeEnd}
use Rattle.top_texts.specs.Exact.{exact}
use Rattle.top_texts.specs.LeastReports.{ArePointsOf}
use Rattle.top_texts.specs.Outcomes.{IsMisspelt, IsUnread, refused}
use Rattle.top_texts.specs.Texts.{Program}
use Rattle.top_texts.specs.Upgrades.{IsUpgradeOf}
use Rattle.top_texts.specs.declared.refusal.Refusal.{Refusal}
use Rattle.top_texts.specs.declared.refusal.Refusal.TheVariants as refusal
use Rattle.top_texts.proofs.checks.CheckOnce.{cert_ends_once, upgrade_staged}
use Rattle.top_texts.proofs.texts.Once.{analysed_unrefused, program_refused_once}
use Rattle.top_texts.proofs.texts.Readings.{program_once}
use Rattle.top_answer.proofs.commands.Lawful.{IsCommand, IsInRange, done_ends, done_once}
use Rattle.top_answer.proofs.commands.Results.{err_map, outcome_says}
use Rattle.top_answer.proofs.laws.Lawful.{one_upgrade}
use Rattle.top_answer.proofs.requests.Limits.{first_short}
use Rattle.top_answer.proofs.requests.Numbers.{ranged}

-- ---- a certificate that is written anew

-- an ending by the exact meanings is one by its own words
upgrade_end_back : (bytes : List ℕ) (s : Status) → UpgradeEnds exact bytes s → UpgradeEnd bytes s
upgrade_end_back bytes s (form_refused fault e h) = subst (λ x. UpgradeEnd bytes x) (sym e) h
upgrade_end_back bytes s (rewritten written e u) = subst (λ x. UpgradeEnd bytes x) (sym e) (written, u)

-- an upgrade is a command of the program
pub upgrades : (given : List ℕ) → IsCommand (Upgrade given)
upgrades given = record {
  lawful = record {
    ends_once = λ s t h k. cert_ends_once given (λ cert. Done) s t (upgrade_staged given s (upgrade_end_back given s h))
        (upgrade_staged given t (upgrade_end_back given t k));
    exceeded_ends = λ excess s w h. absurd w;
    written_ends = done_ends (λ s. UpgradeEnds exact given s) (λ bytes. exact.upgrades given bytes) (λ bytes u. rewritten bytes refl u);
    never_unread = λ cause h. upgrade_end_back given (Read cause) h;
    never_unwritten = λ h. upgrade_end_back given Write h;
  };
  writes_once = λ none contents. done_once (λ bytes. exact.upgrades (text_at contents 0) bytes) (one_upgrade (text_at contents 0));
  limits = λ contents range e. tt;
}

-- it has no number
pub upgrade_range : (given : List Row) (r : Request) → upgrade_in given ≡ Some r → IsInRange r
upgrade_range given r e =
    let made : WordText → Request = λ certificate. Upgrade certificate in
    ranged made (first_of (codes "certificate") given) r e (λ certificate. tt)

misspelt_says : (given : List ℕ) (x : Refusal) → IsMisspelt given x → Says (command_of exact (Upgrade given)) (refused x) []
misspelt_says given (refusal.Text c) h = absurd h
misspelt_says given (refusal.Certificate (cause.Form f)) h = (form_refused f refl h, refl)
misspelt_says given (refusal.Certificate (cause.Rows f)) h = absurd h
misspelt_says given (refusal.Certificate (cause.Unknowns c)) h = absurd h
misspelt_says given (refusal.Certificate (cause.Check f)) h = absurd h
misspelt_says given (refusal.Exceeded excess) h = absurd h
misspelt_says given (refusal.Spent n) h = absurd h
misspelt_says given refusal.NoMemory h = refl

-- the text of a certificate, or why its bytes spell none
pub upgraded : (given : List ℕ) (r : Result (Vec ℕ Global) Refusal) (s : Status) (bytes : List ℕ)
    → IfOk r (λ written. IsUpgradeOf given written.items) → IfErr r (λ x. IsMisspelt given x) → HasOutcome r s bytes
    → Says (command_of exact (Upgrade given)) s bytes
upgraded given r s bytes ok err h = outcome_says (command_of exact (Upgrade given)) r s bytes ok
    (err_map (λ x. IsMisspelt given x) _ (misspelt_says given) r err) h

-- ---- the points of a program

-- a program has one list of points
points_once : (program : Program) (one other : List ℕ) → ArePointsOf program one → ArePointsOf program other → one ≡ other
points_once program one other a b =
    a.heads ∙ ap (λ (p : List (List ℕ) × Statements). head_lines 0 (points_of_program p.1))
    (program_once program (a.names, a.body) (b.names, b.body) a.analysed.has_core b.analysed.has_core) ∙ sym b.heads

points_end_once : (program : Program) (s t : Status) → PointsEnd program s → PointsEnd program t → s ≡ t
points_end_once program s t (text_refused c e h) (text_refused d i k) =
    e ∙ ap (λ x. Text x) (program_refused_once program c d h k) ∙ sym i
points_end_once program s t (text_refused c e h) (listed names body i a) = absurd (analysed_unrefused program names body c h a)
points_end_once program s t (listed names body e a) (text_refused c i k) = absurd (analysed_unrefused program names body c k a)
points_end_once program s t (listed names body e a) (listed others other i b) = e ∙ sym i

points_never_unread : (program : Program) (cause : ReadCause) → PointsEnd program (Read cause) → ⊥
points_never_unread program read (text_refused cause e h) = cc
points_never_unread program read (listed names body e h) = cc

points_never_unwritten : (program : Program) → PointsEnd program Write → ⊥
points_never_unwritten program (text_refused cause e h) = cc
points_never_unwritten program (listed names body e h) = cc

-- points are a command of the program
pub points : (text : List ℕ) → IsCommand (Points text)
points text = record {
  lawful = record {
    ends_once = points_end_once (whole_source text);
    exceeded_ends = λ excess s w h. absurd w;
    written_ends = done_ends (λ s. PointsEnd (whole_source text) s) (λ bytes. ArePointsOf (whole_source text) bytes)
        (λ bytes p. listed p.names p.body refl p.analysed);
    never_unread = points_never_unread (whole_source text);
    never_unwritten = points_never_unwritten (whole_source text);
  };
  writes_once = λ none contents. done_once (λ bytes. ArePointsOf (whole_source (text_at contents 0)) bytes)
      (points_once (whole_source (text_at contents 0)));
  limits = λ contents range e. first_short (which.Program, text) [] contents e;
}

-- they have no number
pub points_range : (given : List Row) (r : Request) → points_in given ≡ Some r → IsInRange r
points_range given r e =
    let made : WordText → Request = λ program. Points program in
    ranged made (first_of (codes "program") given) r e (λ program. tt)

unread_says : (text : List ℕ) (x : Refusal) → IsUnread (whole_source text) x → Says (command_of exact (Points text)) (refused x) []
unread_says text (refusal.Text cause) h = (text_refused cause refl h, refl)
unread_says text (refusal.Certificate cause) h = absurd h
unread_says text (refusal.Exceeded excess) h = absurd h
unread_says text (refusal.Spent n) h = absurd h
unread_says text refusal.NoMemory h = refl

-- the points of a text's program, or why there are none
pub pointed : (text : List ℕ) (r : Result (Vec ℕ Global) Refusal) (s : Status) (bytes : List ℕ)
    → IfOk r (λ made. ArePointsOf (whole_source text) made.items) → IfErr r (λ x. IsUnread (whole_source text) x) → HasOutcome r s bytes
    → Says (command_of exact (Points text)) s bytes
pointed text r s bytes ok err h = outcome_says (command_of exact (Points text)) r s bytes ok
    (err_map (λ x. IsUnread (whole_source text) x) _ (unread_says text) r err) h
