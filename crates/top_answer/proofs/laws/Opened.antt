-- Which commands end where a check is open.
use Rattle.std.proofs.Common.{◌≡◌, ℕ, List, refl, sym}
use Rattle.ask_files.specs.Files.{Request}
use Rattle.ask_words.specs.Request.{whole_source}
use Rattle.ask_words.specs.declared.format.Format.{Format}
use Rattle.ask_words.specs.declared.request.Analysis.{Analysis}
use Rattle.ask_words.specs.declared.request.Request.TheVariants.{Analyse, Check, Bench, Upgrade, Prove, Transitions, Equations, Points}
use Rattle.ask_words.specs.declared.request.Request.TheVariants.{Functions, Verify, Help}
use Rattle.top_answer.specs.Commands as commands
use Rattle.top_answer.specs.Commands.{CheckEnds, FunctionsEnd, PointsEnd, UpgradeEnds, VerifyEnds, command_of, file_refused, form_refused}
use Rattle.top_answer.specs.Commands.{judged, listed, names_listed, rewritten, text_refused, unjudged}
use Rattle.top_status.specs.declared.status.Status.TheVariants.{Done, Open}
use Rattle.top_texts.specs.CheckTexts.{IsJudged}
use Rattle.top_texts.specs.Exact.{exact}
use Rattle.top_texts.specs.Questions.{Question, QuestionEnds, checks_question, is_refused, rounds_end, rounds_spent}
use Rattle.top_texts.specs.Texts.{IsSolvable, Program}
use Rattle.top_texts.proofs.check_texts.OneText.{one_judged}

-- no question ends so
never_asked : (q : Question) → QuestionEnds q Open → ⊥
never_asked q (is_refused cause e h) = cc
never_asked q (rounds_end system e is h) = cc
never_asked q (rounds_spent system e is h) = cc

never_checked : (program : Program) (bytes : List ℕ) → CheckEnds exact program bytes Open → ⊥
never_checked program bytes (commands.program_refused cause e h) = cc
never_checked program bytes (commands.certificate_refused cause e h) = cc
never_checked program bytes (commands.sum_too_wide spot e h) = cc
never_checked program bytes (commands.accepted names body rows vector e h) = cc

never_upgraded : (bytes : List ℕ) → UpgradeEnds exact bytes Open → ⊥
never_upgraded bytes (form_refused fault e h) = cc
never_upgraded bytes (rewritten written e h) = cc

never_pointed : (program : Program) → PointsEnd program Open → ⊥
never_pointed program (text_refused cause e h) = cc
never_pointed program (listed names body e h) = cc

never_listed : (text : List ℕ) → FunctionsEnd text Open → ⊥
never_listed text (file_refused cause e h) = cc
never_listed text (names_listed names e h) = cc

never_helped : Done ≡ Open → ⊥
never_helped e = cc

verified : (a : Analysis (List ℕ)) → VerifyEnds exact a Open → IsJudged a.program a.domain a.policy a.improvements Open
verified a (unjudged h n) = absurd (never_asked (checks_question exact a.program a.domain a.policy a.improvements) h)
verified a (judged j) = j

-- the command that judges checks alone does
pub of_checks : (asked : Request) → (command_of exact asked).ends Open
    → (name : List ℕ) × (a : Analysis (List ℕ)) × (format : Format) × (asked ≡ Verify name a format)
    × IsJudged a.program a.domain a.policy a.improvements Open
of_checks (Analyse purpose a format) h = absurd (never_asked _ h)
of_checks (Check program given format) h = absurd (never_checked program given h)
of_checks (Bench seed loops) h = absurd (never_asked _ h)
of_checks (Upgrade given) h = absurd (never_upgraded given h)
of_checks (Prove given a format) h = absurd (never_asked _ h)
of_checks (Transitions a format) h = absurd (never_asked _ h)
of_checks (Equations text limit policy format) h = absurd (never_asked _ h)
of_checks (Points text) h = absurd (never_pointed (whole_source text) h)
of_checks (Functions text) h = absurd (never_listed text h)
of_checks (Verify name a format) h = (name, a, format, refl, verified a h)
of_checks (Help topic) h = absurd (never_helped (sym h))

-- where improvements end it has one of its two endings
pub judged_or_not : (name : List ℕ) (a : Analysis (List ℕ)) (format : Format) → IsSolvable a.program a.domain a.policy a.improvements
    → ((command_of exact (Verify name a format)).ends Done → ⊥) → ((command_of exact (Verify name a format)).ends Open → ⊥) → ⊥
judged_or_not name a format solvable done other =
    one_judged a.program a.domain a.policy a.improvements solvable (λ j. done (judged j)) (λ j. other (judged j))
