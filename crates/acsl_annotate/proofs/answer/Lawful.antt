-- The commands of the program that annotates are lawful, as those of the program that reports are.
use Rattle.std.proofs.Common.{ℕ, List, refl}
use Rattle.ask_files.specs.Files.{Request}
use Rattle.ask_words.specs.declared.request.Purpose.TheVariants.{Report}
use Rattle.ask_words.specs.declared.request.Request.TheVariants.{Analyse}
use Rattle.top_answer.specs.Commands.{command_of}
use Rattle.top_answer.proofs.commands.Lawful.{IsLawful, done_ends}
use Rattle.top_answer.proofs.commands.Table.{lawful}
use Rattle.top_status.specs.declared.status.Status.{Status}
use Rattle.top_texts.specs.Exact.{exact}
use Rattle.top_texts.specs.Questions.{rounds_end}
use Rattle.acsl_annotate.specs.Annotated.{IsNoted, annotating}

-- `solve` writes another text than there, all else is written as there
written_ends : (asked : Request) (s : Status) (bytes : List ℕ) → (annotating exact asked).writes s bytes → (annotating exact asked).ends s
written_ends (Analyse Report a format) =
    done_ends (λ s. (command_of exact (Analyse Report a format)).ends s) (λ bytes. IsNoted a bytes)
    (λ bytes h. rounds_end h.0.0 refl h.0.1 h.0.2)
written_ends asked = (lawful asked).written_ends

-- the commands that annotate are lawful
pub annotating_lawful : IsLawful (annotating exact)
annotating_lawful asked = record {
  ends_once = (lawful asked).ends_once;
  exceeded_ends = (lawful asked).exceeded_ends;
  written_ends = written_ends asked;
  never_unread = (lawful asked).never_unread;
  never_unwritten = (lawful asked).never_unwritten;
}
