-- No command that annotates ends in a failed read or in a failed put; and the messages of these name no place. It is shown here, since the
-- program cites it.
use Rattle.std.proofs.Common.{refl}
use Rattle.top_run.specs.Inside.{inside}
use Rattle.top_run.specs.Programs.{EndsInside, IsPlain}
use Rattle.top_texts.specs.Exact.{exact}
use Rattle.acsl_annotate.specs.Annotated.{annotating}
use Rattle.acsl_annotate.specs.Messages.{saying}

-- the commands that annotate end in neither
pub annotating_inside : EndsInside (annotating exact)
annotating_inside = record { writes = inside.writes; reads = inside.reads }

-- and the messages name no place
pub annotating_plain : IsPlain (saying exact)
annotating_plain = record {
  memory = record { message = refl; line = λ text. refl; rows = λ count. refl };
  write = record { message = refl; line = λ text. refl; rows = λ count. refl };
}
