-- No command ends in a failed read or in a failed put: these are causes of the run. It is shown here, since a program cites it.
use Rattle.std.proofs.Common.{refl}
use Rattle.top_answer.specs.Commands.{command_of}
use Rattle.top_answer.proofs.commands.Table.{lawful}
use Rattle.top_run.specs.Programs.{EndsInside, IsPlain}
use Rattle.top_texts.specs.Exact.{exact}

-- the commands of the program end so
pub inside : EndsInside (command_of exact)
inside = record { writes = λ asked. (lawful asked).never_unwritten; reads = λ asked. (lawful asked).never_unread }

-- the messages of the program name no place where memory is wanted or the output failed
pub plain : IsPlain exact
plain = record {
  memory = record { message = refl; line = λ text. refl; rows = λ count. refl };
  write = record { message = refl; line = λ text. refl; rows = λ count. refl };
}
