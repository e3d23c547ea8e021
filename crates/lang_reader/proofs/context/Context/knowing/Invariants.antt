use Rattle.std.proofs.Common.{◌≡◌}
use Rattle.lang_reader.specs.Views.{state_of}
use Rattle.lang_reader.proofs.names.Known.{knowing_first}
use Rattle.lang_reader.proofs.context.Context.knowing.Given as goal

abbrev pub invariant-loop-number : goal.invariant-loop-number
invariant-loop-number l = state_of l.context ≡ knowing_first l.number l.names
