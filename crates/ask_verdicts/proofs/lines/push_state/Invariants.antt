use Rattle.std.proofs.Common.{◌≡◌, ◌++◌, drop}
use Rattle.std.specs.Prelude.{codes}
use Rattle.ask_verdicts.specs.Lines.{state_text}
use Rattle.ask_verdicts.proofs.lines.push_state.Given as goal

abbrev pub invariant-loop-index : goal.invariant-loop-index
invariant-loop-index l =
    l.text.items ++ state_text l.before (drop l.index l.names) (drop l.index l.state)
    ≡ l.initial.text.items ++ state_text (codes " at ") l.names l.state
