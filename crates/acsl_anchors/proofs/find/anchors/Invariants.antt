use Rattle.std.proofs.Common.{◌≡◌, ◌≤◌, List, drop, length}
use Rattle.source_tokens.specs.View.{tokens_of}
use Rattle.source_tokens.specs.declared.definition.Definition.{Definition}
use Rattle.acsl_anchors.specs.Machine.{run, start}
use Rattle.acsl_anchors.specs.Search.{state_of}
use Rattle.acsl_anchors.proofs.find.anchors.Given as goal

abbrev pub invariant-loop-token : goal.invariant-loop-token
invariant-loop-token l =
    ((constants : List Definition) → run (state_of l.search) (tokens_of constants l.text (drop l.token-index l.inner))
    ≡ run start (tokens_of constants l.text l.inner))
    × (length l.search.variables.items ≤ l.token-index)
