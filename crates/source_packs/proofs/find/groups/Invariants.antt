use Rattle.std.proofs.Common.{◌≡◌, drop}
use Rattle.source_tokens.specs.View.{tokens_of}
use Rattle.source_packs.specs.Machine.{run, start}
use Rattle.source_packs.specs.Search.{state_of}
use Rattle.source_packs.proofs.find.groups.Given as goal

abbrev pub invariant-loop-token : goal.invariant-loop-token
invariant-loop-token l =
    run l.names (state_of l.search) (tokens_of l.constants l.text (drop l.token-index l.tokens))
    ≡ run l.names start (tokens_of l.constants l.text l.tokens)
