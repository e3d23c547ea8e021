use Rattle.std.proofs.Common.{◌≡◌, ◌≤◌, take, count_by}
use Rattle.source_meaning.specs.Names.{is_named}
use Rattle.source_tokens.specs.View.{token_of}
use Rattle.source_reader.proofs.scope.stands_once.Given as goal

abbrev pub invariant-loop-token : goal.invariant-loop-token
invariant-loop-token l =
    (l.count ≡ count_by (λ t. is_named l.name (token_of l.definitions l.text t)) (take l.token-index l.tokens)) × (l.count ≤ l.token-index)
