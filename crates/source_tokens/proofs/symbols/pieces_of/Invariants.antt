use Rattle.std.proofs.Common.{ℕ, List, take}
use Rattle.source_grammar.specs.View.{Are}
use Rattle.source_tokens.specs.declared.definition.Definition.{Definition}
use Rattle.source_tokens.specs.View.{tokens_of}
use Rattle.source_tokens.proofs.symbols.pieces_of.Given as goal

abbrev pub invariant-loop-token : goal.invariant-loop-token
invariant-loop-token l = (constants : List Definition) (text : List ℕ)
    → Are (tokens_of constants text (take l.token-index l.tokens)) l.pieces.items
