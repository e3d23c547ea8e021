use Rattle.std.proofs.Common.{◌≡◌, take, map}
use Rattle.source_tokens.specs.View.{mark_of}
use Rattle.source_tokens.proofs.marks.marks_of.Given as goal

abbrev pub invariant-loop-token : goal.invariant-loop-token
invariant-loop-token l = l.marks.items ≡ map mark_of (take l.token-index l.tokens)
