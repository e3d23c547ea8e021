use Rattle.std.proofs.Common.{ℕ, ◌+◌, ◌<◌}
use Rattle.lang_tokens.specs.Steps.{ClosesAt}
use Rattle.lang_tokens.proofs.comment.first_close.Given as goal

abbrev pub invariant-loop-place : goal.invariant-loop-place
invariant-loop-place l = (other : ℕ) → other + 1 < l.place → ClosesAt l.body other → ⊥
