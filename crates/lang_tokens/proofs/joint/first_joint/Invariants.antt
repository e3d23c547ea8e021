use Rattle.std.proofs.Common.{◌≡◌, ◌<◌, ℕ, false}
use Rattle.lang_tokens.specs.Directives.{is_star_joint}
use Rattle.lang_tokens.proofs.joint.first_joint.Given as goal

abbrev pub invariant-loop-place : goal.invariant-loop-place
invariant-loop-place l = (other : ℕ) → other < l.place → is_star_joint l.text other ≡ false
