use Rattle.std.proofs.Common.{ℕ, ◌≤◌, ◌<◌, length, slice_index, IsTrue}
use Rattle.lang_tokens.specs.Bytes.{is_line_blank}
use Rattle.lang_tokens.proofs.comment.last_backslash.Given as goal

abbrev pub invariant-loop-place : goal.invariant-loop-place
invariant-loop-place l = (other : ℕ) → l.place ≤ other → other < length l.line → IsTrue (is_line_blank (slice_index l.line other))
