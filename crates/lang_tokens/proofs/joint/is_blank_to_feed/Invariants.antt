use Rattle.std.proofs.Common.{◌≡◌, drop}
use Rattle.lang_tokens.specs.Directives.{is_blank_to_feed}
use Rattle.lang_tokens.proofs.joint.is_blank_to_feed.Given as goal

abbrev pub invariant-loop-byte : goal.invariant-loop-byte
invariant-loop-byte l = is_blank_to_feed l.rest ≡ is_blank_to_feed (drop l.byte-index l.rest)
