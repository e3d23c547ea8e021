use Rattle.std.proofs.Common.{◌≡◌, ◌++◌, drop}
use Rattle.out_json.specs.Uris.{uri_text}
use Rattle.out_json.proofs.uri.uri_of.Given as goal

abbrev pub invariant-loop-byte : goal.invariant-loop-byte
invariant-loop-byte l = l.uri.items ++ uri_text (drop l.byte-index l.word) ≡ uri_text l.word
