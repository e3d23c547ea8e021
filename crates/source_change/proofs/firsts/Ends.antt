-- What stands behind a part of a list ends it.
use Rattle.std.proofs.Common.{◌≡◌, true, refl}
use Rattle.source_grammar.specs.Tokens.{Kind, semicolon, right_paren, comma}
use Rattle.source_grammar.proofs.grammar.Follow.{AfterPart}
use Rattle.source_reader.specs.Units.{ends_unit}

-- a token that may follow a part of a list
pub part_ends : (k : Kind) → AfterPart k → ends_unit k ≡ true
part_ends semicolon h = refl
part_ends right_paren h = refl
part_ends comma h = refl
part_ends _ h = absurd h
