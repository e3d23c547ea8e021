-- What is asked of tokens is asked without their names and numbers.
use Rattle.std.proofs.Common.{◌≡◌, refl}
use Rattle.source_grammar.specs.Tokens.{Kind, a_name, a_number}
use Rattle.source_grammar.specs.View.{plain_kind}
use Rattle.source_statement.specs.Starts.{start_in}

-- what comes next
pub plain_start : (k : Kind) → start_in (plain_kind k) ≡ start_in k
plain_start (a_name x) = refl
plain_start (a_number n) = refl
plain_start _ = refl
