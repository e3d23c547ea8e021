-- Where a reader has come to.
use Rattle.std.proofs.Common.{◌≡◌, ◌∙◌, List, ap₂}
use Rattle.source_grammar.specs.Tokens.{Token}
use Rattle.source_reader.specs.Reading.{Reading, at_tokens, GoesOn}

-- to the tokens that are still to come
pub came_to : (old new : Reading) (rest : List Token) → GoesOn old new → new.ahead ≡ rest → new ≡ at_tokens old rest
came_to old new rest g e =
    let first : new ≡ record { text = old.text; ahead = rest; variables = new.variables; integers = new.integers } =
    ap₂ (λ t ts. let r : Reading = record { text = t; ahead = ts; variables = new.variables; integers = new.integers } in r) g.text e in
    first ∙ ap₂ (λ v k. let r : Reading = record { text = old.text; ahead = rest; variables = v; integers = k } in r) g.variables g.integers
