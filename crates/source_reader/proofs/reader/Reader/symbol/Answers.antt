-- It is that of the first token.
use Rattle.std.proofs.Common.{◌∙◌, ap}
use Rattle.source_grammar.specs.View.{plain_kind}
use Rattle.source_reader.specs.Reading.{Reading, first_kind}
use Rattle.source_reader.proofs.Firsts.{first_gives}
use Rattle.source_reader.proofs.reader.Reader.symbol.Goals as goal

pub returns-in-len1-up : goal.returns-in-len1-up
returns-in-len1-up c = first_gives plain_kind c.self.inside.definitions.now c.self.inside.text.now c.self.inside.rest.now _ _
    c.in-len1-up.len_at_least
    c.symbol_of.ensures
    ∙ ap (λ (r : Reading). plain_kind (first_kind r.ahead)) c.self.view_is
