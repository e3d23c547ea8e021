-- It is that of the second token.
use Rattle.std.proofs.Common.{◌∙◌, ap}
use Rattle.source_grammar.specs.View.{plain_kind}
use Rattle.source_reader.specs.Reading.{Reading, behind_first, first_kind}
use Rattle.source_reader.proofs.Firsts.{second_gives}
use Rattle.source_reader.proofs.reader.Reader.second.Goals as goal

pub returns-in-len2-up : goal.returns-in-len2-up
returns-in-len2-up c = second_gives plain_kind c.self.inside.definitions.now c.self.inside.text.now c.self.inside.rest.now _ _
    c.in-len2-up.len_at_least
    c.symbol_of.ensures
    ∙ ap (λ (r : Reading). plain_kind (first_kind (behind_first r.ahead))) c.self.view_is
