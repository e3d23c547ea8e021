-- It is that of the first token.
use Rattle.std.proofs.Common.{◌∙◌, ap, pos, w64}
use Rattle.std.proofs.lemmas.Int.{to_z-of_z}
use Rattle.source_reader.specs.Reading.{Reading, first_kind, number_in}
use Rattle.source_reader.proofs.Firsts.{first_gives}
use Rattle.source_reader.proofs.reader.Reader.number.Goals as goal

pub returns-in-len1-up : goal.returns-in-len1-up
returns-in-len1-up c = to_z-of_z w64 c.value_of.result record { sfits = c.value_of.type_inv }
    ∙ first_gives (λ k. pos (number_in k)) c.self.inside.definitions.now c.self.inside.text.now c.self.inside.rest.now _ _
    c.in-len1-up.len_at_least c.value_of.ensures
    ∙ ap (λ (r : Reading). pos (number_in (first_kind r.ahead))) c.self.view_is
