-- They are those of the first token.
use Rattle.std.proofs.Common.{◌≡◌, ◌∙◌, ap, IsTrue}
use Rattle.lang_tree.specs.Word.{is_word}
use Rattle.source_grammar.specs.Tokens.{Name, a_name}
use Rattle.source_reader.specs.Reading.{Reading, first_kind, name_in}
use Rattle.source_reader.proofs.Firsts.{first_holds}
use Rattle.source_reader.proofs.reader.Reader.name.Goals as goal

pub returns-in-len1-up-clause-bytes : goal.returns-in-len1-up-clause-bytes
returns-in-len1-up-clause-bytes c =
    first_holds (λ k. c.name_of.result.now ≡ name_in k) c.self.inside.definitions.now c.self.inside.text.now c.self.inside.rest.now _
    c.in-len1-up.len_at_least c.name_of.ensures.bytes
    ∙ ap (λ (r : Reading). name_in (first_kind r.ahead)) c.self.view_is

pub returns-in-len1-up-clause-word : goal.returns-in-len1-up-clause-word
returns-in-len1-up-clause-word c = λ x at ts e.
    first_holds (λ k. (y : Name) → k ≡ a_name y → IsTrue (is_word y.text)) c.self.inside.definitions.now c.self.inside.text.now
    c.self.inside.rest.now _ c.in-len1-up.len_at_least c.name_of.ensures.word x
    (ap (λ (r : Reading). first_kind r.ahead) c.self.view_is ∙ ap first_kind e)
