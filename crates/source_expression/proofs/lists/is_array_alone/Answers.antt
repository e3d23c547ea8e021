-- A name alone is that of an array, or no argument that is passed over.
use Rattle.std.proofs.Common.{◌∙◌, Option, ap, ap₂}
use Rattle.std.specs.Prelude.{◌&&◌}
use Rattle.std.specs.Option.{option_map}
use Rattle.source_meaning.specs.Names.{Thing, thing_of}
use Rattle.source_meaning.specs.Expressions.{is_array}
use Rattle.source_names.specs.Entries as code
use Rattle.source_reader.specs.Reading.{behind_first, first_kind, constant_in, name_in}
use Rattle.source_expression.specs.Signs.{is_name}
use Rattle.source_expression.specs.Lists.{ends_argument}
use Rattle.source_expression.proofs.Given.{alone, array_alone, ends_plain, name_plain}
use Rattle.source_expression.proofs.lists.is_array_alone.Goals as goal

pub returns : goal.returns
returns c = λ e rest q h.
    let st = c.args.known.now in
    let ahead = c.args.reader.now.ahead in
    let o : Option Thing = option_map code.thing_of c.thing.result in
    let n = c.is_name.ensures ∙ ap is_name c.symbol.ensures ∙ name_plain (first_kind ahead) in
    let k = c.ends_argument.ensures ∙ ap ends_argument c.second.ensures ∙ ends_plain (first_kind (behind_first ahead)) in
    c.are_all.ensures ∙ ap₂ (λ a b. a && b) (ap₂ (λ a b. a && b) n k) c.is_array-array.ensures
    ∙ ap (λ ts. alone ts && is_array o) q
    ∙ array_alone st e rest o h (λ x f. c.thing.ensures
    ∙ ap (λ y. thing_of y st) (ap₂ code.named (c.name.ensures.bytes ∙ ap (λ ts. name_in (first_kind ts)) q ∙ ap name_in f)
    (c.constant.ensures ∙ ap (λ ts. constant_in (first_kind ts)) q ∙ ap constant_in f)))
