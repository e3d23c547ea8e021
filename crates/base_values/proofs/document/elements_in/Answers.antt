use Rattle.std.proofs.Common.{◌<◌, ◌∙◌, ap, sym, arith}
use Rattle.std.specs.Prelude.{is_some, option_and_then}
use Rattle.json.specs.Lex.{tokens}
use Rattle.serde_json.specs.Find.{as_array}
use Rattle.serde_json.specs.Read.{of_json}
use Rattle.base_values.proofs.Keys.{key_counted}
use Rattle.base_values.proofs.document.elements_in.Goals as goal

pub opened-requires : goal.opened-requires
opened-requires c =
    let some : 0 < c.in_ok-count.count = omega arith in
    let both = key_counted c.args.key.now (tokens c.args.text.now) c.in_ok-count.count c.requires (c.in_ok-count.ensures.some some) some in
    ap (λ o. is_some (option_and_then of_json o)) c.in_ok-reader.ensures ∙ both.1

pub returns : goal.returns
returns c =
    let some : 0 < c.in_ok-count.count = omega arith in
    let both = key_counted c.args.key.now (tokens c.args.text.now) c.in_ok-count.count c.requires (c.in_ok-count.ensures.some some) some in
    c.opened.ensures ∙ ap (λ o. option_and_then as_array (option_and_then of_json o)) c.in_ok-reader.ensures
    ∙ ap (option_and_then as_array) (sym both.0)
