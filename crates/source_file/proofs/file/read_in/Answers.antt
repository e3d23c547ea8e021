use Rattle.std.proofs.Common.{◌≡◌, ◌∙◌, ◌≤◌, List, length, sym, ap, ap₂, subst}
use Rattle.std.specs.Prelude.{slice_range}
use Rattle.std.specs.Option.{option_copied}
use Rattle.lang_tokens.specs.declared.token.Token.{Token}
use Rattle.source_grammar.specs.Tokens as g
use Rattle.source_grammar.specs.Faults.{Finds, short}
use Rattle.source_tokens.specs.declared.definition.Definition.{Definition}
use Rattle.source_tokens.specs.Texts.{AreTokensIn}
use Rattle.source_tokens.specs.View.{tokens_of}
use Rattle.source_tokens.proofs.placed.Fronts.{range_in}
use Rattle.source_constants.specs.Directives.{code_of}
use Rattle.source_file.specs.declared.functions.Defined.{Defined}
use Rattle.source_file.specs.Meaning.{FunctionMeans, Means, item_of}
use Rattle.source_file.proofs.file.Meant.{chosen_all, end_is, first_is, never_short}
use Rattle.source_file.proofs.file.Told.{tells_too}
use Rattle.source_file.proofs.functions.Placed.{code_in}
use Rattle.source_file.proofs.file.read_in.Goals as goal

pub item_of-item-requires-clause-order : goal.item_of-item-requires-clause-order
item_of-item-requires-clause-order c =
    first_is c.args.integers c.args.text.now (option_copied c.args.asked) c.args.tokens.now c.in_ok-chosen.chosen.definitions.items
    c.in_ok-chosen.chosen.function c.in_ok-chosen.ensures.found

pub item_of-item-requires-clause-within : goal.item_of-item-requires-clause-within
item_of-item-requires-clause-within c =
    let d : Defined = c.in_ok-chosen.chosen.function in
    let code : c.as_slice.result.now ≡ code_of c.args.tokens.now = c.as_slice.ensures.value ∙ c.in_ok-chosen.ensures.code in
    subst (λ (x : List Token). d.end ≤ length x) (sym code)
    (end_is c.args.integers c.args.text.now (option_copied c.args.asked) c.args.tokens.now c.in_ok-chosen.chosen.definitions.items d
    c.in_ok-chosen.ensures.found)

pub analysed-requires-clause-tokens : goal.analysed-requires-clause-tokens
analysed-requires-clause-tokens c =
    let text = c.args.text.now in
    let d : Defined = c.in_ok-chosen.chosen.function in
    let code : c.as_slice.result.now ≡ code_of c.args.tokens.now = c.as_slice.ensures.value ∙ c.in_ok-chosen.ensures.code in
    subst (λ (x : List Token). AreTokensIn text x) (sym c.item_of-item.ensures)
    (range_in text c.as_slice.result.now d.first d.end
    (subst (λ (x : List Token). AreTokensIn text x) (sym code) (code_in text c.args.tokens.now c.requires.tokens)))

pub analysed-requires-clause-whole : goal.analysed-requires-clause-whole
analysed-requires-clause-whole c = λ definitions words s.
    let d : Defined = c.in_ok-chosen.chosen.function in
    let code : c.as_slice.result.now ≡ code_of c.args.tokens.now = c.as_slice.ensures.value ∙ c.in_ok-chosen.ensures.code in
    let item : c.item_of-item.result.now ≡ item_of (code_of c.args.tokens.now) d =
    c.item_of-item.ensures ∙ ap (λ (x : List Token). slice_range x d.first d.end) code in
    never_short c.args.integers c.args.text.now (option_copied c.args.asked) c.args.tokens.now c.in_ok-chosen.chosen.definitions.items d
    c.in_ok-chosen.ensures.found definitions words (subst (λ (x : List Token). Finds short (tokens_of definitions words x)) item s)

pub returns : goal.returns
returns c =
    let text = c.args.text.now in
    let asked = option_copied c.args.asked in
    let definitions = c.in_ok-chosen.chosen.definitions.items in
    let d : Defined = c.in_ok-chosen.chosen.function in
    let code : c.as_slice.result.now ≡ code_of c.args.tokens.now = c.as_slice.ensures.value ∙ c.in_ok-chosen.ensures.code in
    let item : c.item_of-item.result.now ≡ item_of (code_of c.args.tokens.now) d =
    c.item_of-item.ensures ∙ ap (λ (x : List Token). slice_range x d.first d.end) code in
    let tokens : tokens_of c.as_slice-2.result.now text c.item_of-item.result.now
    ≡ tokens_of definitions text (item_of (code_of c.args.tokens.now) d) =
    ap₂ (λ (x : List Definition) (y : List Token). tokens_of x text y) c.as_slice-2.ensures.value item in
    tells_too c.args.integers c.analysed.result
    (FunctionMeans c.args.integers text (tokens_of c.as_slice-2.result.now text c.item_of-item.result.now))
    (Means c.args.integers text asked c.args.tokens.now)
    (λ r m. chosen_all c.args.integers text asked c.args.tokens.now definitions d c.in_ok-chosen.ensures.found r
    (subst (λ (x : List g.Token). FunctionMeans c.args.integers text x r) tokens m)) c.analysed.ensures
