use Rattle.std.proofs.Common.{◌≡◌, ◌∙◌, ℕ, List, Option, Err, sym, ap, ap₂, subst}
use Rattle.std.specs.List.{All}
use Rattle.base_integers.specs.declared.integers.Integers.TheVariants.{Mathematical}
use Rattle.lang_tokens.specs.declared.token.Token.{Token}
use Rattle.source_items.specs.declared.item.Item.{Item}
use Rattle.source_tokens.specs.Texts.{AreTokensIn}
use Rattle.source_file.specs.declared.fault.SourceFault.{SourceFault}
use Rattle.source_constants.specs.Definitions.{definitions_of}
use Rattle.source_constants.specs.Items.{IsItemOf}
use Rattle.source_file.specs.Functions.{functions_of}
use Rattle.source_file.specs.Meaning.{Means, NamesAre}
use Rattle.source_file.proofs.functions.Placed.{code_in}
use Rattle.source_file.proofs.wholes.Functions.{items_among}
use Rattle.source_file.proofs.outline.Told.{handed_on, twice_names, unexpected_means, unexpected_names}
use Rattle.source_file.proofs.outline.outline_of.Goals as goal

pub returns-in_err-items-clause-names : goal.returns-in_err-items-clause-names
returns-in_err-items-clause-names c =
    let text = c.args.text.now in
    let ts = c.args.tokens.now in
    handed_on c.from_residual-in_err-items.result c.in_err-items.field-0.0
    (λ (e : SourceFault). c.args.integers ≡ Mathematical → NamesAre text ts (Err e)) c.from_residual-in_err-items.ensures.1
    (λ n m. unexpected_names text ts c.as_slice.result.now c.in_err-items.field-0.0 (c.as_slice.ensures.value ∙ c.in_ok-code.ensures)
    (c.in_err-items.ensures.fault n))

pub returns-in_err-items-clause-whatever : goal.returns-in_err-items-clause-whatever
returns-in_err-items-clause-whatever c =
    let text = c.args.text.now in
    let ts = c.args.tokens.now in
    handed_on c.from_residual-in_err-items.result c.in_err-items.field-0.0
    (λ (e : SourceFault). (asked : Option (List ℕ)) → Means c.args.integers text asked ts (Err e)) c.from_residual-in_err-items.ensures.1
    (λ n asked. unexpected_means text ts c.args.integers asked c.as_slice.result.now c.in_err-items.field-0.0
    (c.as_slice.ensures.value ∙ c.in_ok-code.ensures) (c.in_err-items.ensures.fault n))

pub functions_of-requires : goal.functions_of-requires
functions_of-requires c =
    subst (λ (x : List Token). AreTokensIn c.args.text.now x) (sym (c.as_slice-2.ensures.value ∙ c.in_ok-code.ensures))
    (code_in c.args.text.now c.args.tokens.now c.requires.tokens)

pub definitions_of-requires-clause-within : goal.definitions_of-requires-clause-within
definitions_of-requires-clause-within c =
    let code : c.as_slice.result.now ≡ c.as_slice-4.result.now = c.as_slice.ensures.value ∙ sym c.as_slice-4.ensures.value in
    subst (λ (x : List Item). All (IsItemOf c.as_slice-4.result.now) x) (sym c.as_slice-5.ensures.value)
    (subst (λ (x : List Token). All (IsItemOf x) c.in_ok-items.items.items) code
    (items_among c.as_slice.result.now c.in_ok-items.items.items c.in_ok-items.ensures.found))

pub returns-in-Some-clause-names : goal.returns-in-Some-clause-names
returns-in-Some-clause-names c = λ n m.
    let text = c.args.text.now in
    let code : c.as_slice-2.result.now ≡ c.as_slice.result.now = c.as_slice-2.ensures.value ∙ sym c.as_slice.ensures.value in
    twice_names text c.args.tokens.now c.args.integers c.as_slice.result.now c.in_ok-items.items.items c.as_slice-6.result.now
    c.as_slice-7.result.now c.in-Some.at m (c.as_slice.ensures.value ∙ c.in_ok-code.ensures) c.in_ok-items.ensures.found
    (c.as_slice-6.ensures.value ∙ c.in_ok-functions.ensures
    ∙ ap₂ (λ (x : List Token) (y : List Item). functions_of text x y) code c.as_slice-3.ensures.value)
    (c.as_slice-7.ensures.value ∙ c.in_ok-definitions.ensures
    ∙ ap (λ (x : List Item). definitions_of c.args.integers text c.args.tokens.now x) c.as_slice-5.ensures.value)
    (sym c.in-Some.is ∙ c.in_ok-at.ensures)
