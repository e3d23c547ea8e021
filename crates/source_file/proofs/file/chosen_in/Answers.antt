use Rattle.std.proofs.Common.{◌≡◌, ◌∙◌, ◌≤◌, List, Some, Err, length, sym, ap, subst}
use Rattle.std.specs.Option.{option_copied}
use Rattle.lang_tokens.specs.declared.token.Token.{Token}
use Rattle.source_tokens.specs.Texts.{AreTokensIn}
use Rattle.source_tokens.proofs.placed.Fronts.{range_in}
use Rattle.source_constants.specs.Directives.{code_of}
use Rattle.source_file.specs.declared.functions.Defined.{Defined}
use Rattle.source_file.specs.declared.fault.SourceFault.{SourceFault}
use Rattle.source_file.specs.Choice.{chosen}
use Rattle.source_file.specs.Meaning.{Means}
use Rattle.source_file.proofs.file.Meant.{chosen_end, chosen_first}
use Rattle.source_file.proofs.functions.Placed.{code_in}
use Rattle.source_file.proofs.outline.Told.{handed_on}
use Rattle.source_file.proofs.file.chosen_in.Goals as goal

pub returns-in_err-code-clause-fault : goal.returns-in_err-code-clause-fault
returns-in_err-code-clause-fault c =
    let asked = option_copied c.args.asked in
    handed_on c.from_residual.result c.in_err-code.field-0.0
    (λ (e : SourceFault). Means c.args.integers c.args.text.now asked c.args.tokens.now (Err e)) c.from_residual.ensures.1
    (λ n. c.in_err-code.ensures.whatever n asked)

pub item_of-requires-clause-order : goal.item_of-requires-clause-order
item_of-requires-clause-order c =
    let asked = option_copied c.args.asked in
    let d : Defined = c.in-Some.function.now in
    let picked : Some d ≡ chosen asked c.in_ok-code.field-0.functions.items =
    c.in-Some.ensures ∙ ap (λ (x : List Defined). chosen asked x) c.as_slice.ensures.value in
    chosen_first c.args.integers c.args.text.now c.args.tokens.now c.in_ok-code.field-0.definitions.items
    c.in_ok-code.field-0.functions.items c.in_ok-code.ensures.found asked d picked

pub item_of-requires-clause-within : goal.item_of-requires-clause-within
item_of-requires-clause-within c =
    let asked = option_copied c.args.asked in
    let d : Defined = c.in-Some.function.now in
    let picked : Some d ≡ chosen asked c.in_ok-code.field-0.functions.items =
    c.in-Some.ensures ∙ ap (λ (x : List Defined). chosen asked x) c.as_slice.ensures.value in
    let code : c.as_slice-3.result.now ≡ code_of c.args.tokens.now = c.as_slice-3.ensures.value ∙ c.in_ok-code.ensures.code in
    subst (λ (x : List Token). d.end ≤ length x) (sym code)
    (chosen_end c.args.integers c.args.text.now c.args.tokens.now c.in_ok-code.field-0.definitions.items
    c.in_ok-code.field-0.functions.items c.in_ok-code.ensures.found asked d picked)

pub first_outside-requires : goal.first_outside-requires
first_outside-requires c =
    let text = c.args.text.now in
    let d : Defined = c.in-Some.function.now in
    let code : c.as_slice-3.result.now ≡ code_of c.args.tokens.now = c.as_slice-3.ensures.value ∙ c.in_ok-code.ensures.code in
    subst (λ (x : List Token). AreTokensIn text x) (sym c.item_of.ensures)
    (range_in text c.as_slice-3.result.now d.first d.end
    (subst (λ (x : List Token). AreTokensIn text x) (sym code) (code_in text c.args.tokens.now c.requires.tokens)))
