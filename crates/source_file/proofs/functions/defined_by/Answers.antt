use Rattle.std.proofs.Common.{◌≡◌, Some}
use Rattle.std.specs.List.{slice_get}
use Rattle.source_tokens.proofs.placed.Fronts.{token_in}
use Rattle.source_file.proofs.functions.Steps.{defined_is, got}
use Rattle.source_file.proofs.functions.defined_by.Goals as goal

pub named_by-requires : goal.named_by-requires
named_by-requires c =
    let is : slice_get c.args.tokens.now c.in_ok-index.index ≡ Some c.in_ok-token.token.now =
    got c.args.tokens.now c.in_ok-index.index c.in_ok-token.token.now c.in_ok-token.ensures.lookup.3.0 c.in_ok-token.ensures.lookup.1 in
    token_in c.args.text.now c.args.tokens.now c.in_ok-index.index c.in_ok-token.token.now c.requires is

pub returns : goal.returns
returns c =
    let is : slice_get c.args.tokens.now c.in_ok-index.index ≡ Some c.in_ok-token.token.now =
    got c.args.tokens.now c.in_ok-index.index c.in_ok-token.token.now c.in_ok-token.ensures.lookup.3.0 c.in_ok-token.ensures.lookup.1 in
    defined_is c.args.text.now c.args.tokens.now c.args.item.now c.in_ok-index.index c.in_ok-token.token.now c.named_by.result
    c.in_ok-index.was is c.named_by.ensures
