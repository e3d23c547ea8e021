use Rattle.std.proofs.Common.{◌≡◌, List, sym, ap₂, subst}
use Rattle.std.specs.Prelude.{slice_range}
use Rattle.lang_tokens.specs.declared.token.Token.{Token}
use Rattle.source_grammar.specs.Tokens as g
use Rattle.source_grammar.specs.Grammar.{Reads}
use Rattle.source_tokens.specs.Texts.{AreTokensIn}
use Rattle.source_tokens.specs.View.{tokens_of}
use Rattle.source_tokens.specs.declared.definition.Definition.{Definition}
use Rattle.source_tokens.proofs.placed.Fronts.{range_in}
use Rattle.source_groups.proofs.grouping.grouped.Goals as goal

pub groups-requires-clause-tokens : goal.groups-requires-clause-tokens
groups-requires-clause-tokens c =
    range_in c.args.text.now c.as_slice-code.result.now c.args.chosen.now.function.first c.args.chosen.now.function.end
    (subst (λ (x : List Token). AreTokensIn c.args.text.now x) (sym c.as_slice-code.ensures.value) c.requires.tokens)

pub returns : goal.returns
returns c = λ f reads.
    let tokens : tokens_of c.args.chosen.now.definitions.items c.args.text.now
    (slice_range c.args.chosen.now.code.items c.args.chosen.now.function.first c.args.chosen.now.function.end)
    ≡ tokens_of c.as_slice.result.now c.args.text.now
    (slice_range c.as_slice-code.result.now c.args.chosen.now.function.first c.args.chosen.now.function.end) =
    ap₂ (λ (ds : List Definition) (ts : List Token). tokens_of ds c.args.text.now
    (slice_range ts c.args.chosen.now.function.first c.args.chosen.now.function.end))
    (sym c.as_slice.ensures.value) (sym c.as_slice-code.ensures.value) in
    c.groups.ensures f (subst (λ (ts : List g.Token). Reads ts f) tokens reads)
