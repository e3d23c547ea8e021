use Rattle.std.proofs.Common.{◌≡◌, ◌++◌, ◌∷◌, List, [], Err, length, sym, subst}
use Rattle.std.specs.Option.{option_copied}
use Rattle.lang_tokens.specs.declared.token.Token.{Token}
use Rattle.lang_tokens.specs.Reading.{end_at}
use Rattle.source_file.specs.Meaning.{Means}
use Rattle.source_file.specs.declared.fault.SourceFault.{SourceFault}
use Rattle.source_tokens.specs.Texts.{AreTokensIn}
use Rattle.source_tokens.proofs.placed.Fronts.{front_in}
use Rattle.source_groups.proofs.Coded.{code_in}
use Rattle.source_groups.proofs.Reading.{are_groups, handed_on}
use Rattle.source_groups.proofs.grouping.groups.Goals as goal

pub grouped-requires-clause-tokens : goal.grouped-requires-clause-tokens
grouped-requires-clause-tokens c =
    subst (λ (x : List Token). AreTokensIn c.args.text.now x)
    (sym (c.in_ok-chosen.ensures.code c.requires.tokens.front c.requires.tokens.ended))
    (code_in c.args.text.now c.requires.tokens.front
    (front_in c.args.text.now c.args.tokens.now c.requires.tokens.front c.requires.tokens c.requires.tokens.ended))

pub returns-clause-found : goal.returns-clause-found
returns-clause-found c = λ front e body means. are_groups c.args.integers c.args.text.now (option_copied c.args.asked) front
    c.in_ok-chosen.chosen c.args.names.now _ body (c.in_ok-chosen.ensures.code front e) (c.in_ok-chosen.ensures.found front e)
    (c.in_ok-chosen.ensures.means front e _ means) (λ f reads. c.in_ok-grouped.ensures f reads)

pub returns-in_err-chosen-clause-fault : goal.returns-in_err-chosen-clause-fault
returns-in_err-chosen-clause-fault c = handed_on c.from_residual.result c.in_err-chosen.field-0.0
    (λ (e : SourceFault). (front : List Token) → front ++ end_at (length c.args.text.now) ∷ [] ≡ c.args.tokens.now
    → Means c.args.integers c.args.text.now (option_copied c.args.asked) front (Err e)) c.from_residual.ensures.1
    c.in_err-chosen.ensures.fault
