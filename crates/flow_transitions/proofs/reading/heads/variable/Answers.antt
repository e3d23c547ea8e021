use Rattle.std.proofs.Common.{◌∙◌, ◌+◌, ◌++◌, [], ◌∷◌, Err, cond, sym, ap, arith}
use Rattle.lang_meaning.specs.Names.{place_of}
use Rattle.lang_meaning.specs.declared.fault.ParseFault.TheVariants as parse
use Rattle.lang_meaning.specs.declared.fault.Limit.TheVariants.{Variables}
use Rattle.flow_transitions.specs.declared.fault.AutoFault.TheVariants as fault
use Rattle.flow_transitions.specs.AutoReading.{progress, at_variable, at_points}
use Rattle.flow_transitions.proofs.progress.Steps.{passed_on, moved}
use Rattle.flow_transitions.proofs.progress.HeadSteps.{variable_unnamed, variable_twice, variable_limit, variable_goes, comma_goes}
use Rattle.flow_transitions.proofs.progress.HeadSteps.{comma_fails}
use Rattle.flow_transitions.proofs.reading.heads.variable.Goals as goal

pub returns-in_err-name-clause-reads : goal.returns-in_err-name-clause-reads
returns-in_err-name-clause-reads c =
    let text = c.args.text.now in
    let tokens = c.args.tokens.now in
    let names = c.args.names.now in
    let i = c.args.at in
    let f = c.in_err-name.field-0.0 in
    passed_on text tokens (progress names [] [] at_variable) i c.from_residual.result _ _ f c.from_residual.ensures.1
    (λ n. variable_unnamed text tokens names i f c.in_err-name.ensures.fault c.in_err-name.ensures.other)

pub returns-in-Some-clause-reads : goal.returns-in-Some-clause-reads
returns-in-Some-clause-reads c = λ n.
    let text = c.args.text.now in
    let tokens = c.args.tokens.now in
    let names = c.args.names.now in
    let i = c.args.at in
    let x = c.in_ok-name.name in
    let placed = sym (ap (λ y. place_of y names) c.in_ok-name.ensures.bytes) ∙ sym c.place_of.ensures.place ∙ c.in-Some.is in
    variable_twice text tokens names i c.in-Some.field-0 (fault.Parse (parse.NameTwice c.place.result)) c.in_ok-name.ensures.symbol placed
    (ap (λ k. fault.Parse (parse.NameTwice k)) c.place.ensures)

pub returns-then-names-ge-MOST_VARIABLES-clause-reads : goal.returns-then-names-ge-MOST_VARIABLES-clause-reads
returns-then-names-ge-MOST_VARIABLES-clause-reads c = λ n.
    let text = c.args.text.now in
    let tokens = c.args.tokens.now in
    let names = c.args.names.now in
    let i = c.args.at in
    let x = c.in_ok-name.name in
    let placed = sym (ap (λ y. place_of y names) c.in_ok-name.ensures.bytes) ∙ sym c.place_of.ensures.place ∙ c.in_default.is in
    variable_limit text tokens names i (fault.Parse (parse.Limit c.place-then-names-ge-MOST_VARIABLES.result Variables))
    c.in_ok-name.ensures.symbol placed (omega arith)
    (ap (λ k. fault.Parse (parse.Limit k Variables)) c.place-then-names-ge-MOST_VARIABLES.ensures)

pub returns-in_err-comma-clause-reads : goal.returns-in_err-comma-clause-reads
returns-in_err-comma-clause-reads c =
    let text = c.args.text.now in
    let tokens = c.args.tokens.now in
    let names = c.args.names.now in
    let i = c.args.at in
    let x = c.in_ok-name.name in
    let placed = sym (ap (λ y. place_of y names) c.in_ok-name.ensures.bytes) ∙ sym c.place_of.ensures.place ∙ c.in_default.is in
    let named = variable_goes text tokens names i x c.in_ok-name.ensures.bytes c.in_ok-name.ensures.symbol placed (omega arith) in
    let f = c.in_err-comma.field-0.0 in
    passed_on text tokens (progress names [] [] at_variable) i c.from_residual-in_err-comma.result _ _ f
    c.from_residual-in_err-comma.ensures.1
    (λ n. named (Err f) (comma_fails text tokens (names ++ x ∷ []) (i + 1) f c.in_err-comma.ensures.fault c.in_err-comma.ensures.no_comma
    c.in_err-comma.ensures.no_semicolon))

pub returns-clause-reads : goal.returns-clause-reads
returns-clause-reads c =
    let text = c.args.text.now in
    let tokens = c.args.tokens.now in
    let names = c.args.names.now in
    let i = c.args.at in
    let x = c.in_ok-name.name in
    let placed = sym (ap (λ y. place_of y names) c.in_ok-name.ensures.bytes) ∙ sym c.place_of.ensures.place ∙ c.in_default.is in
    let named = variable_goes text tokens names i x c.in_ok-name.ensures.bytes c.in_ok-name.ensures.symbol placed (omega arith) in
    let comma = c.in_ok-comma.comma in
    let signed = comma_goes text tokens (names ++ x ∷ []) (i + 1) comma c.in_ok-comma.ensures.symbol in
    moved text tokens (progress names [] [] at_variable) (progress (names ++ x ∷ []) [] [] (cond comma at_variable at_points)) i (i + 1 + 1)
    (i + 2) (omega arith)
    (λ answer h. named answer (signed answer h))
