use Rattle.std.proofs.Common.{rules}
use Rattle.source_tokens.specs.View.{tokens_of}
use Rattle.source_file.specs.Meaning.{FunctionMeans}
use Rattle.source_file.proofs.file.Told.{fault_told, program_told, walk_told}
use Rattle.source_file.proofs.file.analysed.Goals as goal

pub returns-in_err-examined : goal.returns-in_err-examined
returns-in_err-examined c =
    fault_told c.args.integers c.from_residual.result c.in_err-examined.field-0.0
    (FunctionMeans c.args.integers c.args.text.now (tokens_of c.args.definitions.now c.args.text.now c.args.tokens.now))
    c.from_residual.ensures.1
    (λ n. c.in_err-examined.ensures.fault n c.args.integers c.args.definitions.now c.args.text.now)

pub program-requires-clause-read : goal.program-requires-clause-read
program-requires-clause-read c =
    let definitions = c.args.definitions.now in
    let whole = c.in_ok-examined.ensures.whole definitions c.args.text.now in
    (whole.0.0, whole.0.1, c.in_ok-variables.ensures definitions whole.0.0 whole.0.1)

pub returns-in-Ok : goal.returns-in-Ok
returns-in-Ok c =
    let definitions = c.args.definitions.now in
    let text = c.args.text.now in
    program_told c.args.integers text (tokens_of definitions text c.args.tokens.now) c.in-Ok.program
    (c.in_ok-examined.ensures.whole definitions text)
    (λ f reads. c.in-Ok.ensures f reads (c.in_ok-variables.ensures definitions f reads))

pub returns-in-Err : goal.returns-in-Err
returns-in-Err c = λ n.
    let definitions = c.args.definitions.now in
    let text = c.args.text.now in
    walk_told c.args.integers text (tokens_of definitions text c.args.tokens.now) c.in-Err.fault
    (c.in_ok-examined.ensures.whole definitions text)
    (λ f reads. c.in-Err.ensures f reads (c.in_ok-variables.ensures definitions f reads)) (λ e. search rules)
