use Rattle.source_core.specs.Elaborated as core
use Rattle.source_core.specs.Elaborated.{operation_held}
use Rattle.source_value.specs.Operations.{operation_of}
use Rattle.source_value.proofs.answers.Handed.{handed}
use Rattle.source_value.proofs.answers.Ranged.{value_unfit, check_unfit}
use Rattle.source_value.proofs.operation.operation_behind.Goals as goal

pub returns-in_err-value : goal.returns-in_err-value
returns-in_err-value c = λ d s.
    let integers = c.args.site.integers in
    let line = c.args.site.line in
    let o = operation_of c.args.operation in
    let left = c.args.left.now in
    let right = c.args.right.now in
    handed _ _ _ c.in_err-value.field-0.0 _ c.from_residual.ensures.1
    (λ m. value_unfit integers line c.args.sign (λ width r. operation_held width o left right r)
    (core.operated integers line o c.args.sign d.prelude d.next left right) (c.in_err-value.ensures d s m))

pub returns-in_err-holds-in-Machine : goal.returns-in_err-holds-in-Machine
returns-in_err-holds-in-Machine c = λ d s.
    let integers = c.args.site.integers in
    let line = c.args.site.line in
    let o = operation_of c.args.operation in
    let left = c.args.left.now in
    let right = c.args.right.now in
    let whole = core.operated integers line o c.args.sign d.prelude d.next left right in
    let t = c.in_ok-value.ensures d s in
    handed _ _ _ c.in_err-holds-in-Machine.field-0.0 _ c.from_residual-in_err-holds-in-Machine.ensures.1
    (λ m. check_unfit integers line c.args.sign (λ width r. operation_held width o left right r) whole c.in-Machine.width c.in-Machine.is
    (c.in_err-holds-in-Machine.ensures c.args.site.variables whole.next whole.result t.result m))
