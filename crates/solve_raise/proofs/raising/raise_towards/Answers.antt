use Rattle.std.proofs.lemmas.Result.{err_from_is_err_and}
use Rattle.base_fractions.specs.Extended.{extended}
use Rattle.flow_systems.specs.declared.fault.Fault.TheVariants.{Wide}
use Rattle.solve_raise.proofs.lows.Raised.{towards_wide, towards}
use Rattle.solve_raise.proofs.raising.raise_towards.Goals as goal

pub returns-in_err-to : goal.returns-in_err-to
returns-in_err-to c = λ system n rows guards.
    let p = err_from_is_err_and c.from_residual.result c.from_residual.ensures.1 in
    rw (p.1, p.2) (towards_wide system n c.args.unknown c.args.edge (extended c.args.bound) c.args.value c.args.trace rows guards
    (Wide c.in_err-to.field-0.0) c.in_err-to.ensures)

pub returns : goal.returns
returns c = λ system n rows guards.
    towards system n c.args.unknown c.args.edge (extended c.args.bound) c.args.value c.in_ok-to.to c.args.trace rows guards c.plain.result
    c.in_ok-to.ensures.0 c.in_ok-to.ensures.1 c.plain.ensures
