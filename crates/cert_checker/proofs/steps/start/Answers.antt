use Rattle.std.proofs.Common.{◌≡◌, length, ap}
use Rattle.flow_systems.specs.View.{equations_of}
use Rattle.cert_checker.proofs.steps.start.Goals as goal

pub returns-clause-start : goal.returns-clause-start
returns-clause-start c =
    let S = equations_of c.args.system.now in
    let rows : length c.as_slice.result.now ≡ length c.args.system.now.template = ap (λ xs. length xs) c.as_slice.ensures.rows in
    record { base = c.restart.ensures.start S rows c.requires.base; next = c.restart-2.ensures.start S rows c.requires.next }
