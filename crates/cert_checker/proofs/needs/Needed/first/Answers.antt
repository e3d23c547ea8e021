use Rattle.std.proofs.Common.{◌∙◌, ap, length}
use Rattle.flow_systems.specs.View.{equations_of}
use Rattle.cert_checker.specs.Needs.{needs_left}
use Rattle.cert_checker.proofs.needs.Left.{left_all, place}
use Rattle.cert_checker.proofs.needs.Needed.first.Goals as goal

pub returns : goal.returns
returns c = λ z.
    let S = equations_of c.args.system.now in
    ap (λ t. needs_left S z (place S z (length t) 0)) c.as_slice.ensures.rows ∙ left_all S z
