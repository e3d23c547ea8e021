use Rattle.std.proofs.Common.{◌∙◌, length, ap, arith}
use Rattle.flow_systems.proofs.Sizes.{flow_sizes}
use Rattle.cert_checker.proofs.first_pass.Comparisons.{start_size}
use Rattle.cert_checker.proofs.scratch.Scratch.new.Goals as goal

pub returns : goal.returns
returns c =
    let size = start_size (length c.args.system.now.flow.points) (length c.args.system.now.template)
    (let two = (flow_sizes c.args.system.now.flow).two_points in omega (arith, two)) in
    record {
      base = ap (λ b. length b) c.in_ok-base.ensures.list ∙ size;
      next = ap (λ b. length b) c.in_ok-next.ensures.list ∙ size;
      rates = ap (λ b. length b) c.in_ok-rates.ensures.list ∙ size;
    }
