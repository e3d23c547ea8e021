use Rattle.std.proofs.Common.{◌≡◌, length, refl, sym, subst}
use Rattle.flow_systems.specs.View.{equations_of}
use Rattle.cert_types.specs.Certificates.{step_of}
use Rattle.cert_checker.specs.Stands.{Stands}
use Rattle.cert_checker.proofs.events.CheckTests.{unstopped_passes}
use Rattle.cert_checker.proofs.steps.step_passes.Goals as goal

pub returns-in-Ok : goal.returns-in-Ok
returns-in-Ok c = λ z h.
    let S = equations_of c.args.system.now in
    let at = λ (bs : _). λ (e : bs ≡ c.args.bounds.now). subst (λ l. Stands S l z) (sym e) h in
    let none = (c.in-Ok.ensures.taken z (at _ c.in_ok-base.ensures) (at _ c.in_ok-next.ensures)).2 in
    ((λ t. (unstopped_passes S z (step_of (length c.args.system.now.template) c.args.step.now)).0 none), (λ p. refl))

pub returns : goal.returns
returns c = λ z h.
    let S = equations_of c.args.system.now in
    let at = λ (bs : _). λ (e : bs ≡ c.args.bounds.now). subst (λ l. Stands S l z) (sym e) h in
    let stopped = c.in-Err.ensures.taken z (at _ c.in_ok-base.ensures) (at _ c.in_ok-next.ensures) in (
      (λ t. cc),
      (λ p.
          let none = (unstopped_passes S z (step_of (length c.args.system.now.template) c.args.step.now)).1 p in
          cc),
    )
