use Rattle.std.proofs.Common.{◌≡◌, length}
use Rattle.base_fractions.specs.Extended.{extended}
use Rattle.flow_systems.specs.View.{equations_of}
use Rattle.cert_types.specs.declared.step.Step.{Step}
use Rattle.cert_types.specs.Certificates.{step_of}
use Rattle.solve_composition.specs.declared.value.Value.TheVariants.{Best}
use Rattle.solve_raise.specs.Raises.{choice_of, raised, raise_operations}
use Rattle.flow_systems.proofs.Faults.{of_ok, none_wide, of_fault}
use Rattle.solve_raise.proofs.raising.raise.Goals as goal

pub returns-in-Best : goal.returns-in-Best
returns-in-Best c =
    let S = equations_of c.args.system.now in
    let n = length c.args.system.now.template in
    let u = choice_of n c.args.unknown c.args.edge in
    let b = extended c.args.bound in
    let v = Best c.in-Best.value c.in-Best.trace c.in-Best.rows c.in-Best.guards in
    let h = c.raise_towards.ensures S n c.in-Best.rows c.in-Best.guards in
    rw c.in-Best.is (record {
      step = of_ok {A = Step} (λ step. step_of n step ≡ raised S u b v) (raise_operations S u b v) c.raise_towards.result h;
      fits = none_wide {A = Step} (λ step. step_of n step ≡ raised S u b v) (raise_operations S u b v) c.raise_towards.result h;
      refused = of_fault {A = Step} (λ step. step_of n step ≡ raised S u b v) (raise_operations S u b v) c.raise_towards.result h;
    })
