-- Which vectors have a bound for each unknown of a system, and for which vector they stand between two steps.
use Rattle.std.specs.Prelude.{◌≡◌, ◌*◌, length}
use Rattle.flow_systems.specs.Equations.{Equations, Vector}
use Rattle.cert_checker.specs.Stands.{Stands}
use Rattle.cert_checker.specs.declared.scratch.Scratch.{Scratch}

-- each of the three vectors has one
pub record HasRoom (system : Equations) (scratch : Scratch) : Type 0 where
  pub base : length scratch.base ≡ system.points * length system.template
  pub next : length scratch.next ≡ system.points * length system.template
  pub rates : length scratch.rates ≡ system.points * length system.template

-- a step finds this vector, and it leads to it as well until the step is taken
pub record IsAt (system : Equations) (scratch : Scratch) (z : Vector) : Type 0 where
  pub base : Stands system scratch.base z
  pub next : Stands system scratch.next z
