-- A certificate as one that is written, with all entries of its lists.
use Rattle.std.specs.Prelude.{ℤ, List, map}
use Rattle.base_numbers.specs.Rational.{whole}
use Rattle.flow_systems.specs.declared.trace.Trace.{Trace}
use Rattle.cert_types.specs.declared.step.Item.{Item}
use Rattle.cert_types.specs.declared.step.JumpItem.{JumpItem}
use Rattle.cert_types.specs.declared.step.RayItem.{RayItem}
use Rattle.cert_types.specs.declared.step.Step.{Step}
use Rattle.cert_types.specs.declared.step.Step.TheVariants.{Plain, Jump, Ray}
use Rattle.cert_types.specs.declared.upper.Upper.{Upper}
use Rattle.cert_types.specs.declared.upper.Upper.TheVariants.{Unreached, Empty, Bound}
use Rattle.cert_types.specs.declared.cert.Cert.{Cert}
use Rattle.cert_written.specs.declared.entries.Entries.{Entries}
use Rattle.cert_written.specs.declared.entries.Entries.TheVariants as entries
use Rattle.cert_written.specs.declared.trace.Trace.{Trace as WrittenTrace}
use Rattle.cert_written.specs.declared.step.Item.{Item as WrittenItem}
use Rattle.cert_written.specs.declared.step.JumpItem.{JumpItem as WrittenJumpItem}
use Rattle.cert_written.specs.declared.step.RayItem.{RayItem as WrittenRayItem}
use Rattle.cert_written.specs.declared.step.Step.{Step as WrittenStep}
use Rattle.cert_written.specs.declared.step.Step.TheVariants as written
use Rattle.cert_written.specs.declared.upper.Upper.{Upper as WrittenUpper}
use Rattle.cert_written.specs.declared.upper.Upper.TheVariants as evidence
use Rattle.cert_written.specs.declared.cert.Cert.{Cert as WrittenCert}

-- a row of the template
abbrev pub dense_row : List ℤ → Entries
dense_row row = entries.Dense (map whole row)

-- a trace
abbrev pub dense_trace : Trace → WrittenTrace
dense_trace t = record { start = entries.Dense t.start; free = entries.Dense t.free }

-- an item of a plain step
abbrev pub dense_item : Item → WrittenItem
dense_item i = record { unknown = i.unknown; edge = i.edge; low = dense_trace i.low; to = i.to }

-- an item of a jump
abbrev pub dense_jump_item : JumpItem → WrittenJumpItem
dense_jump_item i = record { unknown = i.unknown; edge = i.edge; low = dense_trace i.low; high = dense_trace i.high; to = i.to }

-- an item of a ray
abbrev pub dense_ray_item : RayItem → WrittenRayItem
dense_ray_item i = record {
  unknown = i.unknown;
  edge = i.edge;
  low = dense_trace i.low;
  direction = dense_trace i.direction;
  rate = i.rate;
}

-- a step
abbrev pub dense_step : Step → WrittenStep
dense_step (Plain items) = written.Plain (map dense_item items)
dense_step (Jump items) = written.Jump (map dense_jump_item items)
dense_step (Ray items) = written.Ray (map dense_ray_item items)

-- evidence
abbrev pub dense_upper : Upper → WrittenUpper
dense_upper (Unreached row) = evidence.Unreached row
dense_upper (Empty rows guards) = evidence.Empty (entries.Dense rows) (entries.Dense guards)
dense_upper (Bound rows guards) = evidence.Bound (entries.Dense rows) (entries.Dense guards)

-- a certificate
abbrev pub dense_cert : Cert → WrittenCert
dense_cert c = record {
  rows = map dense_row c.rows;
  bounds = c.bounds;
  steps = map dense_step c.steps;
  uppers = map dense_upper c.uppers;
}
