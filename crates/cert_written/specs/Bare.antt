-- A certificate without the zeros of its lists.
use Rattle.std.specs.Prelude.{map}
use Rattle.cert_written.specs.declared.entries.Entries.{Entries}
use Rattle.cert_written.specs.declared.entries.Entries.TheVariants.{Sparse}
use Rattle.cert_written.specs.declared.trace.Trace.{Trace}
use Rattle.cert_written.specs.declared.step.Item.{Item}
use Rattle.cert_written.specs.declared.step.JumpItem.{JumpItem}
use Rattle.cert_written.specs.declared.step.RayItem.{RayItem}
use Rattle.cert_written.specs.declared.step.Step.{Step}
use Rattle.cert_written.specs.declared.step.Step.TheVariants.{Plain, Jump, Ray}
use Rattle.cert_written.specs.declared.upper.Upper.{Upper}
use Rattle.cert_written.specs.declared.upper.Upper.TheVariants.{Unreached, Empty, Bound}
use Rattle.cert_written.specs.declared.cert.Cert.{Cert}
use Rattle.cert_written.specs.Entries.{without_zeros}

-- a list without its zeros
abbrev pub bare_entries : Entries → Entries
bare_entries e = Sparse (without_zeros e)

-- a trace without the zeros of its lists
abbrev pub bare_trace : Trace → Trace
bare_trace t = record { start = bare_entries t.start; free = bare_entries t.free }

-- an item of a plain step without them
abbrev pub bare_item : Item → Item
bare_item i = record { unknown = i.unknown; edge = i.edge; low = bare_trace i.low; to = i.to }

-- an item of a jump without them
abbrev pub bare_jump_item : JumpItem → JumpItem
bare_jump_item i = record { unknown = i.unknown; edge = i.edge; low = bare_trace i.low; high = bare_trace i.high; to = i.to }

-- an item of a ray without them
abbrev pub bare_ray_item : RayItem → RayItem
bare_ray_item i = record {
  unknown = i.unknown;
  edge = i.edge;
  low = bare_trace i.low;
  direction = bare_trace i.direction;
  rate = i.rate;
}

-- a step without them
abbrev pub bare_step : Step → Step
bare_step (Plain items) = Plain (map bare_item items)
bare_step (Jump items) = Jump (map bare_jump_item items)
bare_step (Ray items) = Ray (map bare_ray_item items)

-- evidence without them
abbrev pub bare_upper : Upper → Upper
bare_upper (Unreached row) = Unreached row
bare_upper (Empty rows guards) = Empty (bare_entries rows) (bare_entries guards)
bare_upper (Bound rows guards) = Bound (bare_entries rows) (bare_entries guards)

-- a certificate without them
abbrev pub bare_cert : Cert → Cert
bare_cert c = record {
  rows = map bare_entries c.rows;
  bounds = c.bounds;
  steps = map bare_step c.steps;
  uppers = map bare_upper c.uppers;
}
