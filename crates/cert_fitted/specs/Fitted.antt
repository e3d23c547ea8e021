-- The certificate for which a written one stands where it is read with a program: each list has the length that is asked for.
use Rattle.std.specs.Prelude.{ℕ, ℤ, List, [], ◌∷◌, length, map}
use Rattle.base_numbers.specs.Rational.{ℚ}
use Rattle.flow_systems.specs.Equations.{Equations}
use Rattle.flow_systems.specs.declared.trace.Trace.{Trace}
use Rattle.cert_types.specs.declared.step.Item.{Item}
use Rattle.cert_types.specs.declared.step.JumpItem.{JumpItem}
use Rattle.cert_types.specs.declared.step.RayItem.{RayItem}
use Rattle.cert_types.specs.declared.step.Step.{Step}
use Rattle.cert_types.specs.declared.step.Step.TheVariants as fitted
use Rattle.cert_types.specs.declared.upper.Upper.{Upper}
use Rattle.cert_types.specs.declared.upper.Upper.TheVariants as evidence
use Rattle.cert_types.specs.declared.cert.Cert.{Cert}
use Rattle.cert_written.specs.declared.entries.Entries.{Entries}
use Rattle.cert_written.specs.declared.trace.Trace.{Trace as WrittenTrace}
use Rattle.cert_written.specs.declared.step.Item.{Item as WrittenItem}
use Rattle.cert_written.specs.declared.step.JumpItem.{JumpItem as WrittenJumpItem}
use Rattle.cert_written.specs.declared.step.RayItem.{RayItem as WrittenRayItem}
use Rattle.cert_written.specs.declared.step.Step.{Step as WrittenStep}
use Rattle.cert_written.specs.declared.step.Step.TheVariants.{Plain, Jump, Ray}
use Rattle.cert_written.specs.declared.upper.Upper.{Upper as WrittenUpper}
use Rattle.cert_written.specs.declared.upper.Upper.TheVariants.{Unreached, Empty, Bound}
use Rattle.cert_written.specs.declared.cert.Cert.{Cert as WrittenCert}
use Rattle.cert_written.specs.Entries.{entries_for}
use Rattle.cert_fitted.specs.Needed.{frees_at, guards_needed}

-- a row of the template, over so many variables
abbrev pub row_for : ℕ → Entries → List ℤ
row_for n e = map (λ (q : ℚ). q.num) (entries_for n e)

-- all of them
abbrev pub rows_for : ℕ → List Entries → List (List ℤ)
rows_for n rows = map (row_for n) rows

-- a trace along the edge of a number: a value for each variable, and one for each free assignment
abbrev pub trace_for : Equations → ℕ → WrittenTrace → Trace
trace_for system edge t = record { start = entries_for system.variables t.start; free = entries_for (frees_at system edge) t.free }

-- an item of a plain step
abbrev pub item_for : Equations → WrittenItem → Item
item_for system i = record { unknown = i.unknown; edge = i.edge; low = trace_for system i.edge i.low; to = i.to }

-- an item of a jump
abbrev pub jump_item_for : Equations → WrittenJumpItem → JumpItem
jump_item_for system i = record {
  unknown = i.unknown;
  edge = i.edge;
  low = trace_for system i.edge i.low;
  high = trace_for system i.edge i.high;
  to = i.to;
}

-- an item of a ray
abbrev pub ray_item_for : Equations → WrittenRayItem → RayItem
ray_item_for system i = record {
  unknown = i.unknown;
  edge = i.edge;
  low = trace_for system i.edge i.low;
  direction = trace_for system i.edge i.direction;
  rate = i.rate;
}

-- a step
abbrev pub step_for : Equations → WrittenStep → Step
step_for system (Plain items) = fitted.Plain (map (item_for system) items)
step_for system (Jump items) = fitted.Jump (map (jump_item_for system) items)
step_for system (Ray items) = fitted.Ray (map (ray_item_for system) items)

-- evidence where there are so many rows and so many guards: a multiplier for each
abbrev pub upper_for : ℕ → ℕ → WrittenUpper → Upper
upper_for rows guards (Unreached row) = evidence.Unreached row
upper_for rows guards (Empty r g) = evidence.Empty (entries_for rows r) (entries_for guards g)
upper_for rows guards (Bound r g) = evidence.Bound (entries_for rows r) (entries_for guards g)

-- evidence in order, for edges of so many guards; what isn't needed has none
abbrev pub uppers_for : ℕ → List ℕ → List WrittenUpper → List Upper
uppers_for rows counts [] = []
uppers_for rows [] (u ∷ us) = upper_for rows 0 u ∷ uppers_for rows [] us
uppers_for rows (count ∷ counts) (u ∷ us) = upper_for rows count u ∷ uppers_for rows counts us

-- a certificate, where its rows are the template of a system
abbrev pub cert_for : Equations → WrittenCert → Cert
cert_for system c = record {
  rows = system.template;
  bounds = c.bounds;
  steps = map (step_for system) c.steps;
  uppers = uppers_for (length system.template) (guards_needed system c.bounds) c.uppers;
}
