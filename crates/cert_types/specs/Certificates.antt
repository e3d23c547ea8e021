-- The certificates of the theory that the types of the code stand for, under a template of a number of rows.
use Rattle.std.specs.Prelude.{ℕ, ◌/◌, ◌%◌, [], map}
use Rattle.flow_systems.specs.declared.trace.Trace.{Trace}
use Rattle.cert_types.specs.declared.step.Item.{Item}
use Rattle.cert_types.specs.declared.step.JumpItem.{JumpItem}
use Rattle.cert_types.specs.declared.step.RayItem.{RayItem}
use Rattle.cert_types.specs.declared.step.Step.{Step}
use Rattle.cert_types.specs.declared.step.Step.TheVariants.{Plain, Jump, Ray}
use Rattle.cert_types.specs.declared.upper.Upper.{Upper}
use Rattle.cert_types.specs.declared.upper.Upper.TheVariants.{Unreached, Empty, Bound}
use Rattle.cert_types.specs.declared.cert.Cert.{Cert}
use Rattle.theory_validity.specs.Steps.{Pieces, Item as TheoryItem, Kind, Step as TheoryStep}
use Rattle.theory_validity.specs.Certificates.{Evidence, Certificate}

-- the start values and the free values of a trace
abbrev pub pieces_of : Trace → Pieces
pieces_of t = record { start = t.start; free = t.free }

-- no values at all
abbrev pub no_pieces : Pieces
no_pieces = record { start = []; free = [] }

-- an item of a plain step; the unknown u is point u / rows and row u % rows
abbrev pub plain_item : ℕ → Item → TheoryItem
plain_item rows i = record {
  point = i.unknown / rows;
  row = i.unknown % rows;
  edge = i.edge;
  low = pieces_of i.low;
  second =
      no_pieces;
  number = i.to;
}

-- an item of a jump
abbrev pub jump_item : ℕ → JumpItem → TheoryItem
jump_item rows i = record {
  point = i.unknown / rows;
  row = i.unknown % rows;
  edge = i.edge;
  low = pieces_of i.low;
  second =
      pieces_of i.high;
  number = i.to;
}

-- an item of a ray
abbrev pub ray_item : ℕ → RayItem → TheoryItem
ray_item rows i = record {
  point = i.unknown / rows;
  row = i.unknown % rows;
  edge = i.edge;
  low = pieces_of i.low;
  second = pieces_of i.direction;
  number =
      i.rate;
}

-- a step
abbrev pub step_of : ℕ → Step → TheoryStep
step_of rows (Plain items) = record { kind = Kind.Plain; items = map (plain_item rows) items }
step_of rows (Jump items) = record { kind = Kind.Jump; items = map (jump_item rows) items }
step_of rows (Ray items) = record { kind = Kind.Ray; items = map (ray_item rows) items }

-- evidence of an upper bound
abbrev pub evidence_of : Upper → Evidence
evidence_of (Unreached row) = Evidence.Unreached row
evidence_of (Empty rows guards) = Evidence.Empty rows guards
evidence_of (Bound rows guards) = Evidence.Bound rows guards

-- the certificate that a value of the code stands for, where the template has this number of rows
abbrev pub certificate_of : ℕ → Cert → Certificate
certificate_of rows c = record { bounds = c.bounds; steps = map (step_of rows) c.steps; uppers = map evidence_of c.uppers }
