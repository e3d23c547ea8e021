-- What is read from outcomes, by the columns of a layout.
use Rattle.std.specs.Prelude.{List, ◌++◌, length, map, Result}
use Rattle.base_numbers.specs.Rational.{ℚ}
use Rattle.base_numbers.specs.Extended.{Ext}
use Rattle.base_fractions.specs.Operation.{Operation}
use Rattle.flow_systems.specs.declared.spot.PartFault.{PartFault}
use Rattle.lp_simplex.specs.declared.outcome.Outcome.{Outcome}
use Rattle.lp_simplex.specs.declared.outcome.Outcome.TheVariants.{Best, Unbounded, Empty}
use Rattle.solve_ray.specs.declared.layout.Rise.{Rise}
use Rattle.solve_ray.specs.Answers.{PartAnswers}
use Rattle.solve_ray.specs.Ranges.{AreWithin}
use Rattle.solve_ray.specs.Reading.{named_rates, named_operations}
use Rattle.solve_joint.specs.declared.joined.Joined.{Joined}
use Rattle.solve_joint.specs.declared.joined.Joined.TheVariants.{Point, Ray}
use Rattle.solve_joint.specs.Layouts.{number_at, number_operations, trace_at, trace_operations}

-- the numbers and the traces at a point
abbrev pub point_read : List Ext → List ℚ → List Rise → Joined
point_read base point rises = Point (map (number_at base point) rises) (map (trace_at point) rises)

abbrev pub point_operations : List Ext → List ℚ → List Rise → List Operation
point_operations base point rises = number_operations base point rises ++ trace_operations point rises

-- the rates and directions of a ray
abbrev pub ray_read : List ℚ → List Rise → Joined
ray_read ray rises = Ray (record { list = named_rates ray rises })

abbrev pub ray_operations : List ℚ → List Rise → List Operation
ray_operations ray rises = named_operations ray rises

-- the outcome isn't empty, and has all columns of the layout
abbrev pub IsReadable : List Rise → Outcome ℚ → Type 0
IsReadable rises (Best point value multipliers) = AreWithin (length point.items) rises
IsReadable rises (Unbounded point ray) = AreWithin (length ray.items) rises
IsReadable rises (Empty multipliers) = ⊥

abbrev pub ReadsOutcome : List Ext → List Rise → Outcome ℚ → Result Joined PartFault → Type 0
ReadsOutcome base rises (Best point value multipliers) result = PartAnswers (point_read base point.items rises)
    (point_operations base point.items rises) result
ReadsOutcome base rises (Unbounded point ray) result = PartAnswers (ray_read ray.items rises) (ray_operations ray.items rises) result
ReadsOutcome base rises (Empty multipliers) result = Unit {0}
