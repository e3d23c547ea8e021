-- What is so of a place where no actions come before the guards: a point.
use Rattle.std.specs.Prelude.{◌≡◌, ℕ, List, [], length, None, IsTrue}
use Rattle.std.specs.List.{list_all}
use Rattle.base_fractions.specs.Fits.{long_limit}
use Rattle.base_fractions.specs.Operation.{first_wide}
use Rattle.lang_tree.specs.declared.form.Form.{Form}
use Rattle.lang_tree.specs.Limits.{is_form}
use Rattle.flow_systems.specs.Equations.{Equations, Vector}
use Rattle.flow_systems.specs.declared.trace.Trace.{Trace}
use Rattle.theory_validity.specs.Words.{end_of}
use Rattle.solve_composition.specs.Behind.{placed_actions}
use Rattle.solve_composition.specs.Value.{word_of}
use Rattle.solve_transformer.specs.Places.{placed_edge, place_reading, sides_of}
use Rattle.solve_transformer.specs.Values.{problem_reading}

-- no side is wide, the first wide operation of reading is one of the trace, and the trace ends where it begins
pub record IsPlain (system : Equations) (z : Vector) (p : ℕ) (guards : List Form) : Type 0 where
  pub sides : first_wide long_limit (sides_of system (placed_edge p [] guards)) ≡ None
  pub reading : first_wide long_limit (place_reading system z (placed_edge p [] guards))
      ≡ first_wide long_limit (problem_reading system z (placed_edge p [] guards) [])
  pub state : (trace : Trace) → length trace.start ≡ system.variables
      → end_of system.variables (placed_actions [] guards) (word_of trace) ≡ trace.start

-- so it is at each point
abbrev pub PointsArePlain : Type 0
PointsArePlain = (system : Equations) (z : Vector) (p : ℕ) (guards : List Form) → IsTrue (list_all (is_form system.variables) guards)
    → IsPlain system z p guards
