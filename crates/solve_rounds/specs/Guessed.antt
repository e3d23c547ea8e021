-- A guess of where the joint problem of a list ends, and what is checked of it.
use Rattle.std.specs.Prelude.{◌≡◌, ◌⊎◌, ℕ, ◌%◌, ◌<◌, List, length, get_or, map, Option, Some, None}
use Rattle.base_facts.specs.Elements.{In}
use Rattle.base_numbers.specs.Rational.{ℚ, zero_ℚ}
use Rattle.base_numbers.specs.Extended.{Ext as Extended, neg_inf, fin, ◌<ᴱ◌}
use Rattle.flow_systems.specs.View.{equations_of}
use Rattle.flow_systems.specs.declared.system.System.{System}
use Rattle.flow_systems.specs.declared.trace.Trace.{Trace}
use Rattle.theory_validity.specs.Steps.{Runs, Sized, ValidStep, end_value}
use Rattle.cert_types.specs.declared.step.Step.{Step as CodeStep}
use Rattle.cert_types.specs.declared.step.Step.TheVariants.{Ray as RayStep}
use Rattle.cert_types.specs.Certificates.{pieces_of, step_of}
use Rattle.lp_theory.specs.Simplex.{lp}
use Rattle.solve_composition.specs.Value.{word_of}
use Rattle.solve_composition.specs.declared.value.Value.{Value}
use Rattle.solve_composition.specs.declared.value.Value.TheVariants.{Unreached, Empty, Best, Unbounded}
use Rattle.solve_raise.specs.Raises.{choice_of}
use Rattle.solve_ray.specs.declared.rate.RateOf.{RateOf}
use Rattle.solve_joint.specs.Joints.{IsReadFrom}
use Rattle.solve_joint.specs.Problems.{problem_of}
use Rattle.solve_joint.specs.declared.joined.Joined.{Joined}
use Rattle.solve_joint.specs.declared.joined.Joined.TheVariants.{Point, Ray}
use Rattle.solve_offers.specs.AtBounds.{vector_at, transformers, edge_at, row_at}
use Rattle.solve_rounds.specs.Lows.{no_trace}
use Rattle.solve_rounds.specs.Putting.{puts}
use Rattle.solve_rounds.specs.Turning.{ray_item_of}

-- a value is reached by this trace
abbrev pub HasTrace : Trace → Value → Type 0
HasTrace trace (Unreached r) = ⊥
HasTrace trace (Empty rows guards) = ⊥
HasTrace trace (Best value best rows guards) = best ≡ trace
HasTrace trace (Unbounded low direction) = ⊥

-- at bounds, a number is the transformer of an unknown's picked edge, and a trace along that edge reaches it
pub record IsReached (system : System) (pick : List (Option ℕ)) (bounds : List Extended) (unknown : ℕ) (number : ℚ) (trace : Trace) :
    Type 0 where
  pub edge : ℕ
  pub picks : get_or pick unknown None ≡ Some edge
  pub size : Sized (equations_of system) (choice_of (length system.template) unknown edge) (pieces_of trace)
  pub runs : Runs (equations_of system) (vector_at system bounds) (edge_at system edge) (word_of trace)
  pub reaches : end_value (equations_of system) (edge_at system edge) (row_at system (unknown % length system.template)) (word_of trace)
      ≡ number
  pub best : transformers system (vector_at system bounds) (edge_at system edge) (row_at system (unknown % length system.template))
      ≡ fin number

-- the first n numbers of a list's unknowns are reached at bounds by the traces beside them
abbrev pub AreReached : System → List (Option ℕ) → List Extended → List ℕ → List ℚ → List Trace → ℕ → Type 0
AreReached system pick bounds list to highs n =
    (k : ℕ) → k < n → IsReached system pick bounds (get_or list k 0) (get_or to k zero_ℚ) (get_or highs k no_trace)

-- each number exceeds the bound of its unknown
abbrev pub AllExceed : List Extended → List ℕ → List ℚ → Type 0
AllExceed bounds list to = (k : ℕ) → k < length list → get_or bounds (get_or list k 0) neg_inf <ᴱ fin (get_or to k zero_ℚ)

-- bounds with the numbers of a list's unknowns in place
abbrev pub bounds_with : List ℕ → List ℚ → List Extended → List Extended
bounds_with list to bounds = puts (λ k. fin (get_or to k zero_ℚ)) list bounds (length list)

-- a point of a list: each number exceeds its unknown's bound, and is reached where all are in place
pub record IsReachedPoint (system : System) (pick : List (Option ℕ)) (bounds : List Extended) (list : List ℕ) (to : List ℚ)
    (highs : List Trace) : Type 0 where
  pub numbers : length to ≡ length list
  pub traces : length highs ≡ length list
  pub exceed : AllExceed bounds list to
  pub reached : AreReached system pick (bounds_with list to bounds) list to highs (length list)

-- an outcome is such a point
abbrev pub IsPointReached : System → List (Option ℕ) → List Extended → List ℕ → Joined → Type 0
IsPointReached system pick bounds list (Point to highs) = IsReachedPoint system pick bounds list to highs
IsPointReached system pick bounds list (Ray rates) = ⊥

-- a ray of a list: rates of some of its unknowns, of at least one, whose step is valid at the bounds
pub record IsValidRay (system : System) (raises : List CodeStep) (places : List ℕ) (bounds : List Extended) (list : List ℕ)
    (rates : List RateOf) : Type 0 where
  pub listed : (rate : RateOf) → In rates rate → In list rate.unknown
  pub some : 0 < length rates
  pub valid : ValidStep (equations_of system) (vector_at system bounds)
      (step_of (length system.template) (RayStep (map (ray_item_of raises places) rates)))

-- an outcome is such a ray
abbrev pub IsRayValid : System → List CodeStep → List ℕ → List Extended → List ℕ → Joined → Type 0
IsRayValid system raises places bounds list (Point to highs) = ⊥
IsRayValid system raises places bounds list (Ray rates) = IsValidRay system raises places bounds list rates.list

-- an outcome is read from that of the exact joint problem, or is a point that is reached, or a ray that is valid
abbrev pub IsFound : System → List (Option ℕ) → List CodeStep → List ℕ → List Extended → List ℕ → Joined → Type 0
IsFound system pick raises places bounds list joined =
    IsReadFrom system pick bounds list (lp (problem_of system pick bounds list)) joined
    ⊎ (IsPointReached system pick bounds list joined ⊎ IsRayValid system raises places bounds list joined)
