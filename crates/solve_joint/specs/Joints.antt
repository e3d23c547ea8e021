-- What is read from the outcome of a joint problem, and the operations by which it is built, solved and read.
use Rattle.std.specs.Prelude.{◌≡◌, ℕ, ◌+◌, List, [], ◌++◌, length, map, Option, Some, None, Result, MatchResult, ◌⊎◌}
use Rattle.base_facts.specs.Elements.{In}
use Rattle.base_numbers.specs.Rational.{ℚ, zero_ℚ, ◌<ℚ◌}
use Rattle.base_numbers.specs.Extended.{Ext}
use Rattle.base_fractions.specs.Fits.{long_limit}
use Rattle.base_fractions.specs.Operation.{Operation, first_wide, operation_of}
use Rattle.flow_systems.specs.declared.system.System.{System}
use Rattle.flow_systems.specs.declared.spot.Part.TheVariants.{Pivot}
use Rattle.flow_systems.specs.declared.spot.PartFault.{PartFault}
use Rattle.flow_systems.specs.declared.spot.PartFault.TheVariants.{Wide, NoMemory}
use Rattle.lp_theory.specs.Problem.{Problem, Outcome, best, unbounded, empty}
use Rattle.lp_theory.specs.Simplex.{lp}
use Rattle.lp_simplex.specs.Operations.{first_refused, run_operations, capped}
use Rattle.theory_transformers.specs.Limits.{tabulate}
use Rattle.solve_ray.specs.Reading.{named_rates, named_operations}
use Rattle.flow_systems.specs.Equations.{Vector}
use Rattle.flow_systems.specs.View.{equations_of, vector_of}
use Rattle.theory_validity.specs.Certificates.{num}
use Rattle.theory_transformers.specs.Candidates.{GreatestSupported}
use Rattle.theory_transformers.specs.JointProblems.{Listed, AllSupport, AllFollow, rise_at}
use Rattle.solve_ray.specs.declared.rate.RateOf.{RateOf}
use Rattle.solve_ray.specs.Answers.{IsReadingFault}
use Rattle.solve_joint.specs.Numbers.{all_listed}
use Rattle.solve_joint.specs.Rows.{IsSideFault}
use Rattle.flow_systems.specs.declared.trace.Trace.{Trace}
use Rattle.theory_validity.specs.Words.{Word}
use Rattle.solve_joint.specs.declared.joined.Joined.{Joined}
use Rattle.solve_joint.specs.declared.joined.Joined.TheVariants.{Point, Ray}
use Rattle.solve_joint.specs.Blocks.{split_columns, side_operations}
use Rattle.solve_joint.specs.Problems.{problem_of}
use Rattle.solve_joint.specs.Layouts.{layout_of, number_at, number_operations, trace_at, trace_operations}

-- the columns of a point or a ray as a list
abbrev pub entries_of : System → List (Option ℕ) → List ℕ → (ℕ → ℚ) → List ℚ
entries_of system pick list x = tabulate (length list + split_columns system pick list) x

-- the answer has the numbers and traces of the point, or the rates and directions of the ray
abbrev pub IsReadFrom : System → List (Option ℕ) → List Ext → List ℕ → Outcome → Joined → Type 0
IsReadFrom system pick base list (best x v y) (Point to highs) =
    (to ≡ map (number_at base (entries_of system pick list x)) (layout_of system pick list))
    × (highs ≡ map (trace_at (entries_of system pick list x)) (layout_of system pick list))
IsReadFrom system pick base list (best x v y) (Ray rates) = ⊥
IsReadFrom system pick base list (unbounded x d) (Point to highs) = ⊥
IsReadFrom system pick base list (unbounded x d) (Ray rates) = rates.list
    ≡ named_rates (entries_of system pick list d) (layout_of system pick list)
IsReadFrom system pick base list (empty y) joined = ⊥

-- the operations by which it is read: the numbers of the list first, then the traces in the order of the list; of a ray the directions of
-- unknowns with a rate above 0
abbrev pub reading_operations : System → List (Option ℕ) → List Ext → List ℕ → Outcome → List Operation
reading_operations system pick base list (best x v y) =
    number_operations base (entries_of system pick list x) (layout_of system pick list)
    ++ trace_operations (entries_of system pick list x) (layout_of system pick list)
reading_operations system pick base list (unbounded x d) = named_operations (entries_of system pick list d) (layout_of system pick list)
reading_operations system pick base list (empty y) = []

-- no operation of the run on a problem is wide, or this one is the first, with the number of its pivot
abbrev pub RunFits : Problem → Type 0
RunFits P = first_refused long_limit (run_operations P) ≡ None

abbrev pub IsRunFault : Problem → PartFault → Type 0
IsRunFault P (Wide part wide) = (j : ℕ) × (part ≡ Pivot (capped j))
    × (first_refused long_limit (run_operations P) ≡ Some (record { pivot = j; operation = operation_of (λ q. q) wide }))
IsRunFault P NoMemory = Unit {0}

-- no operation by which the problem is built, solved and read is wide
abbrev pub JointFits : System → List (Option ℕ) → List Ext → List ℕ → Type 0
JointFits system pick base list =
    (first_wide long_limit (side_operations system pick base list) ≡ None) × RunFits (problem_of system pick base list)
    × (first_wide long_limit (reading_operations system pick base list (lp (problem_of system pick base list))) ≡ None)

-- the first that is wide is of the sides, of the run, or of the reading, and is named with that part; want of memory may come at any time
abbrev pub IsJointFault : System → List (Option ℕ) → List Ext → List ℕ → PartFault → Type 0
IsJointFault system pick base list fault =
    IsSideFault (side_operations system pick base list) fault
    ⊎ (((first_wide long_limit (side_operations system pick base list) ≡ None) × IsRunFault (problem_of system pick base list) fault)
    ⊎ ((first_wide long_limit (side_operations system pick base list) ≡ None) × RunFits (problem_of system pick base list)
    × IsReadingFault (reading_operations system pick base list (lp (problem_of system pick base list))) fault))

-- the answer is read from the exact outcome and no operation is wide, or the first that is wide is named
abbrev pub JointAnswers : System → List (Option ℕ) → List Ext → List ℕ → Result Joined PartFault → Type 0
JointAnswers system pick base list result =
    MatchResult result (λ joined. IsReadFrom system pick base list (lp (problem_of system pick base list)) joined
    × JointFits system pick base list)
    (λ fault. IsJointFault system pick base list fault)

-- a trace as one word: its start values and then its free values
abbrev pub word_of : Trace → Word
word_of trace = trace.start ++ trace.free

-- the numbers of a greatest vector that the picks support on the list, with traces that run there and reach them
pub record IsReached (system : System) (pick : List (Option ℕ)) (base : List Ext) (list : List ℕ) (to : List ℚ) (highs : List Trace) :
    Type 0 where
  pub reached : Vector
  pub greatest : GreatestSupported (equations_of system) (vector_of (length system.template) base) (all_listed system pick list) reached
  pub numbers : to ≡ map (λ u. num (reached u.point u.row)) (all_listed system pick list)
  pub supports : AllSupport (equations_of system) reached (all_listed system pick list) (map word_of highs)

-- there is no greatest one; the rates are those of a ray along which each unknown's trace follows its rate, and some unknown's rate is
-- above 0
pub record HasRates (system : System) (pick : List (Option ℕ)) (base : List Ext) (list : List ℕ) (rates : List RateOf) : Type 0 where
  pub none : (reached : Vector) → GreatestSupported (equations_of system) (vector_of (length system.template) base)
      (all_listed system pick list) reached → ⊥
  pub ray : ℕ → ℚ
  pub named : rates ≡ named_rates (entries_of system pick list ray) (layout_of system pick list)
  pub follow : AllFollow (equations_of system) (vector_of (length system.template) base) (all_listed system pick list) ray
      (all_listed system pick list) (map word_of (map (trace_at (entries_of system pick list ray)) (layout_of system pick list)))
  pub some : (u : Listed) × In (all_listed system pick list) u × (zero_ℚ <ℚ rise_at (all_listed system pick list) ray u.point u.row)

-- what the answer says
abbrev pub JoinedMeans : System → List (Option ℕ) → List Ext → List ℕ → Joined → Type 0
JoinedMeans system pick base list (Point to highs) = IsReached system pick base list to highs
JoinedMeans system pick base list (Ray rates) = HasRates system pick base list rates.list
