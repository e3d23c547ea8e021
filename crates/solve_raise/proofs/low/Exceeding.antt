-- The trace that exceeds a bound, given that its value was carried along the edge.
use Rattle.std.proofs.Common.{◌≡◌, ◌∙◌, Bool, true, false, List, [], ◌++◌, None, Result, ap, sym, subst}
use Rattle.std.specs.Prelude.{ℤ, if◌then◌else◌}
use Rattle.base_numbers.specs.Rational.{ℚ, lt_ℚ}
use Rattle.base_numbers.specs.Extended.{fin}
use Rattle.flow_edges.specs.declared.edge.Edge.{Edge}
use Rattle.base_fractions.specs.Fits.{long_limit}
use Rattle.base_fractions.specs.Operation.{Operation, first_wide}
use Rattle.flow_systems.specs.Equations.{Equations}
use Rattle.flow_systems.specs.declared.trace.Trace.{Trace}
use Rattle.flow_systems.proofs.Widths.{first_wide_later}
use Rattle.flow_systems.specs.Faults.{OperationFault, IsFaultOf, AnswersBy}
use Rattle.theory_validity.specs.Steps.{Pieces}
use Rattle.cert_types.specs.Certificates.{pieces_of}
use Rattle.flow_systems.specs.declared.sums.Constants.TheVariants.{Kept, Zero}
use Rattle.solve_raise.specs.Moves.{carried, carried_operations}
use Rattle.solve_raise.specs.Numbers.{multiple_operations, moved_pieces, moved_operations}
use Rattle.solve_raise.specs.Lows.{low_of, low_operations, move_operations, multiple_along}
use Rattle.flow_systems.proofs.Faults.{sooner, later, answers_later}

module _ (system : Equations) (edge : Edge) (row : List ℤ) (b : ℚ) (trace direction : Trace) where
  abbrev value : ℚ
  value = carried Kept system edge row trace

  abbrev firsts : List Operation
  firsts = carried_operations Kept edge row trace

  abbrev rest : Bool → List Operation
  rest t = if t then [] else move_operations system edge row b trace direction

  -- the value is wide
  pub value_wide : (f : OperationFault) → IsFaultOf firsts f → IsFaultOf (low_operations system edge row (fin b) trace direction) f
  unfolding low_operations
  value_wide f h = sooner firsts (rest (lt_ℚ b value)) f h

  module _ (n : first_wide long_limit firsts ≡ None) where
    -- it exceeds the bound
    pub kept : lt_ℚ b value ≡ true → (pieces_of trace ≡ low_of system edge row (fin b) trace direction)
        × (first_wide long_limit (low_operations system edge row (fin b) trace direction) ≡ None)
    unfolding low_of low_operations
    kept e = (
      sym (ap (λ t. if t then pieces_of trace else moved_pieces (multiple_along system edge row b trace direction) trace direction) e),
      first_wide_later long_limit firsts (rest (lt_ℚ b value)) n ∙ ap (λ t. first_wide long_limit (rest t)) e,
    )

    module _ (e : lt_ℚ b value ≡ false) where
      operations_are : low_operations system edge row (fin b) trace direction ≡ firsts ++ move_operations system edge row b trace direction
      unfolding low_operations
      operations_are = ap (λ t. firsts ++ rest t) e

      low_is : low_of system edge row (fin b) trace direction ≡ moved_pieces (multiple_along system edge row b trace direction) trace
          direction
      unfolding low_of
      low_is = ap (λ t. if t then pieces_of trace else moved_pieces (multiple_along system edge row b trace direction) trace direction) e

      -- it doesn't, and the multiple is wide
      pub multiple_wide : (f : OperationFault) → IsFaultOf (multiple_operations b value (carried Zero system edge row direction)) f
          → IsFaultOf (low_operations system edge row (fin b) trace direction) f
      multiple_wide f h =
          subst (λ os. IsFaultOf os f) (sym operations_are)
          (later firsts (move_operations system edge row b trace direction) f n
          (sooner (multiple_operations b value (carried Zero system edge row direction))
          (moved_operations (multiple_along system edge row b trace direction) trace direction) f h))

      -- it doesn't, and the trace is moved
      pub low_answers : (res : Result Trace OperationFault) → first_wide long_limit
          (multiple_operations b value (carried Zero system edge row direction)) ≡ None →
          AnswersBy {A = Trace} (λ low. pieces_of low ≡ moved_pieces (multiple_along system edge row b trace direction) trace direction)
          (moved_operations (multiple_along system edge row b trace direction) trace direction) res →
          AnswersBy {A = Trace} (λ low. pieces_of low ≡ low_of system edge row (fin b) trace direction)
          (low_operations system edge row (fin b) trace direction) res
      low_answers res m a =
          subst (λ os. AnswersBy {A = Trace} (λ low. pieces_of low ≡ low_of system edge row (fin b) trace direction) os res)
          (sym operations_are)
          (subst (λ (p : Pieces). AnswersBy {A = Trace} (λ low. pieces_of low ≡ p)
          (firsts ++ move_operations system edge row b trace direction) res) (sym low_is)
          (answers_later {A = Trace} (λ low. pieces_of low ≡ moved_pieces (multiple_along system edge row b trace direction) trace
          direction) firsts (move_operations system edge row b trace direction) res n
          (answers_later {A = Trace} (λ low. pieces_of low ≡ moved_pieces (multiple_along system edge row b trace direction) trace
          direction) (multiple_operations b value (carried Zero system edge row direction))
          (moved_operations (multiple_along system edge row b trace direction) trace direction) res m a)))
