-- A best value that is a number shows that the number is reached.
use Rattle.std.proofs.Common.{◌≡◌, ◌∙◌, ℕ, ◌%◌, List, length, get_or, subst}
use Rattle.std.specs.Prelude.{Option, Some, None, IfSome}
use Rattle.base_numbers.specs.Rational.{ℚ}
use Rattle.base_numbers.specs.Extended.{Ext as Extended, fin}
use Rattle.flow_systems.specs.View.{equations_of}
use Rattle.flow_systems.specs.declared.system.System.{System}
use Rattle.flow_systems.specs.declared.trace.Trace.{Trace}
use Rattle.theory_validity.specs.Steps.{Runs, Sized, end_value}
use Rattle.cert_types.specs.Certificates.{pieces_of}
use Rattle.solve_composition.specs.Value.{number_of, word_of}
use Rattle.solve_composition.specs.declared.value.Value.{Value}
use Rattle.solve_composition.specs.declared.value.Value.TheVariants.{Unreached, Empty, Best, Unbounded}
use Rattle.solve_raise.specs.Raises.{choice_of}
use Rattle.solve_offers.specs.AtBounds.{vector_at, edge_at, row_at}
use Rattle.solve_rounds.specs.Growing.{IsValueAt}
use Rattle.solve_rounds.specs.Guessed.{HasTrace, IsReached}
use Rattle.solve_rounds.proofs.growing.Tested.{value_sizes}

-- one extended number is one number
one_number : (a b : ℚ) → fin a ≡ fin b → a ≡ b
one_number a b h = cc

-- one optional number is one number
pub same_number : (a b : ℕ) → Some a ≡ Some b → a ≡ b
same_number a b h = cc

module _ (system : System) (pick : List (Option ℕ)) (bounds : List Extended) (unknown edge : ℕ)
    (picks : get_or pick unknown None ≡ Some edge) (number : ℚ) where
  -- the trace of a best value that is the number reaches it
  by_value : (value : Value) → IsValueAt system bounds edge (unknown % length system.template) value → number_of value ≡ fin number
      → (trace : Trace) → HasTrace trace value → IsReached system pick bounds unknown number trace
  by_value (Unreached r) h e trace b = absurd b
  by_value (Empty rows guards) h e trace b = absurd b
  by_value (Best value best rows guards) h e trace b = record {
    edge = edge;
    picks = picks;
    size = subst (λ t. Sized (equations_of system) (choice_of (length system.template) unknown edge) (pieces_of t)) b
        (value_sizes system bounds edge unknown (Best value best rows guards) h);
    runs = subst (λ t. Runs (equations_of system) (vector_at system bounds) (edge_at system edge) (word_of t)) b h.evidence.runs;
    reaches = subst (λ t. end_value (equations_of system) (edge_at system edge) (row_at system (unknown % length system.template))
        (word_of t) ≡ number) b (h.evidence.reaches ∙ one_number value number e);
    best = h.supremum ∙ e;
  }
  by_value (Unbounded low direction) h e trace b = absurd b

  -- so does what is found by it
  pub reached_by : (value : Value) → IsValueAt system bounds edge (unknown % length system.template) value → number_of value ≡ fin number
      → (found : Option Trace) → IfSome found (λ trace. HasTrace trace value) → IfSome found (IsReached system pick bounds unknown number)
  reached_by value h e None b = tt
  reached_by value h e (Some trace) b = by_value value h e trace b
