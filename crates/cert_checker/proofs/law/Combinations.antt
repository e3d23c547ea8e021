-- The sums of rows and then guards are the combination's entry and the side.
use Rattle.std.proofs.Common.{◌≡◌, ℕ, ◌<◌, List, length, get_or, Some, None, Result, subst}
use Rattle.std.specs.Prelude.{IsTrue, slice_get}
use Rattle.base_numbers.specs.Rational.{ℚ, zero_ℚ}
use Rattle.base_fractions.specs.Fits.{long_limit}
use Rattle.base_fractions.specs.declared.wide.Wide.{Wide}
use Rattle.base_fractions.specs.Operation.{Operation, first_wide}
use Rattle.flow_edges.specs.declared.edge.Edge.{Edge}
use Rattle.flow_systems.specs.Equations.{Equations, Vector}
use Rattle.flow_systems.specs.SystemLimits.{is_over}
use Rattle.flow_systems.specs.Sums.{SumAnswers}
use Rattle.flow_systems.proofs.Widths.{first_wide_sooner, after}
use Rattle.theory_validity.specs.Certificates.{combination, side}
use Rattle.theory_validity.specs.Words.{width}
use Rattle.solve_composition.specs.Composed.{EdgeForms, edge_forms, AreComposed}
use Rattle.solve_composition.specs.Sums.{dense_column}
use Rattle.cert_checker.specs.Combined.{negated_constants}
use Rattle.cert_checker.specs.EvidenceEvents.{total, products, row_column, guard_column, row_numbers, guard_numbers, column_operations}
use Rattle.cert_checker.specs.EvidenceEvents.{side_operations}
use Rattle.cert_checker.proofs.combination.Forms.{forms_at, column_is, constants_are}
use Rattle.cert_checker.proofs.law.Totals.{column_total, side_total}

module _ (system : Equations) (e : Edge) (rows guards : List ℚ) where
  -- ---- a column
  -- a column whose rows' part is wide is wide there
  pub column_refused : (j : ℕ) (o : Operation) → first_wide long_limit (products zero_ℚ rows (row_column system j)) ≡ Some o
      → first_wide long_limit (column_operations system e rows guards j) ≡ Some o
  column_refused j o h = first_wide_sooner long_limit (products zero_ℚ rows (row_column system j))
      (products (total zero_ℚ rows (row_column system j)) guards (guard_column system e j)) o h

  -- ---- the side
  -- a side whose rows' part is wide is wide there
  pub side_refused : (z : Vector) (o : Operation) → first_wide long_limit (products zero_ℚ rows (row_numbers system z e)) ≡ Some o
      → first_wide long_limit (side_operations system z e rows guards) ≡ Some o
  side_refused z o h = first_wide_sooner long_limit (products zero_ℚ rows (row_numbers system z e))
      (products (total zero_ℚ rows (row_numbers system z e)) guards (guard_numbers system e)) o h

  module _ (paths : List EdgeForms) (composed : AreComposed system paths) (k : ℕ) (found : slice_get system.edges k ≡ Some e)
      (size : length rows ≡ length system.template) where
    -- the guards' part, after a first part that isn't wide
    pub column_answers : IsTrue (is_over system.variables system.template) → (j : ℕ) → j < width system.variables e.actions →
        (sum : ℚ) → sum ≡ total zero_ℚ rows (row_column system j) → first_wide long_limit (products zero_ℚ rows (row_column system j))
        ≡ None →
        (res : Result ℚ (Wide ℚ)) → ((forms : EdgeForms) → slice_get paths k ≡ Some forms
        → SumAnswers (total sum guards (dense_column j forms.guards)) (products sum guards (dense_column j forms.guards)) res) →
        SumAnswers (get_or (combination system e rows guards) j zero_ℚ) (column_operations system e rows guards j) res
    column_answers over j l sum is none res answer =
        let at = forms_at system paths composed k e found in
        let forms = edge_forms system.variables system.template e.actions in
        let a = subst (λ ys. SumAnswers (total sum guards ys) (products sum guards ys) res)
        (column_is system paths composed k e found forms at j l) (answer forms at) in
        let b = subst (λ s. SumAnswers (total s guards (guard_column system e j)) (products s guards (guard_column system e j)) res) is a in
        subst (λ v. SumAnswers v (column_operations system e rows guards j) res) (column_total system e rows guards j over)
        (after (total (total zero_ℚ rows (row_column system j)) guards (guard_column system e j))
        (products zero_ℚ rows (row_column system j)) (products (total zero_ℚ rows (row_column system j)) guards
        (guard_column system e j)) res none b)

    -- the guards' part of the side, after a first part that isn't wide, gives the side
    pub side_answers : (z : Vector) (sum : ℚ) → sum ≡ total zero_ℚ rows (row_numbers system z e)
        → first_wide long_limit (products zero_ℚ rows (row_numbers system z e)) ≡ None →
        (res : Result ℚ (Wide ℚ)) → ((forms : EdgeForms) → slice_get paths k ≡ Some forms
        → SumAnswers (total sum guards (negated_constants forms.guards)) (products sum guards (negated_constants forms.guards)) res) →
        SumAnswers (side system z e rows guards) (side_operations system z e rows guards) res
    side_answers z sum is none res answer =
        let at = forms_at system paths composed k e found in
        let forms = edge_forms system.variables system.template e.actions in
        let a = subst (λ ys. SumAnswers (total sum guards ys) (products sum guards ys) res)
        (constants_are system paths composed k e found forms at) (answer forms at) in
        let b = subst (λ s. SumAnswers (total s guards (guard_numbers system e)) (products s guards (guard_numbers system e)) res) is a in
        subst (λ v. SumAnswers v (side_operations system z e rows guards) res) (side_total system z e rows guards size)
        (after (total (total zero_ℚ rows (row_numbers system z e)) guards (guard_numbers system e))
        (products zero_ℚ rows (row_numbers system z e)) (products (total zero_ℚ rows (row_numbers system z e)) guards
        (guard_numbers system e)) res none b)
