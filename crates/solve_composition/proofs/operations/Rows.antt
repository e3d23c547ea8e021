-- Rows and forms over a state of forms with all their columns.
use Rattle.std.proofs.Common.{◌≡◌, ◌∙◌, ℕ, ◌+◌, ◌<◌, ◌≤◌, ℤ, List, [], ◌∷◌, ◌++◌, get_or, map, append_assoc, Some, None, Result, Ok, Err}
use Rattle.std.proofs.Common.{MatchResult, ap, ap₂, sym, subst, arith}
use Rattle.std.specs.Prelude.{flat_map}
use Rattle.std.specs.List.{range_with_len}
use Rattle.std.proofs.lemmas.List.FromFn.{length-range_with_len, get_or-range_with_len}
use Rattle.base_numbers.specs.Rational.{ℚ, whole, ◌+ℚ◌}
use Rattle.lang_tree.specs.declared.form.Form.{Form as ProgramForm}
use Rattle.base_fractions.specs.Fits.{Fits, long_limit}
use Rattle.base_fractions.specs.declared.wide.Op.TheVariants.{Add}
use Rattle.base_fractions.specs.declared.wide.Wide.{Wide}
use Rattle.base_fractions.specs.Operation.{Operation, first_wide, operation_of}
use Rattle.flow_systems.specs.States.{dotℚ}
use Rattle.flow_systems.specs.Sums.{row_operations, SumAnswers}
use Rattle.flow_systems.proofs.Faults.{sooner, later}
use Rattle.flow_systems.proofs.Widths.{first_wide_later, first_wide_sooner, one_answer}
use Rattle.theory_validity.specs.Words.{Affine as Form, combined, composed}
use Rattle.solve_composition.specs.declared.affine.Affine.{Affine}
use Rattle.flow_systems.specs.declared.fault.Fault.TheVariants.{Wide as WideFault}
use Rattle.solve_composition.specs.Composed.{first_entries, dense}
use Rattle.solve_composition.specs.Operations.{column_values, constants, column_operations, row_composition, form_composition}
use Rattle.flow_systems.specs.Faults.{OperationFault, IsFaultOf}
use Rattle.solve_composition.specs.Sums.{dense_column, dense_constants}
use Rattle.solve_composition.proofs.faults.Passed.{IsPassed, passed_more, passed_wide, passed_all}
use Rattle.solve_composition.proofs.Ranges.{range_map, range_flat}
use Rattle.solve_composition.proofs.composed.Dense.{column-dense, constants-dense, coeffs-combined, constant-combined, coeffs-composed}
use Rattle.solve_composition.proofs.composed.Dense.{constant-composed}

-- ---- columns in order
range_here : (w k : ℕ) → k < w → k ≡ get_or (range_with_len 0 w) k k
range_here w k l = let e = get_or-range_with_len 0 w k k l in omega (arith, e)

module _ (row : List ℤ) (state : List Affine) (w : ℕ) where
  -- a column whose sum has no wide operation is passed
  pub columns_more : (k : ℕ) → k < w → IsPassed (λ j. row_operations row (dense_column j state)) (range_with_len 0 w) k
      → first_wide long_limit (row_operations row (dense_column k state)) ≡ None →
      IsPassed (λ j. row_operations row (dense_column j state)) (range_with_len 0 w) (k + 1)
  columns_more k l h n = passed_more (λ j. row_operations row (dense_column j state)) (range_with_len 0 w) k h k
      (let e = length-range_with_len 0 w in omega (arith, l)) (range_here w k l) n

  module _ (forms : List Form) (e : state ≡ map (dense w) forms) where
    column_is : (k : ℕ) → k < 0 + w → dense_column k state ≡ column_values k forms
    column_is k l = ap (dense_column k) e ∙ column-dense w k forms (omega (arith, l))

    constants_are : dense_constants state ≡ constants forms
    constants_are = ap dense_constants e ∙ constants-dense w forms

    columns_are : flat_map (λ k. row_operations row (dense_column k state)) (range_with_len 0 w) ≡ column_operations w row forms
    columns_are = range_flat (λ k. row_operations row (dense_column k state)) (λ k. row_operations row (column_values k forms)) 0 w
        (λ k l. ap (row_operations row) (column_is k l))

    -- a column with a wide sum
    pub column_refused : (k : ℕ) (o : Wide ℚ) → k < w → IsPassed (λ j. row_operations row (dense_column j state)) (range_with_len 0 w) k
        → first_wide long_limit (row_operations row (dense_column k state)) ≡ Some (operation_of (λ q. q) o) →
        IsFaultOf (row_composition w forms row) (WideFault o)
    column_refused k o l h n =
        first_wide_sooner long_limit (column_operations w row forms) (row_operations row (constants forms)) (operation_of (λ q. q) o)
        (ap (first_wide long_limit) (sym columns_are) ∙ passed_wide (λ j. row_operations row (dense_column j state)) (range_with_len 0 w) k
        h k (let e = length-range_with_len 0 w in omega (arith, l)) (range_here w k l) (operation_of (λ q. q) o) n)

    module _ (k : ℕ) (l : w ≤ k) (h : IsPassed (λ j. row_operations row (dense_column j state)) (range_with_len 0 w) k) where
      columns_fit : first_wide long_limit (column_operations w row forms) ≡ None
      columns_fit = ap (first_wide long_limit) (sym columns_are) ∙ passed_all (λ j. row_operations row (dense_column j state))
          (range_with_len 0 w) k (let e = length-range_with_len 0 w in omega (arith, l)) h

      -- a wide sum of the constants
      pub constant_refused : (o : Wide ℚ) → first_wide long_limit (row_operations row (dense_constants state))
          ≡ Some (operation_of (λ q. q) o) → IsFaultOf (row_composition w forms row) (WideFault o)
      constant_refused o n =
          first_wide_later long_limit (column_operations w row forms) (row_operations row (constants forms)) columns_fit
          ∙ ap (λ xs. first_wide long_limit (row_operations row xs)) (sym constants_are) ∙ n

      -- all sums
      pub row_composed : (list coeffs : List ℚ) (constant : ℚ) → list ≡ map (λ j. dotℚ row (dense_column j state)) (range_with_len 0 k)
          → k ≡ w → coeffs ≡ list → constant ≡ dotℚ row (dense_constants state) →
          first_wide long_limit (row_operations row (dense_constants state)) ≡ None →
          (let r : Affine = record { coeffs = coeffs; constant = constant } in r ≡ dense w (combined row forms))
          × (first_wide long_limit (row_composition w forms row) ≡ None)
      row_composed list coeffs constant f s g c n = (
        ap₂ (λ xs x. let r : Affine = record { coeffs = xs; constant = x } in r)
            (g ∙ f ∙ ap (λ j. map (λ i. dotℚ row (dense_column i state)) (range_with_len 0 j)) s
            ∙ range_map (λ j. dotℚ row (dense_column j state)) (λ j. dotℚ row (column_values j forms)) 0 w
            (λ j m. ap (dotℚ row) (column_is j m)) ∙ coeffs-combined w row forms)
            (c ∙ ap (dotℚ row) constants_are ∙ sym (constant-combined row forms)),
        first_wide_later long_limit (column_operations w row forms) (row_operations row (constants forms)) columns_fit
            ∙ ap (λ xs. first_wide long_limit (row_operations row xs)) (sym constants_are) ∙ n,
      )

-- ---- a form, whose own constant comes last
module _ (w : ℕ) (form : ProgramForm) (forms : List Form) where
  last : List Operation
  last = record { op = Add; left = dotℚ form.coeffs (constants forms); right = whole form.constant } ∷ []

  parted : row_composition w forms form.coeffs ++ (record {
    op = Add;
    left = dotℚ form.coeffs (constants forms);
    right =
        whole form.constant;
  } ∷ []) ≡ form_composition w forms form
  parted = append_assoc (column_operations w form.coeffs forms) (row_operations form.coeffs (constants forms))
      (record { op = Add; left = dotℚ form.coeffs (constants forms); right = whole form.constant } ∷ [])

  -- a fault of a form's row over the state is a fault of the form
  pub form_refused : (fault : OperationFault) → IsFaultOf (row_composition w forms form.coeffs) fault
      → IsFaultOf (form_composition w forms form) fault
  form_refused fault h = subst (λ os. IsFaultOf os fault) parted (sooner (row_composition w forms form.coeffs)
      (record { op = Add; left = dotℚ form.coeffs (constants forms); right = whole form.constant } ∷ []) fault h)

  module _ (row : Affine) (right : ℚ) (e : row ≡ dense w (combined form.coeffs forms)) (k : right ≡ whole form.constant)
      (n : first_wide long_limit (row_composition w forms form.coeffs) ≡ None) where
    left_is : row.constant ≡ dotℚ form.coeffs (constants forms)
    left_is = ap (λ (r : Affine). r.constant) e ∙ constant-combined form.coeffs forms

    sum_answers : (res : Result ℚ (Wide ℚ)) → MatchResult res (λ r. (r ≡ row.constant +ℚ right) × Fits long_limit r)
        (λ x. (¬ (Fits long_limit (row.constant +ℚ right))) × (x ≡ record { op = Add; left = row.constant; right = right })) →
        SumAnswers (dotℚ form.coeffs (constants forms) +ℚ whole form.constant)
        (record { op = Add; left = dotℚ form.coeffs (constants forms); right = whole form.constant } ∷ []) res
    sum_answers res m =
        subst (λ y. SumAnswers (dotℚ form.coeffs (constants forms) +ℚ y)
        (record { op = Add; left = dotℚ form.coeffs (constants forms); right = y } ∷ []) res) k
        (subst (λ x. SumAnswers (x +ℚ right) (record { op = Add; left = x; right = right } ∷ []) res) left_is
        (one_answer Add row.constant right res m))

    -- where the last sum is wide, that sum is the form's fault
    pub last_refused : (o : Wide ℚ) → (¬ (Fits long_limit (row.constant +ℚ right)))
        × (o ≡ record { op = Add; left = row.constant; right = right }) → IsFaultOf (form_composition w forms form) (WideFault o)
    last_refused o m =
        subst (λ os. IsFaultOf os (WideFault o)) parted
        (later (row_composition w forms form.coeffs) (record {
          op = Add;
          left = dotℚ form.coeffs (constants forms);
          right =
              whole form.constant;
        } ∷ []) (WideFault o) n (sum_answers (Err o) m))

    -- where the last sum fits, the row with that constant is the composed form
    pub form_composed : (coeffs : List ℚ) (r : ℚ) → coeffs ≡ row.coeffs → (r ≡ row.constant +ℚ right) × Fits long_limit r →
        (let f : Affine = record { coeffs = coeffs; constant = r } in f ≡ dense w (composed form forms))
        × (first_wide long_limit (form_composition w forms form) ≡ None)
    form_composed coeffs r g m =
        let s = sum_answers (Ok r) m in (
          ap₂ (λ xs x. let f : Affine = record { coeffs = xs; constant = x } in f)
              (g ∙ ap (λ (a : Affine). a.coeffs) e ∙ ap (first_entries w) (sym (coeffs-composed form forms)))
              (s.0 ∙ sym (constant-composed form forms)),
          ap (first_wide long_limit) (sym parted) ∙ first_wide_later long_limit (row_composition w forms form.coeffs)
              (record { op = Add; left = dotℚ form.coeffs (constants forms); right = whole form.constant } ∷ []) n ∙ s.1,
        )
