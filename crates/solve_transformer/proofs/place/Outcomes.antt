-- What the outcome of the problem at a place says of the state there.
use Rattle.std.proofs.Common.{◌≡◌, ◌∙◌, ℕ, List, [], ◌∷◌, length, map, Some, false, true≢false, ℤ, refl, ap, ap₂, sym}
use Rattle.base_numbers.specs.Rational.{ℚ}
use Rattle.base_numbers.specs.Extended.{Ext as Extended}
use Rattle.flow_edges.specs.declared.edge.Action.{Action}
use Rattle.flow_edges.specs.declared.edge.Edge.{Edge}
use Rattle.flow_systems.specs.Equations.{Equations, Vector}
use Rattle.theory_validity.specs.Words.{Affine as Formal, Word, val, values, width, end_of, end_form, guard_forms}
use Rattle.lp_theory.specs.Problem.{Outcome, best, unbounded, empty}
use Rattle.lp_theory.specs.Simplex.{lp}
use Rattle.lp_theory.specs.Free.{unsplit}
use Rattle.theory_transformers.specs.EdgeProblems.{lost, whole_problem}
use Rattle.theory_transformers.proofs.limits.Products.{length-tabulate}
use Rattle.solve_composition.specs.declared.value.Value.{Value}
use Rattle.solve_composition.specs.declared.value.Value.TheVariants.{Unreached, Empty, Best, Unbounded}
use Rattle.solve_composition.specs.Behind.{end_forms}
use Rattle.solve_composition.specs.Composed.{dense}
use Rattle.solve_composition.specs.ComposedLaws.{form_of}
use Rattle.solve_composition.specs.Value.{word_of}
use Rattle.solve_composition.proofs.composed.Means.{val-dense}
use Rattle.solve_transformer.specs.Places.{state_after, state_reading, ends_at, ends_reading, forms_reading}
use Rattle.solve_transformer.specs.Values.{IsValue, ReadsOutcome}
use Rattle.solve_transformer.proofs.transform.Operated.{lost_at}

-- the values of forms with all their columns at a word of that width are those of the forms
dense_values : (w : ℕ) (word : Word) (fs : List Formal) → length word ≡ w
    → map (λ f. val (form_of f) word) (map (dense w) fs) ≡ map (λ f. val f word) fs
dense_values w word [] e = refl
dense_values w word (f ∷ fs) e = ap₂ (λ x xs. x ∷ xs) (val-dense w f word e) (dense_values w word fs e)

end_is : (n : ℕ) (actions : List Action) (word : Word) → end_of n actions word ≡ map (λ f. val f word) (end_forms n actions)
unfolding end_of values
end_is n actions word = refl

module _ (n : ℕ) (actions : List Action) where
  ends_are : (word : Word) → length word ≡ width n actions
      → map (λ f. val (form_of f) word) (map (dense (width n actions)) (end_forms n actions)) ≡ end_of n actions word
  ends_are word e = dense_values (width n actions) word (end_forms n actions) e ∙ sym (end_is n actions word)

  module _ (q : ℚ) (B : ℕ → Extended) (t : List (List ℤ)) (k : ℕ) where
    -- the variables are read at the end of the trace that is read of the outcome
    state_reads : (o : Outcome) (v : Value) → ReadsOutcome n (width n actions) q B t k o v
        → ends_at (map (dense (width n actions)) (end_forms n actions)) v ≡ state_after n actions v
    state_reads (best x u y) (Unreached r) h = absurd h
    state_reads (best x u y) (Empty rows guards) h = absurd h
    state_reads (best x u y) (Best value trace rows guards) h =
        ap Some (ends_are (word_of trace)
        (ap (λ (xs : List ℚ). length xs) h.1.word ∙ length-tabulate (width n actions) (unsplit x)))
    state_reads (best x u y) (Unbounded trace direction) h = absurd h
    state_reads (unbounded x d) (Unreached r) h = absurd h
    state_reads (unbounded x d) (Empty rows guards) h = absurd h
    state_reads (unbounded x d) (Best value trace rows guards) h = absurd h
    state_reads (unbounded x d) (Unbounded trace direction) h = refl
    state_reads (empty y) (Unreached r) h = absurd h
    state_reads (empty y) (Empty rows guards) h = refl
    state_reads (empty y) (Best value trace rows guards) h = absurd h
    state_reads (empty y) (Unbounded trace direction) h = absurd h

    -- by the operations of the outcome
    reading_reads : (o : Outcome) (v : Value) → ReadsOutcome n (width n actions) q B t k o v
        → ends_reading (map (dense (width n actions)) (end_forms n actions)) v ≡ state_reading n actions o
    reading_reads (best x u y) (Unreached r) h = absurd h
    reading_reads (best x u y) (Empty rows guards) h = absurd h
    reading_reads (best x u y) (Best value trace rows guards) h =
        ap (forms_reading (map (dense (width n actions)) (end_forms n actions))) h.1.word
    reading_reads (best x u y) (Unbounded trace direction) h = absurd h
    reading_reads (unbounded x d) (Unreached r) h = absurd h
    reading_reads (unbounded x d) (Empty rows guards) h = absurd h
    reading_reads (unbounded x d) (Best value trace rows guards) h = absurd h
    reading_reads (unbounded x d) (Unbounded trace direction) h = refl
    reading_reads (empty y) (Unreached r) h = absurd h
    reading_reads (empty y) (Empty rows guards) h = refl
    reading_reads (empty y) (Best value trace rows guards) h = absurd h
    reading_reads (empty y) (Unbounded trace direction) h = absurd h

-- ---- the value of a row without coefficients over an edge
module _ (system : Equations) (z : Vector) (edge : Edge) (reached : lost (z edge.from) system.template ≡ false) where
  -- the variables where its trace ends
  pub value_state : (v : Value) → IsValue system z edge [] v
      → ends_at (map (dense (width system.variables edge.actions)) (end_forms system.variables edge.actions)) v
      ≡ state_after system.variables edge.actions v
  value_state (Unreached r) h = refl
  value_state (Empty rows guards) h = refl
  value_state (Best value trace rows guards) h =
      state_reads system.variables edge.actions (end_form system.variables edge.actions []).constant (z edge.from) system.template
      (length (guard_forms system.variables edge.actions)) (lp (whole_problem system z edge [])) (Best value trace rows guards) h.1
  value_state (Unbounded trace direction) h = refl

  -- and the operations by which they are read
  pub value_reading : (v : Value) → IsValue system z edge [] v
      → ends_reading (map (dense (width system.variables edge.actions)) (end_forms system.variables edge.actions)) v
      ≡ state_reading system.variables edge.actions (lp (whole_problem system z edge []))
  value_reading (Unreached r) h = absurd (true≢false (sym (lost_at (z edge.from) system.template r h.within h.is_lost) ∙ reached))
  value_reading (Empty rows guards) h =
      reading_reads system.variables edge.actions (end_form system.variables edge.actions []).constant (z edge.from) system.template
      (length (guard_forms system.variables edge.actions)) (lp (whole_problem system z edge [])) (Empty rows guards) h.1
  value_reading (Best value trace rows guards) h =
      reading_reads system.variables edge.actions (end_form system.variables edge.actions []).constant (z edge.from) system.template
      (length (guard_forms system.variables edge.actions)) (lp (whole_problem system z edge [])) (Best value trace rows guards) h.1
  value_reading (Unbounded trace direction) h =
      reading_reads system.variables edge.actions (end_form system.variables edge.actions []).constant (z edge.from) system.template
      (length (guard_forms system.variables edge.actions)) (lp (whole_problem system z edge [])) (Unbounded trace direction) h.1
