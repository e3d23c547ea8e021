-- All that is said of the answer for an edge and a row.
use Rattle.std.proofs.Common.{◌≡◌, ◌∙◌, ℕ, false, true≢false, ℤ, List, length, None, Result, Ok, sym, subst₂}
use Rattle.std.specs.Prelude.{IfOk, IfErr, OnOk}
use Rattle.std.proofs.lemmas.Result.{IfOk-weaker}
use Rattle.base_fractions.specs.declared.ext.Ext.{Ext}
use Rattle.base_fractions.specs.Fits.{long_limit}
use Rattle.base_fractions.specs.Operation.{first_wide}
use Rattle.flow_edges.specs.declared.edge.Edge.{Edge}
use Rattle.flow_systems.specs.Equations.{Equations, Vector}
use Rattle.flow_systems.specs.declared.spot.PartFault.{PartFault}
use Rattle.lp_theory.specs.Problem as lp
use Rattle.lp_theory.specs.Simplex.{lp as solved}
use Rattle.lp_simplex.specs.Operations.{first_refused, run_operations}
use Rattle.theory_transformers.specs.EdgeProblems.{lost, transformer, whole_problem}
use Rattle.solve_composition.specs.Value.{number_of}
use Rattle.solve_composition.specs.declared.affine.Affine.{Affine}
use Rattle.solve_composition.specs.declared.value.Value.{Value}
use Rattle.solve_composition.specs.declared.value.Value.TheVariants.{Unreached}
use Rattle.solve_transformer.specs.Meanings.{HasEvidence, Operates}
use Rattle.solve_transformer.specs.Splits.{bounds_at, IsSource}
use Rattle.solve_transformer.specs.Readings.{IsProblemFault}
use Rattle.solve_transformer.specs.Values.{IsLowestLost, IsValue, ReadsOutcome, reading_operations}
use Rattle.solve_transformer.proofs.values.Evident.{is_transformer, has_evidence}
use Rattle.solve_transformer.proofs.transform.Operated.{lost_at, value_of, none_of, fault_of}

-- a source over as many columns and the same rows
pub source_moved : (system : Equations) (z : Vector) (e : Edge) (cs : List ℤ) (w w' : ℕ) (template template' : List (List ℤ))
    (source : List Ext) (guards : List Affine) (form : Affine) → w' ≡ w → template' ≡ template →
    IsSource system z e cs w template source guards form → IsSource system z e cs w' template' source guards form
source_moved system z e cs w w' template template' source guards form f g s =
    subst₂ (λ a b. IsSource system z e cs a b source guards form) (sym f) (sym g) s

-- where a bound at the source is -inf
pub answered_lost : (system : Equations) (z : Vector) (e : Edge) (cs : List ℤ) (r : ℕ) → IsLowestLost (z e.from) (length system.template) r
    → Operates system z e cs (Ok (Unreached r))
answered_lost system z e cs r h = record {
  value = h;
  supremum = is_transformer system z e cs (Unreached r) h;
  evidence = has_evidence system z e cs (Unreached r) h;
  fits = λ none. absurd (true≢false (sym (lost_at (z e.from) system.template r h.within h.is_lost) ∙ none));
  refused = tt;
}

-- where the problem of a source is solved and read
module _ (system : Equations) (z : Vector) (e : Edge) (cs : List ℤ) (w : ℕ) (template : List (List ℤ)) (source : List Ext)
    (guards : List Affine) (form : Affine) (s : IsSource system z e cs w template source guards form) where
  module _ (P : lp.Problem) (same : P ≡ whole_problem system z e cs) (n : ℕ) (nn : n ≡ system.variables) (count : ℕ)
      (c : count ≡ length guards) (none : lost (z e.from) system.template ≡ false) where
    -- a solved problem whose outcome is read answers for the edge and the row
    pub answered_solved : (res : Result Value PartFault) → IfOk res (ReadsOutcome n w form.constant (bounds_at source) template count
        (solved P)) → OnOk res (first_refused long_limit (run_operations P) ≡ None) →
        OnOk res (first_wide long_limit (reading_operations w form.constant (solved P)) ≡ None)
        → IfErr res (IsProblemFault P (reading_operations w form.constant (solved P))) → Operates system z e cs res
    answered_solved res reads pivots reading refused =
        let value = value_of system z e cs w template source guards form s P same n nn count c none res reads in
        record {
          value = value;
          supremum = IfOk-weaker res (IsValue system z e cs) (λ v. transformer system z e cs ≡ number_of v) (is_transformer system z e cs)
              value;
          evidence = IfOk-weaker res (IsValue system z e cs) (HasEvidence system z e cs) (has_evidence system z e cs) value;
          fits = none_of system z e cs w template source guards form s P same n nn count c none res pivots reading;
          refused = fault_of system z e cs w template source guards form s P same n nn count c none res refused;
        }
