-- Results of expressions as numbers.
use Rattle.std.proofs.Common.{◌≡◌, ◌∙◌, ◌&&◌, ℕ, List, Option, Result, Ok, Err, IfOk, true, sym}
use Rattle.std.proofs.lemmas.Bool.{and_parts}
use Rattle.lang_tree.specs.Tree.{Condition, Deed}
use Rattle.source_core.specs.Elaborated as core
use Rattle.source_core.specs.Elaborated.{a_form, a_truth, any, as_number, numbered}
use Rattle.source_core.specs.Fits.{condition_fits, deeds_fit, result_fits}
use Rattle.source_value.specs.declared.value.Outcome.TheVariants as outcome
use Rattle.source_value.specs.declared.value.Value.{Value}
use Rattle.source_value.specs.declared.value.Number.{Number}
use Rattle.source_value.specs.declared.value.Evaluated.{Evaluated}
use Rattle.source_value.specs.Kept.{kept_deeds, kept_condition}
use Rattle.source_value.specs.Stands.{Stands, StandsNumber, StandsEvaluated, kept_result}
use Rattle.base_integers.specs.declared.integers.Integers.{Integers}

-- a result r behind a prelude, and the next hidden variable
module _ (integers : Integers) (n line : ℕ) (ds : List Deed) (h : ℕ) where
  -- a form is itself
  pub form_number : (r : core.Result) (x : Number) → x.prelude ≡ kept_deeds n h ds → outcome.Form x.form ≡ kept_result n h r → x.next ≡ h
      → deeds_fit ds && result_fits r ≡ true → StandsNumber n x (as_number integers line ds h r)
  form_number (a_form f) x p e k s = record { prelude = p; form = cc; next = k; numbers = s }
  form_number (a_truth c) x p e k s = absurd cc
  form_number any x p e k s = absurd cc

  -- a condition is what it is made to
  pub truth_number : (r : core.Result) (v : Evaluated) (t : Option Condition) (x : Number) → v.prelude ≡ kept_deeds n h ds
      → outcome.Truth t ≡ kept_result n h r → v.next ≡ h → deeds_fit ds && result_fits r ≡ true
      → ((d : core.Evaluated) (c : Condition) → StandsEvaluated n v d → condition_fits c ≡ true → t ≡ kept_condition n d.next c
      → StandsNumber n x (as_number integers line d.prelude d.next (a_truth c)))
      → StandsNumber n x (as_number integers line ds h r)
  truth_number (a_form f) v t x p e k s made = absurd cc
  truth_number (a_truth c) v t x p e k s made =
      let q = and_parts (deeds_fit ds) (condition_fits c) s in
      made (record { prelude = ds; next = h }) c (record { prelude = p; next = k; numbers = q.0 }) q.1 cc
  truth_number any v t x p e k s made = absurd cc

  -- so any value
  pub any_number : (r : core.Result) (v : Evaluated) (x : Number) → v.prelude ≡ kept_deeds n h ds → outcome.Any ≡ kept_result n h r
      → v.next ≡ h → deeds_fit ds && result_fits r ≡ true
      → ((d : core.Evaluated) → StandsEvaluated n v d → StandsNumber n x (as_number integers line d.prelude d.next any))
      → StandsNumber n x (as_number integers line ds h r)
  any_number (a_form f) v x p e k s made = absurd cc
  any_number (a_truth c) v x p e k s made = absurd cc
  any_number any v x p e k s made =
      let q = and_parts (deeds_fit ds) true s in
      made (record { prelude = ds; next = h }) (record { prelude = p; next = k; numbers = q.0 })

-- ---- answers of the code
module _ (integers : Integers) (n line : ℕ) (v : Value) where
  -- where the value is a condition
  pub truth_answer : {E : Type 0} (t : Option Condition) (r : Result Number E) → v.result ≡ outcome.Truth t
      → IfOk r (λ x. (d : core.Evaluated) (c : Condition) → StandsEvaluated n (record { prelude = v.prelude; next = v.next }) d
      → condition_fits c ≡ true → t ≡ kept_condition n d.next c → StandsNumber n x (as_number integers line d.prelude d.next (a_truth c)))
      → IfOk r (λ x. (e : core.Elaborated) → Stands n v e → StandsNumber n x (numbered integers line e))
  truth_answer t (Ok x) i made = λ e s.
      truth_number integers n line e.prelude e.next e.result (record { prelude = v.prelude; next = v.next }) t x s.prelude
      (sym i ∙ s.result) s.next
      s.numbers made
  truth_answer t (Err e) i made = made

  -- where it is any
  pub any_answer : {E : Type 0} (r : Result Number E) → v.result ≡ outcome.Any
      → IfOk r (λ x. (d : core.Evaluated) → StandsEvaluated n (record { prelude = v.prelude; next = v.next }) d
      → StandsNumber n x (as_number integers line d.prelude d.next any))
      → IfOk r (λ x. (e : core.Elaborated) → Stands n v e → StandsNumber n x (numbered integers line e))
  any_answer (Ok x) i made = λ e s.
      any_number integers n line e.prelude e.next e.result (record { prelude = v.prelude; next = v.next }) x s.prelude
      (sym i ∙ s.result) s.next
      s.numbers made
  any_answer (Err e) i made = made
