-- What the values of the code stand for.
use Rattle.std.specs.Prelude.{◌≡◌, ℕ, true}
use Rattle.source_core.specs.Elaborated as core
use Rattle.source_core.specs.Elaborated.{a_form, a_truth, any}
use Rattle.source_value.specs.declared.value.Outcome.{Outcome}
use Rattle.source_value.specs.declared.value.Outcome.TheVariants as outcome
use Rattle.source_value.specs.declared.value.Value.{Value}
use Rattle.source_value.specs.declared.value.Number.{Number}
use Rattle.source_value.specs.declared.value.Tested.{Tested}
use Rattle.source_value.specs.declared.value.Evaluated.{Evaluated}
use Rattle.source_core.specs.Fits.{fits, numbered_fits, tested_fits, evaluated_fits}
use Rattle.source_value.specs.Kept.{kept_deeds, kept_condition}

-- n is the number of the function's variables
module _ (n : ℕ) where
  -- a form is kept whole; a condition while no limit is passed
  abbrev pub kept_result : (next : ℕ) → core.Result → Outcome
  kept_result next (a_form f) = outcome.Form f
  kept_result next (a_truth c) = outcome.Truth (kept_condition n next c)
  kept_result next any = outcome.Any

  -- what is kept of an expression, whose numbers are in range: its prelude and its condition while no limit is passed, and always what it
  -- is, its form and the next hidden variable
  pub record Stands (v : Value) (e : core.Elaborated) : Type 0 where
    pub prelude : v.prelude ≡ kept_deeds n e.next e.prelude
    pub result : v.result ≡ kept_result e.next e.result
    pub next : v.next ≡ e.next
    pub numbers : fits e ≡ true

  -- of a number
  pub record StandsNumber (v : Number) (a : core.Numbered) : Type 0 where
    pub prelude : v.prelude ≡ kept_deeds n a.next a.prelude
    pub form : v.form ≡ a.form
    pub next : v.next ≡ a.next
    pub numbers : numbered_fits a ≡ true

  -- of a condition
  pub record StandsTested (v : Tested) (a : core.Tested) : Type 0 where
    pub prelude : v.prelude ≡ kept_deeds n a.next a.prelude
    pub condition : v.condition ≡ kept_condition n a.next a.condition
    pub next : v.next ≡ a.next
    pub numbers : tested_fits a ≡ true

  -- of a prelude alone
  pub record StandsEvaluated (v : Evaluated) (a : core.Evaluated) : Type 0 where
    pub prelude : v.prelude ≡ kept_deeds n a.next a.prelude
    pub next : v.next ≡ a.next
    pub numbers : evaluated_fits a ≡ true
