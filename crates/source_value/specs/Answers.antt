-- What an operation of the code answers.
use Rattle.std.specs.Prelude.{◌≡◌, ℤ, Bool, true, false, Result, Ok, Err}
use Rattle.lang_tree.specs.declared.form.Form.{Form}
use Rattle.lang_tree.specs.declared.cond.Cond.{Cond}
use Rattle.lang_tree.specs.Tree.{Condition}
use Rattle.lang_tree.specs.DeedView.{condition_of}
use Rattle.lang_tree.specs.Numbers.{is_number}
use Rattle.lang_tree.specs.Limits.{has_numbers}
use Rattle.source_value.specs.declared.fault.OperationFault.{OperationFault}
use Rattle.source_value.specs.declared.fault.OperationFault.TheVariants.{Big}
use Rattle.source_core.specs.Fits.{condition_fits}

-- the code answers a thing that is what is wanted, which then fits; or that it doesn't fit; or, whatever is wanted, that it lacks memory
abbrev pub Answers : {A B : Type 0} → (A → B → Type 0) → (B → Bool) → Result A OperationFault → B → Type 0
Answers Is fits (Ok x) wanted = Is x wanted
Answers Is fits (Err e) wanted = e ≡ Big → fits wanted ≡ false

-- a number of the code that is this one, which is in range
abbrev pub IsNumber : ℤ → ℤ → Type 0
IsNumber x z = (x ≡ z) × (is_number z ≡ true)

-- so a form
abbrev pub IsForm : Form → Form → Type 0
IsForm x f = (x ≡ f) × (has_numbers f ≡ true)

-- so a condition
abbrev pub IsCondition : Cond → Condition → Type 0
IsCondition x c = (condition_of x ≡ c) × (condition_fits c ≡ true)
