-- What a variable takes: any value without a hidden variable, and else a number.
use Rattle.std.proofs.Common.{◌≡◌, ◌++◌, ℕ, [], ◌∷◌, refl}
use Rattle.lang_tree.specs.Tree.{sets}
use Rattle.source_core.specs.Elaborated.{Result, a_form, a_truth, any, Elaborated, numbered}
use Rattle.source_core.specs.Core.{taken, taken_any}
use Rattle.source_meaning.specs.Changes.{behind_taken}
use Rattle.source_value.specs.Stands.{kept_result}
use Rattle.source_value.specs.declared.value.Outcome.TheVariants as outcome
use Rattle.base_integers.specs.declared.integers.Integers.{Integers}

-- what is kept as any value is any
pub any_is : (n next : ℕ) (r : Result) → outcome.Any ≡ kept_result n next r → r ≡ any
any_is n next (a_form f) e = absurd cc
any_is n next (a_truth c) e = absurd cc
any_is n next any e = refl

-- and any value is kept so
pub any_kept : (n next : ℕ) (r : Result) → r ≡ any → kept_result n next r ≡ outcome.Any
any_kept n next (a_form f) e = absurd cc
any_kept n next (a_truth c) e = absurd cc
any_kept n next any e = refl

module _ (integers : Integers) (var line : ℕ) (e : Elaborated) where
  -- any value
  pub takes_any : (r : Result) → r ≡ any → taken integers var line e r ≡ e.prelude ++ taken_any integers var line
  takes_any (a_form f) h = absurd cc
  takes_any (a_truth c) h = absurd cc
  takes_any any h = refl

  -- a variable takes any value itself, without a hidden one
  pub behind_any : (r : Result) → r ≡ any → behind_taken integers line e r ≡ e.next
  behind_any (a_form f) h = absurd cc
  behind_any (a_truth c) h = absurd cc
  behind_any any h = refl

  -- a number
  pub takes_number : (r : Result) → (r ≡ any → ⊥) → taken integers var line e r ≡ (numbered integers line e).prelude ++ sets var
      (numbered integers line e).form line ∷ []
  takes_number (a_form f) h = refl
  takes_number (a_truth c) h = refl
  takes_number any h = absurd (h refl)

  -- else what it takes is a number, behind its prelude
  pub behind_number : (r : Result) → (r ≡ any → ⊥) → behind_taken integers line e r ≡ (numbered integers line e).next
  behind_number (a_form f) h = refl
  behind_number (a_truth c) h = refl
  behind_number any h = absurd (h refl)
