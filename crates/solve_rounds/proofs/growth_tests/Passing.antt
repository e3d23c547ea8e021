-- Passes over parts of a list of unknowns, one part after the other.
use Rattle.std.proofs.Common.{◌≡◌, ◌∙◌, ◌⊎◌, inl, inr, ⊎_elim, ℕ, suc, ◌+◌, Bool, List, [], ◌∷◌, ◌++◌, length, refl, ap, arith}
use Rattle.base_numbers.specs.Rational.{ℚ}
use Rattle.base_numbers.specs.Extended.{Ext, ◌≤ᴱ◌, ◌<ᴱ◌}
use Rattle.base_numbers.proofs.extended.ExtendedLaws.{ext_le_or_lt, ext_not_le_of_lt}
use Rattle.flow_systems.specs.Equations.{Equations, Vector}
use Rattle.theory_validity.specs.Steps.{Item, after_step}
use Rattle.theory_validity.specs.Certificates.{after_steps}
use Rattle.theory_strategy.specs.Picks.{Transformer, value_at}
use Rattle.theory_strategy.specs.Growth.{Evident, Log, stay, go, raise_at, pass}
use Rattle.solve_rounds.specs.GrowthTests.{Test, pass_tests}

-- what is chosen where a number is at most another, and where it exceeds it
pub choose_le : {A : Type 0} (a b : Ext) (x y : A) → a ≤ᴱ b → ⊎_elim (λ (h : a ≤ᴱ b). x) (λ (h : b <ᴱ a). y) (ext_le_or_lt a b) ≡ x
choose_le {A} a b x y h = by (ext_le_or_lt a b)
  where
    by : (o : (a ≤ᴱ b) ⊎ (b <ᴱ a)) → ⊎_elim (λ (h : a ≤ᴱ b). x) (λ (h : b <ᴱ a). y) o ≡ x
    by (inl k) = refl
    by (inr k) = absurd (ext_not_le_of_lt b a k h)

-- a choice by order takes the second value where the second number is below the first
pub choose_lt : {A : Type 0} (a b : Ext) (x y : A) → b <ᴱ a → ⊎_elim (λ (h : a ≤ᴱ b). x) (λ (h : b <ᴱ a). y) (ext_le_or_lt a b) ≡ y
choose_lt {A} a b x y h = by (ext_le_or_lt a b)
  where
    by : (o : (a ≤ᴱ b) ⊎ (b <ᴱ a)) → ⊎_elim (λ (h : a ≤ᴱ b). x) (λ (h : b <ᴱ a). y) o ≡ y
    by (inl k) = absurd (ext_not_le_of_lt b a h k)
    by (inr k) = refl

-- a log after another
abbrev pub joined : Log → Log → Log
joined a b = record { steps = a.steps ++ b.steps; left = a.left ++ b.left }

module _ (fitting : ℚ → Bool) (system : Equations) (T : Transformer) (reaches : Evident system T) where
  -- one pass
  abbrev log_of : Vector → List Item → Log
  log_of z us = pass fitting system T reaches z us

  abbrev tests_of : ℕ → Vector → List Item → List Test
  tests_of n z us = pass_tests fitting system T reaches n z us

  -- what is known of the comparison of an unknown's transformer with its bound
  abbrev pub Order : Vector → Item → Type 0
  Order z u = (value_at system T z u ≤ᴱ z u.point u.row) ⊎ (z u.point u.row <ᴱ value_at system T z u)

  abbrev pub raised_at : Vector → Item → Vector
  raised_at z u = after_step (raise_at fitting system T reaches z u) z

  abbrev pub log_by : (z : Vector) (u : Item) → List Item → Order z u → Log
  log_by z u us o = ⊎_elim (λ h. stay u (log_of z us)) (λ h. go (raise_at fitting system T reaches z u) (log_of (raised_at z u) us)) o

  abbrev pub tests_by : ℕ → (z : Vector) (u : Item) → List Item → Order z u → List Test
  tests_by n z u us o = ⊎_elim (λ h. tests_of n z us) (λ h. tests_of (suc n) (raised_at z u) us) o

  -- a pass over two parts
  pub pass_append : (us vs : List Item) (z : Vector) → log_of z (us ++ vs)
      ≡ joined (log_of z us) (log_of (after_steps (log_of z us).steps z) vs)
  unfolding pass after_steps stay go
  pass_append [] vs z = refl
  pass_append (u ∷ us) vs z = by (ext_le_or_lt (value_at system T z u) (z u.point u.row)) (pass_append us vs z)
      (pass_append us vs (raised_at z u))
    where
      by : (o : Order z u) →
          log_of z (us ++ vs) ≡ joined (log_of z us) (log_of (after_steps (log_of z us).steps z) vs) →
          log_of (raised_at z u) (us ++ vs) ≡ joined (log_of (raised_at z u) us)
          (log_of (after_steps (log_of (raised_at z u) us).steps (raised_at z u)) vs) →
          log_by z u (us ++ vs) o ≡ joined (log_by z u us o) (log_of (after_steps (log_by z u us o).steps z) vs)
      by (inl h) a b = ap (stay u) a
      by (inr h) a b = ap (go (raise_at fitting system T reaches z u)) b

  -- its tests
  pub tests_append : (us vs : List Item) (n : ℕ) (z : Vector) →
      tests_of n z (us ++ vs) ≡ tests_of n z us ++ tests_of (n + length (log_of z us).steps) (after_steps (log_of z us).steps z) vs
  unfolding pass pass_tests after_steps stay go
  tests_append [] vs n z = ap (λ k. tests_of k z vs) (let e : n ≡ n + 0 = omega arith in e)
  tests_append (u ∷ us) vs n z =
      ap (λ ts. record { vector = z; unknown = u; raises = n } ∷ ts)
      (by (ext_le_or_lt (value_at system T z u) (z u.point u.row)) (tests_append us vs n z)
      (tests_append us vs (suc n) (raised_at z u)
      ∙ ap (λ k. tests_of (suc n) (raised_at z u) us ++ tests_of k (after_steps (log_of (raised_at z u) us).steps (raised_at z u)) vs)
      (let e : suc n + length (log_of (raised_at z u) us).steps ≡ n + suc (length (log_of (raised_at z u) us).steps) = omega arith in e)))
    where
      by : (o : Order z u) →
          tests_of n z (us ++ vs) ≡ tests_of n z us ++ tests_of (n + length (log_of z us).steps) (after_steps (log_of z us).steps z) vs →
          tests_of (suc n) (raised_at z u) (us ++ vs)
          ≡ tests_of (suc n) (raised_at z u) us ++ tests_of (n + suc (length (log_of (raised_at z u) us).steps))
          (after_steps (log_of (raised_at z u) us).steps (raised_at z u)) vs →
          tests_by n z u (us ++ vs) o ≡ tests_by n z u us o ++ tests_of (n + length (log_by z u us o).steps)
          (after_steps (log_by z u us o).steps z) vs
      by (inl h) a b = a
      by (inr h) a b = b
