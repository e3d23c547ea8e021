-- The tests of a growth.
use Rattle.std.specs.Prelude.{ℕ, zero, suc, ◌+◌, ◌/◌, ◌%◌, Bool, List, [], ◌∷◌, ◌++◌, length}
use Rattle.std.specs.List.{list_any, filter, range_with_len}
use Rattle.std.proofs.Common.{⊎_elim}
use Rattle.base_numbers.specs.Rational.{ℚ}
use Rattle.base_numbers.proofs.extended.ExtendedLaws.{ext_le_or_lt}
use Rattle.flow_systems.specs.Equations.{Equations, Vector}
use Rattle.theory_validity.specs.Steps.{Item, Step, names, after_step}
use Rattle.theory_validity.specs.Certificates.{after_steps}
use Rattle.theory_strategy.specs.Picks.{Pick, Transformer, value_at, choices}
use Rattle.theory_strategy.specs.Growth.{Evident, raise_at, pass}

-- a test of a picked unknown: the vector at which its edge's transformer is taken, and how many raises came before
pub record Test : Type 0 where
  pub vector : Vector
  pub unknown : Item
  pub raises : ℕ

-- nothing where nothing was raised
unfoldable pub if_raised : List Step → List Test → List Test
if_raised [] tests = []
if_raised (step ∷ steps) tests = tests

module _ (fitting : ℚ → Bool) (system : Equations) (T : Transformer) (reaches : Evident system T) where
  -- the tests of one pass over unraised unknowns, after n raises
  unfoldable pub pass_tests : ℕ → Vector → List Item → List Test
  pass_tests n z [] = []
  pass_tests n z (u ∷ us) =
      record { vector = z; unknown = u; raises = n }
      ∷ ⊎_elim (λ h. pass_tests n z us) (λ h. pass_tests (suc n) (after_step (raise_at fitting system T reaches z u) z) us)
      (ext_le_or_lt (value_at system T z u) (z u.point u.row))

  -- the tests of at most k passes, until one raises nothing
  unfoldable pub passes_tests : ℕ → ℕ → Vector → List Item → List Test
  passes_tests zero n z us = []
  passes_tests (suc k) n z us =
      let log = pass fitting system T reaches z us in
      pass_tests n z us ++ if_raised log.steps (passes_tests k (n + length log.steps) (after_steps log.steps z) log.left)

  -- the tests of the growth of a pick, in order
  unfoldable pub growth_tests : Vector → Pick → List Test
  growth_tests d pick = let us = choices system pick in passes_tests (length us) 0 d us

-- whether an item names the unknown of this number
abbrev pub is_named : ℕ → List Item → ℕ → Bool
is_named rows items u = list_any (λ item. names item (u / rows) (u % rows)) items

-- the numbers below a count of the unknowns that an item names, in rising order
abbrev pub named_numbers : ℕ → ℕ → List Item → List ℕ
named_numbers rows count items = filter (is_named rows items) (range_with_len 0 count)
