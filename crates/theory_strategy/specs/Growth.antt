-- The growth: in passes, each picked unknown whose transformer exceeds its bound is raised once.
use Rattle.std.specs.Prelude.{◌≡◌, ℕ, zero, suc, ◌&&◌, Bool, ℤ, pos, ◌+ℤ◌, List, [], ◌∷◌, ◌++◌, length, if◌then◌else◌, take, drop}
use Rattle.std.proofs.Common.{⊎_elim}
use Rattle.base_numbers.specs.Rational.{ℚ, whole, one_ℚ, ◌+ℚ◌, ◌-ℚ◌, ◌/ℚ◌, lt_ℚ, floor}
use Rattle.base_numbers.specs.Extended.{Ext, neg_inf, fin, pos_inf}
use Rattle.base_numbers.proofs.extended.ExtendedLaws.{ext_le_or_lt}
use Rattle.flow_edges.specs.declared.edge.Edge.{Edge}
use Rattle.flow_systems.specs.Equations.{Equations, Vector}
use Rattle.theory_validity.specs.Words.{Word, width, lin, end_form, moved}
use Rattle.theory_validity.specs.Steps.{Item, Step, Plain, Ray, edge_of, row_of, end_value, after_step, Pieces}
use Rattle.theory_validity.specs.Certificates.{after_steps}
use Rattle.theory_validity.specs.Transformers.{Unlimited, Reaches}
use Rattle.theory_strategy.specs.Picks.{Pick, Transformer, value_at, choices}

-- the items of steps, in order
unfoldable pub items_of : List Step → List Item
items_of [] = []
items_of (step ∷ steps) = step.items ++ items_of steps

-- each transformer with its evidence
abbrev pub Evident : Equations → Transformer → Type 0
Evident system T = (z : Vector) (edge : Edge) (row : List ℤ) → Reaches system z edge row (T z edge row)

-- the words of the evidence have a value for each column
abbrev pub Sizes : (system : Equations) (z : Vector) (edge : Edge) (row : List ℤ) (v : Ext) → Reaches system z edge row v → Type 0
Sizes system z edge row neg_inf h = Unit {0}
Sizes system z edge row (fin c) h = length h.1.0 ≡ width system.variables edge.actions
Sizes system z edge row pos_inf h = (length h.word ≡ width system.variables edge.actions)
    × (length h.direction ≡ width system.variables edge.actions)

-- the least integer above a bound where it fits and is below the transformer, else the midpoint
unfoldable pub between : (ℚ → Bool) → ℚ → ℚ → ℚ
between fitting b v = let next = whole (floor b +ℤ pos 1) in if fitting next && lt_ℚ next v then next else (b +ℚ v) /ℚ whole (pos 2)

-- the number to which a bound is raised where the transformer is a fraction
unfoldable pub raised_to : (ℚ → Bool) → Ext → ℚ → ℚ
raised_to fitting neg_inf v = v -ℚ one_ℚ
raised_to fitting (fin b) v = between fitting b v
raised_to fitting pos_inf v = v

-- a word of unlimited evidence that exceeds a bound
unfoldable pub ray_low : (system : Equations) (z : Vector) (edge : Edge) (row : List ℤ) → Unlimited system z edge row → Ext → Word
ray_low system z edge row u neg_inf = u.word
ray_low system z edge row u (fin b) =
    let e = end_value system edge row u.word in
    if lt_ℚ b e then u.word else moved u.word (whole (floor ((b -ℚ e) /ℚ lin (end_form system.variables edge.actions row) u.direction)
    +ℤ pos 1)) u.direction
ray_low system z edge row u pos_inf = u.word

-- a word's start values and free values
unfoldable pub split : ℕ → Word → Pieces
split n w = record { start = take n w; free = drop n w }

-- an item for the same unknown and edge
unfoldable pub with_words : Item → Pieces → Pieces → ℚ → Item
with_words u low second number = record { point = u.point; row = u.row; edge = u.edge; low = low; second = second; number = number }

-- the step that raises an unknown towards its transformer
unfoldable pub raise : (ℚ → Bool) → (system : Equations) (z : Vector) (u : Item) (v : Ext)
    → Reaches system z (edge_of system u) (row_of system u) v → Step
raise fitting system z u neg_inf h = record { kind = Plain; items = [] }
raise fitting system z u (fin c) h = record {
  kind = Plain;
  items = with_words u (split system.variables h.1.0) (split 0 []) (raised_to fitting (z u.point u.row) c) ∷ [];
}
raise fitting system z u pos_inf h =
    let edge = edge_of system u in
    let row = row_of system u in
    record {
      kind = Ray;
      items = with_words u (split system.variables (ray_low system z edge row h (z u.point u.row)))
          (split system.variables h.direction) (lin (end_form system.variables edge.actions row) h.direction) ∷ [];
    }

-- the steps of raises, in order, and the unknowns that were not raised
pub record Log : Type 0 where
  pub steps : List Step
  pub left : List Item

-- an unknown that is not raised, before the rest
unfoldable pub stay : Item → Log → Log
stay u log = record { steps = log.steps; left = u ∷ log.left }

-- a raise, before the rest
unfoldable pub go : Step → Log → Log
go step log = record { steps = step ∷ log.steps; left = log.left }

-- a log that goes on where something was raised
unfoldable pub continue : List Step → Log → Vector → (Vector → List Item → Log) → Log
continue [] log z next = log
continue (step ∷ steps) log z next = let rest = next (after_steps log.steps z) log.left in
    record { steps = log.steps ++ rest.steps; left = rest.left }

module _ (fitting : ℚ → Bool) (system : Equations) (T : Transformer) (reaches : Evident system T) where
  -- the raise of an unknown towards its transformer
  unfoldable pub raise_at : Vector → Item → Step
  raise_at z u = raise fitting system z u (value_at system T z u) (reaches z (edge_of system u) (row_of system u))

  -- one pass over unraised unknowns
  unfoldable pub pass : Vector → List Item → Log
  pass z [] = record { steps = []; left = [] }
  pass z (u ∷ us) = ⊎_elim (λ h. stay u (pass z us)) (λ h. go (raise_at z u) (pass (after_step (raise_at z u) z) us))
      (ext_le_or_lt (value_at system T z u) (z u.point u.row))

  -- at most n passes, until one raises nothing
  unfoldable pub passes : ℕ → Vector → List Item → Log
  passes zero z us = record { steps = []; left = us }
  passes (suc n) z us = let log = pass z us in continue log.steps log z (λ y left. passes n y left)

  -- as many passes as there are unknowns to raise are enough
  unfoldable pub growth : Vector → List Item → Log
  growth d us = passes (length us) d us

  -- the steps of the growth of a pick
  unfoldable pub grow : Vector → Pick → List Step
  grow d pick = (growth d (choices system pick)).steps
