-- The transformer of an edge and a row: the least number that bounds the values of the words that run, with evidence for it.
use Rattle.std.specs.Prelude.{◌≡◌, ℕ, ℤ, List, slice_get, Some}
use Rattle.base_numbers.specs.Rational.{ℚ, zero_ℚ, ◌≤ℚ◌, ◌<ℚ◌}
use Rattle.base_numbers.specs.Extended.{Ext, neg_inf, fin, pos_inf, ◌≤ᴱ◌}
use Rattle.flow_edges.specs.declared.edge.Edge.{Edge}
use Rattle.flow_systems.specs.Equations.{Equations, Vector}
use Rattle.theory_validity.specs.Words.{Word, lin, start_form, end_form, Falls}
use Rattle.theory_validity.specs.Steps.{Runs, end_value, Upper}

-- a word that runs, and a direction along which it goes on running with values as large as wanted
pub record Unlimited (system : Equations) (z : Vector) (edge : Edge) (row : List ℤ) : Type 0 where
  pub word : Word
  pub runs : Runs system z edge word
  pub direction : Word
  pub still : (r : ℕ) (source : List ℤ) (bound : ℚ) → slice_get system.template r ≡ Some source → z edge.from r ≡ fin bound →
      lin (start_form system.variables source) direction ≤ℚ zero_ℚ
  pub falls : Falls system.variables edge.actions direction
  pub gains : zero_ℚ <ℚ lin (end_form system.variables edge.actions row) direction

-- evidence that a number is the transformer: nothing runs; or it is an upper bound that a word attains; or values are unlimited
abbrev pub Reaches : Equations → Vector → Edge → List ℤ → Ext → Type 0
Reaches system z edge row neg_inf = (w : Word) → Runs system z edge w → ⊥
Reaches system z edge row (fin c) = Upper system z edge row (fin c) × ((w : Word) × Runs system z edge w
    × (end_value system edge row w ≡ c))
Reaches system z edge row pos_inf = Unlimited system z edge row

-- an upper bound that is at most every other
pub record IsTransformer (system : Equations) (z : Vector) (edge : Edge) (row : List ℤ) (number : Ext) : Type 0 where
  pub upper : Upper system z edge row number
  pub least : (other : Ext) → Upper system z edge row other → number ≤ᴱ other
