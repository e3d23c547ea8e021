-- The laws of picks and rounds, for any transformers that have their evidence.
use Rattle.std.specs.Prelude.{◌≡◌, ℕ, ◌<◌, ◌≤◌, ℤ, List, length}
use Rattle.base_numbers.specs.Extended.{neg_inf, ◌<ᴱ◌}
use Rattle.flow_edges.specs.declared.edge.Edge.{Edge}
use Rattle.flow_systems.specs.Equations.{Equations, Vector}
use Rattle.theory_validity.specs.Steps.{Below, Item, Step, edge_of}
use Rattle.theory_validity.specs.Transformers.{Reaches}
use Rattle.theory_strategy.specs.Picks.{Pick, Transformer, value_at}
use Rattle.theory_strategy.specs.PickCount.{pick_count}
use Rattle.theory_strategy.specs.Rounds.{Rounds}

-- each value has its evidence
abbrev pub IsEvident : Equations → Transformer → Type 0
IsEvident system T = (z : Vector) (edge : Edge) (row : List ℤ) → Reaches system z edge row (T z edge row)

-- flatness: a transformer that did not rise with some bounds at its source does not rise whatever those become
abbrev pub TransformersAreFlat : Type 0
TransformersAreFlat =
    (system : Equations) (T : Transformer) → IsEvident system T → (d e y : Vector) (u : Item) → Below system d e → Below system e y →
    ((r : ℕ) → r < length system.template → e (edge_of system u).from r ≡ d (edge_of system u).from r →
    y (edge_of system u).from r ≡ d (edge_of system u).from r) →
    neg_inf <ᴱ value_at system T d u → value_at system T d u ≡ value_at system T e u → value_at system T y u ≡ value_at system T d u

-- no pick comes twice in a chain of rounds
abbrev pub NoPickTwice : Type 0
NoPickTwice =
    (system : Equations) (T : Transformer) → IsEvident system T → (n : ℕ) (d z : ℕ → Vector) (pick : ℕ → Pick) (steps : ℕ → List Step) →
    Rounds system T n d z pick steps →
    (i j : ℕ) → i < j → j ≤ n → ((p r : ℕ) → pick i p r ≡ pick j p r) → ⊥

-- there are fewer rounds than picks
abbrev pub FewerRoundsThanPicks : Type 0
FewerRoundsThanPicks =
    (system : Equations) (T : Transformer) → IsEvident system T → (n : ℕ) (d z : ℕ → Vector) (pick : ℕ → Pick) (steps : ℕ → List Step) →
    Rounds system T n d z pick steps →
    n < pick_count system
