-- The turns of a round over a cut of its raised unknowns, from the joint problem's outcomes.
use Rattle.std.specs.Prelude.{◌≡◌, ℕ, zero, suc, ◌<◌, ℤ, List, [], ◌∷◌, ◌++◌, length, slice_get, Some, Bool}
use Rattle.std.proofs.Common.{⊎_elim}
use Rattle.base_facts.specs.Elements.{In}
use Rattle.base_numbers.specs.Rational.{ℚ, zero_ℚ, ◌≤ℚ◌, ◌<ℚ◌}
use Rattle.base_numbers.specs.Extended.{fin, ◌<ᴱ◌, Ext, neg_inf, pos_inf}
use Rattle.flow_systems.specs.Equations.{Equations, Vector}
use Rattle.theory_validity.specs.Words.{lin, start_form, end_form, Falls}
use Rattle.theory_validity.specs.Steps.{Runs, Item, Step, Jump, Ray, edge_of, row_of, put, new_value, after_step, Unnamed, Distinct, Sized}
use Rattle.theory_validity.specs.Steps.{item_value, word}
use Rattle.theory_validity.specs.Certificates.{after_steps}
use Rattle.theory_validity.proofs.steps.Puts.{named_or_not}
use Rattle.theory_strategy.specs.Picks.{Pick, Transformer, value_at, Picks}
use Rattle.theory_strategy.specs.Growth.{Evident, grow, items_of}

-- an item for the same unknown, edge and low word
pub record SameItem (u v : Item) : Type 0 where
  pub point : u.point ≡ v.point
  pub row : u.row ≡ v.row
  pub edge : u.edge ≡ v.edge
  pub low : u.low ≡ v.low

-- a list of picked unknowns, each with a finite bound that its transformer exceeds
pub record ListCondition (system : Equations) (T : Transformer) (pick : Pick) (b : Vector) (list : List Item) : Type 0 where
  pub distinct : Distinct list
  pub picked : (u : Item) → In list u → Picks pick u
  pub finite : (u : Item) → In list u → (c : ℚ) × (b u.point u.row ≡ fin c)
  pub exceeds : (u : Item) → In list u → b u.point u.row <ᴱ value_at system T b u

-- the joint problem's outcome: a point gives each unknown a high word and a number, a ray gives some a direction and a rate
pub data Outcome : Type 0 where
  Point : List Item → Outcome
  Rays : List Item → Outcome

-- a point's items: the list's unknowns; the words reach the numbers at the point, where the numbers are the transformers
pub record PointFacts (system : Equations) (T : Transformer) (b : Vector) (list items : List Item) : Type 0 where
  pub distinct : Distinct items
  pub listed : (v : Item) → In items v → (u : Item) × In list u × SameItem u v
  pub covers : (u : Item) → In list u → (v : Item) × In items v × SameItem u v
  pub rises : (v : Item) → In items v → b v.point v.row <ᴱ fin v.number
  pub size : (v : Item) → In items v → Sized system v v.second
  pub runs : (v : Item) → In items v → Runs system (put (new_value Jump) items b) (edge_of system v) (word v.second)
  pub reaches : (v : Item) → In items v → v.number ≤ℚ item_value system v (word v.second)
  pub same : (v : Item) → In items v → value_at system T (put (new_value Jump) items b) v ≡ fin v.number

-- a ray's items: some of the list's unknowns; the directions meet the tests of a ray step
pub record RayFacts (system : Equations) (b : Vector) (list items : List Item) : Type 0 where
  pub distinct : Distinct items
  pub listed : (v : Item) → In items v → (u : Item) × In list u × SameItem u v
  pub first : Item
  pub some : In items first
  pub size : (v : Item) → In items v → Sized system v v.second
  pub rate : (v : Item) → In items v → zero_ℚ <ℚ v.number
  pub named : (v : Item) → In items v → (other : Item) → In items other → other.point ≡ (edge_of system v).from →
      lin (start_form system.variables (row_of system other)) (word v.second) ≤ℚ other.number
  pub others : (v : Item) → In items v → (r : ℕ) (row : List ℤ) (bound : ℚ) → slice_get system.template r ≡ Some row
      → Unnamed items (edge_of system v).from r →
      b (edge_of system v).from r ≡ fin bound → lin (start_form system.variables row) (word v.second) ≤ℚ zero_ℚ
  pub falls : (v : Item) → In items v → Falls system.variables (edge_of system v).actions (word v.second)
  pub gains : (v : Item) → In items v → v.number ≤ℚ lin (end_form system.variables (edge_of system v).actions (row_of system v))
      (word v.second)

-- the facts of an outcome
abbrev pub OutcomeFacts : Equations → Transformer → Vector → List Item → Outcome → Type 0
OutcomeFacts system T b list (Point items) = PointFacts system T b list items
OutcomeFacts system T b list (Rays items) = RayFacts system b list items

-- the unknowns of a list that no item names
unfoldable pub without : List Item → List Item → List Item
without items [] = []
without items (u ∷ us) = ⊎_elim (λ h. without items us) (λ h. u ∷ without items us) (named_or_not items u.point u.row)

-- the step of a turn, and the steps of the turns after it
unfoldable pub turn : Outcome → Vector → List Item → (Vector → List Item → List Step) → List Step
turn (Point items) b list next = record { kind = Jump; items = items } ∷ []
turn (Rays items) b list next = record { kind = Ray; items = items } ∷ next (after_step (record { kind = Ray; items = items }) b)
    (without items list)

module _ (joint : Vector → List Item → Outcome) where
  -- the turns of a part, at most n
  unfoldable pub part : ℕ → Vector → List Item → List Step
  part zero b list = []
  part (suc n) b [] = []
  part (suc n) b (u ∷ us) = turn (joint b (u ∷ us)) b (u ∷ us) (λ c rest. part n c rest)

  -- the turns of the parts in order
  unfoldable pub turns : Vector → List (List Item) → List Step
  turns b [] = []
  turns b (list ∷ lists) = let steps = part (length list) b list in steps ++ turns (after_steps steps b) lists

-- the members of all parts
unfoldable pub members : List (List Item) → List Item
members [] = []
members (list ∷ lists) = list ++ members lists

-- each part's unknowns are distinct, are in no later part, and have no source unknown in a later part
abbrev pub Admissible : Equations → List (List Item) → Type 0
Admissible system [] = Unit {0}
Admissible system (list ∷ lists) =
    Distinct list × ((u : Item) → In list u → Unnamed (members lists) u.point u.row)
    × ((u : Item) → In list u → (r : ℕ) → r < length system.template → Unnamed (members lists) (edge_of system u).from r)
    × Admissible system lists

-- an item in front where its number is finite
unfoldable pub keep : Ext → Item → List Item → List Item
keep neg_inf u us = us
keep (fin c) u us = u ∷ us
keep pos_inf u us = us

-- the items whose unknowns are finite at a vector
unfoldable pub finite_items : Vector → List Item → List Item
finite_items z [] = []
finite_items z (u ∷ us) = keep (z u.point u.row) u (finite_items z us)

module _ (fitting : ℚ → Bool) (system : Equations) (T : Transformer) (reaches : Evident system T) where
  -- the unknowns that the growth raised to fractions, in order of raises, with their low words
  unfoldable pub rising : Vector → Pick → List Item
  rising d pick = let steps = grow fitting system T reaches d pick in finite_items (after_steps steps d) (items_of steps)

  module _ (joint : Pick → Vector → List Item → Outcome) (cut : Vector → Pick → List (List Item)) where
    -- the steps of a round, and the vector to which they lead
    unfoldable pub round_steps : Vector → Pick → List Step
    round_steps d pick = let steps = grow fitting system T reaches d pick in steps ++ turns (joint pick) (after_steps steps d) (cut d pick)

    -- the vector at its end
    unfoldable pub round : Vector → Pick → Vector
    round d pick = let steps = grow fitting system T reaches d pick in
        after_steps (turns (joint pick) (after_steps steps d) (cut d pick)) (after_steps steps d)
