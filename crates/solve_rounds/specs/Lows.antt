-- The raises of a growth, found by the numbers of their unknowns.
use Rattle.std.specs.Prelude.{◌≡◌, ℕ, ◌<◌, List, [], ◌∷◌, length, map, get_or, Option, Some, None}
use Rattle.flow_systems.specs.declared.trace.Trace.{Trace}
use Rattle.theory_validity.specs.Steps.{Item}
use Rattle.cert_types.specs.declared.step.Step.{Step as CodeStep}
use Rattle.cert_types.specs.declared.step.Step.TheVariants.{Plain, Jump, Ray}
use Rattle.cert_types.specs.Certificates.{plain_item, jump_item, ray_item}
use Rattle.theory_strategy.specs.Picks.{choice}

-- a trace without values
abbrev pub no_trace : Trace
no_trace = record { start = []; free = [] }

-- a step without items
abbrev pub no_step : CodeStep
no_step = Plain []

-- a step has an item
abbrev pub IsFilled : CodeStep → Type 0
IsFilled (Plain items) = 0 < length items
IsFilled (Jump items) = 0 < length items
IsFilled (Ray items) = 0 < length items

-- the unknown of a step's first item
abbrev pub unknown_in : CodeStep → ℕ
unknown_in (Plain []) = 0
unknown_in (Plain (item ∷ items)) = item.unknown
unknown_in (Jump []) = 0
unknown_in (Jump (item ∷ items)) = item.unknown
unknown_in (Ray []) = 0
unknown_in (Ray (item ∷ items)) = item.unknown

-- its edge
abbrev pub edge_in : CodeStep → ℕ
edge_in (Plain []) = 0
edge_in (Plain (item ∷ items)) = item.edge
edge_in (Jump []) = 0
edge_in (Jump (item ∷ items)) = item.edge
edge_in (Ray []) = 0
edge_in (Ray (item ∷ items)) = item.edge

-- its low trace
abbrev pub low_in : CodeStep → Trace
low_in (Plain []) = no_trace
low_in (Plain (item ∷ items)) = item.low
low_in (Jump []) = no_trace
low_in (Jump (item ∷ items)) = item.low
low_in (Ray []) = no_trace
low_in (Ray (item ∷ items)) = item.low

-- the item itself, as the theory has it
abbrev pub item_in : ℕ → CodeStep → Item
item_in rows (Plain []) = choice 0 0 0
item_in rows (Plain (item ∷ items)) = plain_item rows item
item_in rows (Jump []) = choice 0 0 0
item_in rows (Jump (item ∷ items)) = jump_item rows item
item_in rows (Ray []) = choice 0 0 0
item_in rows (Ray (item ∷ items)) = ray_item rows item

-- each step has an item, and no two have one unknown
pub record AreRaises (count : ℕ) (raises : List CodeStep) : Type 0 where
  pub filled : (k : ℕ) → k < length raises → IsFilled (get_or raises k no_step)
  pub within : (k : ℕ) → k < length raises → unknown_in (get_or raises k no_step) < count
  pub apart : (j k : ℕ) → j < length raises → k < length raises → unknown_in (get_or raises j no_step)
      ≡ unknown_in (get_or raises k no_step) → j ≡ k

-- at each unknown of a step stands the step's number
abbrev pub ArePlaces : List CodeStep → List ℕ → ℕ → Type 0
ArePlaces raises places n = (k : ℕ) → k < n → get_or places (unknown_in (get_or raises k no_step)) 0 ≡ k

-- the raise of the unknown of a number
abbrev pub raise_at : List CodeStep → List ℕ → ℕ → CodeStep
raise_at raises places u = get_or raises (get_or places u 0) no_step

-- an unknown is raised by the step at its place
pub record IsRaised (raises : List CodeStep) (places : List ℕ) (u : ℕ) : Type 0 where
  pub within : u < length places
  pub place : get_or places u 0 < length raises
  pub filled : IsFilled (raise_at raises places u)
  pub unknown : unknown_in (raise_at raises places u) ≡ u

-- each of a list is
abbrev pub AreRaised : List CodeStep → List ℕ → List ℕ → Type 0
AreRaised raises places list = (k : ℕ) → k < length list → IsRaised raises places (get_or list k 0)

-- each by its picked edge
abbrev pub ArePickedRaises : List (Option ℕ) → List CodeStep → List ℕ → List ℕ → Type 0
ArePickedRaises pick raises places list =
    (k : ℕ) → k < length list → get_or pick (get_or list k 0) None ≡ Some (edge_in (raise_at raises places (get_or list k 0)))

-- the items of a list's raises, in order
abbrev pub items_at : ℕ → List CodeStep → List ℕ → List ℕ → List Item
items_at rows raises places list = map (λ u. item_in rows (raise_at raises places u)) list
