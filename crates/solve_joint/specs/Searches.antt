-- Searches for the points to which a point leads.
use Rattle.std.specs.Prelude.{◌≡◌, ◌↔◌, ◌⊎◌, ℕ, ◌+◌, ◌<◌, ◌≤◌, Bool, true, false, cond, List, [], ◌∷◌, length, get_or}
use Rattle.std.specs.List.{sum_by}
use Rattle.base_facts.specs.Elements.{In}
use Rattle.solve_joint.specs.declared.node.Node.{Node}

-- an unknown of the list leads from a point to another
abbrev pub StepsTo : List Node → ℕ → ℕ → Type 0
StepsTo [] p s = ⊥
StepsTo (x ∷ xs) p s = ((x.point ≡ p) × (x.source ≡ s)) ⊎ StepsTo xs p s

-- for each point the points to which an unknown of the list leads from there
pub record AreSteps (points : ℕ) (nodes : List Node) (steps : List (List ℕ)) : Type 0 where
  pub size : length steps ≡ points
  pub each : (p s : ℕ) → p < points → In (get_or steps p []) s ↔ StepsTo nodes p s

-- a chain of steps from one point to another
pub data Led (steps : List (List ℕ)) : ℕ → ℕ → Type 0 where
  stays : (p : ℕ) → Led steps p p
  goes : (p q s : ℕ) → Led steps p q → In (get_or steps q []) s → Led steps p s

-- each step is to one of so many points
abbrev pub StepsWithin : ℕ → List (List ℕ) → Type 0
StepsWithin points steps = (q s : ℕ) → In (get_or steps q []) s → s < points

-- a test for each point: whether steps lead there from one of them
pub record IsReached (points : ℕ) (steps : List (List ℕ)) (p : ℕ) (row : List Bool) : Type 0 where
  pub size : length row ≡ points
  pub each : (q : ℕ) → (get_or row q false ≡ true) ↔ Led steps p q

-- how many points aren't found
abbrev pub missing : List Bool → ℕ
missing found = sum_by (λ b. cond b 0 1) found

-- points are found, and those that weren't yet are open
pub record AreFound (points : List ℕ) (found : List Bool) (open_ : List ℕ) (found' : List Bool) (open' : List ℕ) : Type 0 where
  pub size : length found' ≡ length found
  pub keeps : (q : ℕ) → get_or found q false ≡ true → get_or found' q false ≡ true
  pub finds : (q : ℕ) → In points q → get_or found' q false ≡ true
  pub only : (q : ℕ) → get_or found' q false ≡ true → (get_or found q false ≡ true) ⊎ In points q
  pub opens : (q : ℕ) → get_or found' q false ≡ true → (get_or found q false ≡ true) ⊎ In open' q
  pub stays_open : (q : ℕ) → In open_ q → In open' q
  pub opens_only : (q : ℕ) → In open' q → In open_ q ⊎ In points q
  pub fewer : missing found' + missing found' + length open' ≤ missing found + missing found + length open_
