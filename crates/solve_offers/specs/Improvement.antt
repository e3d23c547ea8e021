-- What an improvement makes of a pick.
use Rattle.std.specs.Prelude.{◌≡◌, ◌⊎◌, ℕ, suc, ◌≤◌, ◌<◌, ◌+◌, ◌*◌, ◌/◌, ◌%◌, eqb, ltb, Bool, true, false, ℤ}
use Rattle.std.specs.Prelude.{List, [], ◌∷◌, length, map, get_or, slice_get, if◌then◌else◌, Option, Some, None, Contains}
use Rattle.base_facts.specs.Elements.{In}
use Rattle.base_numbers.specs.Extended.{◌≤ᴱ◌}
use Rattle.base_fractions.specs.Extended.{extended}
use Rattle.flow_edges.specs.declared.edge.Edge.{Edge}
use Rattle.flow_systems.specs.Equations.{Equations, Vector}
use Rattle.theory_validity.specs.Certificates.{edges_into}
use Rattle.theory_strategy.specs.Picks.{Pick, Transformer}
use Rattle.theory_strategy.specs.Policy.{offers, policy_pick}
use Rattle.theory_transformers.specs.EdgeProblems.{transformer}
use Rattle.solve_offers.specs.declared.offer.Offer.{Offer}

-- the pick of a list, where the unknown of point p and row r has the number p * rows + r
abbrev pub pick_of : ℕ → List (Option ℕ) → Pick
pick_of rows list p r = if ltb r rows then get_or list (p * rows + r) None else None

-- the numbers from k on of the edges that end at a point
unfoldable pub numbers_into : ℕ → ℕ → List Edge → List ℕ
numbers_into p k [] = []
numbers_into p k (edge ∷ edges) = if eqb edge.to p then k ∷ numbers_into p (suc k) edges else numbers_into p (suc k) edges

-- what an unknown is offered: the edges into its point in order of number, each with its transformer of the unknown's row
pub record IsOffer (system : Equations) (T : Transformer) (z : Vector) (p r : ℕ) (offer : Offer) : Type 0 where
  pub bound : extended offer.bound ≡ z p r
  pub edges : offer.edges ≡ numbers_into p 0 system.edges
  pub values : offer.values ≡ map (λ edge. T z edge (get_or system.template r [])) (edges_into p system.edges)

-- the edge at a position that a policy may answer of an unknown's offer
pub record Chosen (system : Equations) (T : Transformer) (z : Vector) (policy : Offer → ℕ → Type 0) (p r edge : ℕ) : Type 0 where
  pub offer : Offer
  pub is_offer : IsOffer system T z p r offer
  pub position : ℕ
  pub answers : policy offer position
  pub is_edge : edge ≡ get_or offer.edges position 0

-- a choice function takes one of the listed edges, and of each unknown that some edge's transformer exceeds one that a policy may answer
pub record IsChoice (system : Equations) (T : Transformer) (z : Vector) (policy : Offer → ℕ → Type 0) (choose : ℕ → ℕ → ℕ → List ℕ → ℕ) :
    Type 0 where
  pub among : (p r k : ℕ) (ks : List ℕ) → In (k ∷ ks) (choose p r k ks)
  pub chosen : (p r k : ℕ) (ks : List ℕ) → offers system T z p r ≡ k ∷ ks → Chosen system T z policy p r (choose p r k ks)

-- the next pick by a choice function of a policy; none where no transformer exceeds its bound
pub record IsNext (system : Equations) (T : Transformer) (z : Vector) (policy : Offer → ℕ → Type 0) (old : Pick) (next : Option Pick) :
    Type 0 where
  pub choose : ℕ → ℕ → ℕ → List ℕ → ℕ
  pub is_choice : IsChoice system T z policy choose
  pub same : policy_pick system T z choose old ≡ next

-- no transformer of an edge exceeds the bound at the edge's end
abbrev pub NoneExceeds : Equations → Transformer → Vector → Type 0
NoneExceeds system T z = (edge : Edge) (r : ℕ) (row : List ℤ) → Contains system.edges edge → slice_get system.template r ≡ Some row →
    T z edge row ≤ᴱ z edge.to r

-- ---- on the way
module _ (system : Equations) (T : Transformer) (z : Vector) (policy : Offer → ℕ → Type 0) where
  -- what becomes of an unknown's edge where these edges exceed the bound
  abbrev pub Becomes : ℕ → ℕ → List ℕ → Option ℕ → Option ℕ → Type 0
  Becomes p r [] before after = after ≡ before
  Becomes p r (k ∷ ks) before after = (edge : ℕ) × Chosen system T z policy p r edge × In (k ∷ ks) edge × (after ≡ Some edge)

-- whether something is listed
abbrev pub IsListed : List ℕ → Bool → Type 0
IsListed [] offered = offered ≡ false
IsListed (k ∷ ks) offered = offered ≡ true

-- what becomes of the edge of the unknown of a number, and whether an edge is offered there
pub record UnknownBecomes (system : Equations) (z : Vector) (policy : Offer → ℕ → Type 0) (u : ℕ) (before after : Option ℕ)
    (offered : Bool) : Type 0 where
  pub becomes : Becomes system (transformer system) z policy (u / length system.template) (u % length system.template)
      (offers system (transformer system) z (u / length system.template) (u % length system.template)) before after
  pub told : IsListed (offers system (transformer system) z (u / length system.template) (u % length system.template)) offered

-- n unknowns from a first one on have their next edges and all others their old ones, and whether one of them was offered any
pub record AreImproved (system : Equations) (z : Vector) (policy : Offer → ℕ → Type 0) (first n : ℕ) (old new : List (Option ℕ))
    (improved : Bool) : Type 0 where
  pub each : (k : ℕ) → first ≤ k → k < first + n → (offered : Bool)
      × UnknownBecomes system z policy k (get_or old k None) (get_or new k None) offered × (offered ≡ true → improved ≡ true)
  pub others : (k : ℕ) → (k < first) ⊎ (first + n ≤ k) → get_or new k None ≡ get_or old k None
  pub some : improved ≡ true → (k : ℕ) × (first ≤ k) × (k < first + n) × IsListed
      (offers system (transformer system) z (k / length system.template) (k % length system.template)) true

-- the next pick where there was an improvement
abbrev pub next_pick : Bool → List (Option ℕ) → Option (List (Option ℕ))
next_pick improved pick = if improved then Some pick else None
