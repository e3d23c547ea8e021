-- The next pick: changed at exactly the unknowns that some edge's transformer exceeds, to an edge that a choice function takes among those.
use Rattle.std.specs.Prelude.{ℕ, suc, eqb, ltb, List, [], ◌∷◌, length, get_or, if◌then◌else◌, Option, Some, None}
use Rattle.std.proofs.Common.{⊎_elim}
use Rattle.base_numbers.proofs.extended.ExtendedLaws.{ext_le_or_lt}
use Rattle.flow_edges.specs.declared.edge.Edge.{Edge}
use Rattle.flow_systems.specs.Equations.{Equations, Vector}
use Rattle.theory_strategy.specs.Picks.{Pick, Transformer}
use Rattle.theory_strategy.specs.PickCount.{Unknown, unknowns}

module _ (system : Equations) (T : Transformer) (d : Vector) where
  -- the numbers from k on of the edges into a point whose transformers exceed the bound of a row
  unfoldable pub exceeding : ℕ → ℕ → ℕ → List Edge → List ℕ
  exceeding p r k [] = []
  exceeding p r k (edge ∷ edges) =
      if eqb edge.to p
      then ⊎_elim (λ h. exceeding p r (suc k) edges) (λ h. k ∷ exceeding p r (suc k) edges)
      (ext_le_or_lt (T d edge (get_or system.template r [])) (d p r))
      else exceeding p r (suc k) edges

  -- the offers at an unknown
  unfoldable pub offers : ℕ → ℕ → List ℕ
  offers p r = if ltb r (length system.template) then exceeding p r 0 system.edges else []

  -- the edge that is taken among offers, else the old one
  unfoldable pub taken : (ℕ → List ℕ → ℕ) → List ℕ → Option ℕ → Option ℕ
  taken choose [] old = old
  taken choose (k ∷ ks) old = Some (choose k ks)

  -- the pick with every offer taken
  unfoldable pub changed_pick : (ℕ → ℕ → ℕ → List ℕ → ℕ) → Pick → Pick
  changed_pick choose pick p r = taken (choose p r) (offers p r) (pick p r)

  -- a pick where there is an offer, else the rest's answer
  unfoldable pub if_offered : List ℕ → Pick → Option Pick → Option Pick
  if_offered [] better rest = rest
  if_offered (k ∷ ks) better rest = Some better

  -- the changed pick, or none where no unknown of the list has an offer
  unfoldable pub next_pick : Pick → List Unknown → Option Pick
  next_pick better [] = None
  next_pick better (u ∷ us) = if_offered (offers u.point u.row) better (next_pick better us)

  -- the next pick of a policy
  unfoldable pub policy_pick : (ℕ → ℕ → ℕ → List ℕ → ℕ) → Pick → Option Pick
  policy_pick choose pick = next_pick (changed_pick choose pick) (unknowns system)
