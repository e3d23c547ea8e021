-- Parts that wait until none of the unknowns left on which they lean is outside of them.
use Rattle.std.specs.Prelude.{◌≡◌, ◌⊎◌, ℕ, ◌<◌, ◌==◌, ◌&&◌, not, Bool, true, false, List, [], map, length, get_or}
use Rattle.std.specs.List.{filter, range_with_len}
use Rattle.base_facts.specs.Elements.{In}
use Rattle.solve_joint.specs.declared.node.Node.{Node}
use Rattle.solve_joint.specs.Classes.{node_at}

-- the unknowns that aren't gone
abbrev pub left_of : List Node → List Bool → List Node
left_of nodes gone = map (node_at nodes) (filter (λ i. not (get_or gone i false)) (range_with_len 0 (length nodes)))

-- an unknown isn't gone, and its part is another one
abbrev pub is_outside : List ℕ → List Bool → ℕ → ℕ → Bool
is_outside classes gone head i = not (get_or gone i false) && not (get_or classes i 0 == head)

-- an unknown left outside of a part stands at the source of a member's picked edge
pub record Blocks (nodes : List Node) (classes : List ℕ) (gone : List Bool) (head i : ℕ) : Type 0 where
  pub within : i < length nodes
  pub outside : is_outside classes gone head i ≡ true
  pub member : ℕ
  pub is_member : member < length nodes
  pub of_part : get_or classes member 0 ≡ head
  pub leans : (node_at nodes member).source ≡ (node_at nodes i).point

-- the place is that by which a part is known
pub record IsHead (nodes : List Node) (classes : List ℕ) (k : ℕ) : Type 0 where
  pub within : k < length nodes
  pub itself : get_or classes k 0 ≡ k

-- parts that are ready, of which none is gone and that nothing blocks, and for each unknown parts that are noted there
pub record AreWaiting (nodes : List Node) (classes : List ℕ) (gone : List Bool) (ready : List ℕ) (noted : List (List ℕ)) : Type 0 where
  pub size : length noted ≡ length nodes
  pub ready_heads : (k : ℕ) → In ready k → IsHead nodes classes k
  pub ready_left : (k : ℕ) → In ready k → get_or gone k false ≡ false
  pub ready_free : (k i : ℕ) → In ready k → Blocks nodes classes gone k i → ⊥
  pub noted_heads : (i k : ℕ) → In (get_or noted i []) k → IsHead nodes classes k

-- what was ready or noted still is
pub record AreKept (ready : List ℕ) (noted : List (List ℕ)) (ready' : List ℕ) (noted' : List (List ℕ)) : Type 0 where
  pub still_ready : (k : ℕ) → In ready k → In ready' k
  pub still_noted : (i k : ℕ) → In (get_or noted i []) k → In (get_or noted' i []) k

-- a part is ready, or it is noted at an unknown that blocks it
abbrev pub IsPlaced : List Node → List ℕ → List Bool → List ℕ → List (List ℕ) → ℕ → Type 0
IsPlaced nodes classes gone ready noted k = In ready k ⊎ ((i : ℕ) × Blocks nodes classes gone k i × In (get_or noted i []) k)

-- each part that isn't gone is
abbrev pub AllPlaced : List Node → List ℕ → List Bool → List ℕ → List (List ℕ) → Type 0
AllPlaced nodes classes gone ready noted = (k : ℕ) → IsHead nodes classes k → get_or gone k false ≡ false
    → IsPlaced nodes classes gone ready noted k

-- the same but for parts that are noted at unknowns of a list
abbrev pub AllPlacedBut : List Node → List ℕ → List Bool → List ℕ → List (List ℕ) → List ℕ → Type 0
AllPlacedBut nodes classes gone ready noted places = (k : ℕ) → IsHead nodes classes k → get_or gone k false ≡ false
    → IsPlaced nodes classes gone ready noted k ⊎ ((i : ℕ) × In places i × In (get_or noted i []) k)
