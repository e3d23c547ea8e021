-- The actions of all edges, edge by edge.
use Rattle.std.proofs.Common.{◌≡◌, ℕ, ◌+◌, ◌-◌, ◌<◌, ◌≤◌, true, false, List, [], ◌∷◌, length, arith}
use Rattle.std.specs.List.{sum_by}
use Rattle.std.proofs.lemmas.Bool.{lt-ltb, le-ltb}
use Rattle.std.proofs.lemmas.List.Sums.{sum_by-cons}
use Rattle.flow_edges.specs.declared.edge.Edge.{Edge}
use Rattle.flow_edges.specs.declared.limits.TheConstants.{MOST_ALL_ACTIONS}
use Rattle.flow_edges.specs.Faults.{action_count, has_many_actions}

-- edges that have been counted, and how many more actions there may be
pub record IsLeft (all rest : List Edge) (left : ℕ) : Type 0 where
  -- all actions and those that there may be more are as many as there may be and those of the edges to come
  pub sum : sum_by action_count all + left ≡ MOST_ALL_ACTIONS + sum_by action_count rest

-- before the first edge there may be as many as the limit
pub left_first : (all : List Edge) → IsLeft all all MOST_ALL_ACTIONS
left_first all = record { sum = omega arith }

-- behind an edge there may be as many fewer as it has
pub left_more : (all : List Edge) (e : Edge) (rest : List Edge) (left count after : ℕ) → count ≡ length e.actions → count ≤ left
    → after ≡ left - count → IsLeft all (e ∷ rest) left → IsLeft all rest after
left_more all e rest left count after c l f h = record { sum = let s = h.sum in omega (arith, sum_by-cons action_count e rest) }

-- an edge that has more than there may be makes them too many
pub left_passed : (all : List Edge) (e : Edge) (rest : List Edge) (left count : ℕ) → count ≡ length e.actions → left < count
    → IsLeft all (e ∷ rest) left → has_many_actions all ≡ true
left_passed all e rest left count c l h =
    let s = h.sum in
    lt-ltb MOST_ALL_ACTIONS (sum_by action_count all) (omega (arith, sum_by-cons action_count e rest))

-- behind the last edge they aren't too many
pub left_last : (all : List Edge) (left : ℕ) → IsLeft all [] left → has_many_actions all ≡ false
left_last all left h = let s = h.sum in le-ltb MOST_ALL_ACTIONS (sum_by action_count all) (omega arith)
