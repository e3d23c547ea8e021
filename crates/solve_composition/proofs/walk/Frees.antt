-- How many free assignments are left.
use Rattle.std.proofs.Common.{◌≡◌, ◌∙◌, ℕ, ◌+◌, ◌<◌, ◌≤◌, List, [], ◌∷◌, length, get_or, drop, ap, sym, refl, arith}
use Rattle.std.proofs.lemmas.List.{drop_more, drop_all}
use Rattle.flow_edges.specs.declared.edge.Action.{Action}
use Rattle.flow_edges.specs.declared.edge.Action.TheVariants.{Guard, Assign, Havoc, Check}
use Rattle.theory_validity.specs.Words.{free_count}

-- the free assignments of a list are those of its first action and of the rest
frees_cons : (action : Action) (rest : List Action) → free_count (action ∷ rest) ≡ free_count (action ∷ []) + free_count rest
unfolding free_count
frees_cons (Guard form) rest = let e : free_count rest ≡ 0 + free_count rest = omega arith in e
frees_cons (Assign var form) rest = let e : free_count rest ≡ 0 + free_count rest = omega arith in e
frees_cons (Havoc var) rest = omega arith
frees_cons (Check about) rest = let e : free_count rest ≡ 0 + free_count rest = omega arith in e

-- the free assignments left are those of the action at hand and of the actions behind it
pub frees_left : (actions : List Action) (i : ℕ) (action : Action) → i < length actions → action ≡ get_or actions i action
    → free_count (drop i actions) ≡ free_count (action ∷ []) + free_count (drop (i + 1) actions)
frees_left actions i action l e = ap free_count (drop_more actions i action l ∙ ap (λ a. a ∷ drop (i + 1) actions) (sym e))
    ∙ frees_cons action (drop (i + 1) actions)

-- a free assignment counts one
pub frees-havoc : (var : ℕ) → free_count (Havoc var ∷ []) ≡ 1
unfolding free_count
frees-havoc var = refl

-- an action that is no free assignment counts none
pub frees-other : (action : Action) → ((var : ℕ) → ¬ (action ≡ Havoc var)) → free_count (action ∷ []) ≡ 0
unfolding free_count
frees-other (Guard form) n = refl
frees-other (Assign var form) n = refl
frees-other (Havoc var) n = absurd (n var refl)
frees-other (Check about) n = refl

-- behind the last action no free assignment is left
pub frees_none : (actions : List Action) (i : ℕ) → length actions ≤ i → free_count (drop i actions) ≡ 0
unfolding free_count
frees_none actions i l = ap free_count (drop_all i actions l)
