-- What is found in a list, or kept of it, is in it.
use Rattle.std.proofs.Common.{◌≡◌, ◌⊎◌, inl, inr, ⊎_elim, cond, Bool, true, false, List, [], ◌∷◌, Some}
use Rattle.std.specs.Prelude.{find}
use Rattle.std.specs.List.{filter}
use Rattle.base_facts.specs.Elements.{In}
use Rattle.solve_joint.specs.declared.node.Node.{Node}

-- an unknown that is found is in the list
pub find_in : (f : Node → Bool) (xs : List Node) (x : Node) → find f xs ≡ Some x → In xs x
find_in f [] x e = cc
find_in f (y ∷ xs) x e = by (f y) e (λ k. find_in f xs x k)
  where
    by : (b : Bool) → cond b (Some y) (find f xs) ≡ Some x → (find f xs ≡ Some x → In xs x) → (y ≡ x) ⊎ In xs x
    by true k t = inl cc
    by false k t = inr (t k)

-- an unknown that is kept is in the list
pub filter_in : (f : Node → Bool) (xs : List Node) (x : Node) → In (filter f xs) x → In xs x
filter_in f [] x m = m
filter_in f (y ∷ xs) x m = by (f y) m (λ k. filter_in f xs x k)
  where
    by : (b : Bool) → In (cond b (y ∷ filter f xs) (filter f xs)) x → (In (filter f xs) x → In xs x) → (y ≡ x) ⊎ In xs x
    by true k t = ⊎_elim (λ e. inl e) (λ n. inr (t n)) k
    by false k t = inr (t k)
