-- Items of steps as listed unknowns.
use Rattle.std.proofs.Common.{◌≡◌, inl, inr, ⊎_elim, ℕ, List, [], ◌∷◌, refl, ap, subst}
use Rattle.base_facts.specs.Elements.{In}
use Rattle.base_numbers.specs.Extended.{◌<ᴱ◌}
use Rattle.flow_systems.specs.Equations.{Equations, Vector}
use Rattle.theory_validity.specs.Steps.{Item, names, edge_of, row_of, Unnamed, Distinct}
use Rattle.theory_transformers.specs.EdgeProblems.{transformer}
use Rattle.theory_transformers.specs.JointProblems.{Listed, is_at, picked, own_row, Rising, AllRising}
use Rattle.theory_transformers.specs.JointPoints.{Unlisted, Distinct as Apart}
use Rattle.theory_transformers.proofs.joint_problems.JointLists.{all_rising}
use Rattle.theory_strategy.specs.Picks.{Pick}
use Rattle.theory_strategy.specs.Round.{ListCondition}
use Rattle.theory_rounds.specs.JointItems.{listed_item, listed_items}

-- an item's unknown is listed
pub in_listed : (list : List Item) (u : Item) → In list u → In (listed_items list) (listed_item u)
unfolding listed_items
in_listed [] u m = absurd m
in_listed (v ∷ list) u m = ⊎_elim (λ e. inl (ap listed_item e)) (λ k. inr (in_listed list u k)) m

-- and each listed unknown is an item's
pub of_listed : (list : List Item) (v : Listed) → In (listed_items list) v → (u : Item) × In list u × (listed_item u ≡ v)
unfolding listed_items
of_listed [] v m = absurd m
of_listed (u ∷ list) v m = ⊎_elim (λ e. (u, inl refl, e)) (λ k. let r = of_listed list v k in (r.0, inr r.1, r.2)) m

-- what no item names isn't listed
unlisted_items : (list : List Item) (p r : ℕ) → Unnamed list p r → Unlisted (listed_items list) p r
unfolding listed_items names is_at
unlisted_items [] p r n = tt
unlisted_items (u ∷ list) p r n = (n.0, unlisted_items list p r n.1)

-- and the other way round
pub unnamed_items : (list : List Item) (p r : ℕ) → Unlisted (listed_items list) p r → Unnamed list p r
unfolding listed_items names is_at
unnamed_items [] p r n = tt
unnamed_items (u ∷ list) p r n = (n.0, unnamed_items list p r n.1)

-- the unknowns of distinct items are distinct
pub apart_items : (list : List Item) → Distinct list → Apart (listed_items list)
unfolding listed_items
apart_items [] d = tt
apart_items (u ∷ list) d = (unlisted_items list u.point u.row d.0, apart_items list d.1)

-- and the other way round
pub distinct_items : (list : List Item) → Apart (listed_items list) → Distinct list
unfolding listed_items
distinct_items [] d = tt
distinct_items (u ∷ list) d = (unnamed_items list u.point u.row d.0, distinct_items list d.1)

-- the list condition of items is that of their unknowns
pub rising_items : (system : Equations) (pick : Pick) (b : Vector) (list : List Item)
    → ListCondition system (transformer system) pick b list → AllRising system b (listed_items list)
unfolding edge_of row_of picked own_row
rising_items system pick b list h = all_rising system b (listed_items list)
    (λ v m. let u = of_listed list v m in subst (Rising system b) u.2 (rises u.0 u.1))
  where
    rises : (u : Item) → In list u → Rising system b (listed_item u)
    rises u m =
        let f = h.finite u m in
        record {
          bound = f.0;
          finite = f.1;
          above = subst (λ s. s <ᴱ transformer system b (edge_of system u) (row_of system u)) f.1
              (h.exceeds u m);
        }
