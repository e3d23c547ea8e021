-- The cut of the unknowns that a growth raised to fractions: in order of number, and then into parts by dependence.
use Rattle.std.specs.Prelude.{◌&&◌, ◌||◌, eqb, ltb, List, [], ◌∷◌, ◌++◌, Bool, if◌then◌else◌}
use Rattle.base_numbers.specs.Rational.{ℚ}
use Rattle.flow_systems.specs.Equations.{Equations, Vector}
use Rattle.theory_validity.specs.Steps.{Item}
use Rattle.theory_transformers.specs.EdgeProblems.{transformer}
use Rattle.theory_transformers.specs.JointProblems.{Listed, is_at}
use Rattle.theory_transformers.specs.Parts.{parts}
use Rattle.theory_strategy.specs.Picks.{Pick}
use Rattle.theory_strategy.specs.Round.{rising}
use Rattle.theory_rounds.specs.Evidence.{exact_evidence}
use Rattle.theory_rounds.specs.JointItems.{listed_items}

-- whether one item's unknown comes before another's: by point and then by row
unfoldable pub comes_before : Item → Item → Bool
comes_before u v = ltb u.point v.point || (eqb u.point v.point && ltb u.row v.row)

-- an item before the first that it comes before
unfoldable pub insert_item : Item → List Item → List Item
insert_item u [] = u ∷ []
insert_item u (v ∷ vs) = if comes_before u v then u ∷ (v ∷ vs) else v ∷ insert_item u vs

-- the items in order of their unknowns
unfoldable pub in_order : List Item → List Item
in_order [] = []
in_order (u ∷ us) = insert_item u (in_order us)

-- the item of an unknown, if there is one
unfoldable pub item_for : List Item → Listed → List Item
item_for [] u = []
item_for (v ∷ vs) u = if is_at u v.point v.row then v ∷ [] else item_for vs u

-- the items of unknowns, in their order
unfoldable pub items_for : List Item → List Listed → List Item
items_for items [] = []
items_for items (u ∷ us) = item_for items u ++ items_for items us

-- the items of each part
unfoldable pub items_of_parts : List Item → List (List Listed) → List (List Item)
items_of_parts items [] = []
items_of_parts items (part ∷ more) = items_for items part ∷ items_of_parts items more

-- the cut of items in order into parts
unfoldable pub cut_items : Equations → List Item → List (List Item)
cut_items system items = items_of_parts items (parts system (listed_items items))

-- the cut of the unknowns that the growth of a pick raised to fractions
unfoldable pub exact_cut : (ℚ → Bool) → Equations → Vector → Pick → List (List Item)
exact_cut fitting system d pick = cut_items system (in_order (rising fitting system (transformer system) (exact_evidence system) d pick))
