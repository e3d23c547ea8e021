-- A raise towards a transformer is a valid step with one item.
use Rattle.std.proofs.Common.{◌≡◌, ◌∙◌, inl, inr, ⊎_elim, suc, List, [], ◌∷◌, length, refl, sym, ap, subst, arith}
use Rattle.std.proofs.lemmas.Option.{slice_get-get_or}
use Rattle.base_numbers.proofs.vector.Vectors.{length-scale_vec}
use Rattle.base_facts.specs.Elements.{In}
use Rattle.base_numbers.specs.Rational.{ℚ, zero_ℚ, ◌≤ℚ◌, ◌<ℚ◌}
use Rattle.base_numbers.specs.Extended.{fin, pos_inf, ◌<ᴱ◌}
use Rattle.base_numbers.specs.Vector.{add_vec, scale_vec}
use Rattle.base_numbers.proofs.rational.Laws.{≤ℚ_trans, le_of_lt_ℚ, le_of_eq_ℚ}
use Rattle.flow_systems.specs.Equations.{Equations, Vector}
use Rattle.flow_systems.specs.States.{dotℚ}
use Rattle.theory_validity.specs.Words.{Word, lin, start_form, end_form, start_of, Falls, moved}
use Rattle.theory_validity.specs.Steps.{word, Sized, Runs, Item, Plain, Ray, Placed, PlainItem, RayItem, ValidStep, edge_of, row_of}
use Rattle.theory_validity.specs.Steps.{item_value}
use Rattle.theory_validity.specs.Transformers.{Unlimited}
use Rattle.theory_validity.proofs.steps.RayLaw.{finite_above}

length-add_vec : (u v : List ℚ) → length u ≡ length v → length (add_vec u v) ≡ length u
unfolding add_vec
length-add_vec [] v e = sym e
length-add_vec (x ∷ u) [] e = refl
length-add_vec (x ∷ u) (y ∷ v) e = ap suc (length-add_vec u v (omega arith))

-- a moved word is as long as the word and the direction
pub length-moved : (w : Word) (s : ℚ) (d : Word) → length w ≡ length d → length (moved w s d) ≡ length w
unfolding moved
length-moved w s d e = length-add_vec w (scale_vec s d) (e ∙ sym (length-scale_vec s d))

-- one item is a valid step where it is placed and valid
single_plain : (system : Equations) (z : Vector) (item : Item) → Placed system item → PlainItem system z item
    → ValidStep system z (record { kind = Plain; items = item ∷ [] })
single_plain system z item placed valid =
    record {
      distinct = (tt, tt);
      placed = λ i m. ⊎_elim (λ e. subst (Placed system) e placed) (λ k. absurd k) m;
      valid =
          λ i m. ⊎_elim (λ e. subst (PlainItem system z) e valid) (λ k. absurd k) m;
    }

-- likewise for a ray
single_ray : (system : Equations) (z : Vector) (item : Item) → Placed system item → RayItem system z (item ∷ []) item
    → ValidStep system z (record { kind = Ray; items = item ∷ [] })
single_ray system z item placed valid =
    record {
      distinct = (tt, tt);
      placed = λ i m. ⊎_elim (λ e. subst (Placed system) e placed) (λ k. absurd k) m;
      valid =
          λ i m. ⊎_elim (λ e. subst (RayItem system z (item ∷ [])) e valid) (λ k. absurd k) m;
    }

-- a raise to a number above the bound and at most the value of a word that runs
pub raise_plain : (system : Equations) (z : Vector) (item : Item) → Placed system item → Sized system item item.low →
    Runs system z (edge_of system item) (word item.low) → z item.point item.row <ᴱ fin item.number
    → item.number ≤ℚ item_value system item (word item.low) →
    ValidStep system z (record { kind = Plain; items = item ∷ [] })
raise_plain system z item placed size runs above reached = single_plain system z item placed
    (record { size = size; runs = runs; above = above; reached = reached })

-- an item's own unknown at its edge's source: its bound is finite, so its row does not rise
own_row : (system : Equations) (z : Vector) (item : Item) (u : Unlimited system z (edge_of system item) (row_of system item))
    → Placed system item → (word item.second) ≡ u.direction → zero_ℚ <ℚ item.number →
    Runs system z (edge_of system item) (word item.low) → z item.point item.row <ᴱ pos_inf → item.point ≡ (edge_of system item).from →
    lin (start_form system.variables (row_of system item)) (word item.second) ≤ℚ item.number
unfolding row_of
own_row system z item u placed second positive runs below e =
    let listed = slice_get-get_or system.template item.row [] placed.row_within in
    let b = finite_above (z (edge_of system item).from item.row) (dotℚ (row_of system item) (start_of system.variables (word item.low)))
    (runs.fits item.row (row_of system item) listed) (subst (λ p. z p item.row <ᴱ pos_inf) e below) in
    ≤ℚ_trans (subst (λ d. lin (start_form system.variables (row_of system item)) d ≤ℚ zero_ℚ) (sym second)
    (u.still item.row (row_of system item) b.0 listed b.1)) (le_of_lt_ℚ positive)

-- a raise to +∞ along unlimited evidence; the item's low word is one that exceeds the bound, its direction and rate are the evidence's
pub raise_ray : (system : Equations) (z : Vector) (item : Item) (u : Unlimited system z (edge_of system item) (row_of system item))
    → Placed system item →
    Sized system item item.low → Sized system item item.second →
    (word item.second) ≡ u.direction → item.number ≡ lin (end_form system.variables (edge_of system item).actions (row_of system item))
    u.direction →
    Runs system z (edge_of system item) (word item.low) → z item.point item.row <ᴱ pos_inf
    → z item.point item.row <ᴱ fin (item_value system item (word item.low)) →
    ValidStep system z (record { kind = Ray; items = item ∷ [] })
raise_ray system z item u placed low_size size second number runs below above =
    single_ray system z item placed (record {
      low_size = low_size;
      direction_size = size;
      below_top = below;
      low_runs = runs;
      low_above = above;
      rate = positive;
      named = λ other m e. named other m e;
      others = λ r row b e n f. subst (λ d. lin (start_form system.variables row) d ≤ℚ zero_ℚ) (sym second) (u.still r row b e f);
      falls = subst (λ d. Falls system.variables (edge_of system item).actions d) (sym second) u.falls;
      gains = le_of_eq_ℚ (number ∙ ap (λ d. lin (end_form system.variables (edge_of system item).actions (row_of system item)) d)
          (sym second));
    })
  where
    positive : zero_ℚ <ℚ item.number
    positive = subst (λ s. zero_ℚ <ℚ s) (sym number) u.gains

    named : (other : Item) → In (item ∷ []) other → other.point ≡ (edge_of system item).from
        → lin (start_form system.variables (row_of system other)) (word item.second) ≤ℚ other.number
    named other (inl f) e = subst (λ o. lin (start_form system.variables (row_of system o)) (word item.second) ≤ℚ o.number) f
        (own_row system z item u placed second positive runs below (ap (λ o. o.point) f ∙ e))
    named other (inr m) e = absurd m
