-- Bounds after the values of items are put stand for the vector after the items' step.
use Rattle.std.proofs.Common.{◌≡◌, ◌∙◌, ⊎_elim, ℕ, zero, suc, ◌+◌, ◌*◌, ◌/◌, ◌%◌, ◌<◌, List, [], ◌∷◌, length, get_or, sym, ap, ap₂, subst₂}
use Rattle.std.proofs.Common.{arith}
use Rattle.std.proofs.lemmas.Nat.{div-mul-add, mod-mul-add}
use Rattle.base_facts.specs.Elements.{In}
use Rattle.base_numbers.specs.Extended.{Ext as Extended, neg_inf}
use Rattle.flow_systems.specs.View.{vector_of}
use Rattle.theory_validity.specs.Steps.{Item, put, Unnamed, Distinct}
use Rattle.theory_validity.proofs.steps.Puts.{named_or_not, not_unnamed, put-unnamed, put-named}
use Rattle.solve_rounds.specs.Putting.{puts}
use Rattle.solve_rounds.proofs.putting.Puts.{puts-at, puts-other}
use Rattle.solve_rounds.proofs.turning.TurnItems.{place_of, in_place}

-- the numbers and values of items by their places
pub record AreNumbers (rows : ℕ) (d : Item) (items : List Item) (value : Item → Extended) (list : List ℕ) (at : ℕ → Extended) : Type 0 where
  -- there is one number for each item
  pub size : length list ≡ length items
  -- each item's row is a row of the template
  pub row : (k : ℕ) → k < length items → (get_or items k d).row < rows
  -- each number is that of its item's point and row
  pub number : (k : ℕ) → k < length items → get_or list k 0 ≡ (get_or items k d).point * rows + (get_or items k d).row
  -- each value is that of its item
  pub value_is : (k : ℕ) → k < length items → at k ≡ value (get_or items k d)

-- one number is one point and row
one_unknown : (rows p r q s : ℕ) → r < rows → s < rows → p * rows + r ≡ q * rows + s → (p ≡ q) × (r ≡ s)
one_unknown rows p r q s l m e = (
  sym (div-mul-add p rows r l) ∙ ap (λ n. n / rows) e ∙ div-mul-add q rows s m,
  sym (mod-mul-add p rows r l) ∙ ap (λ n. n % rows) e ∙ mod-mul-add q rows s m,
)

-- distinct items at two places name two unknowns
pub apart_at : (items : List Item) (d : Item) (i j : ℕ) → Distinct items → i < j → j < length items
    → (get_or items i d).point ≡ (get_or items j d).point → (get_or items i d).row ≡ (get_or items j d).row → ⊥
apart_at [] d i j h l m e f = absurd (omega arith)
apart_at (u ∷ items) d zero zero h l m e f = absurd (omega arith)
apart_at (u ∷ items) d zero (suc j) h l m e f = not_unnamed items (get_or items j d) (in_place items d j (omega arith))
    (subst₂ (λ p r. Unnamed items p r) e f h.0)
apart_at (u ∷ items) d (suc i) zero h l m e f = absurd (omega arith)
apart_at (u ∷ items) d (suc i) (suc j) h l m e f = apart_at items d i j h.1 (omega arith) (omega arith) e f

module _ (rows : ℕ) (d : Item) (items : List Item) (value : Item → Extended) (list : List ℕ) (at : ℕ → Extended)
    (same : AreNumbers rows d items value list at) (distinct : Distinct items) (bounds : List Extended)
    (within : (k : ℕ) → k < length list → get_or list k 0 < length bounds) where
  distinct_numbers : (i j : ℕ) → i < j → j < length list → get_or list i 0 ≡ get_or list j 0 → ⊥
  distinct_numbers i j l m e =
      let size = same.size in
      let i_in : i < length items = omega arith in
      let j_in : j < length items = omega arith in
      let o = one_unknown rows (get_or items i d).point (get_or items i d).row (get_or items j d).point (get_or items j d).row
      (same.row i i_in) (same.row j j_in) (sym (same.number i i_in) ∙ e ∙ same.number j j_in) in
      apart_at items d i j distinct l j_in o.0 o.1

  -- at each row
  pub put_agrees : (p r : ℕ) → r < rows → put value items (vector_of rows bounds) p r
      ≡ vector_of rows (puts at list bounds (length list)) p r
  put_agrees p r l = ⊎_elim (λ v. named v.0 v.1 v.2 v.3) (λ n. unnamed n) (named_or_not items p r)
    where
      named : (v : Item) → In items v → v.point ≡ p → v.row ≡ r → put value items (vector_of rows bounds) p r
          ≡ vector_of rows (puts at list bounds (length list)) p r
      named v m e f =
          let k = place_of items v d m in
          let size = same.size in
          let k_in = k.1 in
          let number : get_or list k.0 0 ≡ p * rows + r = same.number k.0 k.1
          ∙ ap₂ (λ a b. a * rows + b) (ap (λ (s : Item). s.point) k.2 ∙ e) (ap (λ (s : Item). s.row) k.2 ∙ f) in
          subst₂ (λ a b. put value items (vector_of rows bounds) a b ≡ value v) e f
          (put-named value items (vector_of rows bounds) v distinct m)
          ∙ sym (same.value_is k.0 k.1 ∙ ap value k.2)
          ∙ sym (puts-at at list bounds (length list) k.0 distinct_numbers (omega arith) (within k.0 (omega arith)))
          ∙ ap (λ n. get_or (puts at list bounds (length list)) n neg_inf) number

      unnamed : Unnamed items p r → put value items (vector_of rows bounds) p r ≡ vector_of rows (puts at list bounds (length list)) p r
      unnamed n =
          put-unnamed value items (vector_of rows bounds) p r n
          ∙ sym (puts-other at list bounds (length list) (p * rows + r) (λ k m e. other k m e))
        where
          other : (k : ℕ) → k < length list → get_or list k 0 ≡ p * rows + r → ⊥
          other k m e =
              let size = same.size in
              let k_in : k < length items = omega arith in
              let o = one_unknown rows (get_or items k d).point (get_or items k d).row p r (same.row k k_in) l
              (sym (same.number k k_in) ∙ e) in
              not_unnamed items (get_or items k d) (in_place items d k k_in) (subst₂ (λ a b. Unnamed items a b) (sym o.0) (sym o.1) n)
