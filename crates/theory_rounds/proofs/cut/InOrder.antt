-- Items in order of their unknowns: the same items, and the only list of them that rises.
use Rattle.std.proofs.Common.{◌≡◌, ◌∙◌, ◌⊎◌, inl, inr, ⊎_elim, ◌<◌, ◌≤◌, ◌&&◌, ◌||◌, eqb, ltb, Bool, true, false, true≢false, List, [], ◌∷◌}
use Rattle.std.proofs.Common.{refl, sym, ap, subst, subst₂, arith, if◌then◌else◌}
use Rattle.std.proofs.lemmas.Bool.{ltb-true, ltb-false, cases_lt}
use Rattle.std.proofs.lemmas.Bool.Decides.{eqb_tells}
use Rattle.base_facts.specs.Elements.{In}
use Rattle.theory_validity.specs.Steps.{Item, Unnamed, Distinct}
use Rattle.theory_validity.proofs.steps.Puts.{not_unnamed}
use Rattle.theory_transformers.specs.Parts.{Lower, LowerThanAll, IsRising}
use Rattle.theory_transformers.proofs.parts.PartsRise.{rising_distinct}
use Rattle.theory_rounds.specs.JointItems.{listed_item, listed_items}
use Rattle.theory_rounds.specs.Cut.{comes_before, insert_item, in_order}
use Rattle.theory_rounds.proofs.joint_items.ListedItems.{distinct_items}

abbrev Earlier : Item → Item → Type 0
Earlier u v = Lower (listed_item u) (listed_item v)

-- ---- the test
test_true : (u v : Item) → comes_before u v ≡ true → Earlier u v
unfolding comes_before
test_true u v e = by (ltb u.point v.point) refl e
  where
    second : (eqb u.point v.point && ltb u.row v.row) ≡ true → Earlier u v
    second f = ⊎_elim
        (λ h. inr (h.1, ltb-true u.row v.row (sym (ap (λ s. s && ltb u.row v.row) h.0) ∙ f)))
        (λ h. absurd (true≢false (sym f ∙ ap (λ s. s && ltb u.row v.row) h.0)))
        (eqb_tells u.point v.point)

    by : (b : Bool) → ltb u.point v.point ≡ b → (b || (eqb u.point v.point && ltb u.row v.row)) ≡ true → Earlier u v
    by true f g = inl (ltb-true u.point v.point f)
    by false f g = second g

-- where an item doesn't come before another of another unknown, that one comes before it
test_false : (u v : Item) → (u.point ≡ v.point → u.row ≡ v.row → ⊥) → comes_before u v ≡ false → Earlier v u
unfolding comes_before
test_false u v apart e = by (ltb u.point v.point) refl e
  where
    rows : u.point ≡ v.point → ltb u.row v.row ≡ false → Earlier v u
    rows p f = inr (sym p, less (cases_lt v.row u.row))
      where
        less : (v.row < u.row) ⊎ (u.row ≤ v.row) → v.row < u.row
        less (inl l) = l
        less (inr l) = absurd (apart p (same (ltb-false u.row v.row f)))
          where
            same : v.row ≤ u.row → u.row ≡ v.row
            same k = omega arith

    by : (b : Bool) → ltb u.point v.point ≡ b → (b || (eqb u.point v.point && ltb u.row v.row)) ≡ false → Earlier v u
    by true f g = absurd (true≢false g)
    by false f g = ⊎_elim
        (λ h. rows h.1 (sym (ap (λ s. s && ltb u.row v.row) h.0) ∙ g))
        (λ h. inl (less h.1 (ltb-false u.point v.point f)))
        (eqb_tells u.point v.point)
      where
        less : (u.point ≡ v.point → ⊥) → v.point ≤ u.point → v.point < u.point
        less n k = ⊎_elim (λ l. l) (λ l. absurd (n (omega arith))) (cases_lt v.point u.point)

later_than : (u v w : Item) → Earlier u v → Earlier v w → Earlier u w
later_than u v w (inl a) (inl b) = inl (omega arith)
later_than u v w (inl a) (inr b) = inl (let e = b.0 in omega arith)
later_than u v w (inr a) (inl b) = inl (let e = a.0 in omega arith)
later_than u v w (inr a) (inr b) = inr (a.0 ∙ b.0, (let k = a.1 in let l = b.1 in omega arith))

never_both : (u v : Item) → Earlier u v → Earlier v u → ⊥
never_both u v (inl a) (inl b) = absurd (omega arith)
never_both u v (inl a) (inr b) = let e = b.0 in absurd (omega arith)
never_both u v (inr a) (inl b) = let e = a.0 in absurd (omega arith)
never_both u v (inr a) (inr b) = let k = a.1 in let l = b.1 in absurd (omega arith)

lower_at : (u : Item) (list : List Item) (v : Item) → LowerThanAll (listed_item u) (listed_items list) → In list v → Earlier u v
unfolding listed_items
lower_at u [] v h m = absurd m
lower_at u (x ∷ list) v h m = ⊎_elim (λ e. subst (Earlier u) e h.0) (λ k. lower_at u list v h.1 k) m

lower_by : (u : Item) (list : List Item) → ((v : Item) → In list v → Earlier u v) → LowerThanAll (listed_item u) (listed_items list)
unfolding listed_items
lower_by u [] h = tt
lower_by u (x ∷ list) h = (h x (inl refl), lower_by u list (λ v m. h v (inr m)))

-- ---- members
of_insert : (u : Item) (list : List Item) (w : Item) → In (insert_item u list) w → (u ≡ w) ⊎ In list w
unfolding insert_item
of_insert u [] w m = m
of_insert u (v ∷ list) w m = by (comes_before u v) m (λ k. of_insert u list w k)
  where
    by : (b : Bool) → In (if b then u ∷ (v ∷ list) else v ∷ insert_item u list) w → (In (insert_item u list) w → (u ≡ w) ⊎ In list w)
        → (u ≡ w) ⊎ In (v ∷ list) w
    by true m k = m
    by false (inl e) k = inr (inl e)
    by false (inr j) k = ⊎_elim (λ e. inl e) (λ i. inr (inr i)) (k j)

in_insert : (u : Item) (list : List Item) (w : Item) → (u ≡ w) ⊎ In list w → In (insert_item u list) w
unfolding insert_item
in_insert u [] w m = m
in_insert u (v ∷ list) w m = by (comes_before u v) m (λ k. in_insert u list w k)
  where
    by : (b : Bool) → (u ≡ w) ⊎ In (v ∷ list) w → ((u ≡ w) ⊎ In list w → In (insert_item u list) w)
        → In (if b then u ∷ (v ∷ list) else v ∷ insert_item u list) w
    by true m k = m
    by false (inl e) k = inr (k (inl e))
    by false (inr (inl e)) k = inl e
    by false (inr (inr j)) k = inr (k (inr j))

-- an item in order is one of the list
pub of_order : (list : List Item) (w : Item) → In (in_order list) w → In list w
unfolding in_order
of_order [] w m = m
of_order (u ∷ list) w m = ⊎_elim (λ e. inl e) (λ k. inr (of_order list w k)) (of_insert u (in_order list) w m)

-- and the other way round
pub to_order : (list : List Item) (w : Item) → In list w → In (in_order list) w
unfolding in_order
to_order [] w m = m
to_order (u ∷ list) w m = in_insert u (in_order list) w (⊎_elim (λ e. inl e) (λ k. inr (to_order list w k)) m)

-- ---- order
insert_rises : (u : Item) (list : List Item) → ((w : Item) → In list w → u.point ≡ w.point → u.row ≡ w.row → ⊥)
    → IsRising (listed_items list) → IsRising (listed_items (insert_item u list))
unfolding insert_item listed_items
insert_rises u [] apart h = (tt, tt)
insert_rises u (v ∷ list) apart h = by (comes_before u v) refl (insert_rises u list (λ w m. apart w (inr m)) h.1)
  where
    by : (b : Bool) → comes_before u v ≡ b → IsRising (listed_items (insert_item u list))
        → IsRising (listed_items (if b then u ∷ (v ∷ list) else v ∷ insert_item u list))
    by true e r =
        let f = test_true u v e in
        ((f, lower_by u list (λ w m. later_than u v w f (lower_at v list w h.0 m))), h)
    by false e r =
        let f = test_false u v (apart v (inl refl)) e in (
          lower_by v (insert_item u list) (λ w m. ⊎_elim (λ g. subst (Earlier v) g f) (λ k. lower_at v list w h.0 k)
              (of_insert u list w m)),
          r,
        )

-- distinct items in order rise
pub order_rises : (list : List Item) → Distinct list → IsRising (listed_items (in_order list))
unfolding in_order listed_items
order_rises [] d = tt
order_rises (u ∷ list) d = insert_rises u (in_order list) (λ w m e f. apart w (of_order list w m) e f) (order_rises list d.1)
  where
    apart : (w : Item) → In list w → u.point ≡ w.point → u.row ≡ w.row → ⊥
    apart w m e f = not_unnamed list w m (subst₂ (λ p r. Unnamed list p r) e f d.0)

-- and are distinct
pub order_distinct : (list : List Item) → Distinct list → Distinct (in_order list)
order_distinct list d = distinct_items (in_order list) (rising_distinct (listed_items (in_order list)) (order_rises list d))

-- two rising lists of the same items are one
pub rising_unique : (us vs : List Item) → IsRising (listed_items us) → IsRising (listed_items vs) → ((w : Item) → In us w → In vs w)
    → ((w : Item) → In vs w → In us w) → us ≡ vs
unfolding listed_items
rising_unique [] [] h i to from = refl
rising_unique [] (v ∷ vs) h i to from = absurd (from v (inl refl))
rising_unique (u ∷ us) [] h i to from = absurd (to u (inl refl))
rising_unique (u ∷ us) (v ∷ vs) h i to from =
    ap (λ w. w ∷ us) first ∙ ap (λ ws. v ∷ ws) (rising_unique us vs h.1 i.1
    (λ w m. ⊎_elim (λ e. absurd (itself u (subst (Earlier u) (sym e ∙ sym first) (lower_at u us w h.0 m)))) (λ k. k) (to w (inr m)))
    (λ w m. ⊎_elim (λ e. absurd (itself v (subst (Earlier v) (sym e ∙ first) (lower_at v vs w i.0 m)))) (λ k. k) (from w (inr m))))
  where
    itself : (w : Item) → Earlier w w → ⊥
    itself w l = never_both w w l l

    by : (v ≡ u) ⊎ In vs u → (u ≡ v) ⊎ In us v → u ≡ v
    by (inl e) k = sym e
    by (inr m) (inl e) = e
    by (inr m) (inr n) = absurd (never_both u v (lower_at u us v h.0 n) (lower_at v vs u i.0 m))

    first : u ≡ v
    first = by (to u (inl refl)) (from v (inl refl))
