-- Items in order, cut into parts by dependence: admissible, and with the same members.
use Rattle.std.proofs.Common.{◌≡◌, ◌∙◌, ◌⊎◌, inl, inr, ⊎_elim, ℕ, Bool, true, false, true≢false, List, [], ◌∷◌, ◌++◌, refl, sym, ap, subst}
use Rattle.std.proofs.Common.{subst₂, if◌then◌else◌}
use Rattle.std.proofs.lemmas.Bool.{eq-eqb, cases_Bool}
use Rattle.base_facts.proofs.elements.Membership.{of_append, in_left, in_right}
use Rattle.base_facts.specs.Elements.{In}
use Rattle.flow_systems.specs.Equations.{Equations}
use Rattle.theory_validity.specs.Steps.{Item, edge_of, Unnamed, Distinct}
use Rattle.theory_validity.proofs.steps.Puts.{not_unnamed}
use Rattle.theory_transformers.specs.JointProblems.{Listed, is_at, picked}
use Rattle.theory_transformers.specs.JointPoints.{Unlisted, Distinct as Apart}
use Rattle.theory_transformers.specs.Parts.{leans, parts, InSome, Admissible as AdmissibleParts, AreClasses, IsRising, AllRise}
use Rattle.theory_transformers.proofs.joint_problems.Rises.{is_at_means, is_at_itself}
use Rattle.theory_transformers.proofs.joint_problems.JointLists.{distinct_same, not_unlisted}
use Rattle.theory_transformers.proofs.parts.NextPart.{together_itself}
use Rattle.theory_transformers.proofs.parts.PartsLaw.{parts_complete, parts_sound, parts_admissible, parts_classes}
use Rattle.theory_transformers.proofs.parts.PartsRise.{parts_rise, rising_distinct}
use Rattle.theory_strategy.specs.Round.{members, Admissible}
use Rattle.theory_strategy.proofs.round.TurnLaw.{unnamed_by_all}
use Rattle.theory_rounds.specs.JointItems.{listed_item, listed_items}
use Rattle.theory_rounds.specs.Cut.{item_for, items_for, items_of_parts, cut_items}
use Rattle.theory_rounds.proofs.joint_items.ListedItems.{in_listed, of_listed, distinct_items}

-- ---- the item of an unknown
of_item_for : (items : List Item) (w : Listed) (u : Item) → In (item_for items w) u → In items u × (is_at w u.point u.row ≡ true)
unfolding item_for
of_item_for [] w u m = absurd m
of_item_for (v ∷ items) w u m = by (is_at w v.point v.row) refl m (λ k. of_item_for items w u k)
  where
    by : (b : Bool) → is_at w v.point v.row ≡ b → In (if b then v ∷ [] else item_for items w) u
        → (In (item_for items w) u → In items u × (is_at w u.point u.row ≡ true)) → In (v ∷ items) u × (is_at w u.point u.row ≡ true)
    by true e (inl f) k = (inl f, subst (λ (s : Item). is_at w s.point s.row ≡ true) f e)
    by true e (inr j) k = absurd j
    by false e j k = let r = k j in (inr r.0, r.1)

-- an item of a distinct list is the one for its unknown
pub item_for_is : (items : List Item) (u : Item) → Distinct items → In items u → item_for items (listed_item u) ≡ u ∷ []
unfolding item_for
item_for_is [] u d m = absurd m
item_for_is (v ∷ items) u d m = by (cases_Bool (is_at (listed_item u) v.point v.row)) m (λ k. item_for_is items u d.1 k)
  where
    if_true : (b : Bool) → b ≡ true → (if b then v ∷ [] else item_for items (listed_item u)) ≡ v ∷ []
    if_true b e = ap (λ s. if s then v ∷ [] else item_for items (listed_item u)) e

    by : (is_at (listed_item u) v.point v.row ≡ true) ⊎ (is_at (listed_item u) v.point v.row ≡ false) → (v ≡ u) ⊎ In items u
        → (In items u → item_for items (listed_item u) ≡ u ∷ []) →
        (if is_at (listed_item u) v.point v.row then v ∷ [] else item_for items (listed_item u)) ≡ u ∷ []
    by (inl e) (inl f) rec = if_true (is_at (listed_item u) v.point v.row) e ∙ ap (λ s. s ∷ []) f
    by (inl e) (inr j) rec =
        let h = is_at_means (listed_item u) v.point v.row e in
        absurd (not_unnamed items u j (subst₂ (λ p r. Unnamed items p r) (sym h.0) (sym h.1) d.0))
    by (inr e) (inl f) rec = absurd (true≢false (sym (is_at_itself (listed_item u))
        ∙ subst (λ (s : Item). is_at (listed_item u) s.point s.row ≡ false) f e))
    by (inr e) (inr j) rec = ap (λ s. if s then v ∷ [] else item_for items (listed_item u)) e ∙ rec j

-- an item whose edge comes from another's point leans on it
lean : (system : Equations) (u v : Item) → v.point ≡ (edge_of system u).from → leans system (listed_item u) (listed_item v) ≡ true
unfolding leans picked edge_of
lean system u v e = eq-eqb (picked system (listed_item u)).from v.point (sym e)

module _ (items : List Item) (distinct : Distinct items) (apart : Apart (listed_items items)) where
  -- an item that stands for a listed unknown is that unknown's
  listed_is : (w : Listed) (u : Item) → In (listed_items items) w → In items u → is_at w u.point u.row ≡ true → w ≡ listed_item u
  listed_is w u m n e = distinct_same (listed_items items) w (listed_item u) apart m (in_listed items u n) e

  -- the items of unknowns
  of_items_for : (part : List Listed) → ((w : Listed) → In part w → In (listed_items items) w) → (u : Item) → In (items_for items part) u
      → In items u × In part (listed_item u)
  unfolding items_for
  of_items_for [] within u m = absurd m
  of_items_for (w ∷ part) within u m = ⊎_elim
      (λ k. let r = of_item_for items w u k in (r.0, inl (listed_is w u (within w (inl refl)) r.0 r.1)))
      (λ k. let r = of_items_for part (λ v n. within v (inr n)) u k in (r.0, inr r.1))
      (of_append (item_for items w) (items_for items part) u m)

  in_items_for : (part : List Listed) (u : Item) → In items u → In part (listed_item u) → In (items_for items part) u
  unfolding items_for
  in_items_for [] u n m = absurd m
  in_items_for (w ∷ part) u n m = ⊎_elim
      (λ e. in_left (item_for items w) (items_for items part) u (subst (λ s. In s u)
      (sym (ap (item_for items) e ∙ item_for_is items u distinct n)) (inl refl)))
      (λ k. in_right (item_for items w) (items_for items part) u (in_items_for part u n k))
      m

  distinct_for : (part : List Listed) → ((w : Listed) → In part w → In (listed_items items) w) → Apart part
      → Distinct (items_for items part)
  unfolding items_for
  distinct_for [] within d = tt
  distinct_for (w ∷ part) within d = by (of_listed items w (within w (inl refl))) (distinct_for part (λ v n. within v (inr n)) d.1)
    where
      by : ((u : Item) × In items u × (listed_item u ≡ w)) → Distinct (items_for items part)
          → Distinct (item_for items w ++ items_for items part)
      by u rest = subst (λ s. Distinct (s ++ items_for items part)) (sym
          (ap (item_for items) (sym u.2) ∙ item_for_is items u.0 distinct u.1)) (others, rest)
        where
          others : Unnamed (items_for items part) u.0.point u.0.row
          others = unnamed_by_all (items_for items part) u.0.point u.0.row (λ v m e f.
              let r = of_items_for part (λ x n. within x (inr n)) v m in
              not_unlisted part (listed_item v) r.1
              (subst₂ (λ a b. Unlisted part a b) (sym (e ∙ ap (λ (s : Listed). s.point) u.2)) (sym (f ∙ ap (λ (s : Listed). s.row) u.2))
              d.0))

  -- stand for just those unknowns
  listed_for : (part : List Listed) → ((w : Listed) → In part w → In (listed_items items) w) → listed_items (items_for items part) ≡ part
  unfolding items_for listed_items
  listed_for [] within = refl
  listed_for (w ∷ part) within =
      let u = of_listed items w (within w (inl refl)) in
      ap (λ s. listed_items (s ++ items_for items part)) (ap (item_for items) (sym u.2) ∙ item_for_is items u.0 distinct u.1)
      ∙ ap (λ v. v ∷ listed_items (items_for items part)) u.2
      ∙ ap (λ s. w ∷ s) (listed_for part (λ v n. within v (inr n)))

  -- ---- all parts
  of_members : (ps : List (List Listed)) → ((w : Listed) → InSome ps w → In (listed_items items) w) → (u : Item)
      → In (members (items_of_parts items ps)) u → In items u × InSome ps (listed_item u)
  unfolding members items_of_parts
  of_members [] within u m = absurd m
  of_members (part ∷ ps) within u m = ⊎_elim
      (λ k. let r = of_items_for part (λ w n. within w (inl n)) u k in (r.0, inl r.1))
      (λ k. let r = of_members ps (λ w n. within w (inr n)) u k in (r.0, inr r.1))
      (of_append (items_for items part) (members (items_of_parts items ps)) u m)

  in_members : (ps : List (List Listed)) (u : Item) → In items u → InSome ps (listed_item u) → In (members (items_of_parts items ps)) u
  unfolding members items_of_parts
  in_members [] u n m = absurd m
  in_members (part ∷ ps) u n m = ⊎_elim
      (λ k. in_left (items_for items part) (members (items_of_parts items ps)) u (in_items_for part u n k))
      (λ k. in_right (items_for items part) (members (items_of_parts items ps)) u (in_members ps u n k))
      m

  module _ (system : Equations) where
    -- no unknown stands in a part and in a later one
    apart_later : (part : List Listed) (ps : List (List Listed)) → AreClasses system (listed_items items) (part ∷ ps) → (w : Listed)
        → In part w → InSome ps w → ⊥
    apart_later part ps classes w m n = true≢false (sym (together_itself system (listed_items items) w) ∙ classes.1 w w m n)

    admissible_from : (placed : List Listed) (ps : List (List Listed)) → ((w : Listed) → InSome ps w → In (listed_items items) w)
        → AllRise ps → AreClasses system (listed_items items) ps →
        AdmissibleParts system (listed_items items) placed ps → ((w : Listed) → In placed w → InSome ps w → ⊥)
        → Admissible system (items_of_parts items ps)
    unfolding items_of_parts
    admissible_from placed [] within rise classes admissible done = tt
    admissible_from placed (part ∷ ps) within rise classes admissible done = (
      distinct_for part (λ w n. within w (inl n)) (rising_distinct part rise.0),
      λ u m. own u (mine u m),
      λ u m r l. source u r (mine u m),
      admissible_from (placed ++ part) ps (λ w n. within w (inr n)) rise.1 classes.2 admissible.1
          (λ w m n. ⊎_elim (λ k. done w k (inr n)) (λ k. apart_later part ps classes w k n) (in_either placed part w m)),
    )
      where
        in_either : (xs ys : List Listed) (w : Listed) → In (xs ++ ys) w → In xs w ⊎ In ys w
        in_either [] ys w m = inr m
        in_either (x ∷ xs) ys w m = ⊎_elim (λ e. inl (inl e)) (λ k. ⊎_elim (λ i. inl (inr i)) (λ i. inr i) (in_either xs ys w k)) m

        mine : (u : Item) → In (items_for items part) u → In items u × In part (listed_item u)
        mine u m = of_items_for part (λ w n. within w (inl n)) u m

        theirs : (u : Item) → In (members (items_of_parts items ps)) u → In items u × InSome ps (listed_item u)
        theirs u m = of_members ps (λ w n. within w (inr n)) u m

        own : (u : Item) → In items u × In part (listed_item u) → Unnamed (members (items_of_parts items ps)) u.point u.row
        own u h = unnamed_by_all (members (items_of_parts items ps)) u.point u.row (λ v m e f.
            let t = theirs v m in
            apart_later part ps classes (listed_item u) h.1
            (subst (InSome ps) (listed_is (listed_item v) u (in_listed items v t.0) h.0
            (subst₂ (λ a b. is_at (listed_item v) a b ≡ true) e f (is_at_itself (listed_item v)))) t.1))

        source : (u : Item) (r : ℕ) → In items u × In part (listed_item u)
            → Unnamed (members (items_of_parts items ps)) (edge_of system u).from r
        source u r h = unnamed_by_all (members (items_of_parts items ps)) (edge_of system u).from r (λ v m e f.
            let t = theirs v m in
            ⊎_elim (λ k. apart_later part ps classes (listed_item v) k t.1) (λ k. done (listed_item v) k (inr t.1))
            (admissible.0 (listed_item u) (listed_item v) h.1 (in_listed items v t.0) (lean system u v e)))

-- the cut of items whose unknowns rise
module _ (system : Equations) (items : List Item) (rising : IsRising (listed_items items)) where
  apart : Apart (listed_items items)
  apart = rising_distinct (listed_items items) rising

  distinct : Distinct items
  distinct = distinct_items items apart

  -- is admissible
  pub cut_admissible : Admissible system (cut_items system items)
  unfolding cut_items
  cut_admissible =
      admissible_from items distinct apart system [] (parts system (listed_items items))
      (λ w m. parts_sound system (listed_items items) w m) (parts_rise system (listed_items items) rising)
      (parts_classes system (listed_items items)) (parts_admissible system (listed_items items)) (λ w m n. m)

  -- has the items alone as members
  pub cut_from : (u : Item) → In (members (cut_items system items)) u → In items u
  unfolding cut_items
  cut_from u m = (of_members items distinct apart (parts system (listed_items items)) (λ w n. parts_sound system (listed_items items) w n) u
      m).0

  -- and each of them
  pub cut_all : (u : Item) → In items u → In (members (cut_items system items)) u
  unfolding cut_items
  cut_all u m = in_members items distinct apart (parts system (listed_items items)) u m
      (parts_complete system (listed_items items) (listed_item u) (in_listed items u m))
