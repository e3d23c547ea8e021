-- The parts of a list over the points that occur in it are those of the list.
use Rattle.std.proofs.Common.{◌≡◌, ◌∙◌, inl, inr, ⊎_elim, ℕ, zero, suc, ◌<◌, ◌==◌, ◌&&◌, ◌||◌, not, cond, Bool, true, false}
use Rattle.std.proofs.Common.{List, [], ◌∷◌, length, map, Option, Some, None, refl, ap, ap₂, sym, subst}
use Rattle.std.specs.Prelude.{find}
use Rattle.std.specs.List.{list_all, filter}
use Rattle.std.proofs.lemmas.Bool.Decides.{eqb_tells}
use Rattle.std.proofs.lemmas.List.{length-map}
use Rattle.base_facts.specs.Elements.{In}
use Rattle.base_facts.proofs.elements.Membership.{of_map}
use Rattle.solve_joint.specs.declared.node.Node.{Node}
use Rattle.solve_joint.specs.Tables.{leads, closed, gets_to}
use Rattle.solve_joint.specs.Cuts.{are_one_part, are_apart, keeps_within, may_come, cut_next, cut_from}
use Rattle.solve_joint.specs.Nearby.{Occurs, renumbered, AreNearby}
use Rattle.solve_joint.proofs.tables.Entries.{cell_at}
use Rattle.solve_joint.proofs.cut.Kept.{find_in, filter_in}

-- ---- tests over lists of other unknowns
abbrev both : (Node → Node) → Option Node → Option Node
both h None = None
both h (Some x) = Some (h x)

all_moved : (f g : Node → Bool) (h : Node → Node) (xs : List Node) → ((x : Node) → In xs x → f (h x) ≡ g x)
    → list_all f (map h xs) ≡ list_all g xs
all_moved f g h [] e = refl
all_moved f g h (x ∷ xs) e = ap₂ (λ a b. a && b) (e x (inl refl)) (all_moved f g h xs (λ y m. e y (inr m)))

kept_moved : (f g : Node → Bool) (h : Node → Node) (xs : List Node) → ((x : Node) → In xs x → f (h x) ≡ g x)
    → filter f (map h xs) ≡ map h (filter g xs)
kept_moved f g h [] e = refl
kept_moved f g h (x ∷ xs) e = ap (λ b. cond b (h x ∷ filter f (map h xs)) (filter f (map h xs))) (e x (inl refl))
    ∙ by (g x) (kept_moved f g h xs (λ y m. e y (inr m)))
  where
    by : (b : Bool) → filter f (map h xs) ≡ map h (filter g xs) →
        cond b (h x ∷ filter f (map h xs)) (filter f (map h xs)) ≡ map h (cond b (x ∷ filter g xs) (filter g xs))
    by true k = ap (λ ys. h x ∷ ys) k
    by false k = k

first_moved : (f g : Node → Bool) (h : Node → Node) (xs : List Node) → ((x : Node) → In xs x → f (h x) ≡ g x)
    → find f (map h xs) ≡ both h (find g xs)
first_moved f g h [] e = refl
first_moved f g h (x ∷ xs) e = ap (λ b. cond b (Some (h x)) (find f (map h xs))) (e x (inl refl))
    ∙ by (g x) (first_moved f g h xs (λ y m. e y (inr m)))
  where
    by : (b : Bool) → find f (map h xs) ≡ both h (find g xs) →
        cond b (Some (h x)) (find f (map h xs)) ≡ both h (cond b (Some x) (find g xs))
    by true k = refl
    by false k = k

module _ (nodes : List Node) (points count : ℕ) (number : ℕ → ℕ) (below : (p : ℕ) → Occurs nodes p → number p < count)
    (apart : (p q : ℕ) → Occurs nodes p → Occurs nodes q → number p ≡ number q → p ≡ q)
    (within : (a : Node) → In nodes a → (a.point < points) × (a.source < points)) where
  abbrev move : Node → Node
  move = renumbered number

  abbrev rows : List (List Bool)
  rows = closed points nodes

  abbrev near : List (List Bool)
  near = closed count (map move nodes)

  abbrev Among : List Node → Type 0
  Among left = (a : Node) → In left a → In nodes a

  point_occurs : (a : Node) → In nodes a → Occurs nodes a.point
  point_occurs a m = (a, m, inl refl)

  source_occurs : (a : Node) → In nodes a → Occurs nodes a.source
  source_occurs a m = (a, m, inr refl)

  -- two points are one exactly where their numbers are
  same_points : (p q : ℕ) → Occurs nodes p → Occurs nodes q → number p == number q ≡ p == q
  same_points p q o r = ⊎_elim
      (λ t. ⊎_elim (λ s. s.0 ∙ sym t.0) (λ s. absurd (s.1 (ap number t.1))) (eqb_tells (number p) (number q)))
      (λ t. ⊎_elim (λ s. absurd (t.1 (apart p q o r s.1))) (λ s. s.0 ∙ sym t.0) (eqb_tells (number p) (number q)))
      (eqb_tells p q)

  -- the unknowns lead from number to number as they do from point to point
  leads_same : (xs : List Node) → Among xs → (p q : ℕ) → Occurs nodes p → Occurs nodes q
      → leads (map move xs) (number p) (number q) ≡ leads xs p q
  leads_same [] sub p q o r = same_points p q o r
  leads_same (x ∷ xs) sub p q o r =
      let m = sub x (inl refl) in
      let more = λ (y : Node) (i : In xs y). sub y (inr i) in
      ap₂ (λ a b. a || b) (leads_same xs more p q o r)
      (ap₂ (λ a b. a && b) (leads_same xs more p x.point o (point_occurs x m)) (leads_same xs more x.source q (source_occurs x m) r))

  gets_same : (a b : Node) → In nodes a → In nodes b → gets_to near (move a) (move b) ≡ gets_to rows a b
  gets_same a b m n =
      ap (λ t. a.unknown == b.unknown || t)
      (cell_at count (leads (map move nodes)) (number a.source) (number b.point) (below a.source (source_occurs a m))
      (below b.point (point_occurs b n))
      ∙ leads_same nodes (λ x i. i) a.source b.point (source_occurs a m) (point_occurs b n)
      ∙ sym (cell_at points (leads nodes) a.source b.point (within a m).1 (within b n).0))

  -- the same unknowns are in one part
  one_part_same : (a b : Node) → In nodes a → In nodes b → are_one_part near (move a) (move b) ≡ are_one_part rows a b
  one_part_same a b m n = ap₂ (λ x y. x && y) (gets_same a b m n) (gets_same b a n m)

  keeps_same : (left : List Node) (part member : Node) → Among left → In nodes part → In nodes member
      → list_all (keeps_within near (move part) (move member)) (map move left) ≡ list_all (keeps_within rows part member) left
  keeps_same left part member sub p m =
      all_moved (keeps_within near (move part) (move member)) (keeps_within rows part member) move left
      (λ w n. ap₂ (λ a b. not a || b) (same_points member.source w.point (source_occurs member m) (point_occurs w (sub w n)))
      (one_part_same part w p (sub w n)))

  -- the same parts may come
  may_same : (left : List Node) (part : Node) → Among left → In nodes part
      → may_come near (map move left) (move part) ≡ may_come rows left part
  may_same left part sub p =
      all_moved (λ member. not (are_one_part near (move part) member) || list_all (keeps_within near (move part) member) (map move left))
      (λ member. not (are_one_part rows part member) || list_all (keeps_within rows part member) left) move left
      (λ v n. ap₂ (λ a b. not a || b) (one_part_same part v p (sub v n)) (keeps_same left part v sub p (sub v n)))

  unknowns_same : (left : List Node) → map (λ (a : Node). a.unknown) (map move left) ≡ map (λ (a : Node). a.unknown) left
  unknowns_same [] = refl
  unknowns_same (a ∷ left) = ap (λ xs. a.unknown ∷ xs) (unknowns_same left)

  cut_same : (n : ℕ) (left : List Node) → Among left → cut_from near n (map move left) ≡ cut_from rows n left
  cut_same zero left sub = refl
  cut_same (suc n) left sub =
      ap (cut_next near (map move left) (cut_from near n))
      (first_moved (may_come near (map move left)) (may_come rows left) move left (λ a m. may_same left a sub (sub a m)))
      ∙ by (find (may_come rows left) left) refl (λ next s. cut_same n next s)
    where
      by : (o : Option Node) → find (may_come rows left) left ≡ o →
          ((next : List Node) → Among next → cut_from near n (map move next) ≡ cut_from rows n next) →
          cut_next near (map move left) (cut_from near n) (both move o) ≡ cut_next rows left (cut_from rows n) o
      by None e t = refl
      by (Some part) e t =
          let p = sub part (find_in (may_come rows left) left part e) in
          ap₂ (λ x xs. x ∷ xs)
          (ap (map (λ (a : Node). a.unknown)) (kept_moved (are_one_part near (move part)) (are_one_part rows part) move left
          (λ a m. one_part_same part a p (sub a m)))
          ∙ unknowns_same (filter (are_one_part rows part) left))
          (ap (cut_from near n) (kept_moved (are_apart near (move part)) (are_apart rows part) move left
          (λ a m. ap not (one_part_same part a p (sub a m))))
          ∙ t (filter (are_apart rows part) left) (λ a m. sub a (filter_in (are_apart rows part) left a m)))

module _ (nodes near : List Node) (points count : ℕ) (are : AreNearby nodes count near)
    (within : (a : Node) → In nodes a → (a.point < points) × (a.source < points)) where
  -- the whole cut
  pub near_cut : cut_from (closed count near) (length near) near ≡ cut_from (closed points nodes) (length nodes) nodes
  near_cut =
      ap (λ (xs : List Node). cut_from (closed count xs) (length xs) xs) are.are
      ∙ ap (λ n. cut_from (closed count (map (renumbered are.number) nodes)) n (map (renumbered are.number) nodes))
      (length-map nodes (renumbered are.number))
      ∙ cut_same nodes points count are.number are.within are.apart within (length nodes) nodes (λ a m. m)

module _ (nodes near : List Node) (count : ℕ) (are : AreNearby nodes count near) where
  -- there are as many unknowns
  pub near_length : length near ≡ length nodes
  near_length = ap (λ (xs : List Node). length xs) are.are ∙ length-map nodes (renumbered are.number)

  -- with the same numbers
  pub near_unknowns : map (λ (a : Node). a.unknown) near ≡ map (λ (a : Node). a.unknown) nodes
  near_unknowns = ap (map (λ (a : Node). a.unknown)) are.are ∙ by nodes
    where
      by : (xs : List Node) → map (λ (a : Node). a.unknown) (map (renumbered are.number) xs) ≡ map (λ (a : Node). a.unknown) xs
      by [] = refl
      by (a ∷ xs) = ap (λ ys. a.unknown ∷ ys) (by xs)

  -- over points that have numbers
  pub near_within : (a : Node) → In near a → (a.point < count) × (a.source < count)
  near_within a m =
      let r = of_map (renumbered are.number) nodes a (subst (λ xs. In xs a) are.are m) in
      subst (λ (x : Node). (x.point < count) × (x.source < count)) r.2
      (are.within r.0.point (r.0, r.1, inl refl), are.within r.0.source (r.0, r.1, inr refl))
