-- Which of the unknowns left is the first whose part may come next.
use Rattle.std.proofs.Common.{◌≡◌, ◌∙◌, inl, inr, ⊎_elim, ℕ, zero, suc, ◌+◌, ◌<◌, ◌≤◌, ◌==◌, ◌&&◌, ◌||◌, not, cond, Bool, true, false}
use Rattle.std.proofs.Common.{true≢false, List, [], ◌∷◌, length, map, get_or, Some, None, refl, ap, sym, subst, arith}
use Rattle.std.specs.Prelude.{find}
use Rattle.std.specs.List.{list_all, filter, range_with_len}
use Rattle.std.proofs.lemmas.Bool.{eqb-true}
use Rattle.std.proofs.lemmas.Bool.Decides.{eqb_tells}
use Rattle.base_facts.specs.Elements.{In}
use Rattle.base_facts.proofs.elements.Membership.{in_map, of_map, in_range, of_range}
use Rattle.solve_joint.specs.declared.node.Node.{Node}
use Rattle.solve_joint.specs.Cuts.{are_one_part, keeps_within, may_come}
use Rattle.solve_joint.specs.Classes.{node_at, AreClasses}
use Rattle.solve_joint.specs.Waits.{left_of, Blocks, IsHead}
use Rattle.solve_joint.proofs.closure.Leading.{and_second, and_both}
use Rattle.solve_joint.proofs.group.Grouping.{in_filter, of_filter}
use Rattle.solve_joint.proofs.waiting.Placing.{not_true, blocker_left}

-- ---- tests over lists
find_range : (p : Node → Bool) (node : ℕ → Node) (f : ℕ → Bool) (a n j : ℕ) → a ≤ j → j < a + n → f j ≡ true → p (node j) ≡ true
    → ((k : ℕ) → a ≤ k → k < j → f k ≡ true → p (node k) ≡ false) → find p (map node (filter f (range_with_len a n))) ≡ Some (node j)
find_range p node f a zero j l m e g none = absurd (omega (arith, l, m))
find_range p node f a (suc n) j l m e g none = ⊎_elim
    (λ t. here t.1)
    (λ t. later (f a) refl (let s = t.1 in omega (arith, l, s))
    (find_range p node f (a + 1) n j (let s = t.1 in omega (arith, l, s)) (omega (arith, m)) e g (λ k h i. none k (omega (arith, h)) i)))
    (eqb_tells a j)
  where
    here : a ≡ j → find p (map node (filter f (range_with_len a (suc n)))) ≡ Some (node j)
    here s =
        ap (λ b. find p (map node (cond b (a ∷ filter f (range_with_len (a + 1) n)) (filter f (range_with_len (a + 1) n))))) (ap f s ∙ e)
        ∙ ap (λ b. cond b (Some (node a)) (find p (map node (filter f (range_with_len (a + 1) n))))) (ap (λ k. p (node k)) s ∙ g)
        ∙ ap (λ k. Some (node k)) s

    later : (b : Bool) → f a ≡ b → a < j → find p (map node (filter f (range_with_len (a + 1) n))) ≡ Some (node j) →
        find p (map node (cond b (a ∷ filter f (range_with_len (a + 1) n)) (filter f (range_with_len (a + 1) n)))) ≡ Some (node j)
    later true k less h = ap (λ b. cond b (Some (node a)) (find p (map node (filter f (range_with_len (a + 1) n)))))
        (none a (omega arith) less k) ∙ h
    later false k less h = h

find_nothing : (p : Node → Bool) (node : ℕ → Node) (f : ℕ → Bool) (xs : List ℕ) → ((k : ℕ) → In xs k → f k ≡ true → p (node k) ≡ false)
    → find p (map node (filter f xs)) ≡ None
find_nothing p node f [] none = refl
find_nothing p node f (x ∷ xs) none = by (f x) refl (find_nothing p node f xs (λ k m. none k (inr m)))
  where
    by : (b : Bool) → f x ≡ b → find p (map node (filter f xs)) ≡ None → find p (map node (cond b (x ∷ filter f xs) (filter f xs))) ≡ None
    by true k h = ap (λ b. cond b (Some (node x)) (find p (map node (filter f xs)))) (none x (inl refl) k) ∙ h
    by false k h = h

all_true : (f : Node → Bool) (xs : List Node) → ((x : Node) → In xs x → f x ≡ true) → list_all f xs ≡ true
all_true f [] h = refl
all_true f (x ∷ xs) h = and_both (f x) (list_all f xs) (h x (inl refl)) (all_true f xs (λ y m. h y (inr m)))

all_false : (f : Node → Bool) (xs : List Node) (x : Node) → In xs x → f x ≡ false → list_all f xs ≡ false
all_false f [] x m e = absurd m
all_false f (y ∷ xs) x m e = ⊎_elim
    (λ s. ap (λ b. b && list_all f xs) (ap f s ∙ e))
    (λ n. by (f y) (all_false f xs x n e))
    m
  where
    by : (b : Bool) → list_all f xs ≡ false → b && list_all f xs ≡ false
    by true h = h
    by false h = refl

unless : (b x : Bool) → (b ≡ true → x ≡ true) → not b || x ≡ true
unless true x h = h refl
unless false x h = refl

neither : (b x : Bool) → b ≡ true → x ≡ false → not b || x ≡ false
neither true x e h = h
neither false x e h = absurd (true≢false (sym e))

-- the test of two numbers that are one passes
pub equal : (a b : ℕ) → a ≡ b → (a == b) ≡ true
equal a b e = ⊎_elim (λ t. t.0) (λ t. absurd (t.1 e)) (eqb_tells a b)

-- that of two others fails
pub not_equal : (a b : ℕ) → (a ≡ b → ⊥) → (a == b) ≡ false
not_equal a b e = ⊎_elim (λ t. absurd (e t.1)) (λ t. t.0) (eqb_tells a b)

-- the negation of a test that fails passes
pub true_not : (b : Bool) → b ≡ false → not b ≡ true
true_not true e = absurd (true≢false e)
true_not false e = refl

module _ (nodes : List Node) (gone : List Bool) where
  -- the unknowns left are those at places that aren't gone
  pub of_left : (a : Node) → In (left_of nodes gone) a → (i : ℕ) × (i < length nodes) × (get_or gone i false ≡ false)
      × (node_at nodes i ≡ a)
  of_left a m =
      let r = of_map (node_at nodes) (filter (λ i. not (get_or gone i false)) (range_with_len 0 (length nodes))) a m in
      let s = of_filter (λ i. not (get_or gone i false)) (range_with_len 0 (length nodes)) r.0 r.1 in
      let l = of_range 0 (length nodes) r.0 s.0 in
      (r.0, omega (arith, l), not_true (get_or gone r.0 false) s.1, r.2)

  -- an unknown whose place is not gone is left
  pub in_left_of : (i : ℕ) → i < length nodes → get_or gone i false ≡ false → In (left_of nodes gone) (node_at nodes i)
  in_left_of i l e = in_map (node_at nodes) (filter (λ j. not (get_or gone j false)) (range_with_len 0 (length nodes))) i
      (in_filter (λ j. not (get_or gone j false)) (range_with_len 0 (length nodes)) i
      (in_range 0 (length nodes) i (omega arith) (omega (arith, l))) (true_not (get_or gone i false) e))

module _ (rows : List (List Bool)) (nodes : List Node) (classes : List ℕ) (are : AreClasses rows nodes classes) (gone : List Bool)
    (whole : (i : ℕ) → i < length nodes → get_or gone (get_or classes i 0) false ≡ get_or gone i false) where
  abbrev left : List Node
  left = left_of nodes gone

  abbrev class : ℕ → ℕ
  class i = get_or classes i 0

  -- the part of an unknown is known by a place of the list
  pub class_head : (i : ℕ) → i < length nodes → IsHead nodes classes (class i)
  class_head i l = record { within = (let h = are.low i l in omega (arith, h, l)); itself = are.head i l }

  one_part : (i k : ℕ) → i < length nodes → k < length nodes → class i ≡ class k → are_one_part rows (node_at nodes i)
      (node_at nodes k) ≡ true
  one_part i k l m e = are.same i k l m ∙ equal (class i) (class k) e

  -- a part that nothing blocks may come
  comes : (head : ℕ) → IsHead nodes classes head → ((i : ℕ) → Blocks nodes classes gone head i → ⊥)
      → may_come rows left (node_at nodes head) ≡ true
  comes head is free = all_true (λ member. not (are_one_part rows (node_at nodes head) member)
      || list_all (keeps_within rows (node_at nodes head) member) left) left
      (λ a m. let r = of_left nodes gone a m in
      subst (λ b. not (are_one_part rows (node_at nodes head) b) || list_all (keeps_within rows (node_at nodes head) b) left ≡ true) r.3
      (unless (are_one_part rows (node_at nodes head) (node_at nodes r.0))
      (list_all (keeps_within rows (node_at nodes head) (node_at nodes r.0)) left)
      (λ e. keeps r.0 r.1
      (sym (eqb-true (class head) (class r.0) (sym (are.same head r.0 is.within r.1) ∙ e)) ∙ is.itself))))
    where
      keeps : (i : ℕ) → i < length nodes → class i ≡ head → list_all (keeps_within rows (node_at nodes head) (node_at nodes i)) left ≡ true
      keeps i l e = all_true (keeps_within rows (node_at nodes head) (node_at nodes i)) left
          (λ b n. let r = of_left nodes gone b n in
          subst (λ x. keeps_within rows (node_at nodes head) (node_at nodes i) x ≡ true) r.3
          (unless ((node_at nodes i).source == (node_at nodes r.0).point) (are_one_part rows (node_at nodes head) (node_at nodes r.0))
          (λ s. ⊎_elim
          (λ t. one_part head r.0 is.within r.1 (is.itself ∙ sym t.1))
          (λ t. absurd (free r.0 (record {
            within = r.1;
            outside = and_both (not (get_or gone r.0 false)) (not (class r.0 == head)) (true_not (get_or gone r.0 false) r.2)
                (true_not (class r.0 == head) t.0);
            member = i;
            is_member = l;
            of_part = e;
            leans = eqb-true (node_at nodes i).source (node_at nodes r.0).point s;
          })))
          (eqb_tells (class r.0) head))))

  -- an unknown whose part something blocks doesn't come yet
  waits : (i k : ℕ) → i < length nodes → get_or gone i false ≡ false → Blocks nodes classes gone (class i) k
      → may_come rows left (node_at nodes i) ≡ false
  waits i k l e b =
      let member_left = sym (whole b.member b.is_member) ∙ ap (λ j. get_or gone j false) b.of_part ∙ whole i l ∙ e in
      let outside = not_true (class k == class i) (and_second (not (get_or gone k false)) (not (class k == class i)) b.outside) in
      all_false (λ member. not (are_one_part rows (node_at nodes i) member)
      || list_all (keeps_within rows (node_at nodes i) member) left) left (node_at nodes b.member)
      (in_left_of nodes gone b.member b.is_member member_left)
      (neither (are_one_part rows (node_at nodes i) (node_at nodes b.member))
      (list_all (keeps_within rows (node_at nodes i) (node_at nodes b.member)) left)
      (one_part i b.member l b.is_member (sym b.of_part))
      (all_false (keeps_within rows (node_at nodes i) (node_at nodes b.member)) left (node_at nodes k)
      (in_left_of nodes gone k b.within (blocker_left nodes classes gone (class i) k b))
      (neither ((node_at nodes b.member).source == (node_at nodes k).point) (are_one_part rows (node_at nodes i) (node_at nodes k))
      (equal (node_at nodes b.member).source (node_at nodes k).point b.leans)
      (are.same i k l b.within ∙ not_equal (class i) (class k)
      (λ s. true≢false (sym (equal (class k) (class i) (sym s)) ∙ outside))))))

  -- the first part that nothing blocks comes next
  pub next_is : (head : ℕ) → IsHead nodes classes head → get_or gone head false ≡ false
      → ((i : ℕ) → Blocks nodes classes gone head i → ⊥)
      → ((k : ℕ) → IsHead nodes classes k → get_or gone k false ≡ false → k < head → (i : ℕ) × Blocks nodes classes gone k i)
      → find (may_come rows left) left ≡ Some (node_at nodes head)
  next_is head is e free before = find_range (may_come rows left) (node_at nodes) (λ i. not (get_or gone i false)) 0 (length nodes) head
      (omega arith) (let l = is.within in omega (arith, l)) (true_not (get_or gone head false) e) (comes head is free)
      (λ k h l f.
      let m : k < length nodes = (let w = is.within in omega (arith, l, w)) in
      let out = not_true (get_or gone k false) f in
      let low = are.low k m in
      let b = before (class k) (class_head k m) (whole k m ∙ out) (omega (arith, low, l)) in
      waits k b.0 m out b.1)

  -- where something blocks every part none comes
  pub next_none : ((k : ℕ) → IsHead nodes classes k → get_or gone k false ≡ false → (i : ℕ) × Blocks nodes classes gone k i)
      → find (may_come rows left) left ≡ None
  next_none all = find_nothing (may_come rows left) (node_at nodes) (λ i. not (get_or gone i false)) (range_with_len 0 (length nodes))
      (λ k m f.
      let l = of_range 0 (length nodes) k m in
      let within : k < length nodes = omega (arith, l) in
      let out = not_true (get_or gone k false) f in
      let b = all (class k) (class_head k within) (whole k within ∙ out) in
      waits k b.0 within out b.1)
