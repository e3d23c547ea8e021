-- A cut, part by part.
use Rattle.std.proofs.Common.{◌≡◌, ◌∙◌, inl, inr, ⊎_elim, ℕ, ◌<◌, ◌==◌, ◌&&◌, not, cond, Bool, true, false}
use Rattle.std.proofs.Common.{true≢false, List, [], ◌∷◌, length, map, get_or, Some, None, refl, ap, sym, subst, arith}
use Rattle.std.specs.Prelude.{find}
use Rattle.std.specs.Ordering.{nat_cmp}
use Rattle.std.specs.declared.cmp.Ordering.TheVariants.{Less}
use Rattle.std.specs.List.{All, filter, range_with_len}
use Rattle.std.proofs.lemmas.Bool.Decides.{eqb_tells}
use Rattle.std.proofs.lemmas.List.FromFn.{fill_by_all}
use Rattle.base_facts.specs.Elements.{In}
use Rattle.base_facts.proofs.elements.Membership.{of_range}
use Rattle.solve_joint.specs.declared.node.Node.{Node}
use Rattle.solve_joint.specs.Cuts.{are_one_part, are_apart, may_come}
use Rattle.solve_joint.specs.Classes.{node_at, places_of, AreClasses}
use Rattle.solve_joint.specs.Waits.{left_of, Blocks, IsHead, AreWaiting, AllPlaced, AllPlacedBut}
use Rattle.solve_joint.proofs.closure.Leading.{and_second, and_both}
use Rattle.solve_joint.proofs.cutting.Blocking.{member_is, is_member}
use Rattle.solve_joint.proofs.waiting.Keys.{above_first}
use Rattle.solve_joint.proofs.waiting.Placing.{blocker_left}
use Rattle.solve_joint.proofs.cut.Choosing.{equal, not_equal, true_not, next_is, next_none}

-- ---- filters
filter_map : (p : Node → Bool) (node : ℕ → Node) (xs : List ℕ) → filter p (map node xs) ≡ map node (filter (λ k. p (node k)) xs)
filter_map p node [] = refl
filter_map p node (x ∷ xs) = by (p (node x)) (filter_map p node xs)
  where
    by : (b : Bool) → filter p (map node xs) ≡ map node (filter (λ k. p (node k)) xs) →
        cond b (node x ∷ filter p (map node xs)) (filter p (map node xs))
        ≡ map node (cond b (x ∷ filter (λ k. p (node k)) xs) (filter (λ k. p (node k)) xs))
    by true e = ap (λ ys. node x ∷ ys) e
    by false e = e

filter_twice : (f g h : ℕ → Bool) (xs : List ℕ) → ((k : ℕ) → In xs k → f k && g k ≡ h k) → filter g (filter f xs) ≡ filter h xs
filter_twice f g h [] e = refl
filter_twice f g h (x ∷ xs) e = by (f x) (g x) (h x) (e x (inl refl)) refl (filter_twice f g h xs (λ k m. e k (inr m)))
  where
    by : (a b c : Bool) → a && b ≡ c → g x ≡ b → filter g (filter f xs) ≡ filter h xs →
        filter g (cond a (x ∷ filter f xs) (filter f xs)) ≡ cond c (x ∷ filter h xs) (filter h xs)
    by true b c k s r = ap (λ t. cond t (x ∷ filter g (filter f xs)) (filter g (filter f xs))) (s ∙ k) ∙ ap (λ ys. cond c (x ∷ ys) ys) r
    by false b c k s r = r ∙ ap (λ t. cond t (x ∷ filter h xs) (filter h xs)) k

filter_all : (f : ℕ → Bool) (xs : List ℕ) → ((k : ℕ) → f k ≡ true) → filter f xs ≡ xs
filter_all f [] e = refl
filter_all f (x ∷ xs) e = ap (λ b. cond b (x ∷ filter f xs) (filter f xs)) (e x) ∙ ap (λ ys. x ∷ ys) (filter_all f xs e)

map_twice : {X Y Z : Type 0} (g : Y → Z) (f : X → Y) (xs : List X) → map g (map f xs) ≡ map (λ x. g (f x)) xs
map_twice g f [] = refl
map_twice g f (x ∷ xs) = ap (λ ys. g (f x) ∷ ys) (map_twice g f xs)

-- before anything is gone all unknowns are left
pub all_left : (nodes : List Node) (gone : List Bool) → ((i : ℕ) → get_or gone i false ≡ false) → left_of nodes gone ≡ nodes
all_left nodes gone e =
    ap (map (node_at nodes)) (filter_all (λ i. not (get_or gone i false)) (range_with_len 0 (length nodes))
    (λ i. true_not (get_or gone i false) (e i)))
    ∙ sym (fill_by_all (node_at nodes) nodes (length nodes) (record { unknown = 0; point = 0; source = 0 }) refl (λ k l. refl))

-- no part is gone in part alone
abbrev pub IsWhole : List Node → List ℕ → List Bool → Type 0
IsWhole nodes classes gone = (i : ℕ) → i < length nodes → get_or gone (get_or classes i 0) false ≡ get_or gone i false

module _ (rows : List (List Bool)) (nodes : List Node) (classes : List ℕ) (are : AreClasses rows nodes classes) where
  abbrev class : ℕ → ℕ
  class i = get_or classes i 0

  -- ---- a part goes
  module _ (gone gone' : List Bool) (head : ℕ) (is : IsHead nodes classes head) (here : get_or gone head false ≡ false)
      (whole : IsWhole nodes classes gone)
      (out : (i : ℕ) → In (places_of classes head) i → get_or gone' i false ≡ true)
      (others : (i : ℕ) → (In (places_of classes head) i → ⊥) → get_or gone' i false ≡ get_or gone i false) where
    goes : (i : ℕ) → i < length nodes → class i ≡ head → get_or gone' i false ≡ true
    goes i l e = out i (is_member nodes classes are.size head i l e)

    stays : (i : ℕ) → (class i ≡ head → ⊥) → get_or gone' i false ≡ get_or gone i false
    stays i e = others i (λ m. e (member_is nodes classes are.size head i m).1)

    left_then : (i : ℕ) → i < length nodes → class i ≡ head → get_or gone i false ≡ false
    left_then i l e = sym (whole i l) ∙ ap (λ k. get_or gone k false) e ∙ here

    one_part_is : (i : ℕ) → i < length nodes → are_one_part rows (node_at nodes head) (node_at nodes i) ≡ (head == class i)
    one_part_is i l = are.same head i is.within l ∙ ap (λ k. k == class i) is.itself

    -- the unknowns of the part
    pub part_is : map (λ (a : Node). a.unknown) (filter (are_one_part rows (node_at nodes head)) (left_of nodes gone))
        ≡ map (λ i. (node_at nodes i).unknown) (places_of classes head)
    part_is =
        ap (map (λ (a : Node). a.unknown))
        (filter_map (are_one_part rows (node_at nodes head)) (node_at nodes) (filter (λ i. not (get_or gone i false))
        (range_with_len 0 (length nodes)))
        ∙ ap (map (node_at nodes)) (filter_twice (λ i. not (get_or gone i false)) (λ i. are_one_part rows (node_at nodes head)
        (node_at nodes i))
        (λ i. class i == head) (range_with_len 0 (length nodes)) same
        ∙ ap (λ n. filter (λ i. class i == head) (range_with_len 0 n)) (sym are.size)))
        ∙ map_twice (λ (a : Node). a.unknown) (node_at nodes) (places_of classes head)
      where
        same : (i : ℕ) → In (range_with_len 0 (length nodes)) i
            → not (get_or gone i false) && are_one_part rows (node_at nodes head) (node_at nodes i) ≡ (class i == head)
        same i m =
            let l = of_range 0 (length nodes) i m in
            let within : i < length nodes = omega (arith, l) in
            ⊎_elim
            (λ t. and_both (not (get_or gone i false)) (are_one_part rows (node_at nodes head) (node_at nodes i))
            (true_not (get_or gone i false) (left_then i within t.1)) (one_part_is i within ∙ equal head (class i) (sym t.1)) ∙ sym t.0)
            (λ t. ap (λ b. not (get_or gone i false) && b) (one_part_is i within ∙ not_equal head (class i) (λ s. t.1 (sym s)))
            ∙ no_more (not (get_or gone i false)) ∙ sym t.0)
            (eqb_tells (class i) head)
          where
            no_more : (b : Bool) → b && false ≡ false
            no_more true = refl
            no_more false = refl

    -- the unknowns left behind it
    pub left_is : left_of nodes gone' ≡ filter (are_apart rows (node_at nodes head)) (left_of nodes gone)
    left_is = sym (
        filter_map (are_apart rows (node_at nodes head)) (node_at nodes) (filter (λ i. not (get_or gone i false)) (range_with_len 0
        (length nodes)))
        ∙ ap (map (node_at nodes)) (filter_twice (λ i. not (get_or gone i false)) (λ i. are_apart rows (node_at nodes head)
        (node_at nodes i))
        (λ i. not (get_or gone' i false)) (range_with_len 0 (length nodes)) same))
      where
        same : (i : ℕ) → In (range_with_len 0 (length nodes)) i
            → not (get_or gone i false) && are_apart rows (node_at nodes head) (node_at nodes i) ≡ not (get_or gone' i false)
        same i m =
            let l = of_range 0 (length nodes) i m in
            let within : i < length nodes = omega (arith, l) in
            ⊎_elim
            (λ t. ap (λ b. not (get_or gone i false) && not b) (one_part_is i within ∙ equal head (class i) (sym t.1))
            ∙ no_more (not (get_or gone i false)) ∙ ap not (sym (goes i within t.1)))
            (λ t. ap (λ b. not (get_or gone i false) && not b) (one_part_is i within ∙ not_equal head (class i) (λ s. t.1 (sym s)))
            ∙ no_less (not (get_or gone i false)) ∙ ap not (sym (stays i t.1)))
            (eqb_tells (class i) head)
          where
            no_more : (b : Bool) → b && false ≡ false
            no_more true = refl
            no_more false = refl

            no_less : (b : Bool) → b && true ≡ b
            no_less true = refl
            no_less false = refl

    -- still no part is gone in part alone
    pub still_whole : IsWhole nodes classes gone'
    still_whole i l = ⊎_elim
        (λ t. goes (class i) (let h = are.low i l in omega (arith, h, l)) (are.head i l ∙ t.1) ∙ sym (goes i l t.1))
        (λ t. stays (class i) (λ s. t.1 (sym (are.head i l) ∙ s)) ∙ whole i l ∙ sym (stays i t.1))
        (eqb_tells (class i) head)

    module _ (ready ready' : List ℕ) (noted : List (List ℕ)) (waiting : AreWaiting nodes classes gone ready noted)
        (popped : ready ≡ head ∷ ready') (above : All (λ y. nat_cmp head y ≡ Less) ready') where
      later : (k : ℕ) → In ready' k → head < k
      later k m = above_first head ready' above k m

      was_ready : (k : ℕ) → In ready' k → In ready k
      was_ready k m = subst (λ ks. In ks k) (sym popped) (inr m)

      left_still : (k : ℕ) → IsHead nodes classes k → (k ≡ head → ⊥) → get_or gone' k false ≡ get_or gone k false
      left_still k h e = stays k (λ s. e (sym h.itself ∙ s))

      still_blocks : (k i : ℕ) → Blocks nodes classes gone' k i → Blocks nodes classes gone k i
      still_blocks k i b = record {
        within = b.within;
        outside = and_both (not (get_or gone i false)) (not (class i == k))
            (true_not (get_or gone i false) (was_left_at i b.within (blocker_left nodes classes gone' k i b)))
            (and_second (not (get_or gone' i false)) (not (class i == k)) b.outside);
        member = b.member;
        is_member = b.is_member;
        of_part = b.of_part;
        leans = b.leans;
      }
        where
          was_left_at : (i : ℕ) → i < length nodes → get_or gone' i false ≡ false → get_or gone i false ≡ false
          was_left_at i l e = ⊎_elim
              (λ t. absurd (true≢false (sym (goes i l t.1) ∙ e)))
              (λ t. sym (stays i t.1) ∙ e)
              (eqb_tells (class i) head)

      -- the parts that are left still wait once one is taken out
      pub still_waiting : AreWaiting nodes classes gone' ready' noted
      still_waiting = record {
        size = waiting.size;
        ready_heads = λ k m. waiting.ready_heads k (was_ready k m);
        ready_left = λ k m. left_still k (waiting.ready_heads k (was_ready k m)) (λ s. (let l = later k m in omega (arith, l, s)))
            ∙ waiting.ready_left k (was_ready k m);
        ready_free = λ k i m b. waiting.ready_free k i (was_ready k m) (still_blocks k i b);
        noted_heads = waiting.noted_heads;
      }

      -- the parts that were noted at the part's members are to be placed anew
      pub placed_but : AllPlaced nodes classes gone ready noted → AllPlacedBut nodes classes gone' ready' noted (places_of classes head)
      placed_but all k h e =
          let apart : k ≡ head → ⊥ = λ s. true≢false (sym (goes k h.within (h.itself ∙ s)) ∙ e) in
          ⊎_elim
          (λ m. inl (inl (⊎_elim (λ s. absurd (apart (sym s))) (λ n. n) (subst (λ ks. In ks k) popped m))))
          (λ b. ⊎_elim
          (λ t. inr (b.0, is_member nodes classes are.size head b.0 b.1.within t.1, b.2))
          (λ t. inl (inr (b.0, blocks_still k b.0 t.1 b.1, b.2)))
          (eqb_tells (class b.0) head))
          (all k h (sym (left_still k h apart) ∙ e))
        where
          blocks_still : (k i : ℕ) → (class i ≡ head → ⊥) → Blocks nodes classes gone k i → Blocks nodes classes gone' k i
          blocks_still k i apart b = record {
            within = b.within;
            outside = and_both (not (get_or gone' i false)) (not (class i == k))
                (true_not (get_or gone' i false) (stays i apart ∙ blocker_left nodes classes gone k i b))
                (and_second (not (get_or gone i false)) (not (class i == k)) b.outside);
            member = b.member;
            is_member = b.is_member;
            of_part = b.of_part;
            leans = b.leans;
          }

      -- it is the first that may come
      pub popped_is : AllPlaced nodes classes gone ready noted
          → find (may_come rows (left_of nodes gone)) (left_of nodes gone) ≡ Some (node_at nodes head)
      popped_is all = next_is rows nodes classes are gone whole head is here
          (λ i b. waiting.ready_free head i (subst (λ ks. In ks head) (sym popped) (inl refl)) b)
          (λ k h e l. ⊎_elim
          (λ m. absurd (⊎_elim (λ s. omega (arith, s, l)) (λ n. let j = later k n in omega (arith, j, l))
          (subst (λ ks. In ks k) popped m)))
          (λ b. (b.0, b.1))
          (all k h e))

  -- where none is ready none may come
  pub none_ready : (gone : List Bool) (ready : List ℕ) (noted : List (List ℕ)) → IsWhole nodes classes gone → ready ≡ []
      → AllPlaced nodes classes gone ready noted → find (may_come rows (left_of nodes gone)) (left_of nodes gone) ≡ None
  none_ready gone ready noted whole e all = next_none rows nodes classes are gone whole
      (λ k h f. ⊎_elim (λ m. absurd (subst (λ ks. In ks k) e m)) (λ b. (b.0, b.1)) (all k h f))
