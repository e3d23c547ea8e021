-- Parts that are placed: where they are ready, or noted at unknowns that block them.
use Rattle.std.proofs.Common.{◌≡◌, ◌∙◌, ◌⊎◌, inl, inr, ⊎_elim, ℕ, ◌+◌, ◌<◌, ◌≤◌, ◌==◌, not, Bool, true, false, true≢false, List, []}
use Rattle.std.proofs.Common.{◌∷◌, ◌++◌}
use Rattle.std.proofs.Common.{length, get_or, set, take, drop, refl, sym, ap, subst, arith, length-set}
use Rattle.std.specs.Prelude.{replicate}
use Rattle.std.specs.Ordering.{nat_cmp}
use Rattle.std.specs.BTreeSet.{insert_key}
use Rattle.std.proofs.lemmas.Bool.{cases_lt}
use Rattle.std.proofs.lemmas.Bool.Decides.{eqb_tells}
use Rattle.std.proofs.lemmas.List.{get_or_default, get_or_past, get_or-set_same, get_or-set_other, length-replicate}
use Rattle.std.proofs.lemmas.List.{take_more, drop_more, drop_all}
use Rattle.base_facts.proofs.Lists.{get_or_replicate_default}
use Rattle.base_facts.specs.Elements.{In}
use Rattle.base_facts.proofs.elements.Membership.{in_left, in_right, of_append}
use Rattle.solve_joint.specs.declared.node.Node.{Node}
use Rattle.solve_joint.specs.Waits.{Blocks, IsHead, AreWaiting, AreKept, IsPlaced, AllPlacedBut}
use Rattle.solve_joint.proofs.closure.Leading.{and_first}
use Rattle.solve_joint.proofs.waiting.Keys.{in_insert}

-- a test fails whose negation passes
pub not_true : (b : Bool) → not b ≡ true → b ≡ false
not_true true e = absurd (true≢false (sym e))
not_true false e = refl

-- what blocks a part isn't gone
pub blocker_left : (nodes : List Node) (classes : List ℕ) (gone : List Bool) (head i : ℕ) → Blocks nodes classes gone head i
    → get_or gone i false ≡ false
blocker_left nodes classes gone head i b = not_true (get_or gone i false)
    (and_first (not (get_or gone i false)) (not (get_or classes i 0 == head)) b.outside)

-- nothing is lost where nothing changes
pub kept_all : (ready : List ℕ) (noted : List (List ℕ)) → AreKept ready noted ready noted
kept_all ready noted = record { still_ready = λ k m. m; still_noted = λ i k m. m }

-- nothing is lost by two changes of which each loses nothing
pub kept_both : (r : List ℕ) (n : List (List ℕ)) (r' : List ℕ) (n' : List (List ℕ)) (r'' : List ℕ) (n'' : List (List ℕ))
    → AreKept r n r' n' → AreKept r' n' r'' n'' → AreKept r n r'' n''
kept_both r n r' n' r'' n'' a b = record {
  still_ready = λ k m. b.still_ready k (a.still_ready k m);
  still_noted = λ i k m. b.still_noted i k (a.still_noted i k m);
}

module _ (nodes : List Node) (classes : List ℕ) (gone : List Bool) where
  -- a part that is placed stays so where nothing is lost
  pub still_placed : (r : List ℕ) (n : List (List ℕ)) (r' : List ℕ) (n' : List (List ℕ)) (k : ℕ) → AreKept r n r' n'
      → IsPlaced nodes classes gone r n k → IsPlaced nodes classes gone r' n' k
  still_placed r n r' n' k a h = ⊎_elim (λ m. inl (a.still_ready k m)) (λ b. inr (b.0, b.1, a.still_noted b.0 k b.2)) h

  module _ (ready : List ℕ) (noted : List (List ℕ)) (are : AreWaiting nodes classes gone ready noted) (head : ℕ) where
    -- ---- a part is noted
    module _ (is : IsHead nodes classes head) (i : ℕ) (blocks : Blocks nodes classes gone head i) (group : List ℕ)
        (new : List (List ℕ)) (here : group ≡ get_or noted i group) (e : new ≡ set noted i (group ++ head ∷ [])) where
      placed : i < length noted
      placed = let l = blocks.within in let s = are.size in omega (arith, l, s)

      at_place : get_or new i [] ≡ get_or noted i [] ++ head ∷ []
      at_place = ap (λ gs. get_or gs i []) e ∙ get_or-set_same noted i (group ++ head ∷ []) [] placed
          ∙ ap (λ g. g ++ head ∷ []) (here ∙ get_or_default noted i group [] placed)

      apart : (j : ℕ) → (j ≡ i → ⊥) → get_or new j [] ≡ get_or noted j []
      apart j s = ap (λ gs. get_or gs j []) e ∙ get_or-set_other noted i j (group ++ head ∷ []) [] s

      noted_from : (j k : ℕ) → In (get_or new j []) k → In (get_or noted j []) k ⊎ (head ≡ k)
      noted_from j k m = ⊎_elim
          (λ t. ⊎_elim (λ n. inl (subst (λ p. In (get_or noted p []) k) (sym t.1) n)) (λ n. ⊎_elim (λ s. inr s) (λ s. absurd s) n)
          (of_append (get_or noted i []) (head ∷ []) k (subst (λ g. In g k) (ap (λ p. get_or new p []) t.1 ∙ at_place) m)))
          (λ t. inl (subst (λ g. In g k) (apart j t.1) m))
          (eqb_tells j i)

      -- parts still wait where one more is noted
      pub noted_waiting : AreWaiting nodes classes gone ready new
      noted_waiting = record {
        size = ap (λ gs. length gs) e ∙ length-set noted i (group ++ head ∷ []) ∙ are.size;
        ready_heads = are.ready_heads;
        ready_left = are.ready_left;
        ready_free = are.ready_free;
        noted_heads = λ j k m. ⊎_elim (λ n. are.noted_heads j k n) (λ s. subst (IsHead nodes classes) s is) (noted_from j k m);
      }

      -- nothing is lost by that
      pub noted_kept : AreKept ready noted ready new
      noted_kept = record {
        still_ready = λ k m. m;
        still_noted = λ j k m. ⊎_elim
            (λ t. subst (λ g. In g k) (sym (ap (λ p. get_or new p []) t.1 ∙ at_place))
            (in_left (get_or noted i []) (head ∷ []) k (subst (λ p. In (get_or noted p []) k) t.1 m)))
            (λ t. subst (λ g. In g k) (sym (apart j t.1)) m)
            (eqb_tells j i);
      }

      -- and the part is placed
      pub noted_placed : IsPlaced nodes classes gone ready new head
      noted_placed = inr (i, blocks, subst (λ g. In g head) (sym at_place) (in_right (get_or noted i []) (head ∷ []) head (inl refl)))

    -- ---- a part is ready
    module _ (is : IsHead nodes classes head) (left : get_or gone head false ≡ false)
        (free : (i : ℕ) → Blocks nodes classes gone head i → ⊥) (new : List ℕ) (e : new ≡ insert_key nat_cmp ready head) where
      ready_from : (k : ℕ) → In new k → In ready k ⊎ (head ≡ k)
      ready_from k m = (in_insert ready head k).0 (subst (λ ks. In ks k) e m)

      -- parts still wait where one more is ready
      pub ready_waiting : AreWaiting nodes classes gone new noted
      ready_waiting = record {
        size = are.size;
        ready_heads = λ k m. ⊎_elim (λ n. are.ready_heads k n) (λ s. subst (IsHead nodes classes) s is) (ready_from k m);
        ready_left = λ k m. ⊎_elim (λ n. are.ready_left k n) (λ s. subst (λ j. get_or gone j false ≡ false) s left) (ready_from k m);
        ready_free = λ k i m b. ⊎_elim (λ n. are.ready_free k i n b)
            (λ s. free i (subst (λ j. Blocks nodes classes gone j i) (sym s) b)) (ready_from k m);
        noted_heads = are.noted_heads;
      }

      -- nothing is lost by that
      pub ready_kept : AreKept ready noted new noted
      ready_kept = record {
        still_ready = λ k m. subst (λ ks. In ks k) (sym e) ((in_insert ready head k).1 (inl m));
        still_noted = λ i k m. m;
      }

      -- and the part is placed
      pub ready_placed : IsPlaced nodes classes gone new noted head
      ready_placed = inl (subst (λ ks. In ks head) (sym e) ((in_insert ready head head).1 (inr refl)))

  -- nothing waits yet
  pub waiting_none : (ready : List ℕ) (noted : List (List ℕ)) → ready ≡ [] → noted ≡ replicate (length nodes) []
      → AreWaiting nodes classes gone ready noted
  waiting_none ready noted r n = record {
    size = ap (λ gs. length gs) n ∙ length-replicate (length nodes) [];
    ready_heads = λ k m. absurd (nothing k m);
    ready_left = λ k m. absurd (nothing k m);
    ready_free = λ k i m. absurd (nothing k m);
    noted_heads = λ i k m. absurd (subst (λ g. In g k) (ap (λ gs. get_or gs i []) n ∙ get_or_replicate_default (length nodes) i []) m);
  }
    where
      nothing : (k : ℕ) → In ready k → ⊥
      nothing k m = subst (λ ks. In ks k) r m

  -- ---- the parts that are noted at an unknown are taken away
  module _ (ready : List ℕ) (noted : List (List ℕ)) (are : AreWaiting nodes classes gone ready noted) (i : ℕ) (new : List (List ℕ))
      (e : new ≡ set noted i []) where
    gone_there : (k : ℕ) → In (get_or new i []) k → ⊥
    gone_there k m = ⊎_elim
        (λ l. subst (λ g. In g k) (ap (λ gs. get_or gs i []) e ∙ get_or-set_same noted i [] [] l) m)
        (λ l. subst (λ g. In g k) (get_or_past new i [] (let s = ap (λ gs. length gs) e ∙ length-set noted i [] in omega (arith, l, s))) m)
        (cases_lt i (length noted))

    elsewhere : (j : ℕ) → (j ≡ i → ⊥) → get_or new j [] ≡ get_or noted j []
    elsewhere j s = ap (λ gs. get_or gs j []) e ∙ get_or-set_other noted i j [] [] s

    -- parts still wait where those that are noted at an unknown are taken away
    pub taken_waiting : AreWaiting nodes classes gone ready new
    taken_waiting = record {
      size = ap (λ gs. length gs) e ∙ length-set noted i [] ∙ are.size;
      ready_heads = are.ready_heads;
      ready_left = are.ready_left;
      ready_free = are.ready_free;
      noted_heads = λ j k m. ⊎_elim
          (λ t. absurd (gone_there k (subst (λ p. In (get_or new p []) k) t.1 m)))
          (λ t. are.noted_heads j k (subst (λ g. In g k) (elsewhere j t.1) m))
          (eqb_tells j i);
    }

    -- once those that were noted there are placed anew
    pub placed_again : (heads rest : List ℕ) (ready' : List ℕ) (noted' : List (List ℕ)) → heads ≡ get_or noted i []
        → get_or gone i false ≡ true
        → AllPlacedBut nodes classes gone ready noted (i ∷ rest) → AreKept ready new ready' noted'
        → ((k : ℕ) → In heads k → get_or gone k false ≡ false → IsPlaced nodes classes gone ready' noted' k)
        → AllPlacedBut nodes classes gone ready' noted' rest
    placed_again heads rest ready' noted' h out but kept again k is left =
        ⊎_elim
        (λ p. inl (⊎_elim
        (λ m. inl (kept.still_ready k m))
        (λ b. inr (
          b.0,
          b.1,
          kept.still_noted b.0 k (subst (λ g. In g k)
              (sym (elsewhere b.0 (λ s. true≢false (sym out ∙ ap (λ j. get_or gone j false) (sym s)
              ∙ blocker_left nodes classes gone k b.0 b.1)))) b.2),
        ))
        p))
        (λ q. ⊎_elim
        (λ t. inl (again k (subst (λ g. In g k) (ap (λ j. get_or noted j []) t.1 ∙ sym h) q.2) left))
        (λ t. inr (
          q.0,
          ⊎_elim (λ s. absurd (t.1 (sym s))) (λ m. m) q.1,
          kept.still_noted q.0 k (subst (λ g. In g k) (sym (elsewhere q.0 t.1)) q.2),
        ))
        (eqb_tells q.0 i))
        (but k is left)

-- ---- lists gone through
-- one more of a list has a property that the first ones have
pub each_more : (P : ℕ → Type 0) (xs : List ℕ) (n : ℕ) → n < length xs → ((k : ℕ) → In (take n xs) k → P k) → P (get_or xs n 0)
    → (k : ℕ) → In (take (n + 1) xs) k → P k
each_more P xs n l before here k m = ⊎_elim (λ h. before k h) (λ h. ⊎_elim (λ s. subst P s here) (λ s. absurd s) h)
    (of_append (take n xs) (get_or xs n 0 ∷ []) k (subst (λ ys. In ys k) (take_more xs n 0 l) m))

-- the rest of a list from one of its places on
pub rest_more : (xs : List ℕ) (n : ℕ) → n < length xs → drop n xs ≡ get_or xs n 0 ∷ drop (n + 1) xs
rest_more xs n l = drop_more xs n 0 l

-- what is left of a list behind its last place
pub rest_none : (xs : List ℕ) (n : ℕ) → length xs ≤ n → drop n xs ≡ []
rest_none xs n l = drop_all n xs l
