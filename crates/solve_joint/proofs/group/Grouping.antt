-- Places of a list by what stands there.
use Rattle.std.proofs.Common.{◌≡◌, ◌∙◌, ◌⊎◌, inl, inr, ⊎_elim, ℕ, ◌+◌, ◌<◌, ◌==◌, cond, Bool, true, false, true≢false, List, [], ◌∷◌}
use Rattle.std.proofs.Common.{◌++◌, length, get_or, set, refl, sym, ap, arith, length-set}
use Rattle.std.specs.Prelude.{replicate}
use Rattle.std.specs.List.{filter, range_with_len}
use Rattle.std.proofs.lemmas.Bool.{eqb-true}
use Rattle.std.proofs.lemmas.Bool.Decides.{eqb_tells}
use Rattle.std.proofs.lemmas.List.{append-nil, get_or_default, get_or-set_same, get_or-set_other, get_or-replicate, length-replicate}
use Rattle.std.proofs.lemmas.List.FromFn.{fill_by_all, get_or-map-range_with_len}
use Rattle.base_facts.proofs.Ranges.{range_append}
use Rattle.base_facts.specs.Elements.{In}
use Rattle.base_facts.proofs.elements.Membership.{in_range, of_range}
use Rattle.solve_joint.specs.Classes.{places_of, groups_by}

-- ---- filters
pub in_filter : {A : Type 0} (f : A → Bool) (xs : List A) (x : A) → In xs x → f x ≡ true → In (filter f xs) x
in_filter f [] x m e = m
in_filter f (y ∷ xs) x m e = by (f y) refl (λ k. in_filter f xs x k e) m
  where
    by : (b : Bool) → f y ≡ b → (In xs x → In (filter f xs) x) → (y ≡ x) ⊎ In xs x → In (cond b (y ∷ filter f xs) (filter f xs)) x
    by true k t h = ⊎_elim (λ s. inl s) (λ s. inr (t s)) h
    by false k t h = ⊎_elim (λ s. absurd (true≢false (sym e ∙ ap f (sym s) ∙ k))) (λ s. t s) h

-- what a filter keeps is of the list and passes
pub of_filter : {A : Type 0} (f : A → Bool) (xs : List A) (x : A) → In (filter f xs) x → In xs x × (f x ≡ true)
of_filter f [] x m = absurd m
of_filter f (y ∷ xs) x m = by (f y) refl (λ k. of_filter f xs x k) m
  where
    by : (b : Bool) → f y ≡ b → (In (filter f xs) x → In xs x × (f x ≡ true)) → In (cond b (y ∷ filter f xs) (filter f xs)) x
        → ((y ≡ x) ⊎ In xs x) × (f x ≡ true)
    by true k t h = ⊎_elim (λ s. (inl s, ap f (sym s) ∙ k)) (λ s. let r = t s in (inr r.0, r.1)) h
    by false k t h = let r = t h in (inr r.0, r.1)

filter_more : {A : Type 0} (f : A → Bool) (xs : List A) (x : A) → filter f (xs ++ x ∷ []) ≡ filter f xs ++ cond (f x) (x ∷ []) []
filter_more f [] x = refl
filter_more f (y ∷ xs) x = by (f y) (filter_more f xs x)
  where
    by : (b : Bool) → filter f (xs ++ x ∷ []) ≡ filter f xs ++ cond (f x) (x ∷ []) [] →
        cond b (y ∷ filter f (xs ++ x ∷ [])) (filter f (xs ++ x ∷ [])) ≡ cond b (y ∷ filter f xs) (filter f xs) ++ cond (f x) (x ∷ []) []
    by true e = ap (λ zs. y ∷ zs) e
    by false e = e

-- ---- the places of a key
-- a place is one of a key exactly where the key stands there
pub in_places : (keys : List ℕ) (k i : ℕ) → i < length keys → get_or keys i 0 ≡ k → In (places_of keys k) i
in_places keys k i l e = in_filter (λ j. get_or keys j 0 == k) (range_with_len 0 (length keys)) i
    (in_range 0 (length keys) i (omega arith) (omega (arith, l))) (⊎_elim (λ t. t.0) (λ t. absurd (t.1 e)) (eqb_tells (get_or keys i 0) k))

-- a place of a key is one of the list, with the key there
pub of_places : (keys : List ℕ) (k i : ℕ) → In (places_of keys k) i → (i < length keys) × (get_or keys i 0 ≡ k)
of_places keys k i m =
    let r = of_filter (λ j. get_or keys j 0 == k) (range_with_len 0 (length keys)) i m in
    let l = of_range 0 (length keys) i r.0 in
    (omega (arith, l), eqb-true (get_or keys i 0) k r.1)

-- ---- groups, place by place
-- each key's group has those of the first n places at which it stands
pub record AreGrouped (count : ℕ) (keys : List ℕ) (groups : List (List ℕ)) (n : ℕ) : Type 0 where
  -- there is a group for each key
  pub size : length groups ≡ count
  -- it has its key's places
  pub each : (k : ℕ) → k < count → get_or groups k [] ≡ filter (λ i. get_or keys i 0 == k) (range_with_len 0 n)

module _ (count : ℕ) (keys : List ℕ) where
  -- no place
  pub grouped_none : (groups : List (List ℕ)) → groups ≡ replicate count [] → AreGrouped count keys groups 0
  grouped_none groups e = record {
    size = ap (λ gs. length gs) e ∙ length-replicate count [];
    each = λ k l. ap (λ gs. get_or gs k []) e ∙ get_or-replicate count k [] [] l;
  }

  range_more : (n : ℕ) → range_with_len 0 (n + 1) ≡ range_with_len 0 n ++ n ∷ []
  range_more n = range_append 0 n 1 ∙ ap (λ m. range_with_len 0 n ++ m ∷ []) (let e : 0 + n ≡ n = omega arith in e)

  more : (n k : ℕ) → filter (λ i. get_or keys i 0 == k) (range_with_len 0 (n + 1))
      ≡ filter (λ i. get_or keys i 0 == k) (range_with_len 0 n) ++ cond (get_or keys n 0 == k) (n ∷ []) []
  more n k = ap (filter (λ i. get_or keys i 0 == k)) (range_more n) ∙ filter_more (λ i. get_or keys i 0 == k) (range_with_len 0 n) n

  -- one place more
  pub grouped_more : (old new : List (List ℕ)) (n key : ℕ) (group : List ℕ) → AreGrouped count keys old n → key ≡ get_or keys n 0
      → key < count → group ≡ get_or old key group → new ≡ set old key (group ++ n ∷ []) → AreGrouped count keys new (n + 1)
  grouped_more old new n key group are is within here e = record {
    size = ap (λ gs. length gs) e ∙ length-set old key (group ++ n ∷ []) ∙ are.size;
    each = λ k l. ⊎_elim
        (λ t. ap (λ gs. get_or gs k []) e
        ∙ ap (λ j. get_or (set old key (group ++ n ∷ [])) j []) (sym t.1)
        ∙ get_or-set_same old key (group ++ n ∷ []) [] placed
        ∙ ap (λ g. g ++ n ∷ []) (here ∙ get_or_default old key group [] placed ∙ ap (λ j. get_or old j []) t.1 ∙ are.each k l)
        ∙ sym (more n k ∙ ap (λ b. filter (λ i. get_or keys i 0 == k) (range_with_len 0 n) ++ cond b (n ∷ []) [])
        (ap (λ j. j == k) (sym is) ∙ t.0)))
        (λ t. ap (λ gs. get_or gs k []) e ∙ get_or-set_other old key k (group ++ n ∷ []) [] (λ s. t.1 (sym s)) ∙ are.each k l
        ∙ sym (more n k ∙ ap (λ b. filter (λ i. get_or keys i 0 == k) (range_with_len 0 n) ++ cond b (n ∷ []) [])
        (ap (λ j. j == k) (sym is) ∙ t.0) ∙ append-nil (filter (λ i. get_or keys i 0 == k) (range_with_len 0 n))))
        (eqb_tells key k);
  }
    where
      placed : key < length old
      placed = let s = are.size in omega (arith, within, s)

  -- all places
  pub grouped_all : (groups : List (List ℕ)) (n : ℕ) → n ≡ length keys → AreGrouped count keys groups n → groups ≡ groups_by count keys
  grouped_all groups n e are = fill_by_all (places_of keys) groups count [] are.size
      (λ k l. are.each k l ∙ ap (λ m. filter (λ i. get_or keys i 0 == k) (range_with_len 0 m)) e)

-- the group of a key
pub group_at : (count : ℕ) (keys : List ℕ) (groups : List (List ℕ)) (k : ℕ) (d : List ℕ) → groups ≡ groups_by count keys → k < count
    → get_or groups k d ≡ places_of keys k
group_at count keys groups k d e l =
    ap (λ gs. get_or gs k d) e ∙ get_or-map-range_with_len (places_of keys) 0 count k k d l (omega arith)
