-- What a search finds.
use Rattle.std.proofs.Common.{◌≡◌, ◌∙◌, ◌⊎◌, inl, inr, ⊎_elim, ℕ, ◌+◌, ◌<◌, ◌≤◌, cond, Bool, true, false, true≢false, List, [], ◌∷◌, ◌++◌}
use Rattle.std.proofs.Common.{length, get_or, set, take, refl, sym, ap, subst, arith, length-set}
use Rattle.std.specs.Prelude.{replicate}
use Rattle.std.proofs.lemmas.Bool.Decides.{eqb_tells}
use Rattle.std.proofs.lemmas.List.{get_or-set_same, get_or-set_other, get_or-replicate, length-replicate, length-append, take_more}
use Rattle.std.proofs.lemmas.List.{take_all}
use Rattle.std.proofs.lemmas.List.Sums.{sum_by-set}
use Rattle.base_facts.specs.Elements.{In}
use Rattle.base_facts.proofs.elements.Membership.{in_left, in_right, of_append}
use Rattle.solve_joint.specs.Searches.{Led, IsReached, AreFound, missing}
use Rattle.solve_joint.proofs.group.Members.{true_within}

-- no point is found
pub found_none : (found : List Bool) (open_ : List ℕ) → AreFound [] found open_ found open_
found_none found open_ = record {
  size = refl;
  keeps = λ q h. h;
  finds = λ q m. absurd m;
  only = λ q h. inl h;
  opens = λ q h. inl h;
  stays_open = λ q m. m;
  opens_only = λ q m. inl m;
  fewer = omega arith;
}

-- a point that is found already
pub found_already : (p : ℕ) (found : List Bool) (open_ : List ℕ) → get_or found p false ≡ true → AreFound (p ∷ []) found open_ found open_
found_already p found open_ e = record {
  size = refl;
  keeps = λ q h. h;
  finds = λ q m. ⊎_elim (λ s. subst (λ k. get_or found k false ≡ true) s e) (λ s. absurd s) m;
  only = λ q h. inl h;
  opens = λ q h. inl h;
  stays_open = λ q m. m;
  opens_only = λ q m. inl m;
  fewer = omega arith;
}

-- a point that is found now
pub found_new : (p : ℕ) (found : List Bool) (open_ : List ℕ) (found' : List Bool) (open' : List ℕ) → get_or found p false ≡ false
    → p < length found → found' ≡ set found p true → open' ≡ open_ ++ p ∷ [] → AreFound (p ∷ []) found open_ found' open'
found_new p found open_ found' open' e l f o = record {
  size = ap (λ xs. length xs) f ∙ length-set found p true;
  keeps = λ q h. ⊎_elim (λ s. at_point q s.1) (λ s. other q s.1 ∙ h) (eqb_tells q p);
  finds = λ q m. ⊎_elim (λ s. at_point q (sym s)) (λ s. absurd s) m;
  only = λ q h. ⊎_elim (λ s. inr (inl (sym s.1))) (λ s. inl (sym (other q s.1) ∙ h)) (eqb_tells q p);
  opens = λ q h. ⊎_elim (λ s. inr (opened q (inr (inl (sym s.1))))) (λ s. inl (sym (other q s.1) ∙ h)) (eqb_tells q p);
  stays_open = λ q m. opened q (inl m);
  opens_only = λ q m. of_append open_ (p ∷ []) q (subst (λ xs. In xs q) o m);
  fewer = (let a = sum_by-set (λ b. cond b 0 1) found p true false l in
      let b : missing found' ≡ missing (set found p true) = ap missing f in
      let c : cond {A = ℕ} (get_or found p false) 0 1 ≡ 1 = ap (λ (x : Bool). cond {A = ℕ} x 0 1) e in
      let d : length open' ≡ length open_ + 1 = ap (λ xs. length xs) o ∙ length-append open_ (p ∷ []) in
      omega arith);
}
  where
    at_point : (q : ℕ) → q ≡ p → get_or found' q false ≡ true
    at_point q s = ap (λ xs. get_or xs q false) f ∙ ap (λ k. get_or (set found p true) k false) s ∙ get_or-set_same found p true false l

    other : (q : ℕ) → (q ≡ p → ⊥) → get_or found' q false ≡ get_or found q false
    other q s = ap (λ xs. get_or xs q false) f ∙ get_or-set_other found p q true false s

    opened : (q : ℕ) → In open_ q ⊎ In (p ∷ []) q → In open' q
    opened q h = subst (λ xs. In xs q) (sym o) (⊎_elim (λ m. in_left open_ (p ∷ []) q m) (λ m. in_right open_ (p ∷ []) q m) h)

-- one search after another
pub found_both : (ps qs : List ℕ) (f : List Bool) (o : List ℕ) (f' : List Bool) (o' : List ℕ) (f'' : List Bool) (o'' : List ℕ)
    → AreFound ps f o f' o' → AreFound qs f' o' f'' o'' → AreFound (ps ++ qs) f o f'' o''
found_both ps qs f o f' o' f'' o'' a b = record {
  size = b.size ∙ a.size;
  keeps = λ q h. b.keeps q (a.keeps q h);
  finds = λ q m. ⊎_elim (λ k. b.keeps q (a.finds q k)) (λ k. b.finds q k) (of_append ps qs q m);
  only = λ q h. ⊎_elim (λ k. ⊎_elim (λ j. inl j) (λ j. inr (in_left ps qs q j)) (a.only q k)) (λ k. inr (in_right ps qs q k)) (b.only q h);
  opens = λ q h. ⊎_elim (λ k. ⊎_elim (λ j. inl j) (λ j. inr (b.stays_open q j)) (a.opens q k)) (λ k. inr k) (b.opens q h);
  stays_open = λ q m. b.stays_open q (a.stays_open q m);
  opens_only = λ q m. ⊎_elim (λ k. ⊎_elim (λ j. inl j) (λ j. inr (in_left ps qs q j)) (a.opens_only q k)) (λ k. inr (in_right ps qs q k))
      (b.opens_only q m);
  fewer = (let x = a.fewer in let y = b.fewer in omega arith);
}

-- one point more of a list
pub found_more : (ps : List ℕ) (i : ℕ) (f : List Bool) (o : List ℕ) (f' : List Bool) (o' : List ℕ) (f'' : List Bool) (o'' : List ℕ)
    → i < length ps → AreFound (take i ps) f o f' o' → AreFound (get_or ps i 0 ∷ []) f' o' f'' o''
    → AreFound (take (i + 1) ps) f o f'' o''
found_more ps i f o f' o' f'' o'' l a b = subst (λ qs. AreFound qs f o f'' o'') (sym (take_more ps i 0 l))
    (found_both (take i ps) (get_or ps i 0 ∷ []) f o f' o' f'' o'' a b)

-- all points of a list
pub found_all : (ps : List ℕ) (i : ℕ) (f : List Bool) (o : List ℕ) (f' : List Bool) (o' : List ℕ) → length ps ≤ i
    → AreFound (take i ps) f o f' o' → AreFound ps f o f' o'
found_all ps i f o f' o' l a = subst (λ qs. AreFound qs f o f' o') (take_all i ps l) a

-- ---- a search from a point
-- the steps from a point lead only to points that are found
abbrev pub StepsFound : List (List ℕ) → List Bool → ℕ → Type 0
StepsFound steps found q = (s : ℕ) → In (get_or steps q []) s → get_or found s false ≡ true

-- from where it hasn't gone on yet, all found points are open
pub record IsSearch (points : ℕ) (steps : List (List ℕ)) (p : ℕ) (found : List Bool) (open_ : List ℕ) : Type 0 where
  -- there is a test for each point
  pub size : length found ≡ points
  -- the first point is found
  pub start : get_or found p false ≡ true
  -- steps lead to each found point
  pub sound : (q : ℕ) → get_or found q false ≡ true → Led steps p q
  -- the steps from a found point that isn't open lead to found points
  pub gone_on : (q : ℕ) → get_or found q false ≡ true → In open_ q ⊎ StepsFound steps found q
  -- each open point is found
  pub opened : (q : ℕ) → In open_ q → get_or found q false ≡ true

module _ (points : ℕ) (steps : List (List ℕ)) (p : ℕ) where
  nothing : (q : ℕ) → get_or (replicate points false) q false ≡ true → ⊥
  nothing q h = true≢false (sym h ∙ get_or-replicate points q false false (subst (λ n. q < n) (length-replicate points false)
      (true_within (replicate points false) q h)))

  -- it begins
  pub search_begins : (none : List Bool) (open_ : List ℕ) (found' : List Bool) (open' : List ℕ) → none ≡ replicate points false
      → open_ ≡ [] → AreFound (p ∷ []) none open_ found' open' → IsSearch points steps p found' open'
  search_begins none open_ found' open' n o a = record {
    size = a.size ∙ ap (λ xs. length xs) n ∙ length-replicate points false;
    start = a.finds p (inl refl);
    sound = λ q h. ⊎_elim (λ k. absurd (nothing q (subst (λ xs. get_or xs q false ≡ true) n k)))
        (λ m. ⊎_elim (λ e. subst (Led steps p) e (Led.stays p)) (λ e. absurd e) m) (a.only q h);
    gone_on = λ q h. ⊎_elim (λ k. absurd (nothing q (subst (λ xs. get_or xs q false ≡ true) n k))) (λ m. inl m) (a.opens q h);
    opened = λ q m. ⊎_elim (λ k. absurd (subst (λ xs. In xs q) o k)) (λ k. a.finds q k) (a.opens_only q m);
  }

  -- the point from which it goes on is found
  pub next_found : (found : List Bool) (open_ rest : List ℕ) (q : ℕ) → IsSearch points steps p found open_ → open_ ≡ rest ++ q ∷ []
      → get_or found q false ≡ true
  next_found found open_ rest q is o = is.opened q (subst (λ xs. In xs q) (sym o) (in_right rest (q ∷ []) q (inl refl)))

  -- it goes on from a point
  pub search_goes : (found : List Bool) (open_ rest : List ℕ) (q : ℕ) (found' : List Bool) (open' : List ℕ)
      → IsSearch points steps p found open_ → open_ ≡ rest ++ q ∷ [] → AreFound (get_or steps q []) found rest found' open'
      → IsSearch points steps p found' open'
  search_goes found open_ rest q found' open' is o a = record {
    size = a.size ∙ is.size;
    start = a.keeps p is.start;
    sound = λ r h. ⊎_elim (λ k. is.sound r k) (λ m. Led.goes p q r (is.sound q here) m) (a.only r h);
    gone_on = λ r h. ⊎_elim (λ k. ⊎_elim (λ m. still r m) (λ f. inr (λ s m. a.keeps s (f s m))) (is.gone_on r k)) (λ m. inl m)
        (a.opens r h);
    opened = λ r m. ⊎_elim (λ k. a.keeps r (is.opened r (within r (inl k)))) (λ k. a.finds r k) (a.opens_only r m);
  }
    where
      within : (r : ℕ) → In rest r ⊎ In (q ∷ []) r → In open_ r
      within r h = subst (λ xs. In xs r) (sym o) (⊎_elim (λ m. in_left rest (q ∷ []) r m) (λ m. in_right rest (q ∷ []) r m) h)

      here : get_or found q false ≡ true
      here = next_found found open_ rest q is o

      still : (r : ℕ) → In open_ r → In open' r ⊎ StepsFound steps found' r
      still r m = ⊎_elim
          (λ k. inl (a.stays_open r k))
          (λ k. ⊎_elim (λ e. inr (λ s j. a.finds s (subst (λ t. In (get_or steps t []) s) (sym e) j))) (λ e. absurd e) k)
          (of_append rest (q ∷ []) r (subst (λ xs. In xs r) o m))

  -- it ends
  pub search_ends : (found : List Bool) (open_ : List ℕ) → IsSearch points steps p found open_ → open_ ≡ [] → IsReached points steps p found
  search_ends found open_ is o = record { size = is.size; each = λ q. (is.sound q, led q) }
    where
      led : (q : ℕ) → Led steps p q → get_or found q false ≡ true
      led q (Led.stays p) = is.start
      led q (Led.goes p r s h m) = ⊎_elim (λ k. absurd (subst (λ xs. In xs r) o k)) (λ f. f s m) (is.gone_on r (led r h))
