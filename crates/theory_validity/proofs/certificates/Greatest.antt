-- The greatest of the numbers of some edges, and the edges into a point.
use Rattle.std.proofs.Common.{◌≡◌, ◌∙◌, ◌⊎◌, inl, inr, ⊎_elim, ℕ, eqb, Bool, true, false, List, [], ◌∷◌, refl, sym, ap, subst}
use Rattle.std.proofs.Common.{if◌then◌else◌}
use Rattle.std.proofs.lemmas.Bool.Decides.{eqb_tells}
use Rattle.base_facts.specs.Elements.{In}
use Rattle.base_numbers.specs.Extended.{Ext, neg_inf, fin, pos_inf, ◌≤ᴱ◌, ◌<ᴱ◌}
use Rattle.base_numbers.proofs.extended.ExtendedLaws.{≤ᴱ_refl, ≤ᴱ_trans, ≤ᴱ_total}
use Rattle.flow_edges.specs.declared.edge.Edge.{Edge}
use Rattle.theory_validity.specs.Certificates.{edges_into}

-- the greater of two extended numbers, as far as both are at most it and it is one of them
pub record Greater (x y z : Ext) : Type 0 where
  -- the first is at most it
  pub left : x ≤ᴱ z
  -- the second is at most it
  pub right : y ≤ᴱ z
  -- it is one of the two
  pub one : (z ≡ x) ⊎ (z ≡ y)

-- two extended numbers have a greater one
pub greater_of : (x y : Ext) → (z : Ext) × Greater x y z
greater_of x y = ⊎_elim
    (λ h. (y, record { left = h; right = ≤ᴱ_refl y; one = inr refl }))
    (λ h. (x, record { left = ≤ᴱ_refl x; right = h; one = inl refl }))
    (≤ᴱ_total x y)

-- the greatest number of a list's elements, and -∞ of none
unfoldable pub greatest : {A : Type 0} → (A → Ext) → List A → Ext
greatest f [] = neg_inf
greatest f (x ∷ xs) = (greater_of (f x) (greatest f xs)).0

-- each element's number is at most the greatest
pub greatest_above : {A : Type 0} (f : A → Ext) (xs : List A) (x : A) → In xs x → f x ≤ᴱ greatest f xs
unfolding greatest
greatest_above f [] x m = absurd m
greatest_above f (y ∷ xs) x m =
    let g = greater_of (f y) (greatest f xs) in
    ⊎_elim (λ e. subst (λ k. f k ≤ᴱ g.0) e g.1.left) (λ k. ≤ᴱ_trans (f x) (greatest f xs) g.0 (greatest_above f xs x k) g.1.right) m

-- the greatest is at most what all are at most
pub greatest_below : {A : Type 0} (f : A → Ext) (xs : List A) (v : Ext) → ((x : A) → In xs x → f x ≤ᴱ v) → greatest f xs ≤ᴱ v
unfolding greatest
greatest_below f [] v h = tt
greatest_below f (y ∷ xs) v h =
    let g = greater_of (f y) (greatest f xs) in
    ⊎_elim (λ e. subst (λ k. k ≤ᴱ v) (sym e) (h y (inl refl))) (λ e. subst (λ k. k ≤ᴱ v) (sym e)
    (greatest_below f xs v (λ x m. h x (inr m)))) g.1.one

-- what is below the greatest is below some element's number
pub below_greatest : {A : Type 0} (f : A → Ext) (xs : List A) (v : Ext) → v <ᴱ greatest f xs → (x : A) × In xs x × (v <ᴱ f x)
unfolding greatest
below_greatest f [] neg_inf h = absurd h
below_greatest f [] (fin c) h = absurd h
below_greatest f [] pos_inf h = absurd h
below_greatest {A} f (y ∷ xs) v h =
    let g = greater_of (f y) (greatest f xs) in
    ⊎_elim (λ e. (y, inl refl, subst (λ k. v <ᴱ k) e h))
    (λ e. later (below_greatest f xs v (subst (λ k. v <ᴱ k) e h)))
    g.1.one
  where
    later : ((x : A) × In xs x × (v <ᴱ f x)) → (x : A) × In (y ∷ xs) x × (v <ᴱ f x)
    later r = (r.0, inr r.1, r.2)

-- an edge into a point is one of the edges and ends there
pub edge_into : (p : ℕ) (edges : List Edge) (edge : Edge) → In (edges_into p edges) edge → In edges edge × (edge.to ≡ p)
unfolding edges_into
edge_into p [] edge m = absurd m
edge_into p (first ∷ edges) edge m = by (eqb first.to p) (told (eqb_tells first.to p)) m (λ k. edge_into p edges edge k)
  where
    told : ((eqb first.to p ≡ true) × (first.to ≡ p)) ⊎ ((eqb first.to p ≡ false) × ¬ (first.to ≡ p)) → eqb first.to p ≡ true → first.to ≡ p
    told (inl h) e = h.1
    told (inr h) e = absurd (differ (sym e ∙ h.0))
      where
        differ : true ≡ false → ⊥
        differ h = cc

    by : (b : Bool) → (b ≡ true → first.to ≡ p) → In (if b then first ∷ edges_into p edges else edges_into p edges) edge →
        (In (edges_into p edges) edge → In edges edge × (edge.to ≡ p)) → In (first ∷ edges) edge × (edge.to ≡ p)
    by true h (inl e) more = (inl e, ap (λ k. k.to) (sym e) ∙ h refl)
    by true h (inr k) more = let r = more k in (inr r.0, r.1)
    by false h k more = let r = more k in (inr r.0, r.1)
