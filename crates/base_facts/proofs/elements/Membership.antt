-- The elements of lists that are made of others.
use Rattle.std.proofs.Common.{◌≡◌, ◌⊎◌, inl, inr, ⊎_elim, ℕ, zero, suc, ◌+◌, ◌<◌, ◌≤◌, List, [], ◌∷◌, ◌++◌, map, refl, sym, ap, ap₂, subst}
use Rattle.std.proofs.Common.{arith}
use Rattle.std.specs.Prelude.{Contains, flat_map}
use Rattle.std.specs.List.{range_with_len}
use Rattle.std.proofs.lemmas.Bool.Decides.{eqb_tells}
use Rattle.base_facts.specs.Elements.{In}

-- an element of the first list is one of both joined
pub in_left : {A : Type 0} (xs ys : List A) (x : A) → In xs x → In (xs ++ ys) x
in_left [] ys x m = absurd m
in_left (y ∷ xs) ys x m = ⊎_elim (λ e. inl e) (λ k. inr (in_left xs ys x k)) m

-- an element of the second list is one of both joined
pub in_right : {A : Type 0} (xs ys : List A) (x : A) → In ys x → In (xs ++ ys) x
in_right [] ys x m = m
in_right (y ∷ xs) ys x m = inr (in_right xs ys x m)

-- an element of two lists joined is one of the first or of the second
pub of_append : {A : Type 0} (xs ys : List A) (x : A) → In (xs ++ ys) x → In xs x ⊎ In ys x
of_append [] ys x m = inr m
of_append (y ∷ xs) ys x m = ⊎_elim (λ e. inl (inl e)) (λ k. ⊎_elim (λ h. inl (inr h)) (λ h. inr h) (of_append xs ys x k)) m

-- the image of an element is one of the images
pub in_map : {A B : Type 0} (f : A → B) (xs : List A) (x : A) → In xs x → In (map f xs) (f x)
in_map f [] x m = absurd m
in_map f (y ∷ xs) x m = ⊎_elim (λ e. inl (ap f e)) (λ k. inr (in_map f xs x k)) m

-- one of the images is the image of an element
pub of_map : {A B : Type 0} (f : A → B) (xs : List A) (y : B) → In (map f xs) y → (x : A) × In xs x × (f x ≡ y)
of_map f [] y m = absurd m
of_map f (x ∷ xs) y m = ⊎_elim (λ e. (x, inl refl, e)) (λ k. let r = of_map f xs y k in (r.0, inr r.1, r.2)) m

-- functions that agree at the elements have one list of images
pub map_same : {A B : Type 0} (f g : A → B) (xs : List A) → ((x : A) → In xs x → f x ≡ g x) → map f xs ≡ map g xs
map_same f g [] h = refl
map_same f g (x ∷ xs) h = ap₂ (λ y ys. y ∷ ys) (h x (inl refl)) (map_same f g xs (λ v m. h v (inr m)))

-- an element of a part is one of the parts joined
pub in_flat_map : {A B : Type 0} (f : A → List B) (xs : List A) (x : A) (y : B) → In xs x → In (f x) y → In (flat_map f xs) y
in_flat_map f [] x y m n = absurd m
in_flat_map f (z ∷ xs) x y m n = ⊎_elim (λ e. in_left (f z) (flat_map f xs) y (subst (λ w. In (f w) y) (sym e) n))
    (λ k. in_right (f z) (flat_map f xs) y (in_flat_map f xs x y k n)) m

-- an element of the parts joined is one of some part
pub of_flat_map : {A B : Type 0} (f : A → List B) (xs : List A) (y : B) → In (flat_map f xs) y → (x : A) × In xs x × In (f x) y
of_flat_map f [] y m = absurd m
of_flat_map f (x ∷ xs) y m = ⊎_elim (λ h. (x, inl refl, h)) (λ h. let r = of_flat_map f xs y h in (r.0, inr r.1, r.2))
    (of_append (f x) (flat_map f xs) y m)

-- a number within a range is one of its list
pub in_range : (a n k : ℕ) → a ≤ k → k < a + n → In (range_with_len a n) k
in_range a zero k h i = absurd (omega arith)
in_range a (suc n) k h i = ⊎_elim (λ e. inl e.1) (λ e. inr (in_range (a + 1) n k (let d = e.1 in omega arith) (omega arith)))
    (eqb_tells a k)

-- one of a range's list is below its end
pub of_range : (a n k : ℕ) → In (range_with_len a n) k → k < a + n
of_range a zero k m = absurd m
of_range a (suc n) k m = ⊎_elim (λ e. omega arith) (λ j. let h = of_range (a + 1) n k j in omega arith) m

-- an element stands at some place
pub contains_from_in : {A : Type 0} (xs : List A) (x : A) → In xs x → Contains xs x
contains_from_in [] x m = absurd m
contains_from_in (y ∷ xs) x m = ⊎_elim (λ e. (0, omega arith, e)) (λ k. let r = contains_from_in xs x k in
    (suc r.0, (let l = r.1 in omega arith), r.2)) m
