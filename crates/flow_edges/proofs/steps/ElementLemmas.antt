-- The elements of lists that are made of others.
use Rattle.std.proofs.Common.{◌≡◌, ◌⊎◌, inl, inr, ⊎_elim, ℕ, zero, suc, ◌<◌, List, [], ◌∷◌, ◌++◌, length, get_or, map, refl, ap, arith}
use Rattle.std.specs.Prelude.{Contains, flat_map}
use Rattle.base_facts.specs.Elements.{In}

module _ {A : Type 0} where
  -- an element of the first list is in the joined list
  pub in-append_left : (xs ys : List A) (x : A) → In xs x → In (xs ++ ys) x
  in-append_left [] ys x h = absurd h
  in-append_left (y ∷ xs) ys x h = ⊎_elim (λ e. inl e) (λ k. inr (in-append_left xs ys x k)) h

  -- an element of the second list is in the joined list
  pub in-append_right : (xs ys : List A) (x : A) → In ys x → In (xs ++ ys) x
  in-append_right [] ys x h = h
  in-append_right (y ∷ xs) ys x h = inr (in-append_right xs ys x h)

  -- an element of a joined list is in the first or in the second
  pub in-append : (xs ys : List A) (x : A) → In (xs ++ ys) x → In xs x ⊎ In ys x
  in-append [] ys x h = inr h
  in-append (y ∷ xs) ys x h = ⊎_elim (λ e. inl (inl e)) (λ k. ⊎_elim (λ m. inl (inr m)) (λ m. inr m) (in-append xs ys x k)) h

  -- a list contains what is in it
  pub in_contains : (xs : List A) (x : A) → In xs x → Contains xs x
  in_contains [] x h = absurd h
  in_contains (y ∷ xs) x h = ⊎_elim (λ e. (0, omega arith, e)) (λ k. let r = in_contains xs x k in (suc r.0, omega (arith, r.1), r.2)) h

  contains_at : (xs : List A) (x : A) (k : ℕ) → k < length xs → get_or xs k x ≡ x → In xs x
  contains_at [] x k l e = absurd (omega (arith, l))
  contains_at (y ∷ xs) x zero l e = inl e
  contains_at (y ∷ xs) x (suc k) l e = inr (contains_at xs x k (omega (arith, l)) e)

  -- what a list contains is in it
  pub contains_in : (xs : List A) (x : A) → Contains xs x → In xs x
  contains_in xs x h = contains_at xs x h.0 h.1 h.2

module _ {A B : Type 0} where
  -- what a function makes of an element is in the list of its results
  pub in-map : (f : A → B) (xs : List A) (x : A) → In xs x → In (map f xs) (f x)
  in-map f [] x h = absurd h
  in-map f (y ∷ xs) x h = ⊎_elim (λ e. inl (ap f e)) (λ k. inr (in-map f xs x k)) h

  -- each element of a list of results is made of an element of the list
  pub from_map : (f : A → B) (xs : List A) (y : B) → In (map f xs) y → (x : A) × In xs x × (f x ≡ y)
  from_map f [] y h = absurd h
  from_map f (x ∷ xs) y h = ⊎_elim (λ e. (x, inl refl, e)) (λ k. let r = from_map f xs y k in (r.0, inr r.1, r.2)) h

  -- an element of a list that a function makes of an element is in the joined list
  pub in-flat_map : (f : A → List B) (xs : List A) (x : A) (y : B) → In xs x → In (f x) y → In (flat_map f xs) y
  in-flat_map f [] x y h i = absurd h
  in-flat_map f (z ∷ xs) x y h i =
      ⊎_elim (λ e. in-append_left (f z) (flat_map f xs) y (rw e i)) (λ k. in-append_right (f z) (flat_map f xs) y
      (in-flat_map f xs x y k i)) h

  -- each element of a joined list is in a list made of an element
  pub from_flat_map : (f : A → List B) (xs : List A) (y : B) → In (flat_map f xs) y → (x : A) × In xs x × In (f x) y
  from_flat_map f [] y h = absurd h
  from_flat_map f (x ∷ xs) y h =
      ⊎_elim (λ k. (x, inl refl, k)) (λ k. let r = from_flat_map f xs y k in (r.0, inr r.1, r.2)) (in-append (f x) (flat_map f xs) y h)
