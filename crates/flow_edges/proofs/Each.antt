-- A fact of each element of a list, by recursion.
use Rattle.std.proofs.Common.{inl, inr, ℕ, zero, suc, Bool, List, [], ◌∷◌, ◌++◌, map, take, refl}
use Rattle.std.specs.Prelude.{IsTrue, flat_map}
use Rattle.std.specs.List.{list_all}
use Rattle.std.proofs.lemmas.Bool.{and_from}
use Rattle.base_facts.specs.Elements.{In}

abbrev pub Each : {A : Type 0} → (A → Type 0) → List A → Type 0
Each P [] = Unit {0}
Each P (x ∷ xs) = P x × Each P xs

module _ {A : Type 0} where
  -- what holds of each element of two lists holds of each of the two joined
  pub each-append : (P : A → Type 0) (xs ys : List A) → Each P xs → Each P ys → Each P (xs ++ ys)
  each-append P [] ys h k = k
  each-append P (x ∷ xs) ys h k = (h.0, each-append P xs ys h.1 k)

  -- what holds of each element of a list holds of each of its first n
  pub each-take : (P : A → Type 0) (n : ℕ) (xs : List A) → Each P xs → Each P (take n xs)
  each-take P zero [] h = tt
  each-take P zero (x ∷ xs) h = tt
  each-take P (suc n) [] h = tt
  each-take P (suc n) (x ∷ xs) h = (h.0, each-take P n xs h.1)

  -- what follows from a fact of an element holds of each where the fact does
  pub each_weaker : (P Q : A → Type 0) → ((x : A) → P x → Q x) → (xs : List A) → Each P xs → Each Q xs
  each_weaker P Q f [] h = tt
  each_weaker P Q f (x ∷ xs) h = (f x h.0, each_weaker P Q f xs h.1)

  -- what follows from two facts of an element holds of each where both do
  pub each_both : (P Q R : A → Type 0) → ((x : A) → P x → Q x → R x) → (xs : List A) → Each P xs → Each Q xs → Each R xs
  each_both P Q R f [] h k = tt
  each_both P Q R f (x ∷ xs) h k = (f x h.0 k.0, each_both P Q R f xs h.1 k.1)

  -- what holds of whatever is in a list holds of each of its elements
  pub each_in : (P : A → Type 0) (xs : List A) → ((x : A) → In xs x → P x) → Each P xs
  each_in P [] f = tt
  each_in P (x ∷ xs) f = (f x (inl refl), each_in P xs (λ y m. f y (inr m)))

  -- a test that each element passes is passed by all of the list
  pub each_passes : (p : A → Bool) (xs : List A) → Each (λ x. IsTrue (p x)) xs → IsTrue (list_all p xs)
  each_passes p [] h = refl
  each_passes p (x ∷ xs) h = and_from (p x) (list_all p xs) h.0 (each_passes p xs h.1)

module _ {A B : Type 0} where
  -- what a function makes of elements with a fact has the other fact, for each element of the list made
  pub each-map : (P : A → Type 0) (Q : B → Type 0) (f : A → B) → ((x : A) → P x → Q (f x)) → (xs : List A) → Each P xs → Each Q (map f xs)
  each-map P Q f g [] h = tt
  each-map P Q f g (x ∷ xs) h = (g x h.0, each-map P Q f g xs h.1)

  -- where each list that a function makes has a fact throughout, the joined list has it
  pub each-flat_map : (P : A → Type 0) (Q : B → Type 0) (f : A → List B) → ((x : A) → P x → Each Q (f x)) → (xs : List A) → Each P xs
      → Each Q (flat_map f xs)
  each-flat_map P Q f g [] h = tt
  each-flat_map P Q f g (x ∷ xs) h = each-append Q (f x) (flat_map f xs) (g x h.0) (each-flat_map P Q f g xs h.1)
