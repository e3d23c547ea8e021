-- Distinct members of a list are at most as many as it has, and tuples are as many as the product of their choices.
use Rattle.std.proofs.Common.{◌≡◌, ◌∙◌, inl, inr, ⊎_elim, ℕ, suc, ◌+◌, ◌*◌, List, [], ◌∷◌, length, map, length-append, refl, ap₂, subst}
use Rattle.std.proofs.Common.{arith}
use Rattle.std.specs.Prelude.{flat_map}
use Rattle.std.proofs.lemmas.List.{length-map}
use Rattle.base_facts.proofs.elements.Membership.{in_map, in_flat_map}
use Rattle.base_facts.specs.Elements.{In}
use Rattle.theory_strategy.specs.PickCount.{product}

-- every way to choose one element of each list, in order
unfoldable pub tuples : {A : Type 0} → List (List A) → List (List A)
tuples [] = [] ∷ []
tuples (options ∷ rest) = flat_map (λ x. map (λ t. x ∷ t) (tuples rest)) options

length-each : {A B : Type 0} (f : A → List B) (xs : List A) (n : ℕ) → ((x : A) → length (f x) ≡ n) → length (flat_map f xs) ≡ length xs * n
length-each f [] n h = omega arith
length-each f (x ∷ xs) n h = length-append (f x) (flat_map f xs) ∙ ap₂ (λ a b. a + b) (h x) (length-each f xs n h) ∙ expand (length xs)
  where
    expand : (k : ℕ) → n + k * n ≡ suc k * n
    expand k = grind arith

-- there are as many as the product of the numbers of options
pub length-tuples : {A : Type 0} (options : List (List A)) → length (tuples options) ≡ product (map length options)
unfolding tuples product
length-tuples [] = refl
length-tuples (xs ∷ rest) =
    length-each (λ x. map (λ t. x ∷ t) (tuples rest)) xs (product (map length rest))
    (λ x. length-map (tuples rest) (λ t. x ∷ t) ∙ length-tuples rest)

-- the tuple of a function whose values are among the options
pub in_tuples : {U A : Type 0} (options : U → List A) (f : U → A) (us : List U) → ((u : U) → In us u → In (options u) (f u))
    → In (tuples (map options us)) (map f us)
unfolding tuples
in_tuples options f [] h = inl refl
in_tuples options f (u ∷ us) h =
    in_flat_map (λ x. map (λ t. x ∷ t) (tuples (map options us))) (options u) (f u) (f u ∷ map f us) (h u (inl refl))
    (in_map (λ t. f u ∷ t) (tuples (map options us)) (map f us) (in_tuples options f us (λ v m. h v (inr m))))

head_same : {A : Type 0} (x y : A) (xs ys : List A) → x ∷ xs ≡ y ∷ ys → (x ≡ y) × (xs ≡ ys)
head_same x y xs ys e = (cc, cc)

-- functions with one list of values are the same at its arguments
pub same_at : {U A : Type 0} (f g : U → A) (us : List U) → map f us ≡ map g us → (u : U) → In us u → f u ≡ g u
same_at f g [] e u m = absurd m
same_at f g (v ∷ us) e u m =
    let h = head_same (f v) (g v) (map f us) (map g us) e in
    ⊎_elim (λ k. subst (λ w. f w ≡ g w) k h.0) (λ k. same_at f g us h.1 u k) m
