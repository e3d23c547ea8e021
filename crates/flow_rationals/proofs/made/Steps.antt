-- One more element of a list, as in a loop that makes a list of another.
use Rattle.std.proofs.Common.{◌≡◌, ◌∙◌, ℕ, suc, ◌+◌, ◌<◌, Bool, true, List, [], ◌∷◌, ◌++◌, length, get_or, take, map, ap, sym, arith}
use Rattle.std.proofs.Common.{zero-add, append_assoc}
use Rattle.std.specs.Prelude.{flat_map}
use Rattle.std.specs.List.{list_all, range_with_len, enumerate_from}
use Rattle.std.proofs.lemmas.List.{take_more, map_more, length-take-le, append-nil}
use Rattle.std.proofs.lemmas.List.Concat.{flat_map-append}
use Rattle.std.proofs.lemmas.List.FromFn.{map-range_with_len_more}
use Rattle.flow_edges.proofs.steps.ElementLemmas.{contains_in}
use Rattle.flow_rationals.proofs.values.Sound.{all_at}

-- an element at a place passes what all pass
at_element : {A : Type 0} (p : A → Bool) (xs : List A) (i : ℕ) (x : A) → list_all p xs ≡ true → i < length xs → x ≡ get_or xs i x
    → p x ≡ true
at_element p xs i x h l e = all_at p xs x h (contains_in xs x (i, l, sym e))

-- one more value of a function of numbers
pub ranged_more : {B : Type 0} (f : ℕ → B) (k : ℕ) (list more : List B) (y : B) → list ≡ map f (range_with_len 0 k) → more ≡ list ++ y ∷ []
    → y ≡ f k →
    more ≡ map f (range_with_len 0 (k + 1))
ranged_more f k list more y e p v = p ∙ ap (λ l. l ++ y ∷ []) e ∙ ap (λ z. map f (range_with_len 0 k) ++ z ∷ []) v
    ∙ sym (map-range_with_len_more f 0 k k (zero-add k))

-- one more value of a function of elements
pushed_more : {A B : Type 0} (f : A → B) (front list more : List B) (xs : List A) (i : ℕ) (x : A) (y : B) → i < length xs
    → x ≡ get_or xs i x →
    list ≡ front ++ map f (take i xs) → more ≡ list ++ y ∷ [] → y ≡ f x → more ≡ front ++ map f (take (i + 1) xs)
pushed_more f front list more xs i x y l e h p v =
    p ∙ ap (λ ys. ys ++ y ∷ []) h ∙ append_assoc front (map f (take i xs)) (y ∷ [])
    ∙ ap (λ z. front ++ (map f (take i xs) ++ z ∷ [])) (v ∙ ap f e)
    ∙ ap (λ ys. front ++ ys) (sym (map_more f xs i x l))

-- ---- elements with their places
enumerated-append : {A : Type 0} (xs ys : List A) (k : ℕ) → enumerate_from k (xs ++ ys)
    ≡ enumerate_from k xs ++ enumerate_from (k + length xs) ys
enumerated-append [] ys k = let e : k ≡ k + 0 = omega arith in ap (λ j. enumerate_from j ys) e
enumerated-append {A} (x ∷ xs) ys k =
    let e : k + 1 + length xs ≡ k + suc (length xs) = omega arith in
    ap (λ (r : List (ℕ × A)). (k, x) ∷ r) (enumerated-append xs ys (k + 1) ∙ ap (λ j. enumerate_from (k + 1) xs ++ enumerate_from j ys) e)

enumerated_more : {A B : Type 0} (f : ℕ × A → List B) (xs : List A) (i : ℕ) (x : A) → i < length xs → x ≡ get_or xs i x →
    flat_map f (enumerate_from 0 (take (i + 1) xs)) ≡ flat_map f (enumerate_from 0 (take i xs)) ++ f (i, x)
enumerated_more f xs i x l e =
    let front = take i xs in
    let place : 0 + length front ≡ i = zero-add (length front) ∙ length-take-le i xs (omega arith) in
    ap (λ ys. flat_map f (enumerate_from 0 ys)) (take_more xs i x l ∙ ap (λ y. front ++ y ∷ []) (sym e))
    ∙ ap (flat_map f) (enumerated-append front (x ∷ []) 0)
    ∙ flat_map-append f (enumerate_from 0 front) (enumerate_from (0 + length front) (x ∷ []))
    ∙ ap (λ j. flat_map f (enumerate_from 0 front) ++ (f (j, x) ++ [])) place
    ∙ ap (λ ys. flat_map f (enumerate_from 0 front) ++ ys) (append-nil (f (i, x)))

-- one more list that a function makes of an element with its place
pub joined_more : {A B : Type 0} (f : ℕ × A → List B) (front list more ys : List B) (xs : List A) (i : ℕ) (x : A) → i < length xs
    → x ≡ get_or xs i x →
    list ≡ front ++ flat_map f (enumerate_from 0 (take i xs)) → more ≡ list ++ ys → ys ≡ f (i, x)
    → more ≡ front ++ flat_map f (enumerate_from 0 (take (i + 1) xs))
joined_more f front list more ys xs i x l e h p v =
    p ∙ ap (λ zs. zs ++ ys) h ∙ append_assoc front (flat_map f (enumerate_from 0 (take i xs))) ys
    ∙ ap (λ zs. front ++ (flat_map f (enumerate_from 0 (take i xs)) ++ zs)) v
    ∙ ap (λ zs. front ++ zs) (sym (enumerated_more f xs i x l e))

-- the same where two elements are pushed
pub two_pushed : {A B : Type 0} (f : ℕ × A → List B) (list one two : List B) (xs : List A) (i : ℕ) (x : A) (a b : B) → i < length xs
    → x ≡ get_or xs i x →
    list ≡ flat_map f (enumerate_from 0 (take i xs)) → one ≡ list ++ a ∷ [] → two ≡ one ++ b ∷ [] → a ∷ b ∷ [] ≡ f (i, x) →
    two ≡ flat_map f (enumerate_from 0 (take (i + 1) xs))
two_pushed f list one two xs i x a b l e h p q v =
    joined_more f [] list two (a ∷ b ∷ []) xs i x l e h (q ∙ ap (λ ys. ys ++ b ∷ []) p ∙ append_assoc list (a ∷ []) (b ∷ [])) v
