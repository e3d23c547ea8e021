-- The first fault of lists of faults, one after another.
use Rattle.std.proofs.Common.{◌≡◌, ◌∙◌, ◌++◌, ◌+◌, ◌<◌, ℕ, suc, List, [], ◌∷◌, length, drop, get_or, slice_get, true, is_some, Option, Some}
use Rattle.std.proofs.Common.{None, refl, sym, ap, subst, add-one, false}
use Rattle.std.specs.List.{flat_map, enumerate_from}
use Rattle.std.proofs.Math.Seq.{drop-cons}
use Rattle.flow_rationals.specs.declared.fault.EquFault.{EquFault}
use Rattle.flow_rationals.specs.EquFaults.{FirstOf}

first_left : (f : EquFault) (xs ys : List EquFault) → slice_get xs 0 ≡ Some f → slice_get (xs ++ ys) 0 ≡ Some f
first_left f [] ys h = cc
first_left f (x ∷ xs) ys h = h

-- what is left from a place on is the element there and what is left from the next place on
pub dropped : {X : Type 0} (xs : List X) (i : ℕ) (x : X) → i < length xs → x ≡ get_or xs i x → drop i xs ≡ x ∷ drop (i + 1) xs
dropped xs i x h e = drop-cons xs i x h ∙ (ap (λ y. y ∷ drop (suc i) xs) (sym e) ∙ ap (λ n. x ∷ drop n xs) (sym (add-one i)))

-- where the elements before it have no fault, the first fault of an element is that of the list
flat_here : {X : Type 0} (f : X → List EquFault) (xs : List X) (i : ℕ) (x : X) (e : EquFault) → i < length xs → x ≡ get_or xs i x
    → flat_map f xs ≡ flat_map f (drop i xs) → slice_get (f x) 0 ≡ Some e → slice_get (flat_map f xs) 0 ≡ Some e
flat_here f xs i x e h at before here =
    ap (λ ys. slice_get ys 0) (before ∙ ap (flat_map f) (dropped xs i x h at)) ∙ first_left e (f x) (flat_map f (drop (i + 1) xs)) here

-- where an answer is the first fault of an element after sound ones, it is that of the list
pub flat_some : {X : Type 0} (f : X → List EquFault) (xs : List X) (i : ℕ) (x : X) (o : Option EquFault) → i < length xs → x ≡ get_or xs i x
    → flat_map f xs ≡ flat_map f (drop i xs) → is_some o ≡ true → FirstOf o (f x) → FirstOf o (flat_map f xs)
flat_some f xs i x None h at before s here = cc
flat_some f xs i x (Some e) h at before s here = flat_here f xs i x e h at before here

-- where the numbered elements before it have no fault, the first fault of a numbered element is that of the list
numbered_here : {X : Type 0} (f : ℕ × X → List EquFault) (n : ℕ) (xs : List X) (i : ℕ) (x : X) (e : EquFault) → i < length xs
    → x ≡ get_or xs i x → flat_map f (enumerate_from n xs) ≡ flat_map f (enumerate_from (n + i) (drop i xs))
    → slice_get (f (n + i, x)) 0 ≡ Some e → slice_get (flat_map f (enumerate_from n xs)) 0 ≡ Some e
numbered_here f n xs i x e h at before here =
    ap (λ ys. slice_get ys 0) (before ∙ ap (λ ys. flat_map f (enumerate_from (n + i) ys)) (dropped xs i x h at))
    ∙ first_left e (f (n + i, x)) (flat_map f (enumerate_from (n + i + 1) (drop (i + 1) xs))) here

-- where an answer is the first fault of a numbered element after sound ones, it is that of the list
pub numbered_some : {X : Type 0} (f : ℕ × X → List EquFault) (n : ℕ) (xs : List X) (i k : ℕ) (x : X) (o : Option EquFault) → i < length xs
    → x ≡ get_or xs i x → flat_map f (enumerate_from n xs) ≡ flat_map f (enumerate_from (n + i) (drop i xs)) → is_some o ≡ true → k ≡ n + i
    → FirstOf o (f (k, x)) → FirstOf o (flat_map f (enumerate_from n xs))
numbered_some f n xs i k x None h at before s e here = cc
numbered_some {X} f n xs i k x (Some g) h at before s e here =
    let K : ℕ → Type 0 = λ m. slice_get (f (m, x)) 0 ≡ Some g in
    numbered_here f n xs i x g h at before (subst K e here)

-- where two lists joined are empty, the first is
pub front_none : {X : Type 0} (xs ys : List X) → xs ++ ys ≡ [] → xs ≡ []
front_none [] ys h = refl
front_none (x ∷ xs) ys h = cc

-- where two lists joined are empty, the second is
pub back_none : {X : Type 0} (xs ys : List X) → xs ++ ys ≡ [] → ys ≡ []
back_none [] ys h = h
back_none (x ∷ xs) ys h = cc

-- no fault was found
pub none_found : (o : Option EquFault) (xs : List EquFault) → is_some o ≡ false → FirstOf o xs → xs ≡ []
none_found None xs h k = k
none_found (Some e) xs h k = cc
