-- The first places of names, where one more name stands at the end.
use Rattle.indexmap.specs.IndexMap.{insert_entry}
use Rattle.std.specs.Prelude.{not, is_some}
use Rattle.std.proofs.Common.{◌≡◌, ◌∙◌, ◌+◌, ◌++◌, ℕ, suc, Bool, true, false, cond, List, [], ◌∷◌, length, Option, Some, None, refl, sym}
use Rattle.std.proofs.Common.{ap, ap₂}
use Rattle.std.proofs.Common.{nat_lt, arith}
use Rattle.std.specs.declared.alloc.Global.{Global}
use Rattle.std.specs.declared.vec.Vec.{Vec}
use Rattle.std.specs.List.{position_or_len}
use Rattle.std.specs.Map.{lookup}
use Rattle.std.specs.Str.{bytes_eq}
use Rattle.std.proofs.lemmas.Bool.{lt-ltb, le-ltb, ltb-true, ltb-false}
use Rattle.std.proofs.lemmas.Slice.Eq.{bytes_eq-Decides}
use Rattle.lang_meaning.specs.Names.{place_of}
use Rattle.lang_reader.specs.Names.{HavePlaces}

-- the first place, told by recursion
abbrev first : {X : Type 0} → (X → Bool) → ℕ → List X → Option ℕ
first p n [] = None
first p n (x ∷ xs) = cond (p x) (Some n) (first p (1 + n) xs)

-- a place, or another where there is none
abbrev or_place : Option ℕ → Option ℕ → Option ℕ
or_place None o = o
or_place (Some n) o = Some n

next_lt : (m l : ℕ) → nat_lt m l ≡ nat_lt (1 + m) (suc l)
next_lt m l = on (nat_lt m l) refl where
  on : (b : Bool) → nat_lt m l ≡ b → nat_lt m l ≡ nat_lt (1 + m) (suc l)
  on true h = h ∙ sym (lt-ltb (1 + m) (suc l) (omega (arith, ltb-true m l h)))
  on false h = h ∙ sym (le-ltb (1 + m) (suc l) (omega (arith, ltb-false m l h)))

shown : {X : Type 0} (p : X → Bool) (n : ℕ) (xs : List X) → first p n xs
    ≡ cond (nat_lt (position_or_len p xs) (length xs)) (Some (n + position_or_len p xs)) None
shown p n [] = refl
shown p n (x ∷ xs) = on (p x) (position_or_len p xs) (length xs) (shown p (1 + n) xs) where
  on : (b : Bool) (m l : ℕ) → first p (1 + n) xs ≡ cond (nat_lt m l) (Some (1 + n + m)) None
      → cond b (Some n) (first p (1 + n) xs) ≡ cond (nat_lt (cond (not b) (1 + m) 0) (suc l)) (Some (n + cond (not b) (1 + m) 0)) None
  on true m l h = let e : n ≡ n + 0 = omega arith in ap Some e ∙ sym (ap (λ b. cond b (Some (n + 0)) None) (lt-ltb 0 (suc l) (omega arith)))
  on false m l h = let e : 1 + n + m ≡ n + (1 + m) = omega arith in h ∙ ap₂ (λ b k. cond b (Some k) None) (next_lt m l) e

first_pushed : {X : Type 0} (p : X → Bool) (n : ℕ) (xs : List X) (y : X)
    → first p n (xs ++ y ∷ []) ≡ or_place (first p n xs) (cond (p y) (Some (n + length xs)) None)
first_pushed p n [] y = let e : n ≡ n + 0 = omega arith in ap (λ k. cond (p y) (Some k) None) e
first_pushed p n (x ∷ xs) y = on (p x) (first_pushed p (1 + n) xs y) where
  on : (b : Bool) → first p (1 + n) (xs ++ y ∷ []) ≡ or_place (first p (1 + n) xs) (cond (p y) (Some (1 + n + length xs)) None)
      → cond b (Some n) (first p (1 + n) (xs ++ y ∷ [])) ≡ or_place (cond b (Some n) (first p (1 + n) xs))
      (cond (p y) (Some (n + length (x ∷ xs))) None)
  on true h = refl
  on false h = let e : 1 + n + length xs ≡ n + length (x ∷ xs) = omega arith in
      h ∙ ap (λ k. or_place (first p (1 + n) xs) (cond (p y) (Some k) None)) e

place_first : (x : List ℕ) (names : List (List ℕ)) → first (bytes_eq x) 0 names ≡ place_of x names
place_first x names = let e : 0 + position_or_len (bytes_eq x) names ≡ position_or_len (bytes_eq x) names = omega arith in
    shown (bytes_eq x) 0 names ∙ ap (λ k. cond (nat_lt (position_or_len (bytes_eq x) names) (length names)) (Some k) None) e

place_pushed : (x : List ℕ) (names : List (List ℕ)) (name : List ℕ)
    → place_of x (names ++ name ∷ []) ≡ or_place (place_of x names) (cond (bytes_eq x name) (Some (length names)) None)
place_pushed x names name = let e : 0 + length names ≡ length names = omega arith in
    sym (place_first x (names ++ name ∷ [])) ∙ first_pushed (bytes_eq x) 0 names name
    ∙ ap₂ (λ o k. or_place o (cond (bytes_eq x name) (Some k) None)) (place_first x names) e

lookup_pushed : {K : Type 0} (t : K → Bool) (es : List (K × ℕ)) (k : K) (v : ℕ)
    → lookup t (es ++ (k, v) ∷ []) ≡ or_place (lookup t es) (cond (t k) (Some v) None)
lookup_pushed t [] k v = refl
lookup_pushed t (e ∷ es) k v = on (t e.0) (lookup_pushed t es k v) where
  on : (b : Bool) → lookup t (es ++ (k, v) ∷ []) ≡ or_place (lookup t es) (cond (t k) (Some v) None)
      → cond b (Some e.1) (lookup t (es ++ (k, v) ∷ [])) ≡ or_place (cond b (Some e.1) (lookup t es)) (cond (t k) (Some v) None)
  on true h = refl
  on false h = h

insert_absent : {K : Type 0} (eq : K → K → Bool) (k : K) (v : ℕ) (es : List (K × ℕ)) → lookup (eq k) es ≡ None
    → insert_entry eq es k v ≡ es ++ (k, v) ∷ []
insert_absent eq k v [] h = refl
insert_absent eq k v (e ∷ es) h = on (eq k e.0) (λ i. insert_absent eq k v es i) h where
  on : (b : Bool) → (lookup (eq k) es ≡ None → insert_entry eq es k v ≡ es ++ (k, v) ∷ []) → cond b (Some e.1) (lookup (eq k) es) ≡ None
      → cond b ((e.0, v) ∷ es) (e ∷ insert_entry eq es k v) ≡ e ∷ (es ++ (k, v) ∷ [])
  on true f i = cc
  on false f i = ap (λ xs. e ∷ xs) (f i)

none_there : (o : Option ℕ) → is_some o ≡ false → o ≡ None
none_there None h = refl
none_there (Some n) h = cc

-- a name that is new gets the last place
pub have_new : (entries now : List (Vec ℕ Global × ℕ)) (names list : List (List ℕ)) (key : Vec ℕ Global) (name : List ℕ) (place : ℕ)
    → HavePlaces entries names
    → key.items ≡ name → place ≡ length names → is_some (place_of name names) ≡ false
    → now ≡ insert_entry (λ x y. bytes_eq x.items y.items) entries key place
    → list ≡ names ++ name ∷ [] → HavePlaces now list
have_new entries now names list key name place h e f n i j =
    let k = insert_absent (λ (x y : Vec ℕ Global). bytes_eq x.items y.items) key place entries
    (h key.items ∙ ap (λ y. place_of y names) e ∙ none_there (place_of name names) n) in
    λ x. ap (lookup (λ (k : Vec ℕ Global). bytes_eq x k.items)) (i ∙ k)
    ∙ lookup_pushed (λ (k : Vec ℕ Global). bytes_eq x k.items) entries key place
    ∙ ap₂ or_place (h x) (ap₂ (λ k n. cond (bytes_eq x k) (Some n) None) e f) ∙ sym (place_pushed x names name) ∙ ap (place_of x) (sym j)

-- where a name stands again, nothing changes
pub have_again : (entries : List (Vec ℕ Global × ℕ)) (names list : List (List ℕ)) (name : List ℕ) → HavePlaces entries names
    → is_some (place_of name names) ≡ true
    → list ≡ names ++ name ∷ [] → HavePlaces entries list
have_again entries names list name h e j =
    λ x. h x ∙ sym (ap (place_of x) j ∙ place_pushed x names name ∙ on x (place_of x names) (bytes_eq x name) refl refl) where
      on : (x : List ℕ) (o : Option ℕ) (b : Bool) → place_of x names ≡ o → bytes_eq x name ≡ b
          → or_place o (cond b (Some (length names)) None) ≡ o
      on x (Some n) b f g = refl
      on x None false f g = refl
      on x None true f g =
          let i : x ≡ name = (bytes_eq-Decides x name).0 g in
          let k : is_some (place_of x names) ≡ true = ap (λ y. is_some (place_of y names)) i ∙ e in
          let m : is_some (place_of x names) ≡ false = ap is_some f in cc
