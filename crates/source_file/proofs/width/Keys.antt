-- Names counted once each, kept in a set.
use Rattle.std.proofs.Common.{◌≡◌, ◌∙◌, ◌++◌, ◌+◌, ℕ, suc, Bool, true, false, List, [], ◌∷◌, length, length-append, refl, sym, ap, ap₂}
use Rattle.std.proofs.Common.{arith}
use Rattle.std.proofs.Common.{if◌then◌else◌}
use Rattle.std.proofs.lemmas.List.{map-append}
use Rattle.std.specs.Prelude.{◌||◌}
use Rattle.std.specs.List.{list_any}
use Rattle.std.specs.Str.{bytes_eq}
use Rattle.std.specs.declared.alloc.Global.{Global}
use Rattle.std.specs.declared.vec.Vec.{Vec}
use Rattle.source_meaning.specs.Walk.{distinct}
use Rattle.source_file.proofs.choice.Repeats.{any_text, has, texts}

-- the same names stood before
abbrev AreSame : (one other : List (List ℕ)) → Type 0
AreSame one other = (x : List ℕ) → list_any (bytes_eq x) one ≡ list_any (bytes_eq x) other

-- in which order names stood before doesn't matter
distinct_same : (one other : List (List ℕ)) → AreSame one other → (xs : List (List ℕ)) → distinct one xs ≡ distinct other xs
distinct_same one other h [] = refl
distinct_same one other h (x ∷ xs) =
    ap (λ (b : Bool). if b then distinct one xs else suc (distinct (x ∷ one) xs)) (h x)
    ∙ ap₂ (λ (m n : ℕ). if list_any (bytes_eq x) other then m else suc n) (distinct_same one other h xs)
    (distinct_same (x ∷ one) (x ∷ other) (λ y. ap (λ (b : Bool). bytes_eq y x || b) (h y)) xs)

or_swap : (a b c : Bool) → (a || (b || c)) ≡ (b || (a || c))
or_swap true true c = refl
or_swap true false c = refl
or_swap false b c = refl

last_first : (ys : List (List ℕ)) (x : List ℕ) → AreSame (x ∷ ys) (ys ++ x ∷ [])
last_first [] x z = refl
last_first (y ∷ ys) x z =
    or_swap (bytes_eq z x) (bytes_eq z y) (list_any (bytes_eq z) ys) ∙ ap (λ (b : Bool). bytes_eq z y || b) (last_first ys x z)

module _ (x : List ℕ) (xs : List (List ℕ)) (ks : List (Vec ℕ Global)) (key : Vec ℕ Global) (e : key.items ≡ x) where
  by_test : (b : Bool) → has key.items ks ≡ b
      → (let now = if b then ks else ks ++ key ∷ [] in distinct (texts now) xs + length now)
      ≡ (if b then distinct (texts ks) xs else suc (distinct (x ∷ texts ks) xs)) + length ks
  by_test true h = refl
  by_test false h =
      let names : texts (ks ++ key ∷ []) ≡ texts ks ++ x ∷ [] =
      map-append (λ (k : Vec ℕ Global). k.items) ks (key ∷ []) ∙ ap (λ (y : List ℕ). texts ks ++ y ∷ []) e in
      let same : distinct (texts (ks ++ key ∷ [])) xs ≡ distinct (x ∷ texts ks) xs =
      ap (λ (l : List (List ℕ)). distinct l xs) names
      ∙ sym (distinct_same (x ∷ texts ks) (texts ks ++ x ∷ []) (last_first (texts ks) x) xs) in
      let size : length (ks ++ key ∷ []) ≡ length ks + 1 = length-append ks (key ∷ []) in
      omega (arith, same, size)

  -- a name more
  pub inserted : (now : List (Vec ℕ Global)) → now ≡ (if has key.items ks then ks else ks ++ key ∷ [])
      → distinct (texts now) xs + length now ≡ distinct (texts ks) (x ∷ xs) + length ks
  inserted now n =
      let test : list_any (bytes_eq x) (texts ks) ≡ has key.items ks =
      any_text x ks ∙ ap (λ (y : List ℕ). has y ks) (sym e) in
      ap (λ (l : List (Vec ℕ Global)). distinct (texts l) xs + length l) n ∙ by_test (has key.items ks) refl
      ∙ ap (λ (b : Bool). (if b then distinct (texts ks) xs else suc (distinct (x ∷ texts ks) xs)) + length ks) (sym test)
