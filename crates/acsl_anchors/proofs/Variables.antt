-- The number of a variable among others, by its name.
use Rattle.std.proofs.Common.{◌≡◌, ◌∙◌, ◌≤◌, ◌<◌, ◌++◌, ◌∷◌, ℕ, suc, Bool, true, false, cond, List, [], length, get_or, drop}
use Rattle.std.proofs.Common.{refl}
use Rattle.std.proofs.Common.{sym, ap, ap₂, arith}
use Rattle.std.proofs.Math.Seq.{drop-cons}
use Rattle.std.specs.Str.{bytes_eq}
use Rattle.acsl_anchors.specs.Anchors.{Scope, number_among, with_one, declared}

-- it is at most that of the next one
pub number_within : (x : List ℕ) (ys : List (List ℕ)) → number_among x ys ≤ length ys
number_within x [] = omega arith
number_within x (y ∷ ys) = by_name (bytes_eq x y) (number_within x ys) where
  by_name : (b : Bool) → number_among x ys ≤ length ys → cond b 0 (suc (number_among x ys)) ≤ suc (length ys)
  by_name true h = omega arith
  by_name false h = omega (arith, h)

-- one that has it stays where it is
pub with_one_of : (x : List ℕ) (ys : List (List ℕ)) → number_among x ys < length ys → with_one x ys ≡ ys
with_one_of x [] h = absurd (omega (arith, h))
with_one_of x (y ∷ ys) h = by_name (bytes_eq x y) (λ i. with_one_of x ys i) h where
  by_name : (b : Bool) → (number_among x ys < length ys → with_one x ys ≡ ys) → cond b 0 (suc (number_among x ys)) < suc (length ys)
      → cond b (y ∷ ys) (y ∷ with_one x ys) ≡ y ∷ ys
  by_name true more i = refl
  by_name false more i = ap (λ (l : List (List ℕ)). y ∷ l) (more (omega (arith, i)))

-- a new one stands behind the others
pub with_one_more : (x : List ℕ) (ys : List (List ℕ)) → number_among x ys ≡ length ys → with_one x ys ≡ ys ++ x ∷ []
with_one_more x [] h = refl
with_one_more x (y ∷ ys) h = by_name (bytes_eq x y) (λ i. with_one_more x ys i) h where
  by_name : (b : Bool) → (number_among x ys ≡ length ys → with_one x ys ≡ ys ++ x ∷ [])
      → cond b 0 (suc (number_among x ys)) ≡ suc (length ys)
      → cond b (y ∷ ys) (y ∷ with_one x ys) ≡ y ∷ (ys ++ x ∷ [])
  by_name true more i = absurd (omega (arith, i))
  by_name false more i = ap (λ (l : List (List ℕ)). y ∷ l) (more (omega (arith, i)))

-- ---- from a place on
-- the one there has the name
pub found_at : (x : List ℕ) (ys : List (List ℕ)) (i : ℕ) (d : List ℕ) → i < length ys → bytes_eq x (get_or ys i d) ≡ true
    → number_among x (drop i ys) ≡ 0
found_at x ys i d h e = ap (λ (l : List (List ℕ)). number_among x l) (drop-cons ys i d h)
    ∙ ap (λ (b : Bool). cond b 0 (suc (number_among x (drop (suc i) ys)))) e

-- or it hasn't
pub passed_at : (x : List ℕ) (ys : List (List ℕ)) (i : ℕ) (d : List ℕ) → i < length ys → bytes_eq x (get_or ys i d) ≡ false
    → number_among x (drop i ys) ≡ suc (number_among x (drop (suc i) ys))
passed_at x ys i d h e = ap (λ (l : List (List ℕ)). number_among x l) (drop-cons ys i d h)
    ∙ ap (λ (b : Bool). cond b 0 (suc (number_among x (drop (suc i) ys)))) e

-- ---- a scope
-- one variable more is declared
pub declared_more : (x : List ℕ) (ys now : List (List ℕ)) (ks known : List ℕ) (n : ℕ) → n ≡ number_among x ys → n ≡ length ys
    → now ≡ ys ++ x ∷ [] → known ≡ ks ++ n ∷ []
    → (let s : Scope = record { variables = now; known = known } in s) ≡ declared x (record { variables = ys; known = ks })
declared_more x ys now ks known n e f g h =
    ap₂ (λ (l : List (List ℕ)) (m : List ℕ). let s : Scope = record { variables = l; known = m } in s)
    (g ∙ sym (with_one_more x ys (sym e ∙ f))) (h ∙ ap (λ (k : ℕ). ks ++ k ∷ []) e)

-- one is declared again
pub declared_again : (x : List ℕ) (ys : List (List ℕ)) (ks known : List ℕ) (n : ℕ) → n ≡ number_among x ys → n < length ys
    → known ≡ ks ++ n ∷ []
    → (let s : Scope = record { variables = ys; known = known } in s) ≡ declared x (record { variables = ys; known = ks })
declared_again x ys ks known n e f h =
    ap₂ (λ (l : List (List ℕ)) (m : List ℕ). let s : Scope = record { variables = l; known = m } in s)
    (sym (with_one_of x ys (omega (arith, e, f)))) (h ∙ ap (λ (k : ℕ). ks ++ k ∷ []) e)
