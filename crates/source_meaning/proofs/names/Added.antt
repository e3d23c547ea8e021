-- Variables that are declared, each once.
use Rattle.std.proofs.Common.{◌≡◌, ◌+◌, ℕ, suc, List, [], ◌∷◌, ◌++◌, length, Bool, true, false, cond, refl, ap, arith}
use Rattle.std.specs.List.{list_any}
use Rattle.std.specs.Str.{bytes_eq}
use Rattle.source_meaning.specs.Walk.{distinct}

-- those before, and those of these names that are new
abbrev pub added : (before names : List (List ℕ)) → List (List ℕ)
added before [] = before
added before (x ∷ xs) = cond (list_any (bytes_eq x) before) (added before xs) (added (x ∷ before) xs)

-- a name that is new is one more
pub added_new : (x : List ℕ) (before : List (List ℕ)) → list_any (bytes_eq x) before ≡ false → added before (x ∷ []) ≡ x ∷ before
added_new x before e = ap (λ b. cond b before (x ∷ before)) e

-- a name that isn't is not
pub added_known : (x : List ℕ) (before : List (List ℕ)) → list_any (bytes_eq x) before ≡ true → added before (x ∷ []) ≡ before
added_known x before e = ap (λ b. cond b before (x ∷ before)) e

-- names in two parts
pub added_then : (before xs ys : List (List ℕ)) → added before (xs ++ ys) ≡ added (added before xs) ys
added_then before [] ys = refl
added_then before (x ∷ xs) ys = by (added_then before xs ys) (added_then (x ∷ before) xs ys) (list_any (bytes_eq x) before) where
  by : added before (xs ++ ys) ≡ added (added before xs) ys → added (x ∷ before) (xs ++ ys) ≡ added (added (x ∷ before) xs) ys
      → (b : Bool) → cond b (added before (xs ++ ys)) (added (x ∷ before) (xs ++ ys))
      ≡ added (cond b (added before xs) (added (x ∷ before) xs)) ys
  by e f true = e
  by e f false = f

-- there are as many more as are distinct
pub length_added : (before xs : List (List ℕ)) → length (added before xs) ≡ length before + distinct before xs
length_added before [] = omega arith
length_added before (x ∷ xs) = by (length_added before xs) (length_added (x ∷ before) xs) (list_any (bytes_eq x) before) where
  by : length (added before xs) ≡ length before + distinct before xs
      → length (added (x ∷ before) xs) ≡ suc (length before) + distinct (x ∷ before) xs → (b : Bool)
      → length (cond b (added before xs) (added (x ∷ before) xs))
      ≡ length before + cond b (distinct before xs) (suc (distinct (x ∷ before) xs))
  by e f true = e
  by e f false = omega (arith, f)
