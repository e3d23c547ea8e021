-- The longest front of a list that passes a test.
use Rattle.std.proofs.Common.{◌≡◌, ◌≤◌, ◌+◌, ℕ, suc, Bool, true, false, cond, not, List, [], ◌∷◌, ◌++◌, length, take, drop, eqb, ⊎_elim}
use Rattle.std.proofs.Common.{refl, arith}
use Rattle.std.specs.List.{list_all, prefix_len}
use Rattle.std.proofs.lemmas.Bool.{and_from, cases_Bool, eq-eqb, ne_eqb}
use Rattle.std.proofs.lemmas.List.{take_all, append-nil}
use Rattle.std.proofs.lemmas.List.Sums.{prefix_len-le-length}

-- no element, or one that fails at once
abbrev pub stops : {X : Type 0} → (X → Bool) → List X → Bool
stops p [] = true
stops p (x ∷ xs) = not (p x)

all_run_cons : {X : Type 0} (p : X → Bool) (x : X) (xs : List X) (n : ℕ) (b : Bool) → p x ≡ b → list_all p (take n xs) ≡ true
    → list_all p (take (cond b (1 + n) 0) (x ∷ xs)) ≡ true
all_run_cons p x xs n true e h = let one : 1 + n ≡ suc n = omega arith in rw one (and_from _ _ e h)
all_run_cons p x xs n false e h = refl

-- every element of the longest front that passes does pass
pub all_run : {X : Type 0} (p : X → Bool) (xs : List X) → list_all p (take (prefix_len p xs) xs) ≡ true
all_run p [] = refl
all_run p (x ∷ xs) = all_run_cons p x xs (prefix_len p xs) (p x) refl (all_run p xs)

stops_run_cons : {X : Type 0} (p : X → Bool) (x : X) (xs : List X) (n : ℕ) (b : Bool) → p x ≡ b → stops p (drop n xs) ≡ true
    → stops p (drop (cond b (1 + n) 0) (x ∷ xs)) ≡ true
stops_run_cons p x xs n true e h = let one : 1 + n ≡ suc n = omega arith in rw one h
stops_run_cons p x xs n false e h = rw e refl

-- the longest front that passes ends at the end of the list or before an element that fails
pub stops_run : {X : Type 0} (p : X → Bool) (xs : List X) → stops p (drop (prefix_len p xs) xs) ≡ true
stops_run p [] = refl
stops_run p (x ∷ xs) = stops_run_cons p x xs (prefix_len p xs) (p x) refl (stops_run p xs)

-- a front that passes is no longer
pub run_longest : {X : Type 0} (p : X → Bool) (other after xs : List X) → other ++ after ≡ xs → list_all p other ≡ true
    → length other ≤ prefix_len p xs
run_longest p [] after xs e h = omega arith
run_longest p (o ∷ other) after [] e h = cc
run_longest p (o ∷ other) after (x ∷ xs) e h = grind (arith, run_longest p other after xs)

all_fits : {X : Type 0} (p : X → Bool) (xs : List X) → prefix_len p xs ≡ length xs → list_all p xs ≡ true
all_fits p xs e = let all = all_run p xs in rw (take_all (prefix_len p xs) xs (omega arith)) at all

-- the longest front that passes is all of the list exactly if all of it passes
pub run_is_all : {X : Type 0} (p : X → Bool) (xs : List X) → eqb (prefix_len p xs) (length xs) ≡ list_all p xs
run_is_all p xs = ⊎_elim
    (λ (all : list_all p xs ≡ true). rw all (eq-eqb (prefix_len p xs) (length xs)
    (omega (arith, run_longest p xs [] xs (append-nil xs) all, prefix_len-le-length p xs))))
    (λ (some : list_all p xs ≡ false). rw some (ne_eqb (prefix_len p xs) (length xs) (λ e. let all = all_fits p xs e in cc)))
    (cases_Bool (list_all p xs))
