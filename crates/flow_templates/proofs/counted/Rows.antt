-- The rows of the templates, one by one.
use Rattle.std.proofs.Common.{◌≡◌, ◌≢◌, ◌≤◌, ◌+◌, ℕ, ℤ, pos, negsuc, Bool, true, false, cond, eqb, List, [], ◌∷◌}
use Rattle.std.proofs.Common.{◌++◌, map, ap}
use Rattle.std.proofs.Common.{sym, ◌∙◌, refl, arith, append_assoc, ◌+ℤ◌}
use Rattle.std.specs.List.{range_with_len, flat_map}
use Rattle.std.proofs.lemmas.Bool.{and_from, eq-eqb, ne_eqb, le-ltb}
use Rattle.std.proofs.lemmas.Bool.Decides.{nat_tests}
use Rattle.std.proofs.lemmas.List.{flat_map_more, map-id}
use Rattle.std.proofs.lemmas.List.FromFn.{map-range_with_len_more}
use Rattle.std.proofs.Math.IntN.{+ℤ_idl, +ℤ_idr}
use Rattle.lang_tree.specs.Numbers.{is_number, are_numbers}
use Rattle.flow_templates.specs.Domains.{term, combination, difference, signed_sums}

-- the coefficient of the variable itself, and of another one
pub term_own : (c : ℤ) (i k : ℕ) → k ≡ i → term c i k ≡ c
term_own c i k e = rw (eq-eqb k i e) refl

-- the coefficient of another variable is 0
pub term_other : (c : ℤ) (i k : ℕ) → (k ≡ i → ⊥) → term c i k ≡ pos 0
term_other c i k n = grind (arith, nat_tests)

-- the coefficient of either of two variables, and of a third one
pub terms_first : (c d : ℤ) (i j k : ℕ) → i ≢ j → k ≡ i → term c i k +ℤ term d j k ≡ c
terms_first c d i j k n e = rw (term_own c i k e, term_other d j k (λ h. n (sym e ∙ h))) (+ℤ_idr c)

-- the coefficient of the second variable is the second number
pub terms_second : (c d : ℤ) (i j k : ℕ) → (k ≡ i → ⊥) → k ≡ j → term c i k +ℤ term d j k ≡ d
terms_second c d i j k n e = rw (term_other c i k n, term_own d j k e) (+ℤ_idl d)

-- the coefficient of a third variable is 0
pub terms_third : (c d : ℤ) (i j k : ℕ) → (k ≡ i → ⊥) → (k ≡ j → ⊥) → term c i k +ℤ term d j k ≡ pos 0
terms_third c d i j k n m = rw (term_other c i k n, term_other d j k m) refl

term_number : (c : ℤ) (b : Bool) → is_number c ≡ true → is_number (cond b c (pos 0)) ≡ true
term_number c true h = h
term_number c false h = refl

-- the coefficients of one term stay within 2^63 - 1
pub numbers-terms : (c : ℤ) (i : ℕ) (ks : List ℕ) → is_number c ≡ true → are_numbers (map (term c i) ks) ≡ true
numbers-terms c i [] h = refl
numbers-terms c i (k ∷ ks) h = and_from _ _ (term_number c (eqb k i) h) (numbers-terms c i ks h)

two_number : (c d : ℤ) (a b : Bool) → (a ≡ true → b ≡ true → ⊥) → is_number c ≡ true → is_number d ≡ true
    → is_number (cond a c (pos 0) +ℤ cond b d (pos 0)) ≡ true
two_number c d true true n h k = absurd (n refl refl)
two_number c d true false n h k = rw (+ℤ_idr c) h
two_number c d false true n h k = rw (+ℤ_idl d) k
two_number c d false false n h k = refl

-- the coefficients of two terms over different variables stay within 2^63 - 1
pub numbers-sums : (c d : ℤ) (i j : ℕ) (ks : List ℕ) → i ≢ j → is_number c ≡ true → is_number d ≡ true
    → are_numbers (map (λ k. term c i k +ℤ term d j k) ks) ≡ true
numbers-sums c d i j [] n h m = refl
numbers-sums c d i j (k ∷ ks) n h m =
    and_from _ _
    (two_number c d (eqb k i) (eqb k j) (λ a b. n (grind (arith, nat_tests))) h m)
    (numbers-sums c d i j ks n h m)

-- one more coefficient
pub terms_more : (f : ℕ → ℤ) (list more : List ℤ) (x : ℤ) (k : ℕ) → list ≡ map f (range_with_len 0 k) → more ≡ list ++ x ∷ [] → x ≡ f k
    → more ≡ map f (range_with_len 0 (k + 1))
terms_more f list more x k e p v =
    let step : map f (range_with_len 0 (k + 1)) ≡ map f (range_with_len 0 k) ++ f k ∷ [] = map-range_with_len_more f 0 k k (omega arith) in
    cc

range_more : (k : ℕ) → range_with_len 0 (k + 1) ≡ range_with_len 0 k ++ k ∷ []
range_more k = sym (map-id _) ∙ (map-range_with_len_more (λ j. j) 0 k k (omega arith) ∙ ap (λ l. l ++ k ∷ []) (map-id _))

-- the parts of one more variable
pub parts_more : {X : Type 0} (f : ℕ → List X) (front list more new : List X) (k : ℕ) → list ≡ front ++ flat_map f (range_with_len 0 k)
    → more ≡ list ++ new → new ≡ f k → more ≡ front ++ flat_map f (range_with_len 0 (k + 1))
parts_more f front list more new k e p v =
    let step : (front ++ flat_map f (range_with_len 0 k)) ++ f k ≡ front ++ flat_map f (range_with_len 0 k ++ k ∷ []) =
    flat_map_more f front (range_with_len 0 k) k in
    rw range_more (rw (← step) (rw (← e, ← v) p))

-- the parts that two pushes add
pub two_pushes : {X : Type 0} (list mid more : List X) (x y : X) → mid ≡ list ++ x ∷ [] → more ≡ mid ++ y ∷ [] → more ≡ list ++ (x ∷ y ∷ [])
two_pushes list mid more x y e p = p ∙ (ap (λ l. l ++ y ∷ []) e ∙ append_assoc list (x ∷ []) (y ∷ []))

-- a variable has no difference to itself
pub difference_none : (n i j : ℕ) → i ≡ j → [] ≡ difference n i j
difference_none n i j e = sym (rw (eq-eqb i j e) refl)

-- two different variables have one difference
pub difference_one : (n i j : ℕ) → i ≢ j → combination n (pos 1) i (negsuc 0) j ∷ [] ≡ difference n i j
difference_one n i j d = rw (ne_eqb i j d) refl

-- two variables have signed sums only where the second comes after the first
pub signed_sums_none : (n i j : ℕ) → j ≤ i → [] ≡ signed_sums n i j
signed_sums_none n i j e = sym (rw (le-ltb i j e) refl)
