-- How many rows the ready-made templates have, and that each is a row over the variables.
use Rattle.std.proofs.Common.{◌≡◌, ◌≢◌, ◌≤◌, ◌<◌, ◌+◌, ◌-◌, ◌*◌, ℕ, suc, zero, ℤ, pos, negsuc, Bool, true, false, List, [], ◌∷◌, ◌++◌}
use Rattle.std.proofs.Common.{length, map, ap, sym, ◌∙◌, refl, arith, ⊎_elim, inl, inr, length-append}
use Rattle.std.specs.Prelude.{◌||◌, ◌⊎◌, ◌==◌, not, nat_abs, nat_le, Result, Ok, Err}
use Rattle.std.specs.List.{range_with_len, flat_map, list_all, list_any}
use Rattle.std.proofs.lemmas.Bool.{and_from, and_parts, eq-eqb, le-leb, lt-leb, lt-ltb, cases_order}
use Rattle.std.proofs.lemmas.List.FromFn.{length-map-range_with_len}
use Rattle.std.proofs.Math.Nat.{mul_comm, mul_assoc, suc-mul}
use Rattle.flow_templates.specs.declared.fault.RowFault.{RowFault}
use Rattle.flow_templates.specs.declared.fault.RowFault.TheVariants.{Large}
use Rattle.flow_templates.specs.Rows.{is_template, width_of}
use Rattle.flow_templates.specs.Domains.{term, combination, both_signs, intervals_of, difference, zones_of, signed_sums, octagons_of}
use Rattle.flow_templates.specs.Domains.{ready}
use Rattle.flow_templates.specs.declared.limits.TheConstants.{MOST_ROWS}
use Rattle.flow_templates.proofs.counted.Sound.{is_row_over, template_from}
use Rattle.flow_templates.proofs.counted.Rows.{term_own, terms_first, difference_none, difference_one, signed_sums_none}

-- ---- lists of numbers
first_true : (b c : Bool) → b ≡ true → (b || c) ≡ true
first_true true c e = refl
first_true false c e = cc

second_true : (b c : Bool) → c ≡ true → (b || c) ≡ true
second_true true c e = refl
second_true false c e = e

any_at : (test : ℤ → Bool) (f : ℕ → ℤ) (i a n : ℕ) → a ≤ i → i < a + n → test (f i) ≡ true → list_any test (map f (range_with_len a n))
    ≡ true
any_at test f i a zero l h t = absurd (omega arith)
any_at test f i a (suc n) l h t =
    let rest = list_any test (map f (range_with_len (a + 1) n)) in
    ⊎_elim
    (λ (e : i ≡ a). first_true (test (f a)) rest (ap (λ k. test (f k)) (sym e) ∙ t))
    (λ o.
    let above : a + 1 ≤ i = ⊎_elim (λ (k : i < a). absurd (omega arith)) (λ (k : a < i). omega arith) o in
    second_true (test (f a)) rest (any_at test f i (a + 1) n above (omega arith) t))
    (cases_order i a)

-- coefficients of which one isn't 0 are a row over the variables
row_over : (n : ℕ) (f : ℕ → ℤ) (i : ℕ) → i < n → not (nat_abs (f i) == 0) ≡ true → is_row_over n (map f (range_with_len 0 n)) ≡ true
row_over n f i l h =
    and_from _ _ (any_at (λ c. not (nat_abs c == 0)) f i 0 n (omega arith) (omega arith) h)
    (eq-eqb (length (map f (range_with_len 0 n))) n (length-map-range_with_len f 0 n))

-- ---- parts of one variable after another
module _ {X : Type 0} where
  -- a test that each of two lists passes is passed by both together
  pub all_append : (test : X → Bool) (xs ys : List X) → list_all test xs ≡ true → list_all test ys ≡ true → list_all test (xs ++ ys) ≡ true
  all_append test [] ys h k = k
  all_append test (x ∷ xs) ys h k =
      let p = and_parts (test x) (list_all test xs) h in and_from (test x) (list_all test (xs ++ ys)) p.0 (all_append test xs ys p.1 k)

  -- a test that the parts of each variable pass is passed by all of them
  pub all_parts : (test : X → Bool) (f : ℕ → List X) (a n : ℕ) → ((k : ℕ) → a ≤ k → k < a + n → list_all test (f k) ≡ true)
      → list_all test (flat_map f (range_with_len a n)) ≡ true
  all_parts test f a zero h = refl
  all_parts test f a (suc n) h =
      all_append test (f a) (flat_map f (range_with_len (a + 1) n)) (h a (omega arith) (omega arith))
      (all_parts test f (a + 1) n (λ k l m. h k (omega arith) (omega arith)))

  -- parts of one length have so many times this length
  pub length_parts : (f : ℕ → List X) (count a n : ℕ) → ((k : ℕ) → a ≤ k → k < a + n → length (f k) ≡ count)
      → length (flat_map f (range_with_len a n)) ≡ n * count
  length_parts f count a zero h = omega arith
  length_parts f count a (suc n) h =
      let e = h a (omega arith) (omega arith) in
      let more = length_parts f count (a + 1) n (λ k l m. h k (omega arith) (omega arith)) in
      omega (arith, length-append (f a) (flat_map f (range_with_len (a + 1) n)), e, more, suc-mul n count)

-- ---- intervals
both_over : (n i : ℕ) → i < n → list_all (is_row_over n) (both_signs n i) ≡ true
both_over n i l =
    and_from _ _ (row_over n (term (pos 1) i) i l (ap (λ c. not (nat_abs c == 0)) (term_own (pos 1) i i refl)))
    (and_from _ _ (row_over n (term (negsuc 0) i) i l (ap (λ c. not (nat_abs c == 0)) (term_own (negsuc 0) i i refl))) refl)

-- intervals are rows over the variables
pub intervals_over : (n : ℕ) → list_all (is_row_over n) (intervals_of n) ≡ true
intervals_over n = all_parts (is_row_over n) (both_signs n) 0 n (λ k l m. both_over n k (omega arith))

-- the intervals over n variables are 2n rows
pub length-intervals : (n : ℕ) → length (intervals_of n) ≡ 2 * n
length-intervals n = let e = length_parts (both_signs n) 2 0 n (λ k l m. refl) in omega arith

-- ---- zones
one_over : (n i : ℕ) (c : ℤ) (j : ℕ) (d : ℤ) → i < n → i ≢ j → not (nat_abs c == 0) ≡ true → is_row_over n (combination n c i d j) ≡ true
one_over n i c j d l m h = row_over n _ i l (ap (λ x. not (nat_abs x == 0)) (terms_first c d i j i m refl) ∙ h)

same_or_not : (i j : ℕ) → (i ≡ j) ⊎ (i ≢ j)
same_or_not i j =
    ⊎_elim (λ e. inl e) (λ o. inr (λ e. ⊎_elim (λ (k : i < j). absurd (omega arith)) (λ (k : j < i). absurd (omega arith)) o))
    (cases_order i j)

difference_over : (n i j : ℕ) → i < n → list_all (is_row_over n) (difference n i j) ≡ true
difference_over n i j l =
    ⊎_elim
    (λ (e : i ≡ j). ap (list_all (is_row_over n)) (sym (difference_none n i j e)))
    (λ (m : i ≢ j).
    ap (list_all (is_row_over n)) (sym (difference_one n i j m)) ∙ and_from _ _ (one_over n i (pos 1) j (negsuc 0) l m refl) refl)
    (same_or_not i j)

zones_over : (n : ℕ) → list_all (is_row_over n) (zones_of n) ≡ true
zones_over n =
    all_append (is_row_over n) (intervals_of n) _ (intervals_over n)
    (all_parts (is_row_over n) (λ i. flat_map (difference n i) (range_with_len 0 n)) 0 n (λ i l m.
    all_parts (is_row_over n) (difference n i) 0 n (λ j p q. difference_over n i j (omega arith))))

one_difference : (n i j : ℕ) → i ≢ j → length (difference n i j) ≡ 1
one_difference n i j m = ap length (sym (difference_one n i j m))

no_difference : (n i j : ℕ) → i ≡ j → length (difference n i j) ≡ 0
no_difference n i j e = ap length (sym (difference_none n i j e))

-- a variable among others has one difference fewer than these are
length-differences : (n i a m : ℕ) → a ≤ i → i < a + m → length (flat_map (difference n i) (range_with_len a m)) + 1 ≡ m
length-differences n i a zero l h = absurd (omega arith)
length-differences n i a (suc m) l h =
    let rest = flat_map (difference n i) (range_with_len (a + 1) m) in
    ⊎_elim
    (λ (e : i ≡ a).
    let more = length_parts (difference n i) 1 (a + 1) m (λ k p q. one_difference n i k (λ f. absurd (omega arith))) in
    omega (arith, length-append (difference n i a) rest, no_difference n i a e, more))
    (λ (d : i ≢ a).
    let above : a < i = ⊎_elim (λ f. absurd (d f)) (λ o. ⊎_elim (λ (k : i < a). absurd (omega arith)) (λ (k : a < i). k) o)
    (cases_order i a) in
    let more = length-differences n i (a + 1) m (omega arith) (omega arith) in
    omega (arith, length-append (difference n i a) rest, one_difference n i a d, more))
    (same_or_not i a)

-- the zones over n variables have 2n + n(n - 1) rows
pub length-zones : (n : ℕ) → 1 ≤ n → length (zones_of n) ≡ 2 * n + n * (n - 1)
length-zones n some_one =
    let pairs = flat_map (λ i. flat_map (difference n i) (range_with_len 0 n)) (range_with_len 0 n) in
    let more = length_parts (λ i. flat_map (difference n i) (range_with_len 0 n)) (n - 1) 0 n
    (λ i l m. let e = length-differences n i 0 n l m in omega arith) in
    omega (arith, length-append (intervals_of n) pairs, length-intervals n, more)

-- ---- octagons
-- a variable and a later one have four sums
pub four : (n i j : ℕ) → i < j → signed_sums n i j
    ≡ combination n (pos 1) i (pos 1) j ∷ (combination n (pos 1) i (negsuc 0) j
    ∷ (combination n (negsuc 0) i (pos 1) j ∷ (combination n (negsuc 0) i (negsuc 0) j ∷ [])))
four n i j l = rw (lt-ltb i j l) refl

above_or_not : (i j : ℕ) → (i < j) ⊎ (j ≤ i)
above_or_not i j = ⊎_elim (λ e. inr (omega arith)) (λ o. ⊎_elim (λ k. inl k) (λ (k : j < i). inr (omega arith)) o) (cases_order i j)

-- signed sums are rows over the variables
pub sums_over : (n i j : ℕ) → i < n → list_all (is_row_over n) (signed_sums n i j) ≡ true
sums_over n i j l =
    ⊎_elim
    (λ (k : i < j).
    let m : i ≢ j = λ e. absurd (omega arith) in
    ap (list_all (is_row_over n)) (four n i j k)
    ∙ and_from _ _ (one_over n i (pos 1) j (pos 1) l m refl) (and_from _ _ (one_over n i (pos 1) j (negsuc 0) l m refl)
    (and_from _ _ (one_over n i (negsuc 0) j (pos 1) l m refl) (and_from _ _ (one_over n i (negsuc 0) j (negsuc 0) l m refl) refl))))
    (λ (k : j ≤ i). ap (list_all (is_row_over n)) (sym (signed_sums_none n i j k)))
    (above_or_not i j)

octagons_over : (n : ℕ) → list_all (is_row_over n) (octagons_of n) ≡ true
octagons_over n =
    all_append (is_row_over n) (intervals_of n) _ (intervals_over n)
    (all_parts (is_row_over n) (λ i. flat_map (signed_sums n i) (range_with_len 0 n)) 0 n (λ i l m.
    all_parts (is_row_over n) (signed_sums n i) 0 n (λ j p q. sums_over n i j (omega arith))))

-- a variable has four sums with each later one
length-sums : (n i a m : ℕ) → a ≤ i → i < a + m → length (flat_map (signed_sums n i) (range_with_len a m)) + 4 * (i + 1) ≡ 4 * (a + m)
length-sums n i a zero l h = absurd (omega arith)
length-sums n i a (suc m) l h =
    let rest = flat_map (signed_sums n i) (range_with_len (a + 1) m) in
    let none : length (signed_sums n i a) ≡ 0 = ap length (sym (signed_sums_none n i a l)) in
    ⊎_elim
    (λ (e : i ≡ a).
    let more = length_parts (signed_sums n i) 4 (a + 1) m (λ k p q. ap length (four n i k (omega arith))) in
    omega (arith, length-append (signed_sums n i a) rest, none, more))
    (λ (d : i ≢ a).
    let above : a < i = ⊎_elim (λ f. absurd (d f)) (λ o. ⊎_elim (λ (k : i < a). absurd (omega arith)) (λ (k : a < i). k) o)
    (cases_order i a) in
    let more = length-sums n i (a + 1) m (omega arith) (omega arith) in
    omega (arith, length-append (signed_sums n i a) rest, none, more))
    (same_or_not i a)

square : (m : ℕ) → suc m * suc m ≡ m * m + m + m + 1
square m = omega (arith, suc-mul m (suc m), mul_comm m (suc m), suc-mul m m)

-- the last m of n variables have twice the square of m sums, and twice m fewer
length-pairs : (n a m : ℕ) → a + m ≡ n
    → length (flat_map (λ i. flat_map (signed_sums n i) (range_with_len 0 n)) (range_with_len a m)) + 2 * m ≡ 2 * (m * m)
length-pairs n a zero e = refl
length-pairs n a (suc m) e =
    let f : ℕ → List (List ℤ) = λ i. flat_map (signed_sums n i) (range_with_len 0 n) in
    let here = length-sums n a 0 n (omega arith) (omega arith) in
    let more = length-pairs n (a + 1) m (omega arith) in
    omega (arith, length-append (f a) (flat_map f (range_with_len (a + 1) m)), here, more, square m)

-- the octagons over n variables have 2n^2 rows
pub length-octagons : (n : ℕ) → length (octagons_of n) ≡ 2 * n * n
length-octagons n =
    let pairs = flat_map (λ i. flat_map (signed_sums n i) (range_with_len 0 n)) (range_with_len 0 n) in
    let more = length-pairs n 0 n (omega arith) in
    omega (arith, length-append (intervals_of n) pairs, length-intervals n, more, mul_assoc 2 n n)

-- ---- the templates
-- rows that are a template over n variables, so many
abbrev pub IsCounted : List (List ℤ) → (n count : ℕ) → Type 0
IsCounted rows n count = (is_template rows ≡ true) × (width_of rows ≡ n) × (length rows ≡ count)

-- rows over n variables, so many and few enough, are a template over them
pub counted : (rows : List (List ℤ)) (n count : ℕ) → list_all (is_row_over n) rows ≡ true → length rows ≡ count → 1 ≤ count
    → count ≤ MOST_ROWS → IsCounted rows n count
counted rows n count all e some_row few =
    let t = template_from n rows all (and_from (nat_le 1 (length rows)) (nat_le (length rows) MOST_ROWS)
    (le-leb 1 (length rows) (omega arith))
    (le-leb (length rows) MOST_ROWS (omega arith))) in
    (t.0, t.1, e)

-- the intervals over n variables are a template over them, of 2n rows
pub intervals_counted : (n : ℕ) → 1 ≤ n → 2 * n ≤ MOST_ROWS → IsCounted (intervals_of n) n (2 * n)
intervals_counted n h l = counted (intervals_of n) n (2 * n) (intervals_over n) (length-intervals n) (omega arith) l

-- the zones over n variables are a template over them, of 2n + n(n - 1) rows
pub zones_counted : (n : ℕ) → 1 ≤ n → 2 * n + n * (n - 1) ≤ MOST_ROWS → IsCounted (zones_of n) n (2 * n + n * (n - 1))
zones_counted n h l = counted (zones_of n) n (2 * n + n * (n - 1)) (zones_over n) (length-zones n h) (omega arith) l

-- the octagons over n variables are a template over them, of 2n^2 rows
pub octagons_counted : (n : ℕ) → 1 ≤ n → 2 * n * n ≤ MOST_ROWS → IsCounted (octagons_of n) n (2 * n * n)
octagons_counted n h l = counted (octagons_of n) n (2 * n * n) (octagons_over n) (length-octagons n) some_row l
  where
    by : (k : ℕ) → 1 ≤ k → 1 ≤ 2 * k * k
    by zero m = absurd (omega arith)
    by (suc k) m = omega (arith, mul_assoc 2 (suc k) (suc k), square k)

    some_row : 1 ≤ 2 * n * n
    some_row = by n h

-- rows that are few enough are ready
pub ready_few : (rows : List (List ℤ)) (count : ℕ) → length rows ≡ count → count ≤ MOST_ROWS → Ok rows ≡ ready rows
ready_few rows count e l = rw (le-leb (length rows) MOST_ROWS (omega arith)) refl

-- rows that are too many are refused with their number
pub ready_many : (rows : List (List ℤ)) (count : ℕ) → length rows ≡ count → MOST_ROWS < count → Err (Large count) ≡ ready rows
ready_many rows count e l = rw (lt-leb (length rows) MOST_ROWS (omega arith))
    (ap (λ (k : ℕ). let r : Result (List (List ℤ)) RowFault = Err (Large k) in r)
    (sym e))
