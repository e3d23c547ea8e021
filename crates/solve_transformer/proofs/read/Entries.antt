-- The entries of traces: each positive column minus the negative one.
use Rattle.std.proofs.Common.{◌≡◌, ◌∙◌, ℕ, zero, suc, ◌+◌, ◌<◌, ◌≤◌, List, [], ◌∷◌, ◌++◌, length, get_or, map, Some, None, refl, ap, ap₂}
use Rattle.std.proofs.Common.{sym, subst, arith, add-one, zero-add, add-zero}
use Rattle.std.specs.Prelude.{flat_map}
use Rattle.std.specs.List.{range_with_len}
use Rattle.std.proofs.lemmas.List.{map-append, length-map}
use Rattle.std.proofs.lemmas.List.FromFn.{length-range_with_len, get_or-range_with_len, map-range_with_len_more}
use Rattle.base_numbers.specs.Rational.{ℚ, ◌-ℚ◌}
use Rattle.base_fractions.specs.Fits.{Fits, long_limit}
use Rattle.base_fractions.specs.declared.wide.Op.TheVariants.{Sub}
use Rattle.base_fractions.specs.declared.wide.Wide.{Wide}
use Rattle.base_fractions.specs.Operation.{Operation, first_wide, operation_of}
use Rattle.flow_systems.proofs.Widths.{first_wide_past, first_wide_here}
use Rattle.lp_theory.specs.Free.{unsplit}
use Rattle.theory_transformers.specs.Limits.{tabulate}
use Rattle.theory_transformers.proofs.limits.Products.{tabulate_same}
use Rattle.solve_composition.proofs.faults.Passed.{IsPassed, passed_more, passed_wide, passed_all}

-- the difference at a column
abbrev pub difference : (ℕ → ℚ) → ℕ → Operation
difference x j = record { op = Sub; left = x (j + j); right = x (suc (j + j)) }

abbrev pub single : (ℕ → ℚ) → ℕ → List Operation
single x j = difference x j ∷ []

flat_single : (x : ℕ → ℚ) (js : List ℕ) → flat_map (single x) js ≡ map (difference x) js
flat_single x [] = refl
flat_single x (j ∷ js) = ap (λ os. difference x j ∷ os) (flat_single x js)

module _ (x : ℕ → ℚ) (j : ℕ) (a b : ℚ) (e : a ≡ x (j + j)) (f : b ≡ x (j + j + 1)) where
  right_is : b ≡ x (suc (j + j))
  right_is = f ∙ ap x (add-one (j + j))

  same : (let o : Operation = record { op = Sub; left = a; right = b } in o) ≡ difference x j
  same = ap₂ (λ y z. let o : Operation = record { op = Sub; left = y; right = z } in o) e right_is

  -- a difference that fits is the entry, and its operation is not wide
  pub entry_fits : (r : ℚ) → (r ≡ a -ℚ b) × Fits long_limit r → (r ≡ unsplit x j) × (first_wide long_limit (single x j) ≡ None)
  entry_fits r h = (
    h.0 ∙ ap₂ (λ y z. y -ℚ z) e right_is,
    ap (λ o. first_wide long_limit (o ∷ [])) (sym same) ∙ first_wide_past long_limit (record { op = Sub; left = a; right = b }) []
        (subst (Fits long_limit) h.0 h.1),
  )

  -- a difference that does not fit is the entry's wide operation
  pub entry_wide : (w : Wide ℚ) → (¬ (Fits long_limit (a -ℚ b))) × (w ≡ record { op = Sub; left = a; right = b })
      → first_wide long_limit (single x j) ≡ Some (operation_of (λ q. q) w)
  entry_wide w h =
      ap (λ o. first_wide long_limit (o ∷ [])) (sym same) ∙ first_wide_here long_limit (record { op = Sub; left = a; right = b }) [] h.0
      ∙ ap (λ (y : Wide ℚ). Some (operation_of (λ q. q) y)) (sym h.1)

-- ---- so many columns from the first on
range_at : (first count i : ℕ) → i < count → first + i ≡ get_or (range_with_len first count) i (first + i)
range_at first count i l = sym (get_or-range_with_len first count i (first + i) l)

module _ (x : ℕ → ℚ) (first count i : ℕ) (l : i < count) (h : IsPassed (single x) (range_with_len first count) i) where
  -- an entry whose operation is not wide is passed
  pub entries_more : first_wide long_limit (single x (first + i)) ≡ None → IsPassed (single x) (range_with_len first count) (i + 1)
  entries_more n = passed_more (single x) (range_with_len first count) i h (first + i)
      (let e = length-range_with_len first count in omega (arith, l)) (range_at first count i l) n

  -- the first wide entry gives the first wide operation of all entries
  pub entries_wide : (o : Operation) → first_wide long_limit (single x (first + i)) ≡ Some o
      → first_wide long_limit (map (difference x) (range_with_len first count)) ≡ Some o
  entries_wide o n =
      ap (first_wide long_limit) (sym (flat_single x (range_with_len first count)))
      ∙ passed_wide (single x) (range_with_len first count) i h (first + i) (let e = length-range_with_len first count in omega (arith, l))
      (range_at first count i l) o n

-- where all entries are passed, none of their operations is wide
pub entries_all : (x : ℕ → ℚ) (first count i : ℕ) → count ≤ i → IsPassed (single x) (range_with_len first count) i
    → first_wide long_limit (map (difference x) (range_with_len first count)) ≡ None
entries_all x first count i l h =
    ap (first_wide long_limit) (sym (flat_single x (range_with_len first count)))
    ∙ passed_all (single x) (range_with_len first count) i (let e = length-range_with_len first count in omega (arith, l)) h

-- one value more extends the list of values by the next number
pub values_more : (f : ℕ → ℚ) (first i : ℕ) (xs ys : List ℚ) (y : ℚ) → ys ≡ xs ++ y ∷ [] → xs ≡ map f (range_with_len first i)
    → y ≡ f (first + i) → ys ≡ map f (range_with_len first (i + 1))
values_more f first i xs ys y e h k = e ∙ ap₂ (λ zs z. zs ++ z ∷ []) h k ∙ sym (map-range_with_len_more f first i (first + i) refl)

-- ---- two ranges in a row
range_joined : (a n m : ℕ) → range_with_len a n ++ range_with_len (a + n) m ≡ range_with_len a (n + m)
range_joined a zero m = ap₂ range_with_len (add-zero a) (sym (zero-add m))
range_joined a (suc n) m =
    ap (λ xs. a ∷ xs) (ap (λ b. range_with_len (a + 1) n ++ range_with_len b m) (let e : a + suc n ≡ a + 1 + n = omega arith in e)
    ∙ range_joined (a + 1) n m)
    ∙ ap (range_with_len a) (let e : suc (n + m) ≡ suc n + m = omega arith in e)

tabulate_range : (x : ℕ → ℚ) (a n : ℕ) → map x (range_with_len a n) ≡ tabulate n (λ k. x (a + k))
tabulate_range x a zero = refl
tabulate_range x a (suc n) =
    ap₂ (λ y ys. y ∷ ys) (ap x (sym (add-zero a))) (tabulate_range x (a + 1) n
    ∙ tabulate_same n (λ k. x (a + 1 + k)) (λ k. x (a + suc k)) (λ k l. ap x (let e : a + 1 + k ≡ a + suc k = omega arith in e)))

-- the values at the numbers below n are the table of n values
pub tabulate_all : (x : ℕ → ℚ) (n : ℕ) → map x (range_with_len 0 n) ≡ tabulate n x
tabulate_all x n = tabulate_range x 0 n ∙ tabulate_same n (λ k. x (0 + k)) x (λ k l. ap x (zero-add k))

-- the values at the start and at the free columns are together the table of all columns
pub joined_values : (x : ℕ → ℚ) (n m : ℕ) (start free : List ℚ) → start ≡ map x (range_with_len 0 n) → free ≡ map x (range_with_len n m)
    → start ++ free ≡ tabulate (n + m) x
joined_values x n m start free e f =
    ap₂ (λ a b. a ++ b) e (f ∙ ap (λ b. map x (range_with_len b m)) (sym (zero-add n)))
    ∙ sym (map-append x (range_with_len 0 n) (range_with_len (0 + n) m)) ∙ ap (map x) (range_joined 0 n m) ∙ tabulate_all x (n + m)

-- the differences at the start and at the free columns are together those of all columns
pub joined_differences : (x : ℕ → ℚ) (n m : ℕ) → map (difference x) (range_with_len 0 n) ++ map (difference x) (range_with_len n m)
    ≡ map (difference x) (range_with_len 0 (n + m))
joined_differences x n m =
    ap (λ b. map (difference x) (range_with_len 0 n) ++ map (difference x) (range_with_len b m)) (sym (zero-add n))
    ∙ sym (map-append (difference x) (range_with_len 0 n) (range_with_len (0 + n) m)) ∙ ap (map (difference x)) (range_joined 0 n m)

-- the list of values at n numbers has n entries
pub values_length : (x : ℕ → ℚ) (a n : ℕ) (list : List ℚ) → list ≡ map x (range_with_len a n) → length list ≡ n
values_length x a n list e = ap (λ (ys : List ℚ). length ys) e ∙ length-map (range_with_len a n) x ∙ length-range_with_len a n
