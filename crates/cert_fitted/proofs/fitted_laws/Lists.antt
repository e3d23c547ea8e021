-- A list without its zeros, filled up again.
use Rattle.std.proofs.Common.{◌≡◌, ◌==◌, ◌+◌, ◌<◌, ◌≤◌, ◌&&◌, ℕ, zero, suc, Bool, true, false, List, [], ◌∷◌, length, map, nat_abs}
use Rattle.std.proofs.Common.{pos, negsuc, ℤ, refl, sym, ap, ap₂, ◌∙◌, arith, if◌then◌else◌, subst}
use Rattle.std.specs.Prelude.{IsTrue}
use Rattle.std.specs.List.{list_all, range_with_len}
use Rattle.std.proofs.lemmas.Bool.{lt-ltb}
use Rattle.base_numbers.specs.Rational.{ℚ, whole, zero_ℚ}
use Rattle.base_numbers.proofs.rational.Parts.{num-whole}
use Rattle.base_numbers.proofs.rational.Quotients.{zero_by_num}
use Rattle.flow_systems.specs.SystemLimits.{is_over}
use Rattle.cert_written.specs.Bare.{bare_entries}
use Rattle.cert_written.specs.Entries.{entries_for}
use Rattle.cert_written.specs.Pairs.{filled, is_below, is_nil, nonzero, other_length, value_at}
use Rattle.cert_written.specs.declared.entries.Entries.{Entries}
use Rattle.cert_written.specs.declared.entries.Entries.TheVariants.{Dense, Sparse}
use Rattle.cert_fitted.specs.Dense.{dense_row}
use Rattle.cert_fitted.specs.Fitted.{row_for, rows_for}
use Rattle.cert_fitted.specs.Laws.{ListsComeBack, RowsStayTheSame}

abs_zero : (z : ℤ) → (nat_abs z == 0) ≡ true → z ≡ pos 0
abs_zero (pos zero) h = refl
abs_zero (pos (suc n)) h = absurd (grind (arith, h))
abs_zero (negsuc n) h = absurd (grind (arith, h))

nil_zero : (q : ℚ) → is_nil q ≡ true → q ≡ zero_ℚ
nil_zero q h = (zero_by_num q).0 (abs_zero q.num h)

-- ---- all places are below the length

below : (n place : ℕ) (qs : List ℚ) → place + length qs ≤ n → list_all (is_below n) (nonzero place qs) ≡ true
below n place [] h = refl
below n place (q ∷ qs) h = by (is_nil q) (below n (suc place) qs (omega (arith, h)))
  where
    by : (b : Bool) → list_all (is_below n) (nonzero (suc place) qs) ≡ true
        → list_all (is_below n) (if b then nonzero (suc place) qs else record { place = place; value = q } ∷ nonzero (suc place) qs) ≡ true
    by true e = e
    by false e = ap₂ (λ a b. a && b) (lt-ltb place n (omega (arith, h))) e

-- ---- the values at the places

differs : (m n : ℕ) → m < n → (m == n) ≡ false
differs m n h = grind (arith, h)

same : (n : ℕ) → (n == n) ≡ true
same n = grind arith

-- below the first place there are zeros
nothing : (place k : ℕ) (qs : List ℚ) → k < place → value_at (nonzero place qs) k ≡ zero_ℚ
nothing place k [] h = refl
nothing place k (q ∷ qs) h = by (is_nil q) (nothing (suc place) k qs (omega (arith, h)))
  where
    other : (m n : ℕ) → n < m → (m == n) ≡ false
    other m n l = grind (arith, l)

    by : (b : Bool) → value_at (nonzero (suc place) qs) k ≡ zero_ℚ
        → value_at (if b then nonzero (suc place) qs else record { place = place; value = q } ∷ nonzero (suc place) qs) k ≡ zero_ℚ
    by true e = e
    by false e = ap (λ b. if b then q else value_at (nonzero (suc place) qs) k) (other place k h) ∙ e

first : (place : ℕ) (q : ℚ) (qs : List ℚ) → value_at (nonzero place (q ∷ qs)) place ≡ q
first place q qs = by (is_nil q) refl
  where
    by : (b : Bool) → is_nil q ≡ b
        → value_at (if b then nonzero (suc place) qs else record { place = place; value = q } ∷ nonzero (suc place) qs) place ≡ q
    by true e = nothing (suc place) place qs (omega arith) ∙ sym (nil_zero q e)
    by false e = ap (λ b. if b then q else value_at (nonzero (suc place) qs) place) (same place)

later : (place k : ℕ) (q : ℚ) (qs : List ℚ) → place < k → value_at (nonzero place (q ∷ qs)) k ≡ value_at (nonzero (suc place) qs) k
later place k q qs h = by (is_nil q)
  where
    by : (b : Bool) → value_at (if b then nonzero (suc place) qs else record { place = place; value = q } ∷ nonzero (suc place) qs) k
        ≡ value_at (nonzero (suc place) qs) k
    by true = refl
    by false = ap (λ b. if b then q else value_at (nonzero (suc place) qs) k) (differs place k h)

on_range : (f g : ℕ → ℚ) (a n : ℕ) → ((k : ℕ) → a ≤ k → f k ≡ g k) → map f (range_with_len a n) ≡ map g (range_with_len a n)
on_range f g a zero h = refl
on_range f g a (suc n) h = ap₂ (λ x xs. x ∷ xs) (h a (omega arith)) (on_range f g (a + 1) n (λ k l. h k (omega (arith, l))))

values_back : (place : ℕ) (qs : List ℚ) → map (value_at (nonzero place qs)) (range_with_len place (length qs)) ≡ qs
values_back place [] = refl
values_back place (q ∷ qs) =
    ap₂ (λ x xs. x ∷ xs) (first place q qs)
    (on_range (value_at (nonzero place (q ∷ qs))) (value_at (nonzero (suc place) qs)) (place + 1) (length qs)
    (λ k l. later place k q qs (omega (arith, l)))
    ∙ ap (λ a. map (value_at (nonzero (suc place) qs)) (range_with_len a (length qs))) (let e : place + 1 ≡ suc place = omega arith in e)
    ∙ values_back (suc place) qs)

-- a list without its zeros stands for the list, where its length is asked for
pub lists_back : ListsComeBack
lists_back qs =
    ap (λ b. filled (if b then length qs else other_length (length qs)) (nonzero 0 qs))
    (below (length qs) 0 qs (omega arith)) ∙ values_back 0 qs

-- the same where this is known to be its length
pub list_back : (n : ℕ) (qs : List ℚ) → length qs ≡ n → entries_for n (bare_entries (Dense qs)) ≡ qs
list_back n qs e = ap (λ k. entries_for k (bare_entries (Dense qs))) (sym e) ∙ lists_back qs

-- a list stands for the same one without its zeros, where it has the length that is asked for
pub entries_same : (n : ℕ) (e : Entries) → length (entries_for n e) ≡ n → entries_for n (bare_entries e) ≡ entries_for n e
entries_same n (Dense qs) h = list_back n qs h
entries_same n (Sparse ps) h = refl

-- ---- rows of the template

long_map : {A B : Type 0} (f : A → B) (xs : List A) → length (map f xs) ≡ length xs
long_map f [] = refl
long_map f (x ∷ xs) = ap suc (long_map f xs)

abbrev numerator : ℚ → ℤ
numerator q = q.num

row_same : (n : ℕ) (e : Entries) → length (row_for n e) ≡ n → row_for n (bare_entries e) ≡ row_for n e
row_same n e h = ap (map numerator) (entries_same n e (sym (long_map numerator (entries_for n e)) ∙ h))

-- rows stand for the same ones without zeros, where each has the length that is asked for
pub rows_same : RowsStayTheSame
rows_same n [] h = refl
rows_same n (e ∷ rows) h = by (length (row_for n e) == n) refl h (λ k. rows_same n rows k)
  where
    eqb_same : (m k : ℕ) → (m == k) ≡ true → m ≡ k
    eqb_same m k e = grind (arith, e)

    by : (b : Bool) → (length (row_for n e) == n) ≡ b → (b && is_over n (rows_for n rows)) ≡ true
        → (IsTrue (is_over n (rows_for n rows)) → rows_for n (map bare_entries rows) ≡ rows_for n rows)
        → rows_for n (map bare_entries (e ∷ rows)) ≡ rows_for n (e ∷ rows)
    by false is k more = absurd cc
    by true is k more = ap₂ (λ (x : List ℤ) (xs : List (List ℤ)). x ∷ xs) (row_same n e (eqb_same (length (row_for n e)) n is)) (more k)

wholes_back : (row : List ℤ) → map (λ (q : ℚ). q.num) (map whole row) ≡ row
wholes_back [] = refl
wholes_back (z ∷ row) = ap₂ (λ x xs. x ∷ xs) (num-whole z) (wholes_back row)

dense_rows : (n : ℕ) (rows : List (List ℤ)) → rows_for n (map dense_row rows) ≡ rows
dense_rows n [] = refl
dense_rows n (row ∷ rows) = ap₂ (λ (x : List ℤ) (xs : List (List ℤ)). x ∷ xs) (wholes_back row) (dense_rows n rows)

-- rows of one length stand for themselves
pub rows_back : (n : ℕ) (rows : List (List ℤ)) → IsTrue (is_over n rows) → rows_for n (map bare_entries (map dense_row rows)) ≡ rows
rows_back n rows h =
    rows_same n (map dense_row rows) (subst (λ (rs : List (List ℤ)). IsTrue (is_over n rs)) (sym (dense_rows n rows)) h) ∙ dense_rows n rows
