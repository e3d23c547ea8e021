-- The multipliers that refute a list of rows, by the simplex method. Nothing is proved of it: `refutes` of `Linarith.antt` checks what it
-- finds.
-- Unknown are a multiplier of each row, at least 0 (an equation counts twice, once negated), and s: the multiples add up to the constant
-- -s, and s and the multipliers of the strict rows add up to 1.
-- The tableau holds integers, which are all the true entries times the last pivot. The first column that lowers the sum of the artificial
-- unknowns enters.
use Rattle.std.proofs.Common.{ℕ, zero, suc, true, false, List, [], ◌∷◌, ℤ, pos, negsuc, neg_ℤ, ◌+ℤ◌, ◌-ℤ◌, ◌*ℤ◌, ltb, eqb}
use Prim.Native.Nat.{Ordering}
use lib.Signed.{quot_z, lt_z}
use Rattle.base_numbers.proofs.tactics.Ring.{Term, term, order, plus}
use Rattle.base_numbers.proofs.tactics.Rows.{Kind, is_eq, is_ge, is_gt, Row, row, constant}

abbrev coefficient : List ℕ → List Term → ℤ
coefficient m [] = pos 0
coefficient m (term c n ∷ p) = elim (order m n) [ Ordering.lt ↦ pos 0 | Ordering.eq ↦ c | Ordering.gt ↦ coefficient m p ]

abbrev ones : List Term → List Term
ones [] = []
ones (term c [] ∷ p) = ones p
ones (term c (i ∷ m) ∷ p) = term (pos 1) (i ∷ m) ∷ ones p

-- the monomials of the rows, each once
abbrev monomials : List Row → List Term
monomials [] = []
monomials (row k p ∷ rs) = plus (ones p) (monomials rs)

-- a number for each unknown, by g at an equation, its negation, an inequality and a strict one
abbrev each : (List Term → ℤ) → (Kind → ℤ) → List Row → List ℤ
each f g [] = []
each f g (row is_eq p ∷ rs) = (f p +ℤ g is_eq) ∷ (neg_ℤ (f p) +ℤ g is_eq) ∷ each f g rs
each f g (row is_ge p ∷ rs) = (f p +ℤ g is_ge) ∷ each f g rs
each f g (row is_gt p ∷ rs) = (f p +ℤ g is_gt) ∷ each f g rs

abbrev strictness : Kind → ℤ
strictness is_eq = pos 0
strictness is_ge = pos 0
strictness is_gt = pos 1

-- a line of the tableau: the basic unknown (0 if artificial, else its place from 1), the right side, the entries
pub data Line : Type 0 where
  line : ℕ → ℤ → List ℤ → Line

abbrev monomial_lines : List Term → List Row → List Line
monomial_lines [] rs = []
monomial_lines (term c m ∷ ts) rs = line 0 (pos 0) (pos 0 ∷ each (coefficient m) (λ k. pos 0) rs) ∷ monomial_lines ts rs

abbrev lines : List Row → List Line
lines rs =
    line 0 (pos 1) (pos 1 ∷ each (λ p. pos 0) strictness rs) ∷ line 0 (pos 0) (pos 1 ∷ each constant (λ k. pos 0) rs)
    ∷ monomial_lines (monomials rs) rs

abbrev add_list : List ℤ → List ℤ → List ℤ
add_list [] ys = ys
add_list (x ∷ xs) [] = x ∷ xs
add_list (x ∷ xs) (y ∷ ys) = (x +ℤ y) ∷ add_list xs ys

-- the sum of the artificial unknowns, as a line
abbrev total : List Line → Line
total [] = line 0 (pos 0) []
total (line b r es ∷ ls) = elim (total ls) [ line b' r' es' ↦ line 0 (r +ℤ r') (add_list es es') ]

-- the place of the first entry above 0, from 1; 0 if there is none
abbrev first_positive : ℕ → List ℤ → ℕ
first_positive n [] = 0
first_positive n (pos zero ∷ es) = first_positive (suc n) es
first_positive n (pos (suc k) ∷ es) = n
first_positive n (negsuc k ∷ es) = first_positive (suc n) es

abbrev entry : ℕ → List ℤ → ℤ
entry n [] = pos 0
entry zero (e ∷ es) = pos 0
entry (suc zero) (e ∷ es) = e
entry (suc (suc n)) (e ∷ es) = entry (suc n) es

-- the line whose right side is the least for its entry, which is above 0; of several the one with the first basic unknown
pub data Choice : Type 0 where
  nothing : Choice
  chosen : ℕ → ℕ → ℤ → ℕ → List ℤ → Choice

abbrev better : ℕ → ℕ → ℤ → ℕ → List ℤ → Choice → Choice
better at b r e es nothing = chosen at b r e es
better at b r e es (chosen at' b' r' e' es') =
    elim (lt_z (r *ℤ pos e') (r' *ℤ pos e)) [
      | true ↦ chosen at b r e es
      | false ↦ elim (lt_z (r' *ℤ pos e) (r *ℤ pos e')) [
        | true ↦ chosen at' b' r' e' es'
        | false ↦ elim (ltb b b')
            [ true ↦ chosen at b r e es | false ↦ chosen at' b' r' e' es' ]
      ]
    ]

abbrev choose : ℕ → ℕ → List Line → Choice
choose c at [] = nothing
choose c at (line b r es ∷ ls) =
    elim (entry c es) [
      | pos e ↦ elim (eqb e 0) [ true ↦ choose c (suc at) ls | false ↦ better at b r e es (choose c (suc at) ls) ]
      | negsuc
          e ↦ choose c (suc at) ls
    ]

-- (e * x - f * y) / d, entry by entry
abbrev change : ℕ → ℤ → ℕ → List ℤ → List ℤ → List ℤ
change e f d [] ys = []
change e f d (x ∷ xs) [] = []
change e f d (x ∷ xs) (y ∷ ys) = quot_z (pos e *ℤ x -ℤ f *ℤ y) (pos d) ∷ change e f d xs ys

abbrev change_line : ℕ → ℕ → ℤ → List ℤ → ℕ → Line → Line
change_line c e r es d (line b' r' es') = let f = entry c es' in line b' (quot_z (pos e *ℤ r' -ℤ f *ℤ r) (pos d)) (change e f d es' es)

abbrev change_all : ℕ → ℕ → ℤ → List ℤ → ℕ → List Line → List Line
change_all c e r es d [] = []
change_all c e r es d (l ∷ ls) = change_line c e r es d l ∷ change_all c e r es d ls

-- unknown c becomes basic in the line at `at`, whose entry there is e
abbrev pivot : ℕ → ℕ → ℕ → ℤ → List ℤ → ℕ → List Line → List Line
pivot c at e r es d [] = []
pivot c zero e r es d (l ∷ ls) = line c r es ∷ change_all c e r es d ls
pivot c (suc at) e r es d (l ∷ ls) = change_line c e r es d l ∷ pivot c at e r es d ls

-- the lines at the end; none if the artificial unknowns do not vanish
abbrev solve : ℕ → ℕ → Line → List Line → List Line
solve zero d t ls = []
solve (suc fuel) d (line b (pos zero) es) ls = ls
solve (suc fuel) d (line b (negsuc w) es) ls = []
solve (suc fuel) d (line b (pos (suc w)) es) ls =
    elim (first_positive 1 es) [
      | zero ↦ []
      | suc c ↦ elim (choose (suc c) 0 ls) [
        | nothing ↦ []
        | chosen at b' r e es' ↦ solve fuel e
            (change_line (suc c) e r es' d (line b (pos (suc w)) es)) (pivot (suc c) at e r es' d ls)
      ]
    ]

-- an unknown's value, times the last pivot
abbrev value_of : ℕ → List Line → ℤ
value_of j [] = pos 0
value_of j (line b r es ∷ ls) = elim (eqb b j) [ true ↦ r | false ↦ value_of j ls ]

abbrev collect : ℕ → List Row → List Line → List ℤ
collect j [] ls = []
collect j (row is_eq p ∷ rs) ls = (value_of j ls -ℤ value_of (suc j) ls) ∷ collect (suc (suc j)) rs ls
collect j (row is_ge p ∷ rs) ls = value_of j ls ∷ collect (suc j) rs ls
collect j (row is_gt p ∷ rs) ls = value_of j ls ∷ collect (suc j) rs ls

abbrev pub multipliers : List Row → List ℤ
multipliers rs = let ls = lines rs in collect 2 rs (solve 1000 1 (total ls) ls)
