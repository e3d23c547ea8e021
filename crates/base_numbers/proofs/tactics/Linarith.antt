-- Linear inequalities of rational numbers with no certificate: antt computes the multipliers by the simplex method, and a theorem checks
-- them.
--     lin_le ρ facts (search reads_all depth 40) tt        a ≤ b from the list of facts
--     lin_lt, lin_eq, lin_false                            a < b, a ≡ b, ⊥
-- A fact is `le h`, `lt h`, `eq e` of a hypothesis, or `ge0 h`, `gt0 h` of a proof that something is at least or above 0, such as a product
-- of two gaps. Products of atoms count as unknowns of their own.
use Rattle.std.proofs.Common.{◌≡◌, ℕ, zero, suc, ◌&&◌, Bool, true, false, T, List, [], ◌∷◌, ℤ, pos, negsuc, neg_ℤ, refl, ap, sym, ◌∙◌}
use Rattle.std.proofs.Common.{subst, arith}
use borrow.Author.Differences.{ints}
use Rattle.base_numbers.specs.Rational.{ℚ, whole, zero_ℚ, one_ℚ, ◌+ℚ◌, ◌*ℚ◌, neg_ℚ, ◌-ℚ◌, ◌≤ℚ◌, ◌<ℚ◌}
use Rattle.base_numbers.proofs.rational.Laws.{+ℚ_comm, +ℚ_idr, +ℚ_idl, *ℚ_idr, *ℚ-zero, sub_ℚ_is, whole-zero, whole-neg, ≤ℚ_antisymm}
use Rattle.base_numbers.proofs.rational.Laws.{le_of_lt_ℚ, lt_of_not_le_ℚ, le_of_not_lt_ℚ, not_le_of_lt, whole_lt, <ℚ_irrefl}
use Rattle.base_numbers.proofs.rational.Laws.{lt_of_lt_of_le_ℚ, *ℚ_pos, *ℚ_nonneg}
use Rattle.base_numbers.proofs.tactics.Ring.{Reads, read_add, read_sub, read_mul, read_neg, read_div, read_zero, read_one, read_var}
use Rattle.base_numbers.proofs.tactics.Ring.{read_whole, numeral, here, there, expr, Term, term, order, put, plus, scale, poly, all_zero}
use Rattle.base_numbers.proofs.tactics.Ring.{is_zero, clean, same_from_zero, value, mono, eval, value-put, value-plus, value-scale}
use Rattle.base_numbers.proofs.tactics.Ring.{value-all_zero, value-poly, eval-expr}
use Rattle.base_numbers.proofs.tactics.Rows.{Kind, is_eq, is_ge, is_gt, Row, row, constant}
use Rattle.base_numbers.proofs.tactics.Simplex.{multipliers}
use Rattle.base_numbers.proofs.tactics.Linear.{gap, gap_lt, gap_zero, times_zero, ◌⊕◌, lt_plus, number}

abbrev pub Holds : Kind → ℚ → Type 0
Holds is_eq s = s ≡ zero_ℚ
Holds is_ge s = zero_ℚ ≤ℚ s
Holds is_gt s = zero_ℚ <ℚ s

-- a number that is 0, at least 0 or above 0
pub data Fact : Type 0 where
  fact : (k : Kind) (s : ℚ) → Holds k s → Fact

abbrev pub le : {a b : ℚ} → a ≤ℚ b → Fact
le {a} {b} h = fact is_ge (b -ℚ a) (gap h)

abbrev pub lt : {a b : ℚ} → a <ℚ b → Fact
lt {a} {b} h = fact is_gt (b -ℚ a) (gap_lt h)

abbrev pub eq : {a b : ℚ} → a ≡ b → Fact
eq {a} {b} h = fact is_eq (a -ℚ b) (gap_zero h)

abbrev pub ge0 : {s : ℚ} → zero_ℚ ≤ℚ s → Fact
ge0 {s} h = fact is_ge s h

abbrev pub gt0 : {s : ℚ} → zero_ℚ <ℚ s → Fact
gt0 {s} h = fact is_gt s h

abbrev pub values : List Fact → List ℚ
values [] = []
values (fact k s h ∷ fs) = s ∷ values fs

abbrev pub kinds : List Fact → List Kind
kinds [] = []
kinds (fact k s h ∷ fs) = k ∷ kinds fs

pub data ReadsAll (ρ : List ℚ) : List ℚ → Type 0 where
  read_none : ReadsAll ρ []
  read_more : {s : ℚ} {ss : List ℚ} → Reads ρ s → ReadsAll ρ ss → ReadsAll ρ (s ∷ ss)

pub ruleset reads_all = (
  read_none,
  read_more,
  read_add,
  read_sub,
  read_mul,
  read_neg,
  read_div,
  read_zero,
  read_one,
  read_var,
  read_whole,
  numeral,
  here,
  there,
)

abbrev pub rows : {ρ ss : List ℚ} → ReadsAll ρ ss → List Kind → List Row
rows read_none ks = []
rows (read_more r rs) [] = row is_eq (poly (expr r)) ∷ rows rs []
rows (read_more r rs) (k ∷ ks) = row k (poly (expr r)) ∷ rows rs ks

abbrev pub join : Kind → Kind → Kind
join is_eq k = k
join is_ge is_eq = is_ge
join is_ge is_ge = is_ge
join is_ge is_gt = is_gt
join is_gt k = is_gt

-- a sum of multiples of rows; a multiplier that is not allowed counts as 0
abbrev pub add_row : ℤ → Kind → List Term → Row → Row
add_row (pos zero) k p r = r
add_row (pos (suc n)) k p (row k' p') = row (join k k') (plus (scale (pos (suc n)) [] p) p')
add_row (negsuc n) is_eq p (row k' p') = row k' (plus (scale (negsuc n) [] p) p')
add_row (negsuc n) is_ge p r = r
add_row (negsuc n) is_gt p r = r

abbrev pub sum_rows : List ℤ → List Row → Row
sum_rows [] rs = row is_eq []
sum_rows (l ∷ ls) [] = row is_eq []
sum_rows (l ∷ ls) (row k p ∷ rs) = add_row l k p (sum_rows ls rs)

abbrev pub is_bad : Kind → ℤ → Bool
is_bad is_eq (pos n) = false
is_bad is_eq (negsuc n) = true
is_bad is_ge (pos n) = false
is_bad is_ge (negsuc n) = true
is_bad is_gt (pos zero) = true
is_bad is_gt (pos (suc n)) = false
is_bad is_gt (negsuc n) = true

abbrev pub refutes : Row → Bool
refutes (row k p) = let c = constant p in all_zero (put (neg_ℤ c) [] p) && is_bad k c

-- ---- its soundness
module _ (ρ : List ℚ) where
  abbrev RowHolds : Row → Type 0
  RowHolds (row k p) = Holds k (value ρ p)

  abbrev AllHold : List Row → Type 0
  AllHold [] = Unit {0}
  AllHold (r ∷ rs) = RowHolds r × AllHold rs

  scaled : (n : ℕ) (k : Kind) (p : List Term) → Holds k (value ρ p) → Holds k (value ρ (scale (pos (suc n)) [] p))
  scaled n is_eq p h = value-scale ρ (pos (suc n)) [] p ∙ ap (λ x. (whole (pos (suc n)) *ℚ one_ℚ) *ℚ x) h
      ∙ *ℚ-zero (whole (pos (suc n)) *ℚ one_ℚ)
  scaled n is_ge p h = subst (λ x. zero_ℚ ≤ℚ x) (sym (value-scale ρ (pos (suc n)) [] p
      ∙ ap (λ x. x *ℚ value ρ p) (*ℚ_idr (whole (pos (suc n)))))) (*ℚ_nonneg (number (suc n)) h)
  scaled n is_gt p h = subst (λ x. zero_ℚ <ℚ x) (sym (value-scale ρ (pos (suc n)) [] p
      ∙ ap (λ x. x *ℚ value ρ p) (*ℚ_idr (whole (pos (suc n)))))) (*ℚ_pos positive h)
    where
      positive : zero_ℚ <ℚ whole (pos (suc n))
      positive = subst (λ x. x <ℚ whole (pos (suc n))) whole-zero (whole_lt (pos 0) (pos (suc n)) (omega (arith, ints)))

  zero_plus : {s t : ℚ} → s ≡ zero_ℚ → t ≡ s +ℚ t
  zero_plus {s} {t} e = sym (ap (λ x. x +ℚ t) e ∙ +ℚ_idl t)

  joined : (k k' : Kind) (s t : ℚ) → Holds k s → Holds k' t → Holds (join k k') (s +ℚ t)
  joined is_eq k' s t h i = subst (λ x. Holds k' x) (zero_plus h) i
  joined is_ge is_eq s t h i = subst (λ x. zero_ℚ ≤ℚ x) (sym (ap (λ x. s +ℚ x) i ∙ +ℚ_idr s)) h
  joined is_ge is_ge s t h i = h ⊕ i
  joined is_ge is_gt s t h i = subst (λ x. zero_ℚ <ℚ x) (+ℚ_comm t s) (lt_plus i h)
  joined is_gt is_eq s t h i = subst (λ x. zero_ℚ <ℚ x) (sym (ap (λ x. s +ℚ x) i ∙ +ℚ_idr s)) h
  joined is_gt is_ge s t h i = lt_plus h i
  joined is_gt is_gt s t h i = lt_plus h (le_of_lt_ℚ i)

  add_row-holds : (l : ℤ) (k : Kind) (p : List Term) (r : Row) → Holds k (value ρ p) → RowHolds r → RowHolds (add_row l k p r)
  add_row-holds (pos zero) k p r h i = i
  add_row-holds (pos (suc n)) k p (row k' p') h i =
      subst (λ x. Holds (join k k') x) (sym (value-plus ρ (scale (pos (suc n)) [] p) p'))
      (joined k k' (value ρ (scale (pos (suc n)) [] p)) (value ρ p') (scaled n k p h) i)
  add_row-holds (negsuc n) is_eq p (row k' p') h i =
      subst (λ x. Holds k' x) (sym (value-plus ρ (scale (negsuc n) [] p) p'))
      (joined is_eq k' (value ρ (scale (negsuc n) [] p)) (value ρ p') (value-scale ρ (negsuc n) [] p
      ∙ ap (λ x. (whole (negsuc n) *ℚ one_ℚ) *ℚ x) h ∙ *ℚ-zero (whole (negsuc n) *ℚ one_ℚ)) i)
  add_row-holds (negsuc n) is_ge p r h i = i
  add_row-holds (negsuc n) is_gt p r h i = i

  sum_rows-holds : (ls : List ℤ) (rs : List Row) → AllHold rs → RowHolds (sum_rows ls rs)
  sum_rows-holds [] rs h = refl
  sum_rows-holds (l ∷ ls) [] h = refl
  sum_rows-holds (l ∷ ls) (row k p ∷ rs) h = add_row-holds l k p (sum_rows ls rs) h.0 (sum_rows-holds ls rs h.1)

  -- a polynomial whose terms but the constant vanish
  value-constant : (c : ℤ) (p : List Term) → T (all_zero (put (neg_ℤ c) [] p)) → value ρ p ≡ whole c
  value-constant c p t =
      let e = sym (value-put ρ (neg_ℤ c) [] p) ∙ value-all_zero ρ (put (neg_ℤ c) [] p) t in
      let f : neg_ℚ (whole c) +ℚ value ρ p ≡ zero_ℚ = ap (λ x. x +ℚ value ρ p) (sym (whole-neg c) ∙ sym (*ℚ_idr (whole (neg_ℤ c)))) ∙ e in
      same_from_zero (+ℚ_comm_sub ∙ f)
    where
      +ℚ_comm_sub : value ρ p -ℚ whole c ≡ neg_ℚ (whole c) +ℚ value ρ p
      +ℚ_comm_sub = sub_ℚ_is (value ρ p) (whole c) ∙ +ℚ_comm (value ρ p) (neg_ℚ (whole c))

  negative : (n : ℕ) → whole (negsuc n) <ℚ zero_ℚ
  negative n = subst (λ x. whole (negsuc n) <ℚ x) whole-zero (whole_lt (negsuc n) (pos 0) (omega (arith, ints)))

  bad_out : (k : Kind) (c : ℤ) → T (is_bad k c) → Holds k (whole c) → ⊥
  bad_out is_eq (pos n) t h = t
  bad_out is_eq (negsuc n) t h = <ℚ_irrefl (subst (λ x. x <ℚ zero_ℚ) h (negative n))
  bad_out is_ge (pos n) t h = t
  bad_out is_ge (negsuc n) t h = not_le_of_lt (negative n) h
  bad_out is_gt (pos zero) t h = <ℚ_irrefl (subst (λ x. zero_ℚ <ℚ x) whole-zero h)
  bad_out is_gt (pos (suc n)) t h = t
  bad_out is_gt (negsuc n) t h = <ℚ_irrefl (lt_of_lt_of_le_ℚ h (le_of_lt_ℚ (negative n)))

  and_out : (a b : Bool) → T (a && b) → T a × T b
  and_out true b t = (tt, t)
  and_out false b t = absurd t

  refutes-out : (r : Row) → RowHolds r → T (refutes r) → ⊥
  refutes-out (row k p) h t =
      let a = and_out (all_zero (put (neg_ℤ (constant p)) [] p)) (is_bad k (constant p)) t in
      bad_out k (constant p) a.1 (subst (λ x. Holds k x) (value-constant (constant p) p a.0) h)

  abbrev HoldAll : List Kind → List ℚ → Type 0
  HoldAll ks [] = Unit {0}
  HoldAll [] (s ∷ ss) = (s ≡ zero_ℚ) × HoldAll [] ss
  HoldAll (k ∷ ks) (s ∷ ss) = Holds k s × HoldAll ks ss

  facts-hold : (fs : List Fact) → HoldAll (kinds fs) (values fs)
  facts-hold [] = tt
  facts-hold (fact k s h ∷ fs) = (h, facts-hold fs)

  read-holds : {s : ℚ} (r : Reads ρ s) (k : Kind) → Holds k s → Holds k (value ρ (poly (expr r)))
  read-holds r k h = subst (λ x. Holds k x) (sym (value-poly ρ (expr r) ∙ eval-expr r)) h

  rows-hold : {ss : List ℚ} (rs : ReadsAll ρ ss) (ks : List Kind) → HoldAll ks ss → AllHold (rows rs ks)
  rows-hold read_none ks h = tt
  rows-hold (read_more r rs) [] h = (read-holds r is_eq h.0, rows-hold rs [] h.1)
  rows-hold (read_more r rs) (k ∷ ks) h = (read-holds r k h.0, rows-hold rs ks h.1)

abbrev pub closes : List Row → Bool
closes rs = refutes (sum_rows (multipliers rs) rs)

-- ---- the theorems
-- facts a combination of which can't hold are contradictory
pub lin_false : (ρ : List ℚ) (fs : List Fact) (rs : ReadsAll ρ (values fs)) → T (closes (rows rs (kinds fs))) → ⊥
lin_false ρ fs rs t = refutes-out ρ (sum_rows (multipliers (rows rs (kinds fs))) (rows rs (kinds fs)))
    (sum_rows-holds ρ (multipliers (rows rs (kinds fs))) (rows rs (kinds fs)) (rows-hold ρ rs (kinds fs) (facts-hold ρ fs))) t

-- facts that refute a > b show a ≤ b
pub lin_le : (ρ : List ℚ) (fs : List Fact) {a b : ℚ} (rs : ReadsAll ρ ((a -ℚ b) ∷ values fs)) → T (closes (rows rs (is_gt ∷ kinds fs)))
    → a ≤ℚ b
lin_le ρ fs rs t = le_of_not_lt_ℚ (λ h. lin_false ρ (lt h ∷ fs) rs t)

-- facts that refute a ≥ b show a < b
pub lin_lt : (ρ : List ℚ) (fs : List Fact) {a b : ℚ} (rs : ReadsAll ρ ((a -ℚ b) ∷ values fs)) → T (closes (rows rs (is_ge ∷ kinds fs)))
    → a <ℚ b
lin_lt ρ fs rs t = lt_of_not_le_ℚ (λ h. lin_false ρ (le h ∷ fs) rs t)

abbrev pub first : {ρ : List ℚ} {s : ℚ} {ss : List ℚ} → ReadsAll ρ (s ∷ ss) → Reads ρ s
first (read_more r rs) = r

abbrev pub rest : {ρ : List ℚ} {s : ℚ} {ss : List ℚ} → ReadsAll ρ (s ∷ ss) → ReadsAll ρ ss
rest (read_more r rs) = rs

-- facts that refute a > b and b > a show a ≡ b
pub lin_eq : (ρ : List ℚ) (fs : List Fact) {a b : ℚ} (rs : ReadsAll ρ ((a -ℚ b) ∷ (b -ℚ a) ∷ values fs))
    → T (closes (rows (read_more (first rs) (rest (rest rs))) (is_gt ∷ kinds fs)) && closes (rows (rest rs) (is_gt ∷ kinds fs))) → a ≡ b
lin_eq ρ fs rs t =
    let c = and_out ρ (closes (rows (read_more (first rs) (rest (rest rs))) (is_gt ∷ kinds fs)))
    (closes (rows (rest rs) (is_gt ∷ kinds fs))) t in
    ≤ℚ_antisymm (lin_le ρ fs (read_more (first rs) (rest (rest rs))) c.0) (lin_le ρ fs (rest rs) c.1)

-- an equation, times any number
abbrev pub eq_times : {a b : ℚ} (c : ℚ) → a ≡ b → Fact
eq_times {a} {b} c e = fact is_eq (c *ℚ (a -ℚ b)) (times_zero c (gap_zero e))
