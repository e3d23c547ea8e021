-- Dropping the auxiliary variable, name 0, where it is free: what is left says the same with the value 0 for it.
use Rattle.std.proofs.Common.{◌≡◌, ℕ, zero, suc, ◌≤◌, true, false, refl, ap, sym, ◌∙◌, subst, true≢false}
use Rattle.base_numbers.proofs.vector.Sums.{sum_first, sum_nothing}
use Rattle.base_numbers.specs.Rational.{ℚ, zero_ℚ, ◌+ℚ◌, ◌*ℚ◌, ◌≤ℚ◌}
use Rattle.base_numbers.specs.Vector.{sum_to}
use Rattle.base_numbers.proofs.rational.Laws.{+ℚ_idl, *ℚ-zero, zero-*ℚ}
use Rattle.base_numbers.proofs.vector.Vectors.{sum_to_same}
use Rattle.lp_theory.specs.Dictionary.{delta, Dict, row, Models, IsDict, IsFeasible, drop_zero}

drop-coef : (D : Dict) (i k : ℕ) → (drop_zero D).coef i (suc k) ≡ D.coef i (suc k)
unfolding drop_zero
drop-coef D i k = refl

drop-zero : (D : Dict) (i : ℕ) → (drop_zero D).coef i 0 ≡ zero_ℚ
unfolding drop_zero
drop-zero D i = refl

-- a constant after dropping
drop-const : (D : Dict) (i : ℕ) → (drop_zero D).const i ≡ D.const i
unfolding drop_zero
drop-const D i = refl

-- the form stays
pub drop_form : (n : ℕ) (D : Dict) → IsDict n D → IsDict n (drop_zero D)
unfolding drop_zero delta
drop_form n D d = record { column = column; unit = unit; still = still; goals = goals }
  where
    column : (i k : ℕ) → (drop_zero D).basic k ≡ true → (drop_zero D).coef i k ≡ zero_ℚ
    column i zero e = refl
    column i (suc k) e = d.column i (suc k) e

    unit : (i k : ℕ) → (drop_zero D).basic i ≡ false → (drop_zero D).coef i k ≡ delta i k
    unit zero k e = absurd (true≢false e)
    unit (suc i) zero e = refl
    unit (suc i) (suc k) e = d.unit (suc i) (suc k) e

    still : (i : ℕ) → (drop_zero D).basic i ≡ false → (drop_zero D).const i ≡ zero_ℚ
    still zero e = absurd (true≢false e)
    still (suc i) e = d.still (suc i) e

    goals : (i : ℕ) → n ≤ i → (drop_zero D).basic i ≡ true
    goals zero h = refl
    goals (suc i) h = d.goals (suc i) h

-- the constants stay
pub drop_feasible : (n : ℕ) (D : Dict) → IsFeasible n D → IsFeasible n (drop_zero D)
drop_feasible n D f = record { nonneg = λ i l. subst (λ x. zero_ℚ ≤ℚ x) (sym (drop-const D i)) (f.nonneg i l) }

-- where name 0 has the value 0, each row says the same
drop_row : (m : ℕ) (D : Dict) (V : ℕ → ℚ) → V 0 ≡ zero_ℚ → (i : ℕ) → row (suc m) (drop_zero D) V i ≡ row (suc m) D V i
unfolding row
drop_row m D V z i =
    ap (λ x. x +ℚ sum_to (suc m) (λ k. (drop_zero D).coef i k *ℚ V k)) (drop-const D i)
    ∙ ap (λ x. D.const i +ℚ x)
    (sum_first m (λ k. (drop_zero D).coef i k *ℚ V k)
    ∙ ap (λ x. x +ℚ sum_to m (λ k. (drop_zero D).coef i (suc k) *ℚ V (suc k)))
    (ap (λ x. x *ℚ V 0) (drop-zero D i) ∙ zero-*ℚ (V 0) ∙ sym (ap (λ x. D.coef i 0 *ℚ x) z ∙ *ℚ-zero (D.coef i 0)))
    ∙ ap (λ x. D.coef i 0 *ℚ V 0 +ℚ x) (sum_to_same m (λ k. (drop_zero D).coef i (suc k) *ℚ V (suc k)) (λ k. D.coef i (suc k) *ℚ V (suc k))
    (λ k l. ap (λ x. x *ℚ V (suc k)) (drop-coef D i k)))
    ∙ sym (sum_first m (λ k. D.coef i k *ℚ V k)))

-- the meaning with the value 0 stays
pub drop_means : (m : ℕ) (D : Dict) (V : ℕ → ℚ) → V 0 ≡ zero_ℚ → Models (suc m) D V → Models (suc m) (drop_zero D) V
drop_means m D V z h = record { says = λ i. h.says i ∙ sym (drop_row m D V z i) }

row_vanishes : (m : ℕ) (D : Dict) → IsDict (suc m) D → D.basic 0 ≡ false → (k : ℕ) → (drop_zero D).coef 0 k ≡ zero_ℚ
unfolding delta
row_vanishes m D d f zero = drop-zero D 0
row_vanishes m D d f (suc k) = drop-coef D 0 k ∙ d.unit 0 (suc k) f

-- the name dropped has the value 0
pub drop_value : (m : ℕ) (D : Dict) → IsDict (suc m) D → D.basic 0 ≡ false → (V : ℕ → ℚ) → Models (suc m) (drop_zero D) V → V 0 ≡ zero_ℚ
unfolding row
drop_value m D d f V h =
    h.says 0 ∙ ap (λ x. x +ℚ sum_to (suc m) (λ k. (drop_zero D).coef 0 k *ℚ V k)) (drop-const D 0 ∙ d.still 0 f)
    ∙ ap (λ x. zero_ℚ +ℚ x) (sum_nothing (suc m) (λ k. (drop_zero D).coef 0 k *ℚ V k)
    (λ k l. ap (λ x. x *ℚ V k) (row_vanishes m D d f k) ∙ zero-*ℚ (V k))) ∙ +ℚ_idl zero_ℚ

-- what is left says no more than the dictionary
pub drop_means_back : (m : ℕ) (D : Dict) → IsDict (suc m) D → D.basic 0 ≡ false → (V : ℕ → ℚ) → Models (suc m) (drop_zero D) V
    → Models (suc m) D V
drop_means_back m D d f V h = record { says = λ i. h.says i ∙ drop_row m D V (drop_value m D d f V h) i }
