-- The meaning of a dictionary: free extension, the basic solution, and a dictionary is determined by its basis set.
use Rattle.std.proofs.Common.{◌≡◌, ℕ, ◌<◌, ⊎_elim, false, [], ◌∷◌, ap, sym, ◌∙◌, true≢false}
use Rattle.std.proofs.lemmas.Bool.{cases_lt, cases_eq, cases_Bool}
use Rattle.base_numbers.proofs.vector.Sums.{sum_nothing}
use Rattle.base_numbers.specs.Rational.{ℚ, zero_ℚ, ◌+ℚ◌, ◌*ℚ◌}
use Rattle.base_numbers.specs.Vector.{sum_to}
use Rattle.base_numbers.proofs.rational.Laws.{+ℚ_idl, +ℚ_idr, *ℚ-zero, zero-*ℚ}
use Rattle.base_numbers.proofs.tactics.Linarith.{eq, lin_eq, reads_all}
use Rattle.base_numbers.proofs.vector.Vectors.{sum_to_same}
use Rattle.lp_theory.specs.Dictionary.{delta, Dict, row, Models, IsDict, extend, SameBasis}
use Rattle.lp_theory.proofs.Sums.{delta_other, sum-delta, sum_delta_right}

-- a name that is not basic is below n
pub free_below : (n : ℕ) (D : Dict) → IsDict n D → (i : ℕ) → D.basic i ≡ false → i < n
free_below n D d i f = ⊎_elim (λ h. h) (λ h. absurd (true≢false (sym (d.goals i h) ∙ f))) (cases_lt i n)

-- a term of a row is 0 at a basic name, and where the value is 0
term_zero : (n : ℕ) (D : Dict) → IsDict n D → (V : ℕ → ℚ) (i k : ℕ) → (D.basic k ≡ false → V k ≡ zero_ℚ) → D.coef i k *ℚ V k ≡ zero_ℚ
term_zero n D d V i k z =
    ⊎_elim (λ b. ap (λ s. s *ℚ V k) (d.column i k b) ∙ zero-*ℚ (V k)) (λ f. ap (λ s. D.coef i k *ℚ s) (z f) ∙ *ℚ-zero (D.coef i k))
    (cases_Bool (D.basic k))

-- two valuations that agree at the free names give each row one value
row_same : (n : ℕ) (D : Dict) → IsDict n D → (V W : ℕ → ℚ) → ((k : ℕ) → k < n → D.basic k ≡ false → V k ≡ W k) → (i : ℕ)
    → row n D V i ≡ row n D W i
unfolding row
row_same n D d V W h i =
    ap (λ s. D.const i +ℚ s) (sum_to_same n (λ k. D.coef i k *ℚ V k) (λ k. D.coef i k *ℚ W k)
    (λ k l. ⊎_elim (λ b. ap (λ s. s *ℚ V k) (d.column i k b) ∙ zero-*ℚ (V k) ∙ sym (ap (λ s. s *ℚ W k) (d.column i k b) ∙ zero-*ℚ (W k)))
    (λ f. ap (λ s. D.coef i k *ℚ s) (h k l f)) (cases_Bool (D.basic k))))

-- with the free names at 0 a row's value is its constant
row_zero : (n : ℕ) (D : Dict) → IsDict n D → (V : ℕ → ℚ) → ((k : ℕ) → k < n → D.basic k ≡ false → V k ≡ zero_ℚ) → (i : ℕ)
    → row n D V i ≡ D.const i
unfolding row
row_zero n D d V z i = ap (λ s. D.const i +ℚ s) (sum_nothing n (λ k. D.coef i k *ℚ V k) (λ k l. term_zero n D d V i k (z k l)))
    ∙ +ℚ_idr (D.const i)

-- with one name at 1 and the other free names at 0 a row's value is its constant and that name's coefficient
row_one : (n : ℕ) (D : Dict) → IsDict n D → (j : ℕ) → j < n → (V : ℕ → ℚ) → ((k : ℕ) → k < n → D.basic k ≡ false → V k ≡ delta j k)
    → (i : ℕ) → row n D V i ≡ D.const i +ℚ D.coef i j
unfolding row
row_one n D d j l V h i = row_same n D d V (delta j) h i ∙ ap (λ s. D.const i +ℚ s) (sum_delta_right n j (D.coef i) l)

-- the row of a free name says nothing
pub row_free : (n : ℕ) (D : Dict) → IsDict n D → (V : ℕ → ℚ) (i : ℕ) → D.basic i ≡ false → row n D V i ≡ V i
unfolding row
row_free n D d V i f =
    ap (λ s. s +ℚ sum_to n (λ k. D.coef i k *ℚ V k)) (d.still i f) ∙ +ℚ_idl (sum_to n (λ k. D.coef i k *ℚ V k))
    ∙ sum_to_same n (λ k. D.coef i k *ℚ V k) (λ k. delta i k *ℚ V k) (λ k l. ap (λ s. s *ℚ V k) (d.unit i k f))
    ∙ sum-delta n i V (free_below n D d i f)

-- free extension: any values of the free names go with a valuation
pub extend_models : (n : ℕ) (D : Dict) → IsDict n D → (x : ℕ → ℚ) → Models n D (extend n D x)
extend_models n D d x = record { says = λ i. row_same n D d x (extend n D x) (λ k l f. sym (row_free n D d x k f)) i }

-- the free names keep the values that were given
pub extend_free : (n : ℕ) (D : Dict) → IsDict n D → (x : ℕ → ℚ) (k : ℕ) → D.basic k ≡ false → extend n D x k ≡ x k
extend_free n D d x k f = row_free n D d x k f

-- it is the only one
pub extend_only : (n : ℕ) (D : Dict) → IsDict n D → (x V : ℕ → ℚ) → Models n D V → ((k : ℕ) → k < n → D.basic k ≡ false → V k ≡ x k)
    → (i : ℕ) → V i ≡ extend n D x i
extend_only n D d x V m h i = m.says i ∙ row_same n D d V x h i

-- the basic solution: the constants
pub basic_models : (n : ℕ) (D : Dict) → IsDict n D → Models n D D.const
basic_models n D d = record { says = λ i. sym (row_zero n D d D.const (λ k l f. d.still k f) i) }

-- the values with one free name at 1: each name's constant and coefficient
abbrev pub along : Dict → ℕ → ℕ → ℚ
along D j i = D.const i +ℚ D.coef i j

-- a free name has 1 there where it is that name, else 0
pub along_free : (n : ℕ) (D : Dict) → IsDict n D → (j k : ℕ) → D.basic k ≡ false → along D j k ≡ delta j k
along_free n D d j k f =
    ap (λ s. s +ℚ D.coef k j) (d.still k f) ∙ +ℚ_idl (D.coef k j) ∙ d.unit k j f ∙ delta_sym k j
  where
    delta_sym : (k j : ℕ) → delta k j ≡ delta j k
    delta_sym k j = ⊎_elim (λ e. ap (λ s. delta s j) e ∙ ap (λ s. delta j s) (sym e))
        (λ h. delta_other k j h ∙ sym (delta_other j k (λ e. h (sym e)))) (cases_eq k j)

-- these values meet the dictionary
pub along_models : (n : ℕ) (D : Dict) → IsDict n D → (j : ℕ) → j < n → Models n D (along D j)
along_models n D d j l = record { says = λ i. sym (row_one n D d j l (along D j) (λ k m f. along_free n D d j k f) i) }

-- a dictionary is determined by its basis set: the constants
pub same_const : (n : ℕ) (D E : Dict) → IsDict n D → IsDict n E → SameBasis n D E → ((V : ℕ → ℚ) → Models n D V → Models n E V) → (i : ℕ)
    → D.const i ≡ E.const i
same_const n D E d e b h i = (h D.const (basic_models n D d)).says i ∙ row_zero n E e D.const (λ k l f. d.still k (b k l ∙ f)) i

-- a dictionary is determined by its basis set: the coefficients
pub same_coef : (n : ℕ) (D E : Dict) → IsDict n D → IsDict n E → SameBasis n D E → ((V : ℕ → ℚ) → Models n D V → Models n E V) → (i k : ℕ)
    → k < n → D.coef i k ≡ E.coef i k
same_coef n D E d e b h i k l =
    let c = same_const n D E d e b h i in
    let a : D.const i +ℚ D.coef i k ≡ E.const i +ℚ E.coef i k =
    (h (along D k) (along_models n D d k l)).says i ∙ row_one n E e k l (along D k) (λ j m f. along_free n D d k j (b j m ∙ f)) i in
    lin_eq (D.const i ∷ D.coef i k ∷ E.const i ∷ E.coef i k ∷ []) (eq c ∷ eq a ∷ []) (search reads_all depth 40) tt
