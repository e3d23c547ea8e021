-- Dictionaries by names. A row belongs to each name: a constant and a coefficient of each name below n.
-- A name that is not basic has its own unit row, a basic name's column is 0, and a goal is a basic name from n on.
-- So no order of rows and columns comes in, and the basis set is the field `basic`. `Table` has the order of a code's array.
use Rattle.std.specs.Prelude.{◌≡◌, ℕ, zero, suc, ◌<◌, ◌≤◌, Bool, true, false, cond, eqb}
use Rattle.base_numbers.specs.Rational.{ℚ, zero_ℚ, one_ℚ, ◌+ℚ◌, ◌*ℚ◌, ◌-ℚ◌, ◌/ℚ◌, ◌≤ℚ◌}
use Rattle.base_numbers.specs.Vector.{sum_to}

-- 1 where the two names are one, else 0
unfoldable pub delta : ℕ → ℕ → ℚ
delta zero zero = one_ℚ
delta zero (suc k) = zero_ℚ
delta (suc i) zero = zero_ℚ
delta (suc i) (suc k) = delta i k

-- a dictionary by names
pub record Dict : Type 0 where
  pub basic : ℕ → Bool
  pub coef : ℕ → ℕ → ℚ
  pub const : ℕ → ℚ

-- what the row of name i says at the values V
unfoldable pub row : ℕ → Dict → (ℕ → ℚ) → ℕ → ℚ
row n D V i = D.const i +ℚ sum_to n (λ k. D.coef i k *ℚ V k)

-- the meaning of a dictionary: each name has the value that its row says
pub record Models (n : ℕ) (D : Dict) (V : ℕ → ℚ) : Type 0 where
  pub says : (i : ℕ) → V i ≡ row n D V i

-- the form of a dictionary over the names below n
pub record IsDict (n : ℕ) (D : Dict) : Type 0 where
  pub column : (i k : ℕ) → D.basic k ≡ true → D.coef i k ≡ zero_ℚ
  pub unit : (i k : ℕ) → D.basic i ≡ false → D.coef i k ≡ delta i k
  pub still : (i : ℕ) → D.basic i ≡ false → D.const i ≡ zero_ℚ
  pub goals : (i : ℕ) → n ≤ i → D.basic i ≡ true

-- each constant of a variable is at least 0
pub record IsFeasible (n : ℕ) (D : Dict) : Type 0 where
  pub nonneg : (i : ℕ) → i < n → zero_ℚ ≤ℚ D.const i

-- the values that follow from the values x of the names that are not basic
abbrev pub extend : ℕ → Dict → (ℕ → ℚ) → ℕ → ℚ
extend n D x = row n D x

-- the multiple of the leaving row that the row of i loses
unfoldable pub share : Dict → ℕ → ℕ → ℕ → ℚ
share D r c i = D.coef i c /ℚ D.coef r c

-- name r leaves and name c enters: each row has c replaced by what the row of r says of it
unfoldable pub pivot : Dict → ℕ → ℕ → Dict
pivot D r c = record {
  basic = λ k. cond (eqb k c) true (cond (eqb k r) false (D.basic k));
  coef = λ i k. D.coef i k +ℚ share D r c i *ℚ (delta r k -ℚ D.coef r k);
  const = λ i. D.const i -ℚ share D r c i *ℚ D.const r;
}

-- name 0 gets the value 0 for good: its column vanishes
abbrev pub without_zero : (ℕ → ℚ) → ℕ → ℚ
without_zero f zero = zero_ℚ
without_zero f (suc k) = f (suc k)

-- name 0 counts as basic
abbrev pub with_zero : (ℕ → Bool) → ℕ → Bool
with_zero f zero = true
with_zero f (suc k) = f (suc k)

-- the dictionary with name 0 dropped
unfoldable pub drop_zero : Dict → Dict
drop_zero D = record { basic = with_zero D.basic; coef = λ i. without_zero (D.coef i); const = D.const }

-- the two have the same basic names
abbrev pub SameBasis : ℕ → Dict → Dict → Type 0
SameBasis n D E = (k : ℕ) → k < n → D.basic k ≡ E.basic k
