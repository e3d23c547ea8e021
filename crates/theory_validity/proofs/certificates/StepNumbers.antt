-- The numbers of a jump and of a ray.
use Rattle.std.proofs.Common.{◌≡◌, [], ◌∷◌, refl, sym, ap}
use Rattle.base_numbers.specs.Rational.{ℚ, zero_ℚ, one_ℚ, ◌+ℚ◌, ◌-ℚ◌, ◌*ℚ◌, ◌/ℚ◌, ◌≤ℚ◌, ◌<ℚ◌}
use Rattle.base_numbers.specs.Extended.{Ext, neg_inf, fin, pos_inf, ◌≤ᴱ◌, ◌<ᴱ◌}
use Rattle.theory_validity.specs.Certificates.{num}
use Rattle.base_numbers.proofs.rational.Laws.{ne_of_lt_ℚ, *ℚ_pos, le_of_not_lt_ℚ, lt_of_not_le_ℚ, le_of_lt_ℚ}
use Rattle.base_numbers.proofs.rational.Quotients.{quotient_times}
use Rattle.base_numbers.proofs.tactics.Linear.{gap, gap_lt, ◌⊗◌}
use Rattle.base_numbers.proofs.tactics.Linarith.{lin_le, lin_lt, lin_false, le, lt, eq, ge0, gt0, reads_all}

-- the number of a fraction
pub num-fin : (v : Ext) (c : ℚ) → v ≡ fin c → num v ≡ c
unfolding num
num-fin v c e = ap num e

-- an extended number between two fractions is a fraction
pub finite_between : (v : Ext) (b top : ℚ) → fin b ≤ᴱ v → v <ᴱ fin top → (c : ℚ) × (v ≡ fin c) × (b ≤ℚ c) × (c <ℚ top)
finite_between neg_inf b top h i = absurd h
finite_between (fin c) b top h i = (c, refl, h, i)
finite_between pos_inf b top h i = absurd i

-- a number between two is at most a bound of both
pub mix_le : (t a b : ℚ) (v : Ext) → zero_ℚ ≤ℚ t → t ≤ℚ one_ℚ → fin a ≤ᴱ v → fin b ≤ᴱ v → fin ((one_ℚ -ℚ t) *ℚ a +ℚ t *ℚ b) ≤ᴱ v
mix_le t a b neg_inf h i p q = p
mix_le t a b (fin c) h i p q = lin_le (t ∷ a ∷ b ∷ c ∷ []) (ge0 (gap i ⊗ gap p) ∷ ge0 (h ⊗ gap q) ∷ []) (search reads_all depth 40) tt
mix_le t a b pos_inf h i p q = tt

-- the part of the way from b to a top at which c stands
unfoldable pub share : ℚ → ℚ → ℚ → ℚ
share b c top = (c -ℚ b) /ℚ (top -ℚ b)

-- a part t of the way from b to the top leads to c
pub record Part (b c top t : ℚ) : Type 0 where
  -- the part is at least 0
  pub from_zero : zero_ℚ ≤ℚ t
  -- the part is below 1
  pub below_one : t <ℚ one_ℚ
  -- the part of the way to the top is the way to c
  pub times : t *ℚ (top -ℚ b) ≡ c -ℚ b

-- the share is that part
pub share_is : (b c top : ℚ) → b ≤ℚ c → c <ℚ top → Part b c top (share b c top)
unfolding share
share_is b c top h i =
    let t = (c -ℚ b) /ℚ (top -ℚ b) in
    let wide : zero_ℚ <ℚ top -ℚ b = lin_lt (b ∷ c ∷ top ∷ []) (le h ∷ lt i ∷ []) (search reads_all depth 40) tt in
    let e : t *ℚ (top -ℚ b) ≡ c -ℚ b = quotient_times (c -ℚ b) (top -ℚ b) (λ f. ne_of_lt_ℚ wide (sym f)) in
    record { from_zero = le_of_not_lt_ℚ (λ l. at_least t wide e l); below_one = lt_of_not_le_ℚ (λ l. at_most t wide e l); times = e }
  where
    at_least : (t : ℚ) → zero_ℚ <ℚ top -ℚ b → t *ℚ (top -ℚ b) ≡ c -ℚ b → t <ℚ zero_ℚ → ⊥
    at_least t w e l = lin_false (t ∷ b ∷ c ∷ top ∷ []) (gt0 (*ℚ_pos (gap_lt l) w) ∷ eq e ∷ le h ∷ []) (search reads_all depth 40) tt

    at_most : (t : ℚ) → zero_ℚ <ℚ top -ℚ b → t *ℚ (top -ℚ b) ≡ c -ℚ b → one_ℚ ≤ℚ t → ⊥
    at_most t w e l = lin_false (t ∷ b ∷ c ∷ top ∷ []) (ge0 (gap l ⊗ le_of_lt_ℚ w) ∷ eq e ∷ lt i ∷ []) (search reads_all depth 40) tt

-- before c is reached, what mixes a value at most b and one at most the top is at most c
pub before_share : (t s b c top x y : ℚ) → zero_ℚ ≤ℚ t → t ≤ℚ one_ℚ → t ≤ℚ s → Part b c top s → b ≤ℚ top → x ≤ℚ b → y ≤ℚ top
    → (one_ℚ -ℚ t) *ℚ x +ℚ t *ℚ y ≤ℚ c
before_share t s b c top x y h i j p k l m =
    lin_le (t ∷ s ∷ b ∷ c ∷ top ∷ x ∷ y ∷ []) (ge0 (gap i ⊗ gap l) ∷ ge0 (h ⊗ gap m) ∷ ge0 (gap j ⊗ gap k) ∷ eq p.times ∷ [])
    (search reads_all depth 40) tt

-- where c is reached, a value above b and one at least the top have passed it
pub past_share : (t b c top x y : ℚ) → Part b c top t → b <ℚ x → top ≤ℚ y → c <ℚ (one_ℚ -ℚ t) *ℚ x +ℚ t *ℚ y
past_share t b c top x y p h i =
    lin_lt (t ∷ b ∷ c ∷ top ∷ x ∷ y ∷ []) (gt0 (*ℚ_pos (gap_lt p.below_one) (gap_lt h)) ∷ ge0 (p.from_zero ⊗ gap i) ∷ eq p.times ∷ [])
    (search reads_all depth 40) tt

-- how long a rate takes from b to c
unfoldable pub time : ℚ → ℚ → ℚ → ℚ
time b c rate = (c -ℚ b) /ℚ rate

-- in time t a rate leads from b to c
pub record Takes (b c rate t : ℚ) : Type 0 where
  -- the time is at least 0
  pub from_zero : zero_ℚ ≤ℚ t
  -- the time at the rate is the way to c
  pub times : t *ℚ rate ≡ c -ℚ b

-- the time is that one
pub time_is : (b c rate : ℚ) → b ≤ℚ c → zero_ℚ <ℚ rate → Takes b c rate (time b c rate)
unfolding time
time_is b c rate h i =
    let t = (c -ℚ b) /ℚ rate in
    let e : t *ℚ rate ≡ c -ℚ b = quotient_times (c -ℚ b) rate (λ f. ne_of_lt_ℚ i (sym f)) in
    record { from_zero = le_of_not_lt_ℚ (λ l. at_least t e l); times = e }
  where
    at_least : (t : ℚ) → t *ℚ rate ≡ c -ℚ b → t <ℚ zero_ℚ → ⊥
    at_least t e l = lin_false (t ∷ b ∷ c ∷ rate ∷ []) (gt0 (*ℚ_pos (gap_lt l) i) ∷ eq e ∷ le h ∷ []) (search reads_all depth 40) tt

-- no later than that, a value at most b that rises at most so fast is at most c
pub before_time : (t s b c rate x d : ℚ) → zero_ℚ ≤ℚ t → t ≤ℚ s → Takes b c rate s → zero_ℚ <ℚ rate → x ≤ℚ b → d ≤ℚ rate → x +ℚ t *ℚ d ≤ℚ c
before_time t s b c rate x d h i p k l m =
    lin_le (t ∷ s ∷ b ∷ c ∷ rate ∷ x ∷ d ∷ []) (le l ∷ ge0 (h ⊗ gap m) ∷ ge0 (gap i ⊗ le_of_lt_ℚ k) ∷ eq p.times ∷ [])
    (search reads_all depth 40) tt

-- at that time, a value above b that rises at least so fast is above c
pub past_time : (t b c rate x d : ℚ) → Takes b c rate t → b <ℚ x → rate ≤ℚ d → c <ℚ x +ℚ t *ℚ d
past_time t b c rate x d p h i =
    lin_lt (t ∷ b ∷ c ∷ rate ∷ x ∷ d ∷ []) (lt h ∷ ge0 (p.from_zero ⊗ gap i) ∷ eq p.times ∷ []) (search reads_all depth 40) tt

-- a value that does not rise
pub still_le : (t x d : ℚ) (v : Ext) → zero_ℚ ≤ℚ t → d ≤ℚ zero_ℚ → fin x ≤ᴱ v → fin (x +ℚ t *ℚ d) ≤ᴱ v
still_le t x d neg_inf h i k = k
still_le t x d (fin c) h i k = lin_le (t ∷ x ∷ d ∷ c ∷ []) (le k ∷ ge0 (h ⊗ gap i) ∷ []) (search reads_all depth 40) tt
still_le t x d pos_inf h i k = tt
