-- Bland's rule for the goal in the row g, over the names below n.
use Rattle.std.specs.Prelude.{◌≡◌, ℕ, zero, suc, ◌<◌, ◌≤◌, ◌^◌, Bool, true, false}
use Rattle.base_numbers.specs.Rational.{ℚ, zero_ℚ, neg_ℚ, ◌/ℚ◌, lt_ℚ, ◌≤ℚ◌, ◌<ℚ◌}
use Rattle.lp_theory.specs.Dictionary.{Dict, IsDict, IsFeasible, pivot}
use Rattle.lp_theory.specs.Search.{Search, none, found, first, least}

-- the constant over the negated entry in the column c
unfoldable pub ratio_of : Dict → ℕ → ℕ → ℚ
ratio_of D c i = D.const i /ℚ neg_ℚ (D.coef i c)

-- the smallest name with a positive coefficient in the goal
pub record Enters (g n : ℕ) (D : Dict) (c : ℕ) : Type 0 where
  pub name : c < n
  pub gains : zero_ℚ <ℚ D.coef g c
  pub smallest : (k : ℕ) → k < n → zero_ℚ <ℚ D.coef g k → c ≤ k

-- the name of the least ratio, the smallest on ties
pub record Leaves (n : ℕ) (D : Dict) (c r : ℕ) : Type 0 where
  pub name : r < n
  pub falls : D.coef r c <ℚ zero_ℚ
  pub least : (i : ℕ) → i < n → D.coef i c <ℚ zero_ℚ → ratio_of D c r ≤ℚ ratio_of D c i
  pub before : (i : ℕ) → i < r → D.coef i c <ℚ zero_ℚ → ratio_of D c r <ℚ ratio_of D c i

-- no positive coefficient, an entering name with no leaving one, or both names
pub data Choice : Type 0 where
  optimal : Choice
  ray : ℕ → Choice
  step : ℕ → ℕ → Choice

-- the search for the entering name
unfoldable pub entering : ℕ → ℕ → Dict → Search
entering g n D = first (λ k. lt_ℚ zero_ℚ (D.coef g k)) n

-- the search for the leaving name
unfoldable pub leaving : ℕ → Dict → ℕ → Search
leaving n D c = least (λ i. lt_ℚ (D.coef i c) zero_ℚ) (ratio_of D c) n

-- the choice from the search for the leaving name
abbrev pub choice_at : ℕ → Search → Choice
choice_at c none = ray c
choice_at c (found r) = step c r

-- the choice from the search for the entering name
abbrev pub choice_of : ℕ → Dict → Search → Choice
choice_of n D none = optimal
choice_of n D (found c) = choice_at c (leaving n D c)

-- the choice of the rule: stop, or the entering name and the leaving name
unfoldable pub choose : ℕ → ℕ → Dict → Choice
choose g n D = choice_of n D (entering g n D)

-- the dictionary after a choice
abbrev pub take_step : Dict → Choice → Dict
take_step D optimal = D
take_step D (ray c) = D
take_step D (step c r) = pivot D r c

-- one step of the rule; the dictionary itself where the rule stops
unfoldable pub next : ℕ → ℕ → Dict → Dict
next g n D = take_step D (choose g n D)

-- the dictionary after j steps
unfoldable pub after : ℕ → ℕ → Dict → ℕ → Dict
after g n D zero = D
after g n D (suc j) = next g n (after g n D j)

-- the choice is to stop
abbrev pub is_stop : Choice → Bool
is_stop optimal = true
is_stop (ray c) = true
is_stop (step c r) = false

-- the rule stops at D
abbrev pub stops : ℕ → ℕ → Dict → Bool
stops g n D = is_stop (choose g n D)

-- the number found
abbrev pub index_of : Search → ℕ
index_of none = zero
index_of (found k) = k

-- how many steps the rule makes from D before it stops
unfoldable pub stop_index : ℕ → ℕ → Dict → ℕ
stop_index g n D = index_of (first (λ j. stops g n (after g n D j)) (2 ^ n))

-- what the choice says
abbrev pub ChoiceIs : ℕ → ℕ → Dict → Choice → Type 0
ChoiceIs g n D optimal = (k : ℕ) → k < n → D.coef g k ≤ℚ zero_ℚ
ChoiceIs g n D (ray c) = Enters g n D c × ((i : ℕ) → i < n → zero_ℚ ≤ℚ D.coef i c)
ChoiceIs g n D (step c r) = Enters g n D c × Leaves n D c r

-- the entering name of a choice
abbrev pub enter_of : Choice → ℕ
enter_of optimal = 0
enter_of (ray c) = c
enter_of (step c r) = c

-- the leaving name of a choice
abbrev pub leave_of : Choice → ℕ
leave_of optimal = 0
leave_of (ray c) = 0
leave_of (step c r) = r

-- a pivot by the rule from D to E
pub record IsStep (g n : ℕ) (D E : Dict) (c r : ℕ) : Type 0 where
  pub enters : Enters g n D c
  pub leaves : Leaves n D c r
  pub is : E ≡ pivot D r c

-- the form of a dictionary, and feasible
pub record IsGood (n : ℕ) (D : Dict) : Type 0 where
  pub form : IsDict n D
  pub feasible : IsFeasible n D

-- what `stop_index` says
pub record IsStop (g n : ℕ) (D : Dict) (k : ℕ) : Type 0 where
  pub below : k < 2 ^ n
  pub stop : stops g n (after g n D k) ≡ true
  pub before : (j : ℕ) → j < k → stops g n (after g n D j) ≡ false

-- k pivots by Bland's rule: the dictionaries, the entering and the leaving names
pub record IsChain (g n : ℕ) (D : ℕ → Dict) (c r : ℕ → ℕ) (k : ℕ) : Type 0 where
  pub form : (j : ℕ) → j ≤ k → IsDict n (D j)
  pub feasible : (j : ℕ) → j ≤ k → IsFeasible n (D j)
  pub enters : (j : ℕ) → j < k → Enters g n (D j) (c j)
  pub leaves : (j : ℕ) → j < k → Leaves n (D j) (c j) (r j)
  pub next : (j : ℕ) → j < k → D (suc j) ≡ pivot (D j) (r j) (c j)
