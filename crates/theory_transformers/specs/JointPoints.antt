-- The point of a joint problem that given rises and words make.
use Rattle.std.specs.Prelude.{◌≡◌, ℕ, zero, suc, ◌+◌, false, List, [], ◌∷◌, length}
use Rattle.std.proofs.Common.{⊎_elim}
use Rattle.base_numbers.specs.Rational.{ℚ, zero_ℚ, neg_ℚ}
use Rattle.base_numbers.proofs.rational.Laws.{le_or_lt}
use Rattle.flow_systems.specs.Equations.{Equations}
use Rattle.theory_validity.specs.Words.{Word}
use Rattle.lp_theory.specs.Listed.{at}
use Rattle.theory_transformers.specs.JointProblems.{Listed, columns_of, is_at}

-- one number in front of others
abbrev pub cons : ℚ → (ℕ → ℚ) → ℕ → ℚ
cons a g zero = a
cons a g (suc k) = g k

-- the first n entries of one before those of another
abbrev pub join : ℕ → (ℕ → ℚ) → (ℕ → ℚ) → (ℕ → ℚ)
join zero f g = g
join (suc n) f g = cons (f 0) (join n (λ k. f (suc k)) g)

-- the number, or 0 where it is below 0
unfoldable pub positive : ℚ → ℚ
positive q = ⊎_elim (λ h. q) (λ h. zero_ℚ) (le_or_lt zero_ℚ q)

-- the greater of two numbers
unfoldable pub greater : ℚ → ℚ → ℚ
greater a b = ⊎_elim (λ h. b) (λ h. a) (le_or_lt a b)

-- each entry's positive part and then its negative part
unfoldable pub pos_neg : (ℕ → ℚ) → ℕ → ℚ
pos_neg f zero = positive (f 0)
pos_neg f (suc zero) = positive (neg_ℚ (f 0))
pos_neg f (suc (suc k)) = pos_neg (λ j. f (suc j)) k

-- split words one behind the other
unfoldable pub word_points : Equations → List Listed → List Word → (ℕ → ℚ)
word_points system [] ws = λ k. zero_ℚ
word_points system (u ∷ rest) [] = λ k. zero_ℚ
word_points system (u ∷ rest) (w ∷ ws) = join (columns_of system u + columns_of system u) (pos_neg (at w)) (word_points system rest ws)

-- the rises, and then the split words
unfoldable pub joint_point : Equations → List Listed → (ℕ → ℚ) → List Word → (ℕ → ℚ)
joint_point system list x ws = join (length list) x (word_points system list ws)

-- no entry of the list is at this unknown
abbrev pub Unlisted : List Listed → ℕ → ℕ → Type 0
Unlisted [] p r = Unit {0}
Unlisted (u ∷ rest) p r = (is_at u p r ≡ false) × Unlisted rest p r

-- no unknown is listed twice
abbrev pub Distinct : List Listed → Type 0
Distinct [] = Unit {0}
Distinct (u ∷ rest) = Unlisted rest u.point u.row × Distinct rest
