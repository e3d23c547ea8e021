-- The two policies answer one position of an offer.
use Rattle.std.proofs.Common.{◌≡◌, ⊎_elim, ℕ, ◌<◌, get_or, subst, subst₂, arith}
use Rattle.std.proofs.lemmas.Bool.{cases_lt}
use Rattle.base_numbers.specs.Extended.{neg_inf, ◌≤ᴱ◌, ◌<ᴱ◌}
use Rattle.base_numbers.proofs.extended.ExtendedLaws.{ext_not_le_of_lt}
use Rattle.base_fractions.specs.Extended.{extended}
use Rattle.solve_offers.specs.Offers.{IsFirstGreatest}
use Rattle.solve_offers.specs.Policies.{by_best, by_first}
use Rattle.solve_rounds.specs.LeastLaws.{AnswersOne}

-- numbers of which neither is below the other
neither : (j k : ℕ) → (j < k → ⊥) → (k < j → ⊥) → j ≡ k
neither j k a b = ⊎_elim (λ l. absurd (a l)) (λ l. ⊎_elim (λ h. absurd (b h)) (λ h. omega arith) (cases_lt k j)) (cases_lt j k)

-- the policy of the best offer answers one position
pub best_is_one : AnswersOne by_best
best_is_one offer other j k bound edges values h i =
    let g = subst (λ vs. IsFirstGreatest vs j) values h in
    neither j k
    (λ l. ext_not_le_of_lt (get_or other.values j neg_inf) (get_or other.values k neg_inf) (i.first j l) (g.greatest k))
    (λ l. ext_not_le_of_lt (get_or other.values k neg_inf) (get_or other.values j neg_inf) (g.first k l) (i.greatest j))

-- the policy of the first offer answers one position
pub first_is_one : AnswersOne by_first
first_is_one offer other j k bound edges values h i =
    neither j k
    (λ l. ext_not_le_of_lt (extended other.bound) (get_or other.values j neg_inf)
    (subst₂ (λ b vs. b <ᴱ get_or vs j neg_inf) bound values h.exceeds) (i.first j l))
    (λ l. ext_not_le_of_lt (extended other.bound) (get_or other.values k neg_inf) i.exceeds
    (subst₂ (λ b vs. get_or vs k neg_inf ≤ᴱ b) bound values (h.first k l)))
