-- The two policies answer one position of an offer.
use Rattle.std.proofs.Common.{◌≡◌, ⊎_elim, ℕ, ◌<◌, get_or, arith}
use Rattle.std.proofs.lemmas.Bool.{cases_lt}
use Rattle.base_numbers.specs.Extended.{neg_inf}
use Rattle.base_numbers.proofs.extended.ExtendedLaws.{ext_not_le_of_lt}
use Rattle.theory_chains.specs.Offers.{Best, First}
use Rattle.theory_chains.specs.Laws.{AnswersOne}

-- numbers of which neither is below the other
neither : (j k : ℕ) → (j < k → ⊥) → (k < j → ⊥) → j ≡ k
neither j k a b = ⊎_elim (λ l. absurd (a l)) (λ l. ⊎_elim (λ h. absurd (b h)) (λ h. omega arith) (cases_lt k j)) (cases_lt j k)

-- the policy of the greatest transformer answers one position of an offer
pub best_is_one : AnswersOne Best
best_is_one offer j k h i =
    neither j k
    (λ l. ext_not_le_of_lt (get_or offer.values j neg_inf) (get_or offer.values k neg_inf) (i.first j l) (h.greatest k))
    (λ l. ext_not_le_of_lt (get_or offer.values k neg_inf) (get_or offer.values j neg_inf) (h.first k l) (i.greatest j))

-- the policy of the first transformer that exceeds the bound answers one position of an offer
pub first_is_one : AnswersOne First
first_is_one offer j k h i =
    neither j k
    (λ l. ext_not_le_of_lt offer.bound (get_or offer.values j neg_inf) h.exceeds (i.first j l))
    (λ l. ext_not_le_of_lt offer.bound (get_or offer.values k neg_inf) i.exceeds (h.first k l))
