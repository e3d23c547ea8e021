-- What the two policies answer.
use Rattle.std.specs.Prelude.{ℕ}
use Rattle.solve_offers.specs.declared.offer.Offer.{Offer}
use Rattle.solve_offers.specs.Offers.{IsFirstGreatest, IsFirstExceeding}

-- the first position of the greatest value
abbrev pub by_best : Offer → ℕ → Type 0
by_best offer k = IsFirstGreatest offer.values k

-- the first position whose value exceeds the bound
abbrev pub by_first : Offer → ℕ → Type 0
by_first offer k = IsFirstExceeding offer k
