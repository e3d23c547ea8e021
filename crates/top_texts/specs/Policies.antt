-- What the policies of the command line answer of an offer.
use Rattle.std.specs.Prelude.{ℕ}
use Rattle.ask_words.specs.declared.request.Policy.{Policy}
use Rattle.ask_words.specs.declared.request.Policy.TheVariants.{Best, First}
use Rattle.solve_offers.specs.declared.offer.Offer.{Offer}
use Rattle.solve_offers.specs.Policies.{by_best, by_first}

-- `best` answers the first position of the greatest value, `first` the first position of a value that exceeds the bound
abbrev pub rule_of : Policy → Offer → ℕ → Type 0
rule_of Best = by_best
rule_of First = by_first
