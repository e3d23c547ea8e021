use Rattle.std.proofs.Common.{◌<◌, ℕ, get_or}
use Rattle.base_facts.specs.Elements.{In}
use Rattle.solve_rounds.proofs.guessed.ValidRay.{no_rate}
use Rattle.solve_rounds.proofs.guessed.are_listed.Given as goal

abbrev pub invariant-loop-place : goal.invariant-loop-place
invariant-loop-place l = (j : ℕ) → j < l.place → In l.list (get_or l.rates j no_rate).unknown
