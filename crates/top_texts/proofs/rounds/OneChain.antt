-- The improvements by a policy of the command line have one end.
use Rattle.std.proofs.Common.{◌≡◌, ℕ, ◌<◌, List, length, sym, subst, arith}
use Rattle.flow_systems.specs.Equations.{Equations, Least, Vector}
use Rattle.flow_systems.specs.View.{equations_of, vector_of}
use Rattle.flow_systems.specs.declared.footer.Footer.TheVariants.{Improvements}
use Rattle.flow_systems.specs.declared.system.System.{System}
use Rattle.theory_chains.specs.Chains.{EndsAfter, GoesOnAfter}
use Rattle.theory_chains.specs.Offers.{Best as MeantBest, First as MeantFirst}
use Rattle.theory_chains.specs.Laws.{AnswersOne}
use Rattle.theory_chains.proofs.chains.OneChain.{number_above, number_one}
use Rattle.theory_chains.proofs.offers.OnePosition.{best_is_one, first_is_one}
use Rattle.theory_strategy.specs.PickCount.{pick_count}
use Rattle.theory_rounds.proofs.rounds.Retraced.{short_law}
use Rattle.solve_rounds.proofs.chains.Improvements.{best_means, first_means, solved_law}
use Rattle.solve_offers.proofs.at_bounds.Ranges.{points_in_range}
use Rattle.solve_offers.specs.Policies.{by_best, by_first}
use Rattle.solve_rounds.specs.Solutions.{IsSolved}
use Rattle.solve_rounds.specs.declared.solution.Solved.{Solved}
use Rattle.ask_words.specs.declared.format.Format.{Format}
use Rattle.ask_words.specs.declared.request.Policy.{Policy}
use Rattle.ask_words.specs.declared.request.Policy.TheVariants.{Best, First}
use Rattle.top_written.specs.Formats.{report_of_in}
use Rattle.top_texts.specs.Outcomes.{IsRoundsReport}
use Rattle.top_texts.specs.Policies.{rule_of}
use Rattle.top_texts.specs.Rounds.{EndsWithin, HasRounds, RunsOut, chosen_by}

-- a solution of the rounds is where the improvements end
pub solved_rounds : (system : System) (policy : Policy) (limit : ℕ) (solved : Solved) → IsSolved system (rule_of policy) limit solved
    → HasRounds system policy solved.improvements (vector_of (length system.template) solved.bounds)
solved_rounds system Best limit solved h = solved_law by_best MeantBest best_means system limit solved h
solved_rounds system First limit solved h = solved_law by_first MeantFirst first_means system limit solved h

-- so its report is that of the rounds
pub rounds_report : (system : System) (policy : Policy) (limit : ℕ) (solved : Solved) (format : Format) (bytes : List ℕ)
    → IsSolved system (rule_of policy) limit solved
    → Least (equations_of system) (vector_of (length system.template) solved.bounds)
    → bytes ≡ report_of_in format system (vector_of (length system.template) solved.bounds) (Improvements solved.improvements)
    → IsRoundsReport system policy limit format bytes
rounds_report system policy limit solved format bytes h least e = record {
  rounds = solved.improvements;
  within = h.within;
  bounds = solved.bounds;
  has_rounds = solved_rounds system policy limit solved h;
  least = least;
  report = e;
}

one_answer : (policy : Policy) → AnswersOne (chosen_by policy)
one_answer Best = best_is_one
one_answer First = first_is_one

-- over systems with the same equations
pub ends_once : (s t : System) (policy : Policy) (limit : ℕ) → equations_of s ≡ equations_of t → EndsWithin s policy limit
    → RunsOut t policy limit → ⊥
ends_once s t policy limit same (n, within, vector, ends) out =
    let below = number_above (equations_of s) (chosen_by policy) (one_answer policy) limit n vector
    (subst (λ (q : Equations). GoesOnAfter q (chosen_by policy) limit) (sym same) out) ends in
    absurd (omega arith)

-- improvements that run out are fewer than the picks
pub runs_few : (system : System) (policy : Policy) (limit : ℕ) → RunsOut system policy limit → limit < pick_count (equations_of system)
runs_few system policy limit o = (short_law (chosen_by policy) (equations_of system) (points_in_range system) limit o.vectors o.picks
    o.chain).few

-- rounds of one policy over the same equations are equally many
pub rounds_once : (s t : System) (policy : Policy) (n m : ℕ) (v w : Vector) → equations_of s ≡ equations_of t → HasRounds s policy n v
    → HasRounds t policy m w → n ≡ m
rounds_once s t policy n m v w same a b =
    number_one (equations_of s) (chosen_by policy) (one_answer policy) n m v w a
    (subst (λ (q : Equations). EndsAfter q (chosen_by policy) m w) (sym same) b)

-- rounds that lead to a solution end within the limit
pub solved_ends : (system : System) (policy : Policy) (limit : ℕ) (solved : Solved) → IsSolved system (rule_of policy) limit solved
    → EndsWithin system policy limit
solved_ends system policy limit solved is = (
  solved.improvements,
  is.within,
  vector_of (length system.template) solved.bounds,
  solved_rounds system policy limit solved is,
)
