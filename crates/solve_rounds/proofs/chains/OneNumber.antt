-- A policy that answers one position has one chain, and so one number of rounds.
use Rattle.std.proofs.Common.{◌≡◌, ◌∙◌, ⊎_elim, ℕ, zero, suc, ◌<◌, ◌≤◌, List, [], ◌∷◌, length, get_or, refl, sym, ap, ap₂, subst, arith}
use Rattle.std.specs.Prelude.{Some}
use Rattle.std.proofs.Math.Path.{fun_ext}
use Rattle.std.proofs.lemmas.Bool.{cases_lt}
use Rattle.std.proofs.lemmas.List.Elements.{Contains-get_or}
use Rattle.std.proofs.lemmas.Option.{slice_get-get_or}
use Rattle.base_numbers.specs.Extended.{Ext as Extended, ◌≤ᴱ◌}
use Rattle.base_numbers.proofs.extended.ExtendedLaws.{ext_not_le_of_lt}
use Rattle.flow_systems.specs.Equations.{Equations, Vector, PostSolution}
use Rattle.flow_systems.specs.View.{equations_of, bounds_of}
use Rattle.flow_systems.specs.declared.system.System.{System}
use Rattle.theory_validity.specs.Steps.{edge_of, row_of}
use Rattle.theory_transformers.specs.EdgeProblems.{transformer}
use Rattle.theory_strategy.specs.Picks.{Pick, IsPick, value_at}
use Rattle.theory_strategy.specs.PickCount.{unknowns}
use Rattle.theory_strategy.specs.Policy.{offers, taken, changed_pick, next_pick, policy_pick}
use Rattle.theory_strategy.specs.Solve.{State, next, state}
use Rattle.theory_strategy.proofs.round.RoundGives.{Improved}
use Rattle.theory_rounds.specs.Evidence.{exact_evidence}
use Rattle.theory_rounds.specs.JointItems.{exact_joint}
use Rattle.theory_rounds.specs.Cut.{exact_cut}
use Rattle.theory_rounds.specs.Rounds.{Choice, exact_next}
use Rattle.theory_rounds.proofs.rounds.ExactChain.{round_made}
use Rattle.solve_raise.specs.Numbers.{fitting}
use Rattle.solve_offers.specs.declared.offer.Offer.{Offer}
use Rattle.solve_rounds.specs.declared.solution.Solved.{Solved}
use Rattle.solve_offers.specs.Improvement.{Chosen, IsChoice, NoneExceeds}
use Rattle.solve_offers.specs.AtBounds.{vector_at}
use Rattle.solve_rounds.specs.Chains.{state_at, bounds_after, IsChain, IsEnded}
use Rattle.solve_rounds.specs.Solutions.{IsSolved}
use Rattle.solve_rounds.specs.Halts.{IsSpent}
use Rattle.solve_rounds.specs.LeastLaws.{AnswersOne}
use Rattle.solve_offers.proofs.at_bounds.Ranges.{points_in_range}
use Rattle.solve_rounds.proofs.solving.Outcomes.{solved_least}

-- ---- one choice
module _ (system : Equations) (v : Vector) (policy : Offer → ℕ → Type 0) (one : AnswersOne policy) where
  chosen_same : (p r e f : ℕ) → Chosen system (transformer system) v policy p r e → Chosen system (transformer system) v policy p r f
      → e ≡ f
  chosen_same p r e f c d =
      let a = c.is_offer in
      let b = d.is_offer in
      let edges = a.edges ∙ sym b.edges in
      c.is_edge ∙ ap₂ (λ es k. get_or es k 0) edges (one c.offer d.offer c.position d.position (a.bound ∙ sym b.bound) edges
      (a.values ∙ sym b.values) c.answers d.answers) ∙ sym d.is_edge

  next_same : (c d : Choice) (pick : Pick) → IsChoice system (transformer system) v policy c
      → IsChoice system (transformer system) v policy d → exact_next system c v pick ≡ exact_next system d v pick
  unfolding policy_pick changed_pick taken
  next_same c d pick h k =
      ap (λ better. next_pick system (transformer system) v better (unknowns system))
      (fun_ext (λ p. fun_ext (λ r. by p r (offers system (transformer system) v p r) refl)))
    where
      by : (p r : ℕ) (os : List ℕ) → offers system (transformer system) v p r ≡ os
          → taken system (transformer system) v (c p r) os (pick p r) ≡ taken system (transformer system) v (d p r) os (pick p r)
      by p r [] e = refl
      by p r (o ∷ os) e = ap Some (chosen_same p r (c p r o os) (d p r o os) (h.chosen p r o os e) (k.chosen p r o os e))

-- an improved pick exceeds somewhere
improved_exceeds : (system : Equations) (v : Vector) (pick : Pick) → IsPick system pick → Improved system (transformer system) v pick
    → NoneExceeds system (transformer system) v → ⊥
unfolding edge_of row_of
improved_exceeds system v pick is_pick h none =
    let u = h.item in
    let p = is_pick u h.picked in
    ext_not_le_of_lt (v u.point u.row) (value_at system (transformer system) v u) h.exceeds
    (subst (λ q. value_at system (transformer system) v u ≤ᴱ v q u.row) p.into
    (none (edge_of system u) u.row (row_of system u) (Contains-get_or system.edges u.edge (record { from = 0; to = 0; actions = [] })
    p.edge_within) (slice_get-get_or system.template u.row [] p.row_within)))

-- ---- one chain
module _ (system : System) (policy : Offer → ℕ → Type 0) (one : AnswersOne policy) where
  abbrev E : Equations
  E = equations_of system

  states_same : (n m : ℕ) (choose other : ℕ → Choice) → IsChain system policy n choose → IsChain system policy m other → (k : ℕ) → k ≤ n
      → k ≤ m → state_at system choose k ≡ state_at system other k
  unfolding state
  states_same n m choose other c d zero l h = refl
  states_same n m choose other c d (suc k) l h =
      let before = states_same n m choose other c d k (omega arith) (omega arith) in
      ap (λ (s : State). next fitting E (transformer E) (exact_evidence E) (exact_joint E) (exact_cut fitting E)
      (exact_next E (choose k) s.vector s.pick) s) before
      ∙ ap (λ o. next fitting E (transformer E) (exact_evidence E) (exact_joint E) (exact_cut fitting E) o (state_at system other k))
      (next_same E (state_at system other k).vector policy one (choose k) (other k) (state_at system other k).pick
      (subst (λ (s : State). IsChoice E (transformer E) s.vector policy (choose k)) before (c.chosen k (omega arith)))
      (d.chosen k (omega arith)))

  -- a chain doesn't go on where another has ended
  pub not_longer : (n m : ℕ) (choose other : ℕ → Choice) → IsChain system policy n choose → IsEnded system choose n
      → IsChain system policy m other → n < m → ⊥
  not_longer n m choose other c ended d l =
      let made = round_made fitting E (points_in_range system) other d.among m d.made n l in
      improved_exceeds E (state_at system other n).vector (state_at system other (suc n)).pick made.better.is_pick made.better.improved
      (subst (λ (s : State). NoneExceeds E (transformer E) s.vector) (states_same n m choose other c d n (omega arith) (omega arith))
      ended.none)

  -- all solutions have one number of rounds
  pub one_number : (limit more : ℕ) (solved again : Solved) → IsSolved system policy limit solved → IsSolved system policy more again
      → solved.improvements ≡ again.improvements
  one_number limit more solved again s t =
      ⊎_elim (λ l. absurd (not_longer solved.improvements again.improvements s.choose t.choose s.chain s.ended t.chain l))
      (λ l. ⊎_elim (λ h. absurd (not_longer again.improvements solved.improvements t.choose s.choose t.chain t.ended s.chain h))
      (λ h. omega arith) (cases_lt again.improvements solved.improvements))
      (cases_lt solved.improvements again.improvements)

  -- and a limit that was spent is below it
  pub spent_below : (limit more : ℕ) (bounds : List Extended) (solved : Solved) → IsSpent system policy limit bounds
      → IsSolved system policy more solved → limit < solved.improvements
  spent_below limit more bounds solved s t =
      ⊎_elim (λ l. l)
      (λ l. ⊎_elim (λ h. absurd (not_longer solved.improvements limit t.choose s.choose t.chain t.ended s.chain h))
      (λ h. absurd (ends (let e : limit ≡ solved.improvements = omega arith in e))) (cases_lt solved.improvements limit))
      (cases_lt limit solved.improvements)
    where
      ends : limit ≡ solved.improvements → ⊥
      ends e = s.unsolved (subst (λ b. PostSolution E (vector_at system b)) (t.bounds ∙ sym same ∙ sym s.same)
          (solved_least system policy more solved t).solves.post)
        where
          same : bounds_after system s.choose limit ≡ bounds_after system t.choose solved.improvements
          same =
              ap (λ (x : State). bounds_of (length system.flow.points) (length system.template) x.vector)
              (states_same limit solved.improvements s.choose t.choose s.chain t.chain limit (omega arith) (omega arith))
              ∙ ap (bounds_after system t.choose) e
