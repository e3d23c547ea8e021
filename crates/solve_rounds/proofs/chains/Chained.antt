-- Chains of rounds: what is known after one, and the chain with one round more.
use Rattle.std.proofs.Common.{◌≡◌, ◌∙◌, ◌⊎◌, inl, inr, ⊎_elim, ℕ, suc, ◌*◌, ◌<◌, ◌≤◌, List, ◌++◌, length, refl, sym, ap, subst, arith}
use Rattle.std.specs.Prelude.{Some}
use Rattle.std.proofs.lemmas.Bool.{cases_lt}
use Rattle.base_numbers.specs.Extended.{Ext as Extended}
use Rattle.flow_systems.specs.Equations.{Equations, Vector, PostSolution}
use Rattle.flow_systems.specs.View.{equations_of, bounds_of}
use Rattle.flow_systems.specs.declared.system.System.{System}
use Rattle.flow_systems.proofs.view.Listed.{listed_law}
use Rattle.theory_validity.specs.Steps.{Step}
use Rattle.theory_validity.specs.Certificates.{bounds_vector}
use Rattle.theory_validity.proofs.steps.CertificateLaw.{upper_of_post}
use Rattle.theory_validity.proofs.words.TransformerLaw.{reach_least}
use Rattle.theory_transformers.specs.EdgeProblems.{transformer}
use Rattle.theory_transformers.proofs.edge_problems.TransformerOf.{transformer_reaches}
use Rattle.theory_strategy.specs.Picks.{Pick, IsPick, Tight}
use Rattle.theory_strategy.specs.PickCount.{pick_count}
use Rattle.theory_strategy.specs.Solve.{State, next, state}
use Rattle.theory_rounds.specs.Agreement.{Agree}
use Rattle.theory_rounds.specs.Rounds.{Choice, Goes, exact_next, exact_round, first_choice, with_choice}
use Rattle.theory_rounds.specs.RoundSteps.{IsRoundBy}
use Rattle.theory_rounds.proofs.rounds.ExactChain.{state_tight, state_few, state_least, round_made}
use Rattle.theory_rounds.proofs.rounds.ExactEnd.{state_same, steps_of_same, state_after, with_choice-at, with_choice-before}
use Rattle.theory_rounds.proofs.rounds.ExactEnd.{with_choice_takes}
use Rattle.theory_rounds.proofs.rounds.MadeCertificate.{last_listed, none_agrees}
use Rattle.theory_rounds.proofs.rounds.NextAgrees.{exact_next_agrees}
use Rattle.theory_rounds.proofs.joint_items.RoundAgrees.{round_agrees}
use Rattle.theory_rounds.proofs.rounds.RoundBy.{round_by_agrees}
use Rattle.solve_raise.specs.Numbers.{fitting}
use Rattle.solve_offers.specs.declared.offer.Offer.{Offer}
use Rattle.solve_offers.specs.AtBounds.{transformers, vector_at, NothingExceeds}
use Rattle.solve_offers.specs.Improvement.{IsChoice, IsNext, NoneExceeds}
use Rattle.solve_rounds.specs.Round.{AreBoundsOf}
use Rattle.solve_rounds.specs.Chains.{state_at, bounds_after, AreStepsAfter, IsChain, IsEnded}
use Rattle.solve_offers.proofs.at_bounds.Ranges.{points_in_range}
use Rattle.solve_rounds.proofs.chains.Listing.{bounds_same, start_listed}
use Rattle.solve_rounds.proofs.chains.ChoicesAgree.{choice_agrees, tight_agrees}

-- no round is a chain by any policy
pub no_rounds : (system : System) (policy : Offer → ℕ → Type 0) → IsChain system policy 0 (λ k. first_choice)
no_rounds system policy = record {
  among = λ k p r e es. inl refl;
  chosen = λ k h. absurd (omega arith);
  made = λ k h. absurd (omega arith);
}

-- after which the bounds are the start bounds
pub bounds_first : (system : System) → bounds_after system (λ k. first_choice) 0
    ≡ Rattle.flow_systems.specs.Starts.start_bounds (length system.flow.points) (length system.template)
unfolding state
bounds_first system = sym (start_listed (length system.flow.points) (length system.template) (points_in_range system).entry)

-- at a post-solution no transformer exceeds its bound
pub post_none : (system : Equations) (z : Vector) → PostSolution system z → NoneExceeds system (transformer system) z
post_none system z post edge r row listed e =
    reach_least system z edge row (transformer system z edge row) (z edge.to r) (transformer_reaches system z edge row)
    (upper_of_post system z edge r row post listed e)

module _ (system : System) (policy : Offer → ℕ → Type 0) (n : ℕ) (choose : ℕ → Choice) (chain : IsChain system policy n choose) where
  abbrev E : Equations
  E = equations_of system

  abbrev z : Vector
  z = vector_at system (bounds_after system choose n)

  -- there are as many bounds as unknowns
  pub bounds_count : length (bounds_after system choose n) ≡ length system.flow.points * length system.template
  bounds_count = (listed_law (length system.flow.points) (length system.template)).count (state_at system choose n).vector

  -- the bounds' vector agrees with the theory's
  pub bounds_agree : Agree (equations_of system) (vector_at system (bounds_after system choose n)) (state_at system choose n).vector
  unfolding bounds_vector
  bounds_agree p r l = last_listed fitting (equations_of system) (points_in_range system) choose chain.among n chain.made p r l

  -- the pick is tight at the bounds
  pub tight_after : Tight (equations_of system) (transformers system) (vector_at system (bounds_after system choose n))
      (state_at system choose n).pick
  tight_after =
      tight_agrees E (state_at system choose n).vector z (λ p r l. sym (bounds_agree p r l)) (state_at system choose n).pick
      (state_tight fitting E (points_in_range system) choose chain.among n chain.made)

  -- there are fewer rounds than picks
  pub few_after : n < pick_count (equations_of system)
  few_after = state_few fitting E (points_in_range system) choose chain.among n chain.made

  -- where nothing exceeds its bound the rounds end
  pub ended_after : NothingExceeds system (bounds_after system choose n) → IsEnded system choose n
  ended_after none =
      let at_state = none_agrees E z (state_at system choose n).vector bounds_agree none in
      record {
        none = at_state;
        post = (state_least fitting E (points_in_range system) choose chain.among n chain.made
            at_state).solves.post;
      }

  module _ (better : Pick) (following : IsNext (equations_of system) (transformers system) (vector_at system (bounds_after system choose n))
      policy (state_at system choose n).pick (Some better)) where
    -- the choices with the next one
    pub more : ℕ → Choice
    more = with_choice choose n following.choose

    same_until : (k : ℕ) → k ≤ n → state_at system choose k ≡ state_at system more k
    unfolding more
    same_until k l = state_same fitting E choose more k (λ j h. sym (with_choice-before choose n following.choose j (omega arith)))

    -- the bounds before the round are the same
    pub same_bounds : bounds_after system choose n ≡ bounds_after system more n
    same_bounds = ap (λ (s : State). bounds_of (length system.flow.points) (length system.template) s.vector) (same_until n (omega arith))

    next_is : exact_next E (more n) (state_at system more n).vector (state_at system more n).pick ≡ Some better
    unfolding more
    next_is =
        ap (λ c. exact_next E c (state_at system more n).vector (state_at system more n).pick) (with_choice-at choose n following.choose)
        ∙ ap (λ (s : State). exact_next E following.choose s.vector s.pick) (sym (same_until n (omega arith)))
        ∙ sym (exact_next_agrees E z (state_at system choose n).vector bounds_agree following.choose (state_at system choose n).pick)
        ∙ following.same

    last_or : (k : ℕ) → k < suc n → (k < n) ⊎ (n ≡ k)
    last_or k h = ⊎_elim (λ l. inl l) (λ l. inr (omega arith)) (cases_lt k n)

    -- one round more
    pub extended : IsChain system policy (suc n) more
    unfolding more
    extended = record {
      among = with_choice_takes choose n following.choose chain.among following.is_choice.among;
      chosen = λ k h. ⊎_elim (λ l. chosen_before k l) (λ e. subst (λ j. IsChoice E (transformer E) (state_at system more j).vector policy
          (more j)) e chosen_last) (last_or k h);
      made = λ k h. ⊎_elim (λ l. made_before k l) (λ e. subst (λ j. Goes E (more j) (state_at system more j)) e (better, next_is))
          (last_or k h);
    }
      where
        chosen_before : (k : ℕ) → k < n → IsChoice E (transformer E) (state_at system more k).vector policy (more k)
        chosen_before k l =
            subst (λ c. IsChoice E (transformer E) (state_at system more k).vector policy c)
            (sym (with_choice-before choose n following.choose k l))
            (subst (λ (s : State). IsChoice E (transformer E) s.vector policy (choose k)) (same_until k (omega arith)) (chain.chosen k l))

        chosen_last : IsChoice E (transformer E) (state_at system more n).vector policy (more n)
        chosen_last =
            subst (λ c. IsChoice E (transformer E) (state_at system more n).vector policy c)
            (sym (with_choice-at choose n following.choose))
            (subst (λ (s : State). IsChoice E (transformer E) s.vector policy following.choose) (same_until n (omega arith))
            (choice_agrees E z (state_at system choose n).vector bounds_agree policy following.choose following.is_choice))

        made_before : (k : ℕ) → k < n → Goes E (more k) (state_at system more k)
        made_before k l =
            subst (λ c. Goes E c (state_at system more k)) (sym (with_choice-before choose n following.choose k l))
            (subst (λ (s : State). Goes E (choose k) s) (same_until k (omega arith)) (chain.made k l))

    -- its pick is the next one
    pub pick_next : (state_at system more (suc n)).pick ≡ better
    unfolding next
    pick_next = ap (λ (s : State). s.pick) (state_after fitting E more n better next_is)

    vector_next : (state_at system more (suc n)).vector ≡ exact_round fitting E (state_at system choose n).vector better
    unfolding next
    vector_next =
        ap (λ (s : State). s.vector) (state_after fitting E more n better next_is)
        ∙ ap (λ (s : State). exact_round fitting E s.vector better) (sym (same_until n (omega arith)))

    is_pick : IsPick E better
    is_pick = subst (IsPick E) pick_next (round_made fitting E (points_in_range system) more extended.among (suc n) extended.made n
        (omega arith)).better.is_pick

    -- the bounds of the round are those after the chain
    pub bounds_next : (new : List Extended) → length new ≡ length system.flow.points * length system.template →
        AreBoundsOf system (exact_round fitting (equations_of system) (vector_at system (bounds_after system choose n)) better) new
        → new ≡ bounds_after system more (suc n)
    bounds_next new size same =
        bounds_same (length system.flow.points) (length system.template) new (state_at system more (suc n)).vector size
        (λ p r h l. same p r h l ∙ round_agrees fitting E better is_pick z (state_at system choose n).vector bounds_agree p r l
        ∙ sym (ap (λ v. v p r) vector_next))

    -- and with its steps behind the others these are the steps of one round more
    pub steps_next : (before last : List Step) → AreStepsAfter system choose n before
        → IsRoundBy fitting (equations_of system) (vector_at system (bounds_after system choose n)) better last
        → AreStepsAfter system more (suc n) (before ++ last)
    unfolding more
    steps_next before last h k = (
      before,
      steps_of_same fitting E choose more n (λ j l. sym (with_choice-before choose n following.choose j l)) before h,
      (
        last,
        subst (λ p. IsRoundBy fitting E (state_at system more n).vector p last) (sym pick_next)
            (subst (λ (s : State). IsRoundBy fitting E s.vector better last) (same_until n (omega arith))
            (round_by_agrees fitting E z (state_at system choose n).vector better last is_pick bounds_agree k)),
        refl,
      ),
    )
