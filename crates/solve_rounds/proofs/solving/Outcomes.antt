-- What the rounds have come to, and what they end with.
use Rattle.std.proofs.Common.{◌≡◌, ◌∙◌, inl, inr, Bool, true, ℕ, suc, ◌+◌, ◌*◌, ◌<◌, ◌≤◌, List, length, map, sym, ap, subst, subst₂, arith}
use Rattle.std.specs.Prelude.{Option, Some, None}
use Rattle.base_numbers.specs.Extended.{Ext}
use Rattle.flow_systems.specs.Equations.{Least}
use Rattle.flow_systems.specs.View.{equations_of, vector_of, bounds_of}
use Rattle.flow_systems.specs.declared.system.System.{System}
use Rattle.flow_systems.proofs.view.Listed.{listed_law}
use Rattle.theory_validity.specs.Steps.{Step}
use Rattle.theory_validity.specs.Certificates.{bounds_vector, ValidCertificate}
use Rattle.theory_validity.proofs.steps.CertificateLaw.{certificate_least, least_unique}
use Rattle.cert_types.specs.Certificates.{step_of, evidence_of}
use Rattle.theory_strategy.specs.Picks.{Tight}
use Rattle.theory_strategy.specs.PickCount.{pick_count}
use Rattle.theory_rounds.specs.Rounds.{Choice, first_choice}
use Rattle.theory_rounds.specs.Made.{exact_uppers, certificate_with}
use Rattle.theory_rounds.proofs.rounds.MadeCertificate.{made_with}
use Rattle.theory_rounds.proofs.rounds.StepsMade.{steps_lead}
use Rattle.solve_raise.specs.Numbers.{fitting}
use Rattle.theory_strategy.specs.Solve.{state}
use Rattle.solve_composition.specs.Faults.{IsPathFault}
use Rattle.solve_offers.specs.declared.offer.Offer.{Offer}
use Rattle.flow_systems.specs.declared.fault.Fault.{Fault}
use Rattle.flow_systems.specs.declared.spot.Spot.{Spot}
use Rattle.flow_systems.specs.declared.fault.Fault.TheVariants.{Wide as WideStop, NoMemory as NoStop}
use Rattle.solve_rounds.specs.declared.halt.Halt.TheVariants.{Spent}
use Rattle.solve_offers.specs.declared.known.Known.{Known}
use Rattle.solve_rounds.specs.declared.solution.Solved.{Solved}
use Rattle.solve_rounds.specs.declared.solving.Progress.{Progress}
use Rattle.solve_offers.specs.AtBounds.{transformers, vector_at, IsTightPick, IsNextPick, NothingExceeds}
use Rattle.solve_offers.specs.Stops.{IsOfferStop}
use Rattle.solve_offers.specs.Improvement.{pick_of, next_pick, IsNext}
use Rattle.solve_rounds.specs.Round.{IsRoundStop, AreBoundsOf, IsRoundAt, IsLargeTurn, IsTurnOf, rounded_at}
use Rattle.solve_rounds.specs.Chains.{state_at, bounds_after, AreStepsAfter, IsChain, IsEnded}
use Rattle.solve_rounds.specs.HaltOf.{halt_of, halt_of_round}
use Rattle.solve_rounds.specs.declared.halt.RoundStop.{RoundStop}
use Rattle.solve_rounds.specs.declared.halt.RoundStop.TheVariants as round
use Rattle.solve_rounds.specs.Halts.{IsHalt}
use Rattle.solve_rounds.specs.Solutions.{IsSolved, made_certificate}
use Rattle.solve_rounds.specs.Solving.{IsBegun, IsAfter, IsAdvanced, IsFinished}
use Rattle.solve_offers.proofs.at_bounds.Ranges.{points_in_range}
use Rattle.std.proofs.lemmas.List.{length-replicate}
use Rattle.solve_rounds.proofs.chains.Listing.{nothing_picked, bounds_same}
use Rattle.solve_rounds.proofs.chains.Chained.{no_rounds, bounds_first, post_none, bounds_count, tight_after, few_after, ended_after, more}
use Rattle.solve_rounds.proofs.chains.Chained.{same_bounds, extended, pick_next, bounds_next, steps_next}

-- before the first round
pub after_none : (system : System) (policy : Offer → ℕ → Type 0) (progress : Progress) → IsBegun system progress
    → IsAfter system policy 0 progress
unfolding state
after_none system policy progress b = record {
  choose = λ k. first_choice;
  chain = no_rounds system policy;
  bounds = b.bounds ∙ sym (bounds_first system);
  size = ap (λ l. length l) b.pick ∙ length-replicate (length system.flow.points * length system.template) None;
  pick = ap (pick_of (length system.template)) b.pick ∙ nothing_picked (length system.template)
      (length system.flow.points * length system.template);
  steps = ap (map (step_of (length system.template))) b.steps;
}

-- a composition that is refused
pub fault_halt : (system : System) (policy : Offer → ℕ → Type 0) (limit : ℕ) (fault : Fault Spot) → IsPathFault (equations_of system) fault
    → IsHalt system policy limit (halt_of fault)
fault_halt system policy limit (WideStop spot) h = inl h
fault_halt system policy limit NoStop h = tt

-- where a pick was improved it is the next one
pub improved_next : (system : System) (bounds : List Ext) (policy : Offer → ℕ → Type 0) (old new : List (Option ℕ)) (improved : Bool)
    → improved ≡ true → IsNextPick system bounds policy old (next_pick improved new) → IsNextPick system bounds policy old (Some new)
improved_next system bounds policy old new improved e h = subst (λ b. IsNextPick system bounds policy old (next_pick b new)) e h

-- ---- what a round makes of the bounds and steps depends neither on the pick before nor on the transformers that are known
module _ (system : System) (old : Progress) (pick : List (Option ℕ)) (known : Known) where
  -- a round
  pub advanced_same : (better : List (Option ℕ)) (new : Progress) → IsAdvanced system better (record old { pick = pick; known = known }) new
      → IsAdvanced system better old new
  advanced_same better new h =
      record { pick = h.pick; size = h.size; bounds = h.bounds; made = h.made; round = h.round; steps = h.steps }

  -- and a solution
  pub finished_same : (made : ℕ) (solved : Solved) → IsFinished system (record old { pick = pick; known = known }) made solved
      → IsFinished system old made solved
  finished_same made solved h = record { bounds = h.bounds; improvements = h.improvements; steps = h.steps; uppers = h.uppers }

module _ (system : System) (policy : Offer → ℕ → Type 0) (made : ℕ) (progress : Progress) (a : IsAfter system policy made progress) where
  -- there are as many bounds as unknowns
  pub after_count : length progress.bounds ≡ length system.flow.points * length system.template
  after_count = ap (λ l. length l) a.bounds ∙ bounds_count system policy made a.choose a.chain

  -- the pick is tight
  pub after_tight : IsTightPick system progress.bounds progress.pick
  after_tight =
      subst₂ (λ b p. Tight (equations_of system) (transformers system) (vector_at system b) p) (sym a.bounds) (sym a.pick)
      (tight_after system policy made a.choose a.chain)

  -- an offer that is refused
  pub offer_halt : (limit number : ℕ) (stop : Fault Spot) → made ≤ limit → number ≡ made + 1
      → IsOfferStop system progress.bounds number stop → IsHalt system policy limit (halt_of stop)
  offer_halt limit number NoStop within e h = tt
  offer_halt limit number (WideStop spot) within e h =
      inr (inl (record {
        choose = a.choose;
        made = made;
        chain = a.chain;
        within = within;
        stop = subst₂ (λ b n. IsOfferStop system b n (WideStop spot)) a.bounds (let f : number ≡ suc made = omega arith in f) h;
      }))

  -- where nothing exceeds its bound there is a solution
  pub after_solved : (limit : ℕ) (solved : Solved) → NothingExceeds system progress.bounds → made ≤ limit
      → IsFinished system progress made solved → IsSolved system policy limit solved
  after_solved limit solved none within f = record {
    choose = a.choose;
    chain = subst (λ n. IsChain system policy n a.choose) (sym f.improvements) a.chain;
    ended = subst (IsEnded system a.choose) (sym f.improvements) (ended_after system policy made a.choose a.chain
        (subst (NothingExceeds system) a.bounds none));
    within = subst (λ n. n ≤ limit) (sym f.improvements) within;
    few = subst (λ n. n < pick_count (equations_of system)) (sym f.improvements) (few_after system policy made a.choose a.chain);
    bounds = f.bounds ∙ a.bounds ∙ ap (bounds_after system a.choose) (sym f.improvements);
    steps = subst₂ (λ n s. AreStepsAfter system a.choose n (map (step_of (length system.template)) s)) (sym f.improvements) (sym f.steps)
        a.steps;
    uppers = f.uppers ∙ ap (λ b. exact_uppers (equations_of system) (vector_at system b)) (sym f.bounds);
  }

  -- where something does after as many rounds as the limit, it is spent
  pub after_spent : (limit : ℕ) → limit ≡ made → (NothingExceeds system progress.bounds → ⊥)
      → IsHalt system policy limit (Spent progress.bounds)
  after_spent limit e some = record {
    choose = a.choose;
    chain = subst (λ n. IsChain system policy n a.choose) (sym e) a.chain;
    same = a.bounds ∙ ap (bounds_after system a.choose) (sym e);
    unsolved = λ post. some (post_none (equations_of system) (vector_at system progress.bounds) post);
    few = let f = few_after system policy made a.choose a.chain in omega arith;
  }

  module _ (better : List (Option ℕ)) (following : IsNextPick system progress.bounds policy progress.pick (Some better)) where
    next_one : IsNext (equations_of system) (transformers system) (vector_at system (bounds_after system a.choose made)) policy
        (state_at system a.choose made).pick (Some (pick_of (length system.template) better))
    next_one =
        subst₂ (λ b p. IsNext (equations_of system) (transformers system) (vector_at system b) policy p
        (Some (pick_of (length system.template) better))) a.bounds a.pick following

    others : ℕ → Choice
    others = more system policy made a.choose a.chain (pick_of (length system.template) better) next_one

    -- a round that is refused
    pub round_halt : (limit number : ℕ) (stop : RoundStop) → made < limit → number ≡ made + 1
        → length better ≡ length system.flow.points * length system.template →
        IsRoundStop system progress.bounds better number stop → IsHalt system policy limit (halt_of_round stop)
    unfolding others
    round_halt limit number round.NoMemory within e size h = tt
    round_halt limit number (round.Large cells) within e size (inl h) = absurd h
    round_halt limit number (round.Large cells) within e size (inr h) = record {
      choose = others;
      before = made;
      chain = extended system policy made a.choose a.chain (pick_of (length system.template) better) next_one;
      within = within;
      pick = better;
      size = size;
      is_pick = sym (pick_next system policy made a.choose a.chain (pick_of (length system.template) better) next_one);
      turn = subst (λ b. IsLargeTurn system better (IsTurnOf system b better) cells)
          (a.bounds ∙ same_bounds system policy made a.choose a.chain (pick_of (length system.template) better) next_one) h;
    }
    round_halt limit number (round.Wide spot) within e size h =
        inr (inr (record {
          choose = others;
          before = made;
          chain = extended system policy made a.choose a.chain (pick_of (length system.template) better) next_one;
          within = within;
          pick = better;
          size = size;
          is_pick = sym (pick_next system policy made a.choose a.chain (pick_of (length system.template) better) next_one);
          stop = subst₂ (λ b n. IsRoundStop system b better n (round.Wide spot))
              (a.bounds ∙ same_bounds system policy made a.choose a.chain (pick_of (length system.template) better) next_one)
              (let f : number ≡ suc made = omega arith in f) h;
        }))

    -- after the round
    after_next : (new : Progress) → length better ≡ length system.flow.points * length system.template
        → IsAdvanced system better progress new → IsAfter system policy (suc made) new
    unfolding others
    after_next new size h = record {
      choose = others;
      chain = extended system policy made a.choose a.chain (pick_of (length system.template) better) next_one;
      bounds = bounds_next system policy made a.choose a.chain (pick_of (length system.template) better) next_one new.bounds
          (h.size ∙ after_count)
          (subst (λ b. AreBoundsOf system (rounded_at system b better) new.bounds) a.bounds h.bounds);
      size = ap (λ l. length l) h.pick ∙ size;
      pick = ap (pick_of (length system.template)) h.pick ∙ sym (pick_next system policy made a.choose a.chain
          (pick_of (length system.template) better) next_one);
      steps = subst (AreStepsAfter system others (suc made)) (sym h.steps)
          (steps_next system policy made a.choose a.chain (pick_of (length system.template) better) next_one
          (map (step_of (length system.template)) progress.steps.items) h.made a.steps
          (subst (λ b. IsRoundAt system b better h.made) a.bounds h.round));
    }

    -- a round that advances leads to the progress after one round more
    pub after_round : (new : Progress) → length better ≡ length system.flow.points * length system.template
        → IsAdvanced system better progress new → IsAfter system policy (made + 1) new
    after_round new size h = subst (λ n. IsAfter system policy n new) (let e : suc made ≡ made + 1 = omega arith in e)
        (after_next new size h)

module _ (system : System) (policy : Offer → ℕ → Type 0) (limit : ℕ) (solved : Solved) (s : IsSolved system policy limit solved) where
  abbrev all : List Step
  all = map (step_of (length system.template)) solved.steps

  -- the certificate is the one of the rounds with the solution's steps
  pub solved_certificate : made_certificate system solved
      ≡ certificate_with fitting (equations_of system) s.choose solved.improvements (map (step_of (length system.template)) solved.steps)
  unfolding certificate_with bounds_vector
  solved_certificate =
      ap (λ b. record { bounds = b; steps = all; uppers = map evidence_of solved.uppers }) s.bounds
      ∙ ap (λ u. record { bounds = bounds_after system s.choose solved.improvements; steps = all; uppers = u })
      (s.uppers ∙ ap (λ b. exact_uppers (equations_of system) (vector_at system b)) s.bounds)

  -- it is valid
  pub solved_valid : ValidCertificate (equations_of system) (made_certificate system solved)
  solved_valid =
      subst (ValidCertificate (equations_of system)) (sym solved_certificate)
      (made_with fitting (equations_of system) (points_in_range system) s.choose s.chain.among solved.improvements s.chain.made all
      (steps_lead fitting (equations_of system) (points_in_range system) s.choose s.chain.among solved.improvements s.chain.made
      solved.improvements (omega arith) all s.steps) s.ended.none)

  -- and so the bounds are least
  pub solved_least : Least (equations_of system) (vector_at system solved.bounds)
  unfolding bounds_vector
  solved_least = certificate_least (equations_of system) (made_certificate system solved) (points_in_range system) solved_valid

-- two solutions have the same bounds
pub solved_same : (system : System) (policy other : Offer → ℕ → Type 0) (limit least : ℕ) (solved again : Solved)
    → IsSolved system policy limit solved → IsSolved system other least again → solved.bounds ≡ again.bounds
solved_same system policy other limit least solved again s t =
    let points = length system.flow.points in
    let rows = length system.template in
    let first = solved_valid system policy limit solved s in
    let second = solved_valid system other least again t in
    sym ((listed_law points rows).list solved.bounds first.size)
    ∙ sym (bounds_same points rows (bounds_of points rows (vector_of rows again.bounds)) (vector_of rows solved.bounds)
    ((listed_law points rows).count (vector_of rows again.bounds))
    (λ p r h l. (listed_law points rows).vector (vector_of rows again.bounds) p r h l
    ∙ least_unique (equations_of system) (vector_at system again.bounds) (vector_at system solved.bounds)
    (solved_least system other least again t) (solved_least system policy limit solved s) p r h l))
    ∙ (listed_law points rows).list again.bounds second.size
