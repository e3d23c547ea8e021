-- By a policy that always chooses there is a chain of improvements, which ends; so within a limit it ends, or goes on after as many.
use Rattle.std.proofs.Common.{◌≡◌, ◌∙◌, ◌⊎◌, inl, inr, ⊎_elim, Bool, ℕ, zero, suc, ◌<◌, ◌≤◌, length, refl, sym, ap, subst, arith}
use Rattle.std.specs.Prelude.{Some, None, slice_get}
use Rattle.std.proofs.lemmas.Bool.{cases_lt}
use Rattle.base_facts.specs.Elements.{In}
use Rattle.base_numbers.specs.Rational.{ℚ}
use Rattle.flow_systems.specs.Equations.{Equations, Vector}
use Rattle.theory_chains.specs.Offers.{Offer, Exceeds, SomeExceeds}
use Rattle.theory_chains.specs.Chains.{GoesOnAfter}
use Rattle.theory_chains.specs.Laws.{AnswersOne}
use Rattle.theory_chains.proofs.transformers.OneOffer.{some_or_none}
use Rattle.theory_chains.proofs.chains.OneChain.{determined}
use Rattle.theory_validity.specs.Steps.{start_vector}
use Rattle.theory_validity.specs.Certificates.{PointsInRange}
use Rattle.theory_transformers.specs.EdgeProblems.{transformer}
use Rattle.theory_strategy.specs.Solve.{State, next, state}
use Rattle.theory_rounds.specs.Evidence.{exact_evidence}
use Rattle.theory_rounds.specs.JointItems.{exact_joint}
use Rattle.theory_rounds.specs.Cut.{exact_cut}
use Rattle.theory_rounds.specs.Rounds.{Choice, TakesOne, exact_next, exact_state}
use Rattle.theory_rounds.specs.ChainLaws.{Follows, EndsWithin, IsDecided}
use Rattle.theory_rounds.proofs.rounds.Clamped.{clamp, clamp_among, clamp_is}
use Rattle.theory_rounds.proofs.rounds.ExactEnd.{rounds_end}
use Rattle.theory_rounds.proofs.rounds.Meant.{exact_offer, offer_meant, exceeds_offered, something_exceeds}
use Rattle.theory_rounds.proofs.rounds.Linked.{improvement_meant}

-- a policy answers a position that exceeds, of each offer where there is one
abbrev pub Chooses : (Offer → ℕ → Type 0) → Type 0
Chooses policy = (offer : Offer) → SomeExceeds offer → (j : ℕ) × policy offer j × Exceeds offer j

module _ (policy : Offer → ℕ → Type 0) (chooses : Chooses policy) (fitting : ℚ → Bool) (system : Equations) where
  -- the edge that the policy takes at a vector, where something exceeds
  edge_taken : (z : Vector) (p r : ℕ) → length system.template ≤ r ⊎ r < length system.template
      → SomeExceeds (exact_offer system z p r) ⊎ (SomeExceeds (exact_offer system z p r) → ⊥) → ℕ → ℕ
  edge_taken z p r (inr l) (inl s) k = (exceeds_offered system z p r l (chooses (exact_offer system z p r) s).0
      (chooses (exact_offer system z p r) s).2).0
  edge_taken z p r (inr l) (inr none) k = k
  edge_taken z p r (inl past) o k = k

  row_or_past : (r : ℕ) → length system.template ≤ r ⊎ r < length system.template
  row_or_past r = ⊎_elim (λ l. inr l) (λ l. inl l) (cases_lt r (length system.template))

  choice_at : Vector → Choice
  choice_at z p r k ks = clamp (edge_taken z p r (row_or_past r) (some_or_none (exact_offer system z p r)) k) k ks

  choice_takes : (z : Vector) → TakesOne (choice_at z)
  unfolding choice_at
  choice_takes z p r k ks = clamp_among (edge_taken z p r (row_or_past r) (some_or_none (exact_offer system z p r)) k) k ks

  choice_follows : (z : Vector) → Follows policy system z (choice_at z)
  unfolding choice_at edge_taken
  choice_follows z p r k ks l e = by (row_or_past r) (some_or_none (exact_offer system z p r))
    where
      by : (b : length system.template ≤ r ⊎ r < length system.template)
          → (o : SomeExceeds (exact_offer system z p r) ⊎ (SomeExceeds (exact_offer system z p r) → ⊥)) →
          (offer : Offer) × Rattle.theory_chains.specs.Offers.IsOffer system z p r offer
          × ((j : ℕ) × policy offer j × Exceeds offer j × (slice_get offer.edges j ≡ Some (clamp (edge_taken z p r b o k) k ks)))
      by (inl past) o = absurd (omega arith)
      by (inr m) (inr none) = absurd (none (something_exceeds system z p r k ks e))
      by (inr m) (inl s) =
          let c = chooses (exact_offer system z p r) s in
          let f = exceeds_offered system z p r m c.0 c.2 in (
            exact_offer system z p r,
            offer_meant system z p r l,
            (
              c.0,
              c.1,
              c.2,
              f.1 ∙ ap Some (sym (clamp_is f.0 k ks (subst (λ os. In os f.0) e f.2))),
            ),
          )

  -- the states of rounds by these choices
  step : Choice → State → State
  step choose s = next fitting system (transformer system) (exact_evidence system) (exact_joint system) (exact_cut fitting system)
      (exact_next system choose s.vector s.pick) s

  states : ℕ → State
  states zero = record { vector = start_vector; pick = λ p r. None }
  states (suc k) = step (choice_at (states k).vector) (states k)

  choose : ℕ → Choice
  choose k = choice_at (states k).vector

  abbrev now : ℕ → State
  now k = exact_state fitting system choose k

  states_are : (k : ℕ) → now k ≡ states k
  unfolding state states step choose
  states_are zero = refl
  states_are (suc k) = ap (step (choice_at (states k).vector)) (states_are k)

  takes : (k : ℕ) → TakesOne (choose k)
  unfolding choose
  takes k = choice_takes (states k).vector

  follows : (k : ℕ) → Follows policy system (now k).vector (choose k)
  unfolding choose
  follows k = subst (λ (s : State). Follows policy system s.vector (choice_at (states k).vector)) (sym (states_are k))
      (choice_follows (states k).vector)

  module _ (range : PointsInRange system) where
    one_of : (limit : ℕ) → EndsWithin policy system limit ⊎ GoesOnAfter system policy limit
    one_of limit =
        let e = rounds_end fitting system range choose takes in
        ⊎_elim
        (λ l. inr ((improvement_meant policy fitting system range choose takes limit (λ k h. e.before k (omega arith))
        (λ k h. follows k)).goes_on (e.before limit l)))
        (λ l. inl (record {
          improvements = e.rounds;
          within = l;
          few = e.within;
          vector = (now e.rounds).vector;
          ends = (improvement_meant policy fitting system range choose takes e.rounds e.before (λ k h. follows k)).ends e.none;
        }))
        (cases_lt limit e.rounds)

    -- exactly one of both
    pub decided : AnswersOne policy → (limit : ℕ) → IsDecided policy system limit
    decided one limit = record {
      one = one_of limit;
      not_both = λ e g. let l = (determined policy one).above system limit e.improvements e.vector g e.ends in let m = e.within in
          absurd (omega arith);
    }
