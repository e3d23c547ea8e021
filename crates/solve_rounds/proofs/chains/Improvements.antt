-- Choices that a policy of the code allows follow what it means, so its rounds are improvements.
use Rattle.std.proofs.Common.{◌≡◌, ◌∙◌, ℕ, zero, suc, ◌<◌, eqb, Bool, true, false, List, [], ◌∷◌, length, get_or, refl, sym, ap, subst}
use Rattle.std.proofs.Common.{subst₂, arith, if◌then◌else◌}
use Rattle.std.specs.Prelude.{Option, Some, None}
use Rattle.std.proofs.lemmas.Option.{slice_get-get_or}
use Rattle.base_numbers.proofs.extended.ExtendedLaws.{ext_lt_of_lt_of_le}
use Rattle.base_numbers.specs.Extended.{Ext as Extended, neg_inf, fin, pos_inf, ◌≤ᴱ◌, ◌<ᴱ◌}
use Rattle.base_fractions.specs.Extended.{extended}
use Rattle.flow_edges.specs.declared.edge.Edge.{Edge}
use Rattle.flow_systems.specs.Equations.{Equations, Vector, PostSolution}
use Rattle.flow_systems.specs.View.{equations_of, vector_at}
use Rattle.flow_systems.specs.declared.system.System.{System}
use Rattle.theory_chains.specs.Offers.{Offer, Exceeds, SomeExceeds, Best, First, numbers_into}
use Rattle.theory_chains.specs.Chains.{EndsAfter, GoesOnAfter}
use Rattle.theory_transformers.specs.EdgeProblems.{transformer}
use Rattle.theory_strategy.specs.Picks.{Pick}
use Rattle.theory_rounds.specs.Rounds.{Choice, exact_next}
use Rattle.theory_rounds.specs.ChainLaws.{Follows, IsImprovement}
use Rattle.theory_rounds.proofs.rounds.ExactChain.{state_ends, state_least}
use Rattle.theory_rounds.proofs.rounds.Meant.{exact_offer, offer_meant, something_exceeds}
use Rattle.theory_rounds.proofs.rounds.Retraced.{least_agrees}
use Rattle.theory_rounds.proofs.rounds.Linked.{improvement_meant, end_meant}
use Rattle.solve_raise.specs.Numbers.{fitting}
use Rattle.solve_offers.specs.declared.offer.Offer.{Offer as CodeOffer}
use Rattle.solve_offers.specs.Improvement.{IsChoice, numbers_into as code_numbers}
use Rattle.solve_offers.specs.Policies.{by_best, by_first}
use Rattle.solve_offers.proofs.at_bounds.Ranges.{points_in_range}
use Rattle.solve_rounds.specs.declared.solution.Solved.{Solved}
use Rattle.solve_rounds.specs.Chains.{state_at, bounds_after, IsChain, IsEnded}
use Rattle.solve_rounds.specs.Halts.{IsSpent}
use Rattle.solve_rounds.specs.Solutions.{IsSolved}
use Rattle.solve_rounds.proofs.chains.Chained.{bounds_agree}

numbers_same : (p k : ℕ) (edges : List Edge) → code_numbers p k edges ≡ numbers_into p k edges
unfolding code_numbers
numbers_same p k [] = refl
numbers_same p k (edge ∷ edges) = by (eqb edge.to p) (numbers_same p (suc k) edges)
  where
    by : (b : Bool) → code_numbers p (suc k) edges ≡ numbers_into p (suc k) edges →
        (if b then k ∷ code_numbers p (suc k) edges else code_numbers p (suc k) edges)
        ≡ (if b then k ∷ numbers_into p (suc k) edges else numbers_into p (suc k) edges)
    by true e = ap (λ xs. k ∷ xs) e
    by false e = e

-- a position is one that a policy of the code answers of an offer, and so one that its meaning does, whose value exceeds
pub Means : (CodeOffer → ℕ → Type 0) → (Offer → ℕ → Type 0) → Type 0
Means policy meaning = (code : CodeOffer) (offer : Offer) → extended code.bound ≡ offer.bound → code.values ≡ offer.values → (j : ℕ)
    → policy code j → SomeExceeds offer →
    meaning offer j × Exceeds offer j × (j < length offer.values)

nothing_below : (x : Extended) → x <ᴱ neg_inf → ⊥
nothing_below neg_inf h = h
nothing_below (fin c) h = h
nothing_below pos_inf h = h

-- what exceeds stands within the values
exceeds_within : (bound : Extended) (values : List Extended) (j : ℕ) → bound <ᴱ get_or values j neg_inf → j < length values
exceeds_within bound [] j h = absurd (nothing_below bound h)
exceeds_within bound (x ∷ xs) zero h = omega arith
exceeds_within bound (x ∷ xs) (suc j) h = let l = exceeds_within bound xs j h in omega arith

-- the policy of the best offer means to choose a best edge
pub best_means : Means by_best Best
unfolding Means
best_means code offer bound values j h s =
    let g = subst (λ vs. Rattle.solve_offers.specs.Offers.IsFirstGreatest vs j) values h in (
      record { within = g.within; greatest = g.greatest; first = g.first },
      ext_lt_of_lt_of_le offer.bound (get_or offer.values s.0 neg_inf) (get_or offer.values j neg_inf) s.1 (g.greatest s.0),
      g.within,
    )

-- the policy of the first offer means to choose the first offered edge
pub first_means : Means by_first First
unfolding Means
first_means code offer bound values j h s =
    let e : Exceeds offer j = subst₂ (λ b vs. b <ᴱ get_or vs j neg_inf) bound values h.exceeds in (
      record { exceeds = e; first = λ i l. subst₂ (λ b vs. get_or vs i neg_inf ≤ᴱ b) bound values (h.first i l) },
      e,
      exceeds_within offer.bound offer.values j e,
    )

module _ (policy : CodeOffer → ℕ → Type 0) (meaning : Offer → ℕ → Type 0) (means : Means policy meaning) where
  choice_follows : (system : Equations) (z : Vector) (choose : Choice) → IsChoice system (transformer system) z policy choose
      → Follows meaning system z choose
  unfolding Means exact_offer
  choice_follows system z choose h p r k ks l e =
      let c = h.chosen p r k ks e in
      let offer = exact_offer system z p r in
      let edges : c.offer.edges ≡ offer.edges = c.is_offer.edges ∙ numbers_same p 0 system.edges in
      let m = means c.offer offer c.is_offer.bound c.is_offer.values c.position c.answers (something_exceeds system z p r k ks e) in
      let is = offer_meant system z p r l in (
        offer,
        is,
        (
          c.position,
          m.0,
          m.1,
          slice_get-get_or offer.edges c.position 0 (subst (λ n. c.position < n) is.count m.2)
              ∙ ap (λ es. Some (get_or es c.position 0)) (sym edges) ∙ ap Some (sym c.is_edge),
        ),
      )

  module _ (system : System) (n : ℕ) (choose : ℕ → Choice) (chain : IsChain system policy n choose) where
    improves : IsImprovement meaning fitting (equations_of system) choose n
    improves = improvement_meant meaning fitting (equations_of system) (points_in_range system) choose chain.among n chain.made
        (λ k l. choice_follows (equations_of system) (state_at system choose k).vector (choose k) (chain.chosen k l))

    ends : IsEnded system choose n → EndsAfter (equations_of system) meaning n (vector_at system (bounds_after system choose n))
    ends ended = record {
      vectors = λ k. (state_at system choose k).vector;
      picks = λ k. (state_at system choose k).pick;
      chain = improves.chain;
      ended = end_meant (equations_of system) (state_at system choose n).vector ended.none;
      same = λ p r h l. bounds_agree system policy n choose chain p r l;
    }

    goes_on : (PostSolution (equations_of system) (vector_at system (bounds_after system choose n)) → ⊥)
        → GoesOnAfter (equations_of system) meaning n
    goes_on unsolved = by (exact_next (equations_of system) (choose n) (state_at system choose n).vector (state_at system choose n).pick)
        refl
      where
        by : (o : Option Pick) → exact_next (equations_of system) (choose n) (state_at system choose n).vector
            (state_at system choose n).pick ≡ o → GoesOnAfter (equations_of system) meaning n
        by (Some better) e = improves.goes_on (better, e)
        by None e =
            let range = points_in_range system in
            absurd (unsolved (least_agrees (equations_of system) (state_at system choose n).vector
            (vector_at system (bounds_after system choose n)) (λ p r l. sym (bounds_agree system policy n choose chain p r l))
            (state_least fitting (equations_of system) range choose chain.among n chain.made
            (state_ends fitting (equations_of system) range choose chain.among n chain.made e))).solves.post)

  -- the improvements of solved rounds end with their least vector
  pub solved_law : (system : System) (limit : ℕ) (solved : Solved) → IsSolved system policy limit solved
      → EndsAfter (equations_of system) meaning solved.improvements (vector_at system solved.bounds)
  solved_law system limit solved s =
      subst (λ bs. EndsAfter (equations_of system) meaning solved.improvements (vector_at system bs)) (sym s.bounds)
      (ends system solved.improvements s.choose s.chain s.ended)

  -- where rounds spend their limit, the improvements go on after it
  pub spent_law : (system : System) (limit : ℕ) (bounds : List Extended) → IsSpent system policy limit bounds
      → GoesOnAfter (equations_of system) meaning limit
  spent_law system limit bounds s = goes_on system limit s.choose s.chain
      (λ post. s.unsolved (subst (λ bs. PostSolution (equations_of system) (vector_at system bs)) (sym s.same) post))
