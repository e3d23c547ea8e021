-- The chain of rounds with any policy: tight picks, rising vectors at most every post-solution, and the least solution at its end.
use Rattle.std.proofs.Common.{◌≡◌, ◌∙◌, ℕ, zero, suc, ◌<◌, ◌≤◌, List, [], ◌++◌, refl, sym, ap, subst, arith}
use Rattle.std.specs.Prelude.{ℤ, None, Some, slice_get, Contains}
use Rattle.std.proofs.lemmas.Option.{none-some}
use Rattle.base_numbers.specs.Extended.{neg_inf, fin, pos_inf, ◌≤ᴱ◌}
use Rattle.base_numbers.proofs.extended.ExtendedLaws.{≤ᴱ_trans}
use Rattle.flow_edges.specs.declared.edge.Edge.{Edge}
use Rattle.flow_systems.specs.Equations.{Equations, Vector, PostSolution, Least}
use Rattle.theory_validity.specs.Steps.{Below, Item, Step, end_value, start_vector}
use Rattle.theory_validity.specs.Certificates.{ValidSteps, after_steps}
use Rattle.theory_validity.proofs.steps.CertificateLaw.{upper_of_post, post_of_uppers}
use Rattle.theory_validity.proofs.words.TransformerLaw.{reach_upper, reach_least}
use Rattle.theory_validity.proofs.steps.LeastOfBelow.{least_of_below}
use Rattle.theory_strategy.specs.Picks.{Pick, Transformer, Picks, IsPick, Supported, Tight, Improves}
use Rattle.theory_strategy.specs.RoundFacts.{RoundFacts}
use Rattle.theory_strategy.specs.PickCount.{pick_count}
use Rattle.theory_strategy.specs.Growth.{Evident}
use Rattle.theory_strategy.proofs.picks.Picks.{improve_supported, above_post}
use Rattle.theory_strategy.specs.Rounds.{Rounds}
use Rattle.theory_strategy.proofs.round.FewRounds.{rounds_fewer}
use Rattle.theory_strategy.proofs.growth.GrowthLaw.{led-append}
use Rattle.theory_strategy.proofs.growth.Grown.{Grown}
use Rattle.theory_strategy.proofs.round.CutLaw.{valid_append}
use Rattle.theory_strategy.proofs.round.RoundLaw.{RoundDone}
use Rattle.theory_strategy.proofs.round.RoundGives.{Improved, round_facts}

-- n rounds from the start vector: pick k + 1 improves pick k at vector k, in one unknown at least, and the round by it leads to vector k +
-- 1
pub record Chain (system : Equations) (T : Transformer) (n : ℕ) (d z : ℕ → Vector) (pick : ℕ → Pick) (grown steps : ℕ → List Step) :
    Type 0 where
  -- the first vector is the start vector
  pub start : d 0 ≡ start_vector
  -- the first pick is empty
  pub empty : (p r : ℕ) → pick 0 p r ≡ None
  -- each later pick is a pick of the system
  pub is_pick : (k : ℕ) → k < n → IsPick system (pick (suc k))
  -- each pick improves the one before
  pub improves : (k : ℕ) → k < n → Improves system T (d k) (pick k) (pick (suc k))
  -- each pick improves on it in one unknown at least
  pub improved : (k : ℕ) → k < n → Improved system T (d k) (pick (suc k))
  -- each round begins with the growth of its pick
  pub growth : (k : ℕ) → k < n → Grown system T (d k) (pick (suc k)) (grown k) (z k)
  -- each round leads to the next vector
  pub round : (k : ℕ) → k < n → RoundDone system T (d k) (z k) (pick (suc k)) (grown k) (steps k) (d (suc k))

-- the steps of the first k rounds, in order
unfoldable pub all_steps : (ℕ → List Step) → ℕ → List Step
all_steps steps zero = []
all_steps steps (suc k) = all_steps steps k ++ steps k

-- no edge's transformer exceeds the bound at its end
abbrev pub NoneExceeds : Equations → Transformer → Vector → Type 0
NoneExceeds system T d = (edge : Edge) (r : ℕ) (row : List ℤ) → Contains system.edges edge → slice_get system.template r ≡ Some row
    → T d edge row ≤ᴱ d edge.to r

-- outside the entry the start vector is -∞
pub start_later : (p r : ℕ) → 0 < p → start_vector p r ≡ neg_inf
unfolding start_vector
start_later zero r h = absurd (omega arith)
start_later (suc p) r h = refl

start_entry : (r : ℕ) → start_vector 0 r ≡ pos_inf
unfolding start_vector
start_entry r = refl

start_below : (system : Equations) (q : Vector) → PostSolution system q → Below system start_vector q
unfolding start_vector
start_below system q post zero r l = subst (λ v. pos_inf ≤ᴱ v) (sym (post.entry r l)) tt
start_below system q post (suc p) r l = tt

module _ (system : Equations) (T : Transformer) (reaches : Evident system T) (n : ℕ) (d z : ℕ → Vector) (pick : ℕ → Pick)
    (grown steps : ℕ → List Step) (chain : Chain system T n d z pick grown steps) where
  none_picked : (u : Item) → Picks (pick 0) u → ⊥
  none_picked u h = none-some u.edge (sym (chain.empty u.point u.row) ∙ h)

  -- each pick is tight at its vector
  chain_tight : (k : ℕ) → k ≤ n → Tight system T (d k) (pick k)
  chain_tight zero h = record {
    supported = record {
      is_pick = λ u p. absurd (none_picked u p);
      entry = λ r l. ap (λ v. v 0 r) chain.start ∙ start_entry r;
      unpicked = λ p r later l e. ap (λ v. v p r) chain.start ∙ start_later p r later;
      above = λ u p. absurd (none_picked u p);
      rises = λ u p. absurd (none_picked u p);
    };
    same = λ u p. absurd (none_picked u p);
  }
  chain_tight (suc k) h = (chain.round k (omega arith)).tight

  -- the next pick is supported at the vector
  pub chain_supported : (k : ℕ) → k < n → Supported system T (d k) (pick (suc k))
  chain_supported k h = improve_supported system T reaches (d k) (pick k) (pick (suc k)) (chain_tight k (omega arith)) (chain.is_pick k h)
      (chain.improves k h)

  -- each vector is at least the one before
  pub chain_up : (k : ℕ) → k < n → Below system (d k) (d (suc k))
  chain_up k h = (chain.round k h).above.over

  -- the facts of each round; a bound rises where the pick changes, so one at least
  chain_facts : (k : ℕ) → k < n → RoundFacts system (d k) (z k) (d (suc k)) (pick k) (pick (suc k)) (steps k)
  chain_facts k h = round_facts system T reaches (d k) (z k) (d (suc k)) (pick k) (pick (suc k)) (grown k) (steps k) (chain.is_pick k h)
      (chain.growth k h) (chain.round k h) (chain.improves k h) (chain.improved k h)

  -- each vector is at most every post-solution
  pub chain_below : (k : ℕ) → k ≤ n → (q : Vector) → PostSolution system q → Below system (d k) q
  chain_below zero h q post = λ p r l. subst (λ v. v ≤ᴱ q p r) (sym (ap (λ v. v p r) chain.start)) (start_below system q post p r l)
  chain_below (suc k) h q post = above_post system T reaches (d k) (d (suc k)) q (pick (suc k)) (chain.is_pick k (omega arith))
      (chain.round k (omega arith)).above post (chain_below k (omega arith) q post)

  -- where no transformer exceeds its bound, the vector is least
  pub chain_end_least : NoneExceeds system T (d n) → Least system (d n)
  chain_end_least none =
      least_of_below system T reaches (d n)
      (post_of_uppers system (d n) (chain_tight n (omega arith)).supported.entry
      (λ edge r row listed e w runs. ≤ᴱ_trans (fin (end_value system edge row w)) (T (d n) edge row) (d n edge.to r)
      (reach_upper system (d n) edge row (T (d n) edge row) (reaches (d n) edge row) w runs) (none edge r row listed e)))
      (λ q post. chain_below n (omega arith) q post)

  -- and where a vector of the chain is a post-solution, none does
  pub chain_post : (k : ℕ) → PostSolution system (d k) → NoneExceeds system T (d k)
  chain_post k post edge r row listed e = reach_least system (d k) edge row (T (d k) edge row) (d k edge.to r) (reaches (d k) edge row)
      (upper_of_post system (d k) edge r row post listed e)

  -- the chain as rounds with their facts
  pub chain_rounds : Rounds system T n d z pick steps
  chain_rounds = record {
    start = λ p r later. ap (λ v. v p r) chain.start ∙ start_later p r later;
    tight = chain_tight;
    facts =
        chain_facts;
  }

  -- there are fewer rounds than picks
  pub chain_short : n < pick_count system
  chain_short = rounds_fewer system T reaches n d z pick steps chain_rounds

  -- the steps of all rounds are valid one after the other and lead from the start vector to the last vector
  pub chain_steps : (k : ℕ) → k ≤ n → ValidSteps system start_vector (all_steps steps k)
      × (after_steps (all_steps steps k) start_vector ≡ d k)
  unfolding all_steps after_steps
  chain_steps zero h = (tt, sym chain.start)
  chain_steps (suc k) h =
      let before = chain_steps k (omega arith) in
      let r = chain.round k (omega arith) in (
        valid_append system (all_steps steps k) (steps k) start_vector before.0
            (subst (λ v. ValidSteps system v (steps k)) (sym before.1) r.valid),
        led-append (all_steps steps k) (steps k) start_vector ∙ ap (after_steps (steps k)) before.1 ∙ r.leads,
      )
