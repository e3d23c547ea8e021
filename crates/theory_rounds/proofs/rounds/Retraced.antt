-- Every chain of improvements is one of exact rounds by some choices, so that no pick comes twice in it, and it ends at the least vector.
use Rattle.std.proofs.Common.{◌≡◌, ◌∙◌, ⊎_elim, Bool, false, ℕ, zero, suc, ◌<◌, ◌≤◌, List, [], ◌∷◌, length, refl, sym, ap, subst, arith}
use Rattle.std.specs.Prelude.{ℤ, Option, Some, None, slice_get}
use Rattle.std.proofs.lemmas.Bool.{cases_lt}
use Rattle.std.proofs.lemmas.Option.{slice_get_within}
use Rattle.base_facts.specs.Elements.{In}
use Rattle.base_numbers.specs.Rational.{ℚ}
use Rattle.base_numbers.specs.Extended.{Ext, fin, ◌≤ᴱ◌, ◌<ᴱ◌}
use Rattle.flow_edges.specs.declared.edge.Edge.{Edge}
use Rattle.flow_systems.specs.States.{RationalState, dotℚ}
use Rattle.flow_systems.specs.Equations.{Equations, Vector, Fits, Transition, Exceeds as ExceedsBy, Least}
use Rattle.theory_chains.specs.Offers.{Offer, Exceeds, SomeExceeds}
use Rattle.theory_chains.specs.Chains.{Pick, IsNextEdge, IsEnd, IsChain}
use Rattle.theory_chains.proofs.transformers.OneOffer.{Agree, agree_sym, transition_agrees, offer_agrees, offer_one}
use Rattle.theory_chains.proofs.chains.OneChain.{next_agrees, ended_or_not}
use Rattle.theory_validity.specs.Steps.{start_vector}
use Rattle.theory_validity.specs.Certificates.{PointsInRange}
use Rattle.theory_transformers.specs.EdgeProblems.{transformer}
use Rattle.theory_strategy.specs.Picks.{choice}
use Rattle.theory_strategy.specs.Policy.{offers, taken, changed_pick}
use Rattle.theory_strategy.specs.Solve.{State, state}
use Rattle.theory_rounds.specs.Rounds.{Choice, TakesOne, Goes, exact_next, exact_state}
use Rattle.theory_rounds.specs.ChainLaws.{IsShort, ChainsAreShort, EndsAreLeast}
use Rattle.theory_rounds.proofs.rounds.Clamped.{clamp, clamp_among, clamp_is}
use Rattle.theory_rounds.proofs.rounds.ExactChain.{round_made, state_tight, state_few, state_twice, state_ends, state_least}
use Rattle.theory_rounds.proofs.rounds.Meant.{exact_offer, offer_meant, exceeds_offered, nothing_exceeds, something_exceeds}
use Rattle.theory_rounds.proofs.rounds.Linked.{next_changed, above_meant, end_meant, goes_exceeded}

edge_or : ℕ → Option ℕ → ℕ
edge_or k None = k
edge_or k (Some e) = e

-- a vector that agrees with the least one is least
pub least_agrees : (system : Equations) (v w : Vector) → Agree system v w → Least system v → Least system w
least_agrees system v w h l = record {
  solves = record { post = record { entry = λ r m. sym (h 0 r m) ∙ l.solves.post.entry r m; closed = closed }; supported = supported };
  below = λ q post p r i m. subst (λ b. b ≤ᴱ q p r) (h p r m) (l.below q post p r i m);
}
  where
    closed : (edge : Edge) (x y : RationalState) → Transition system w edge x y → Fits system w edge.to y
    closed edge x y t r row e =
        subst (λ b. fin (dotℚ row y) ≤ᴱ b) (h edge.to r (slice_get_within system.template r row e))
        (l.solves.post.closed edge x y (transition_agrees system w v edge x y (agree_sym system v w h) t) r row e)

    supported : (p r : ℕ) (row : List ℤ) (number : Ext) → 0 < p → p < system.points → slice_get system.template r ≡ Some row
        → number <ᴱ w p r → ExceedsBy system w p row number
    supported p r row number later within e g =
        let x = l.solves.supported p r row number later within e (subst (λ b. number <ᴱ b)
        (sym (h p r (slice_get_within system.template r row e))) g) in
        record {
          edge = x.edge;
          before = x.before;
          after = x.after;
          into = x.into;
          transition =
              transition_agrees system v w x.edge x.before x.after h x.transition;
          exceeds = x.exceeds;
        }

module _ (fitting : ℚ → Bool) (system : Equations) (range : PointsInRange system) (policy : Offer → ℕ → Type 0) (n : ℕ)
    (vectors : ℕ → Vector) (picks : ℕ → Pick)
    (chain : IsChain system policy n vectors picks) where
  -- the choices of the chain's picks
  choose : ℕ → Choice
  choose j p r k ks = clamp (edge_or k (picks (suc j) p r)) k ks

  among : (j : ℕ) → TakesOne (choose j)
  unfolding choose
  among j p r k ks = clamp_among (edge_or k (picks (suc j) p r)) k ks

  abbrev now : ℕ → State
  now k = exact_state fitting system choose k

  -- after k rounds that are made they are at the chain's vector by its pick
  record IsAt (k : ℕ) : Type 0 where
    goes : (j : ℕ) → j < k → Goes system (choose j) (now j)
    vector : Agree system (now k).vector (vectors k)
    pick : (p r : ℕ) → r < length system.template → (now k).pick p r ≡ picks k p r

  -- the changed pick is the chain's next one
  changed_is : (k : ℕ) → k < n → IsAt k → (p r : ℕ) → r < length system.template →
      changed_pick system (transformer system) (now k).vector (choose k) (now k).pick p r ≡ picks (suc k) p r
  unfolding changed_pick taken choose edge_or
  changed_is k l at p r m = by (offers system (transformer system) (now k).vector p r) refl
    where
      edge : IsNextEdge system policy (vectors k) p r (picks k p r) (picks (suc k) p r)
      edge = chain.next_pick k l p r m

      same : edge.offer ≡ exact_offer system (now k).vector p r
      same = offer_one system (vectors k) p r edge.offer (exact_offer system (now k).vector p r) edge.is_offer
          (offer_agrees system (now k).vector (vectors k) p r (exact_offer system (now k).vector p r) at.vector m
          (offer_meant system (now k).vector p r m))

      by : (os : List ℕ) → offers system (transformer system) (now k).vector p r ≡ os
          → taken system (transformer system) (now k).vector (choose k p r) os ((now k).pick p r) ≡ picks (suc k) p r
      by [] e = at.pick p r m ∙ sym (edge.kept (λ s. nothing_exceeds system (now k).vector p r e m (subst SomeExceeds same s)))
      by (o ∷ os) e =
          let t = edge.taken (subst SomeExceeds (sym same) (something_exceeds system (now k).vector p r o os e)) in
          let f = exceeds_offered system (now k).vector p r m t.0 (subst (λ x. Exceeds x t.0) same t.2) in
          let is : picks (suc k) p r ≡ Some f.0 = t.3 ∙ ap (λ (x : Offer). slice_get x.edges t.0) same ∙ f.1 in
          ap (λ x. Some (clamp (edge_or o x) o os)) is ∙ ap Some (clamp_is f.0 o os (subst (λ xs. In xs f.0) e f.2)) ∙ sym is

  -- the choices find something that exceeds
  goes_at : (k : ℕ) → k < n → IsAt k → Goes system (choose k) (now k)
  goes_at k l at = by (exact_next system (choose k) (now k).vector (now k).pick) refl
    where
      by : (o : Option Pick) → exact_next system (choose k) (now k).vector (now k).pick ≡ o → Goes system (choose k) (now k)
      by (Some better) e = (better, e)
      by None e = absurd (ended_or_not system (now k).vector (vectors k) at.vector
          (end_meant system (now k).vector (state_ends fitting system range choose among k at.goes e)) (chain.goes k l))

  joined : (k : ℕ) → ((j : ℕ) → j < k → Goes system (choose j) (now j)) → Goes system (choose k) (now k) → (j : ℕ) → j < suc k
      → Goes system (choose j) (now j)
  joined k goes g j l = ⊎_elim (λ h. goes j h) (λ h. subst (λ i. Goes system (choose i) (now i)) (let e : k ≡ j = omega arith in e) g)
      (cases_lt j k)

  at_chain : (k : ℕ) → k ≤ n → IsAt k
  unfolding state start_vector
  at_chain zero h = record { goes = λ j l. absurd (omega arith); vector = start; pick = λ p r l. sym (chain.unpicked p r l) }
    where
      start : Agree system start_vector (vectors 0)
      start zero r l = sym (chain.entry r l)
      start (suc p) r l = sym (chain.others (suc p) r (omega arith) l)
  at_chain (suc k) h = advanced k (omega arith) (at_chain k (omega arith))
    where
      advanced : (k : ℕ) → k < n → IsAt k → IsAt (suc k)
      advanced k l at =
          let g = goes_at k l at in
          let goes = joined k at.goes g in
          let made = round_made fitting system range choose among (suc k) goes k (omega arith) in
          let pick : (p r : ℕ) → r < length system.template → (now (suc k)).pick p r ≡ picks (suc k) p r = λ p r m.
          ap (λ (x : Pick). x p r) (next_changed fitting system choose k g.0 g.1) ∙ changed_is k l at p r m in
          record {
            goes = goes;
            vector = next_agrees system (now k).vector (vectors k) (now (suc k)).pick (picks (suc k)) (now (suc k)).vector (vectors (suc k))
                at.vector pick
                (above_meant system (now (suc k)).pick made.supported.is_pick (now k).vector (now (suc k)).vector made.done.above)
                (chain.next_vector k l);
            pick = pick;
          }

  -- a pick has no edge beyond the rows of the template
  beyond : (k : ℕ) → k ≤ n → (p r : ℕ) → length system.template ≤ r → (now k).pick p r ≡ None
  unfolding choice
  beyond k h p r l = by ((now k).pick p r) refl
    where
      by : (o : Option ℕ) → (now k).pick p r ≡ o → (now k).pick p r ≡ None
      by None e = e
      by (Some e) f =
          let tight = state_tight fitting system range choose among k (at_chain k h).goes in
          absurd (let w = (tight.supported.is_pick (choice p r e) f).row_within in omega arith)

  -- no pick comes twice, and there are fewer improvements than picks
  pub chain_short : IsShort policy system n vectors picks
  chain_short = record {
    once = λ i j h l same. state_twice fitting system range choose among n (at_chain n (omega arith)).goes i j h l (λ p r. ⊎_elim
        (λ m. (at_chain i (omega arith)).pick p r m ∙ same p r m ∙ sym ((at_chain j l).pick p r m))
        (λ m. beyond i (omega arith) p r m ∙ sym (beyond j l p r m))
        (cases_lt r (length system.template)));
    few = state_few fitting system range choose among n (at_chain n (omega arith)).goes;
  }

  -- where the chain ends, the vector is least
  chain_least : IsEnd system (vectors n) → Least system (vectors n)
  chain_least ended = by (exact_next system (choose n) (now n).vector (now n).pick) refl
    where
      at : IsAt n
      at = at_chain n (omega arith)

      by : (o : Option Pick) → exact_next system (choose n) (now n).vector (now n).pick ≡ o → Least system (vectors n)
      by None e = least_agrees system (now n).vector (vectors n) at.vector
          (state_least fitting system range choose among n at.goes (state_ends fitting system range choose among n at.goes e))
      by (Some better) e = absurd (ended_or_not system (vectors n) (now n).vector (agree_sym system (now n).vector (vectors n) at.vector)
          ended (goes_exceeded system (now n).vector (choose n) (now n).pick better e))

-- no test of numbers
pub none_fits : ℚ → Bool
none_fits q = false

-- in a chain of improvements no pick comes twice, and there are fewer improvements than picks
pub short_law : (policy : Offer → ℕ → Type 0) → ChainsAreShort policy
short_law policy system range n vectors picks chain = chain_short none_fits system range policy n vectors picks chain

-- a chain of improvements that ends ends at the least vector
pub least_law : (policy : Offer → ℕ → Type 0) → EndsAreLeast policy
least_law policy system range n v e = chain_least none_fits system range policy n e.vectors e.picks e.chain e.ended
