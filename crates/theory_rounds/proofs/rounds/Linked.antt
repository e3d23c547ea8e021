-- Chains of exact rounds by choices that follow a policy are chains of improvements.
use Rattle.std.proofs.Common.{◌≡◌, ◌∙◌, Bool, true, false, ℕ, zero, suc, ◌<◌, ltb, List, [], ◌∷◌, length, get_or, refl, sym, ap, subst}
use Rattle.std.proofs.Common.{subst₂, arith, if◌then◌else◌}
use Rattle.std.specs.Prelude.{Some}
use Rattle.std.proofs.lemmas.Bool.{ltb-true}
use Rattle.std.proofs.lemmas.Option.{slice_get-get_or, get_or_from_slice_get}
use Rattle.std.proofs.lemmas.List.Elements.{Contains-get_or}
use Rattle.base_numbers.specs.Rational.{ℚ}
use Rattle.base_numbers.specs.Extended.{neg_inf, fin, ◌≤ᴱ◌}
use Rattle.base_numbers.proofs.extended.ExtendedLaws.{≤ᴱ_trans, ext_not_le_of_lt}
use Rattle.flow_systems.specs.Equations.{Equations, Vector}
use Rattle.theory_chains.specs.Offers.{Offer, SomeExceeds}
use Rattle.theory_chains.specs.Chains.{IsClosed, IsNextEdge, IsNextPick, IsNextVector, IsExceeded, IsEnd, IsChain}
use Rattle.theory_validity.specs.Steps.{edge_of, row_of, end_value, start_vector}
use Rattle.theory_validity.specs.Certificates.{PointsInRange}
use Rattle.theory_transformers.specs.EdgeProblems.{transformer}
use Rattle.theory_transformers.proofs.edge_problems.TransformerOf.{transformer_is, transformer_upper}
use Rattle.theory_strategy.specs.Picks.{Pick, IsPick, Closed, Above, choice}
use Rattle.theory_strategy.specs.PickCount.{Unknown, unknowns}
use Rattle.theory_strategy.specs.Policy.{exceeding, offers, taken, changed_pick, if_offered, next_pick, policy_pick}
use Rattle.theory_strategy.specs.Solve.{State, next, state}
use Rattle.theory_strategy.proofs.round.Chain.{NoneExceeds}
use Rattle.theory_rounds.specs.Rounds.{Choice, TakesOne, Goes, exact_next, exact_state}
use Rattle.theory_rounds.specs.ChainLaws.{Follows, IsImprovement}
use Rattle.theory_rounds.proofs.rounds.ExactChain.{round_made, state_ends}
use Rattle.theory_rounds.proofs.rounds.ExactEnd.{state_after}
use Rattle.theory_rounds.proofs.rounds.Meant.{upper_of_words, upper_of_transitions, exact_offer, offer_meant, nothing_exceeds}
use Rattle.theory_rounds.proofs.rounds.Meant.{something_exceeds, exceeding_edge}

-- an unknown that is offered an edge stands at a row of the template
pub offered_row : (system : Equations) (z : Vector) (p r k : ℕ) (ks : List ℕ) → offers system (transformer system) z p r ≡ k ∷ ks
    → r < length system.template
unfolding offers
offered_row system z p r k ks e = by (ltb r (length system.template)) refl e
  where
    by : (b : Bool) → ltb r (length system.template) ≡ b → (if b then exceeding system (transformer system) z p r 0 system.edges else [])
        ≡ k ∷ ks → r < length system.template
    by true f g = ltb-true r (length system.template) f
    by false f g = cc

module _ (system : Equations) (z : Vector) where
  -- ---- the next pick
  -- the next pick is the changed one, and some unknown is offered an edge
  record Changes (changed better : Pick) : Type 0 where
    same : better ≡ changed
    point : ℕ
    row : ℕ
    first : ℕ
    rest : List ℕ
    offered : offers system (transformer system) z point row ≡ first ∷ rest

  changes : (changed better : Pick) (us : List Unknown) → next_pick system (transformer system) z changed us ≡ Some better
      → Changes changed better
  unfolding next_pick if_offered
  changes changed better [] e = cc
  changes changed better (u ∷ us) e = by (offers system (transformer system) z u.point u.row) refl e (λ f. changes changed better us f)
    where
      some_pick : Some changed ≡ Some better → better ≡ changed
      some_pick f = cc

      by : (os : List ℕ) → offers system (transformer system) z u.point u.row ≡ os
          → if_offered system (transformer system) z os changed (next_pick system (transformer system) z changed us) ≡ Some better →
          (next_pick system (transformer system) z changed us ≡ Some better → Changes changed better) → Changes changed better
      by [] o f rec = rec f
      by (k ∷ ks) o f rec = record { same = some_pick f; point = u.point; row = u.row; first = k; rest = ks; offered = o }

  next_changes : (choose : Choice) (pick better : Pick) → exact_next system choose z pick ≡ Some better
      → Changes (changed_pick system (transformer system) z choose pick) better
  unfolding policy_pick
  next_changes choose pick better e = changes (changed_pick system (transformer system) z choose pick) better (unknowns system) e

  -- where a choice follows a policy, each unknown has the next edge by it
  changed_edge : (policy : Offer → ℕ → Type 0) (choose : Choice) (pick : Pick) → Follows policy system z choose → (p r : ℕ)
      → r < length system.template →
      IsNextEdge system policy z p r (pick p r) (changed_pick system (transformer system) z choose pick p r)
  unfolding changed_pick taken
  changed_edge policy choose pick follows p r l = by (offers system (transformer system) z p r) refl
    where
      by : (os : List ℕ) → offers system (transformer system) z p r ≡ os
          → IsNextEdge system policy z p r (pick p r) (taken system (transformer system) z (choose p r) os (pick p r))
      by [] e = record {
        offer = exact_offer system z p r;
        is_offer = offer_meant system z p r l;
        taken =
            λ s. absurd (nothing_exceeds system z p r e l s);
        kept = λ n. refl;
      }
      by (k ∷ ks) e =
          let f = follows p r k ks l e in
          record { offer = f.0; is_offer = f.1; taken = λ s. (f.2.0, f.2.1, f.2.2, sym f.2.3); kept = λ n. absurd (n (f.2.0, f.2.2)) }

  next_meant : (policy : Offer → ℕ → Type 0) (choose : Choice) (pick better : Pick) → Follows policy system z choose
      → exact_next system choose z pick ≡ Some better →
      IsNextPick system policy z pick better
  next_meant policy choose pick better follows e =
      subst (λ b. IsNextPick system policy z pick b) (sym (next_changes choose pick better e).same)
      (λ p r l. changed_edge policy choose pick follows p r l)

  -- ---- where something exceeds, and where nothing does
  -- where a choice goes, some transformer exceeds its bound
  pub goes_exceeded : (choose : Choice) (pick better : Pick) → exact_next system choose z pick ≡ Some better → IsExceeded system z
  goes_exceeded choose pick better e =
      let c = next_changes choose pick better e in
      let l = offered_row system z c.point c.row c.first c.rest c.offered in
      record {
        point = c.point;
        row = c.row;
        is_row = l;
        offer = exact_offer system z c.point c.row;
        is_offer = offer_meant system z c.point c.row l;
        exceeds = something_exceeds system z c.point c.row c.first c.rest c.offered;
      }

  -- where no transformer exceeds its bound, the chain ends
  pub end_meant : NoneExceeds system (transformer system) z → IsEnd system z
  end_meant none p r l = (exact_offer system z p r, offer_meant system z p r l, by)
    where
      by : SomeExceeds (exact_offer system z p r) → ⊥
      by s =
          let e = exceeding_edge system z p r s.0 s.1 in
          ext_not_le_of_lt (z p r) (transformer system z e.0 (get_or system.template r [])) e.3
          (subst (λ q. transformer system z e.0 (get_or system.template r []) ≤ᴱ z q r) e.2
          (none e.0 r (get_or system.template r []) e.1 (slice_get-get_or system.template r [] l)))

-- ---- the next vector
module _ (system : Equations) (pick : Pick) (is_pick : IsPick system pick) where
  closed_meant : (q : Vector) → Closed system (transformer system) q pick → IsClosed system pick q
  unfolding choice edge_of row_of
  closed_meant q closed p r k edge row e f g =
      upper_of_words system q edge row (q p r)
      (λ w runs. ≤ᴱ_trans (fin (end_value system edge row w)) (transformer system q edge row) (q p r)
      (transformer_upper system q edge row w runs)
      (subst₂ (λ x s. transformer system q x s ≤ᴱ q p r) (get_or_from_slice_get system.edges k edge
      (record { from = 0; to = 0; actions = [] }) f) (get_or_from_slice_get system.template r row [] g) (closed (choice p r k) e)))

  meant_closed : (q : Vector) → IsClosed system pick q → Closed system (transformer system) q pick
  unfolding edge_of row_of
  meant_closed q closed u h =
      let p = is_pick u h in
      let edge = edge_of system u in
      let row = row_of system u in
      (transformer_is system q edge row).least (q u.point u.row)
      (upper_of_transitions system q edge row (q u.point u.row) (Contains-get_or system.edges u.edge
      (record { from = 0; to = 0; actions = [] }) p.edge_within)
      (closed u.point u.row u.edge edge row h (slice_get-get_or system.edges u.edge (record { from = 0; to = 0; actions = [] })
      p.edge_within) (slice_get-get_or system.template u.row [] p.row_within)))

  -- the vector above the first by a pick is the next vector that the definition means
  pub above_meant : (d e : Vector) → Above system (transformer system) d pick e → IsNextVector system pick d e
  above_meant d e a = record {
    over = a.over;
    closed = closed_meant e a.closed;
    least =
        λ w under closed. a.least w under (meant_closed w closed);
  }

-- ---- chains
module _ (policy : Offer → ℕ → Type 0) (fitting : ℚ → Bool) (system : Equations) (range : PointsInRange system) (choose : ℕ → Choice)
    (among : (k : ℕ) → TakesOne (choose k)) (n : ℕ)
    (goes : (k : ℕ) → k < n → Goes system (choose k) (exact_state fitting system choose k))
    (follows : (k : ℕ) → k < n → Follows policy system (exact_state fitting system choose k).vector (choose k)) where
  abbrev now : ℕ → State
  now k = exact_state fitting system choose k

  picked : (k : ℕ) → (l : k < n) → (now (suc k)).pick ≡ (goes k l).0
  unfolding next
  picked k l = ap (λ (s : State). s.pick) (state_after fitting system choose k (goes k l).0 (goes k l).1)

  chain_meant : IsChain system policy n (λ k. (now k).vector) (λ k. (now k).pick)
  unfolding state start_vector
  chain_meant = record {
    entry = λ r l. refl;
    others = λ p r later l. others p r later;
    unpicked = λ p r l. refl;
    goes = λ k l. goes_exceeded system (now k).vector (choose k) (now k).pick (goes k l).0 (goes k l).1;
    next_pick = λ k l. subst (λ b. IsNextPick system policy (now k).vector (now k).pick b) (sym (picked k l))
        (next_meant system (now k).vector policy (choose k) (now k).pick (goes k l).0 (follows k l) (goes k l).1);
    next_vector = λ k l.
        let made = round_made fitting system range choose among n goes k l in
        above_meant system (now (suc k)).pick made.supported.is_pick (now k).vector (now (suc k)).vector made.done.above;
  }
    where
      others : (p r : ℕ) → 0 < p → start_vector p r ≡ neg_inf
      others zero r h = absurd (omega arith)
      others (suc p) r h = refl

  -- chains of exact rounds by choices that follow a policy are chains of improvements by it
  pub improvement_meant : IsImprovement policy fitting system choose n
  improvement_meant = record {
    chain = chain_meant;
    ends = λ e. record {
      vectors = λ k. (now k).vector;
      picks = λ k. (now k).pick;
      chain = chain_meant;
      ended = end_meant system (now n).vector (state_ends fitting system range choose among n goes e);
      same = λ p r h l. refl;
    };
    goes_on = λ g. record {
      vectors = λ k. (now k).vector;
      picks = λ k. (now k).pick;
      chain = chain_meant;
      exceeded =
          goes_exceeded system (now n).vector (choose n) (now n).pick g.0 g.1;
    };
  }

-- the pick after a round that was made is the changed one
pub next_changed : (fitting : ℚ → Bool) (system : Equations) (choose : ℕ → Choice) (k : ℕ) (better : Pick) →
    exact_next system (choose k) (exact_state fitting system choose k).vector (exact_state fitting system choose k).pick ≡ Some better →
    (exact_state fitting system choose (suc k)).pick
    ≡ changed_pick system (transformer system) (exact_state fitting system choose k).vector (choose k)
    (exact_state fitting system choose k).pick
unfolding next
next_changed fitting system choose k better e =
    let s = exact_state fitting system choose k in
    ap (λ (t : State). t.pick) (state_after fitting system choose k better e)
    ∙ (next_changes system s.vector (choose k) s.pick better e).same
