-- By a policy that answers one position of an offer there is one chain, and one number of improvements.
use Rattle.std.proofs.Common.{◌≡◌, ◌∙◌, ⊎_elim, ℕ, zero, suc, ◌<◌, ◌≤◌, length, sym, ap, subst, arith}
use Rattle.std.specs.Prelude.{Option, slice_get}
use Rattle.std.proofs.lemmas.Bool.{cases_lt}
use Rattle.std.proofs.lemmas.Option.{slice_get_within}
use Rattle.base_numbers.specs.Extended.{◌≤ᴱ◌}
use Rattle.base_numbers.proofs.extended.ExtendedLaws.{≤ᴱ_antisymm}
use Rattle.flow_systems.specs.Equations.{Equations, Vector}
use Rattle.theory_chains.specs.Offers.{Offer, SomeExceeds, By}
use Rattle.theory_chains.specs.Chains.{Pick, IsUnder, IsClosed, IsNextEdge, IsNextVector, IsExceeded, IsEnd, IsChain, EndsAfter}
use Rattle.theory_chains.specs.Chains.{GoesOnAfter}
use Rattle.theory_chains.specs.Laws.{AnswersOne, IsSameAfter, IsDetermined}
use Rattle.theory_chains.proofs.transformers.OneOffer.{Agree, agree_sym, offer_agrees, offer_one, some_or_none}

-- picks that agree at the template's rows close the same vectors
closed_agrees : (system : Equations) (pick other : Pick) (v : Vector) → ((p r : ℕ) → r < length system.template → pick p r ≡ other p r)
    → IsClosed system pick v → IsClosed system other v
closed_agrees system pick other v h c p r k edge row e f g = c p r k edge row (h p r (slice_get_within system.template r row g) ∙ e) f g

under_agrees : (system : Equations) (v w u : Vector) → Agree system v w → IsUnder system v u → IsUnder system w u
under_agrees system v w u h i p r l = subst (λ b. b ≤ᴱ u p r) (h p r l) (i p r l)

-- vectors after agreeing ones by agreeing picks agree
pub next_agrees : (system : Equations) (v w : Vector) (pick other : Pick) (next more : Vector) → Agree system v w
    → ((p r : ℕ) → r < length system.template → pick p r ≡ other p r) →
    IsNextVector system pick v next → IsNextVector system other w more → Agree system next more
next_agrees system v w pick other next more h same a b p r l =
    ≤ᴱ_antisymm (next p r) (more p r)
    (a.least more (under_agrees system w v more (agree_sym system v w h) b.over)
    (closed_agrees system other pick more (λ q s m. sym (same q s m)) b.closed) p r l)
    (b.least next (under_agrees system v w next h a.over) (closed_agrees system pick other next same a.closed) p r l)

module _ (system : Equations) (policy : Offer → ℕ → Type 0) (one : AnswersOne policy) where
  edge_one : (v w : Vector) (p r : ℕ) (old other new more : Option ℕ) → Agree system v w → r < length system.template → old ≡ other →
      IsNextEdge system policy v p r old new → IsNextEdge system policy w p r other more → new ≡ more
  edge_one v w p r old other new more h l same a b = ⊎_elim taken kept (some_or_none a.offer)
    where
      offers : a.offer ≡ b.offer
      offers = offer_one system w p r a.offer b.offer (offer_agrees system v w p r a.offer h l a.is_offer) b.is_offer

      taken : SomeExceeds a.offer → new ≡ more
      taken s =
          let x = a.taken s in
          let y = b.taken (subst SomeExceeds offers s) in
          x.3 ∙ ap (λ (o : Offer). slice_get o.edges x.0) offers ∙ ap (slice_get b.offer.edges)
          (one b.offer x.0 y.0 (subst (λ o. policy o x.0) offers x.1) y.1) ∙ sym y.3

      kept : (SomeExceeds a.offer → ⊥) → new ≡ more
      kept n = a.kept n ∙ same ∙ sym (b.kept (λ s. n (subst SomeExceeds (sym offers) s)))

  module _ (n m : ℕ) (vectors others : ℕ → Vector) (picks more : ℕ → Pick) (a : IsChain system policy n vectors picks)
      (b : IsChain system policy m others more) where
    -- after each number of improvements both chains are at the same vector by the same pick
    chain_one : (k : ℕ) → k ≤ n → k ≤ m → IsSameAfter system k vectors others picks more
    chain_one zero h i = record { vector = start; pick = λ p r l. a.unpicked p r l ∙ sym (b.unpicked p r l) }
      where
        start : Agree system (vectors 0) (others 0)
        start zero r l = a.entry r l ∙ sym (b.entry r l)
        start (suc p) r l = a.others (suc p) r (omega arith) l ∙ sym (b.others (suc p) r (omega arith) l)
    chain_one (suc k) h i =
        let before = chain_one k (omega arith) (omega arith) in
        let same : (p r : ℕ) → r < length system.template → picks (suc k) p r ≡ more (suc k) p r = λ p r l.
        edge_one (vectors k) (others k) p r (picks k p r) (more k p r) (picks (suc k) p r) (more (suc k) p r) before.vector l
        (before.pick p r l)
        (a.next_pick k (omega arith) p r l) (b.next_pick k (omega arith) p r l) in
        record {
          vector = next_agrees system (vectors k) (others k) (picks (suc k)) (more (suc k)) (vectors (suc k)) (others (suc k)) before.vector
              same (a.next_vector k (omega arith)) (b.next_vector k (omega arith));
          pick = same;
        }

-- where a chain ends, none goes on
pub ended_or_not : (system : Equations) (v w : Vector) → Agree system v w → IsEnd system v → IsExceeded system w → ⊥
ended_or_not system v w h e x =
    let o = e x.point x.row x.is_row in
    o.2 (subst SomeExceeds (offer_one system w x.point x.row x.offer o.0 x.is_offer
    (offer_agrees system v w x.point x.row o.0 h x.is_row o.1)) x.exceeds)

module _ (system : Equations) (policy : Offer → ℕ → Type 0) (one : AnswersOne policy) where
  -- a chain doesn't go on where another has ended
  not_longer : (n m : ℕ) (v : Vector) (others : ℕ → Vector) (more : ℕ → Pick) → EndsAfter system policy n v
      → IsChain system policy m others more → n ≤ m → IsExceeded system (others n) → ⊥
  not_longer n m v others more a b l x =
      ended_or_not system (a.vectors n) (others n) (chain_one system policy one n m a.vectors others a.picks more a.chain b n (omega arith)
      l).vector a.ended x

  -- two chains by a policy that answers one position end after the same number of improvements
  pub number_one : (n m : ℕ) (v w : Vector) → EndsAfter system policy n v → EndsAfter system policy m w → n ≡ m
  number_one n m v w a b =
      ⊎_elim (λ l. absurd (not_longer n m v b.vectors b.picks a b.chain (omega arith) (b.chain.goes n l)))
      (λ l. ⊎_elim (λ h. absurd (not_longer m n w a.vectors a.picks b a.chain (omega arith) (a.chain.goes m h))) (λ h. omega arith)
      (cases_lt m n))
      (cases_lt n m)

  -- a chain by such a policy that goes on after a number of improvements ends after more than that
  pub number_above : (limit n : ℕ) (v : Vector) → GoesOnAfter system policy limit → EndsAfter system policy n v → limit < n
  number_above limit n v g a =
      ⊎_elim (λ l. l) (λ l. absurd (not_longer n limit v g.vectors g.picks a g.chain l (at l))) (cases_lt limit n)
    where
      at : n ≤ limit → IsExceeded system (g.vectors n)
      at l = ⊎_elim (λ h. g.chain.goes n h) (λ h. subst (λ k. IsExceeded system (g.vectors k)) (let e : limit ≡ n = omega arith in e)
          g.exceeded) (cases_lt n limit)

-- by a policy that answers one position all is determined
pub determined : (policy : Offer → ℕ → Type 0) → AnswersOne policy → IsDetermined policy
determined policy one = record {
  chain = λ system. chain_one system policy one;
  number = λ system. number_one system policy one;
  above =
      λ system. number_above system policy one;
}

-- a function of the offer answers one
pub by_is_one : (answer : Offer → ℕ) → AnswersOne (By answer)
by_is_one answer offer j k h i = h ∙ sym i
