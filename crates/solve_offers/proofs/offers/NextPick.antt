-- A pick that is made unknown by unknown is the next pick.
use Rattle.std.proofs.Common.{◌≡◌, ◌∙◌, ◌⊎◌, inl, inr, ⊎_elim, ℕ, suc, ◌+◌, ◌*◌, ◌<◌, ◌≤◌, eqb, ltb, Bool, true, false, true≢false, List}
use Rattle.std.proofs.Common.{[], ◌∷◌, length, get_or, refl, sym, ap, subst, subst₂, arith, if◌then◌else◌}
use Rattle.std.specs.Prelude.{Option, Some, None}
use Rattle.std.proofs.lemmas.Bool.{cases_lt, ltb-true, lt-ltb}
use Rattle.std.proofs.lemmas.Bool.Decides.{eqb_tells}
use Rattle.std.proofs.lemmas.List.{get_or_past}
use Rattle.std.proofs.Math.Nat.{mul-le-mul_right}
use Rattle.std.proofs.Math.Path.{fun_ext}
use Rattle.base_facts.proofs.elements.Membership.{contains_from_in}
use Rattle.base_facts.specs.Elements.{In}
use Rattle.base_numbers.specs.Extended.{Ext as Extended, neg_inf, fin, pos_inf, ◌≤ᴱ◌, ◌<ᴱ◌}
use Rattle.base_numbers.proofs.extended.ExtendedLaws.{ext_le_or_lt}
use Rattle.flow_edges.specs.declared.edge.Edge.{Edge}
use Rattle.flow_systems.specs.Equations.{Equations, Vector}
use Rattle.theory_validity.specs.Certificates.{PointsInRange}
use Rattle.theory_strategy.specs.Picks.{Pick, Transformer}
use Rattle.theory_strategy.specs.PickCount.{Unknown, unknowns}
use Rattle.theory_strategy.specs.Policy.{exceeding, offers, taken, changed_pick, if_offered, next_pick, policy_pick}
use Rattle.theory_strategy.proofs.round.FewRounds.{in_unknowns}
use Rattle.solve_offers.specs.declared.offer.Offer.{Offer}
use Rattle.solve_offers.specs.Offers.{Exceeds, SomeExceeds}
use Rattle.solve_offers.specs.Improvement.{pick_of, IsOffer, Chosen, IsChoice, IsNext, Becomes as BecomesIn}
use Rattle.solve_offers.proofs.improvement.Exceeding.{all, none_listed, listed}
use Rattle.theory_rounds.proofs.rounds.Clamped.{clamp, clamp_among, clamp_is}

above_top : (bound x : Extended) → bound ≡ pos_inf → bound <ᴱ x → ⊥
above_top neg_inf x e h = cc
above_top (fin c) x e h = cc
above_top pos_inf x e h = h

module _ (system : Equations) (T : Transformer) (z : Vector) (policy : Offer → ℕ → Type 0) where
  abbrev Becomes : ℕ → ℕ → List ℕ → Option ℕ → Option ℕ → Type 0
  Becomes = BecomesIn system T z policy

  offers_are : (p r : ℕ) → r < length system.template → offers system T z p r ≡ exceeding system T z p r 0 system.edges
  unfolding offers
  offers_are p r l = ap (λ b. if b then exceeding system T z p r 0 system.edges else []) (lt-ltb r (length system.template) l)

  -- no value of the offer exceeds the bound: nothing is offered
  pub nothing_offered : (p r : ℕ) (offer : Offer) → r < length system.template → IsOffer system T z p r offer → (SomeExceeds offer → ⊥)
      → offers system T z p r ≡ []
  nothing_offered p r offer l is_offer none =
      offers_are p r l
      ∙ none_listed system T z p r 0 system.edges (λ j h. none (
        j,
        subst (λ b. b <ᴱ get_or offer.values j neg_inf) (sym is_offer.bound)
            (subst (λ v. z p r <ᴱ get_or v j neg_inf) (sym is_offer.values) h),
      ))

  -- nothing exceeds +∞: nothing is offered
  pub nothing_at_top : (p r : ℕ) → r < length system.template → z p r ≡ pos_inf → offers system T z p r ≡ []
  nothing_at_top p r l top = offers_are p r l ∙ none_listed system T z p r 0 system.edges
      (λ j h. above_top (z p r) (get_or (all system T z p r system.edges) j neg_inf) top h)

  -- an edge whose value exceeds the bound is offered
  pub taken_in : (p r : ℕ) (offer : Offer) (position : ℕ) → r < length system.template → IsOffer system T z p r offer
      → Exceeds offer position → In (offers system T z p r) (get_or offer.edges position 0)
  taken_in p r offer position l is_offer exceeds =
      subst (λ os. In os (get_or offer.edges position 0)) (sym (offers_are p r l))
      (subst (λ ks. In (exceeding system T z p r 0 system.edges) (get_or ks position 0)) (sym is_offer.edges)
      (listed system T z p r 0 system.edges position (subst (λ v. z p r <ᴱ get_or v position neg_inf) is_offer.values
      (subst (λ b. b <ᴱ get_or offer.values position neg_inf) is_offer.bound exceeds))))

  -- the policy's answer is taken
  pub taken_becomes : (p r : ℕ) (offer : Offer) (position : ℕ) (before : Option ℕ) → r < length system.template
      → IsOffer system T z p r offer → policy offer position → Exceeds offer position →
      Becomes p r (offers system T z p r) before (Some (get_or offer.edges position 0))
  taken_becomes p r offer position before l is_offer answers exceeds =
      by (offers system T z p r) (taken_in p r offer position l is_offer exceeds)
    where
      by : (os : List ℕ) → In os (get_or offer.edges position 0) → Becomes p r os before (Some (get_or offer.edges position 0))
      by [] m = absurd m
      by (k ∷ ks) m = (
        get_or offer.edges position 0,
        record {
          offer = offer;
          is_offer = is_offer;
          position = position;
          answers =
              answers;
          is_edge = refl;
        },
        m,
        refl,
      )

  -- a listed edge ends at the point, and its transformer exceeds the bound
  Listed : ℕ → ℕ → List Edge → Type 0
  Listed p r edges = (edge : Edge) × In edges edge × (edge.to ≡ p) × (z p r <ᴱ T z edge (get_or system.template r []))

  -- an edge whose number is offered ends at the unknown's point and exceeds its bound
  pub ends_there : (p r k : ℕ) (edges : List Edge) (n : ℕ) → In (exceeding system T z p r k edges) n
      → (edge : Edge) × In edges edge × (edge.to ≡ p) × (z p r <ᴱ T z edge (get_or system.template r []))
  unfolding exceeding Listed
  ends_there p r k [] n m = absurd m
  ends_there p r k (edge ∷ edges) n m = by (eqb edge.to p) (eqb_tells edge.to p)
      (ext_le_or_lt (T z edge (get_or system.template r [])) (z p r)) m
      (λ j. let e = ends_there p r (suc k) edges n j in (e.0, inr e.1, e.2, e.3))
    where
      by : (b : Bool) → ((b ≡ true) × (edge.to ≡ p)) ⊎ ((b ≡ false) × (edge.to ≡ p → ⊥))
          → (o : (T z edge (get_or system.template r []) ≤ᴱ z p r) ⊎ (z p r <ᴱ T z edge (get_or system.template r []))) →
          In (if b then ⊎_elim (λ h. exceeding system T z p r (suc k) edges) (λ h. k ∷ exceeding system T z p r (suc k) edges) o
          else exceeding system T z p r (suc k) edges) n →
          (In (exceeding system T z p r (suc k) edges) n → Listed p r (edge ∷ edges)) → Listed p r (edge ∷ edges)
      by false t o m rec = rec m
      by true (inr t) o m rec = absurd (true≢false t.0)
      by true (inl t) (inl l) m rec = rec m
      by true (inl t) (inr l) m rec = (edge, inl refl, t.1, l)

  -- an edge into the point that isn't listed doesn't exceed the bound
  pub unlisted : (p r k : ℕ) (edges : List Edge) → exceeding system T z p r k edges ≡ [] → (edge : Edge) → In edges edge → edge.to ≡ p
      → T z edge (get_or system.template r []) ≤ᴱ z p r
  unfolding exceeding
  unlisted p r k [] e edge m t = absurd m
  unlisted p r k (first ∷ edges) e edge m t = by (eqb first.to p) (eqb_tells first.to p)
      (ext_le_or_lt (T z first (get_or system.template r [])) (z p r)) e (λ f j. unlisted p r (suc k) edges f edge j t)
    where
      by : (b : Bool) → ((b ≡ true) × (first.to ≡ p)) ⊎ ((b ≡ false) × (first.to ≡ p → ⊥))
          → (o : (T z first (get_or system.template r []) ≤ᴱ z p r) ⊎ (z p r <ᴱ T z first (get_or system.template r []))) →
          (if b then ⊎_elim (λ h. exceeding system T z p r (suc k) edges) (λ h. k ∷ exceeding system T z p r (suc k) edges) o else exceeding
          system T z p r (suc k) edges) ≡ [] →
          (exceeding system T z p r (suc k) edges ≡ [] → In edges edge → T z edge (get_or system.template r []) ≤ᴱ z p r)
          → T z edge (get_or system.template r []) ≤ᴱ z p r
      by true c (inl h) f rec = ⊎_elim (λ g. subst (λ x. T z x (get_or system.template r []) ≤ᴱ z p r) g h) (λ j. rec f j) m
      by true c (inr h) f rec = cc
      by false (inl c) o f rec = absurd (true≢false (sym c.0))
      by false (inr c) o f rec = ⊎_elim (λ g. absurd (c.1 (ap (λ x. x.to) g ∙ t))) (λ j. rec f j) m

  -- what is offered and what exceeds
  pub offers_at : (p r : ℕ) → r < length system.template → offers system T z p r ≡ exceeding system T z p r 0 system.edges
  offers_at = offers_are

  module _ (range : PointsInRange system) (old new : List (Option ℕ)) (old_size : length old ≡ system.points * length system.template)
      (new_size : length new ≡ system.points * length system.template)
      (each : (p r : ℕ) → p < system.points → r < length system.template →
      Becomes p r (offers system T z p r) (get_or old (p * length system.template + r) None)
      (get_or new (p * length system.template + r) None)) where
    rows : ℕ
    rows = length system.template

    before : Pick
    before = pick_of rows old

    after : Pick
    after = pick_of rows new

    edge_or : ℕ → Option ℕ → ℕ
    edge_or k None = k
    edge_or k (Some e) = e

    choose : ℕ → ℕ → ℕ → List ℕ → ℕ
    choose p r k ks = clamp (edge_or k (after p r)) k ks

    -- within the rows of a template, and beyond
    row_or_not : (r : ℕ) → ((r < rows) × (ltb r rows ≡ true)) ⊎ ((rows ≤ r) × (ltb r rows ≡ false))
    row_or_not r = by (ltb r rows) refl
      where
        by : (b : Bool) → ltb r rows ≡ b → ((r < rows) × (ltb r rows ≡ true)) ⊎ ((rows ≤ r) × (ltb r rows ≡ false))
        by true e = inl (ltb-true r rows e, e)
        by false e = ⊎_elim (λ l. absurd (true≢false (sym (lt-ltb r rows l) ∙ e))) (λ l. inr (l, e)) (cases_lt r rows)

    picked_within : (list : List (Option ℕ)) (p r : ℕ) → ltb r rows ≡ true → pick_of rows list p r ≡ get_or list (p * rows + r) None
    picked_within list p r e = ap (λ b. if b then get_or list (p * rows + r) None else None) e

    picked_beyond : (list : List (Option ℕ)) (p r : ℕ) → ltb r rows ≡ false → pick_of rows list p r ≡ None
    picked_beyond list p r e = ap (λ b. if b then get_or list (p * rows + r) None else None) e

    picked_past : (list : List (Option ℕ)) (p r : ℕ) → length list ≡ system.points * rows → system.points ≤ p
        → get_or list (p * rows + r) None ≡ None
    picked_past list p r size l = get_or_past list (p * rows + r) None
        (let m : system.points * rows ≤ p * rows = mul-le-mul_right rows l in omega arith)

    -- an offered unknown is one of the system
    offered_within : (p r k : ℕ) (ks : List ℕ) → offers system T z p r ≡ k ∷ ks → (p < system.points) × (r < rows)
    unfolding offers rows
    offered_within p r k ks e = by (ltb r (length system.template)) refl e
      where
        by : (b : Bool) → ltb r (length system.template) ≡ b → (if b then exceeding system T z p r 0 system.edges else []) ≡ k ∷ ks
            → (p < system.points) × (r < length system.template)
        by true l f =
            let ends = ends_there p r 0 system.edges k (subst (λ os. In os k) (sym f) (inl refl)) in (
              subst (λ q. q < system.points) ends.2 (range.ends ends.0 (contains_from_in system.edges ends.0 ends.1)),
              ltb-true r (length system.template) l,
            )
        by false l f = cc

    -- an unknown that the system hasn't
    outside : (p r : ℕ) → ((p < system.points) × (r < rows) → ⊥) → before p r ≡ None → after p r ≡ None
        → Becomes p r (offers system T z p r) (before p r) (after p r)
    outside p r out b a = by (offers system T z p r) refl
      where
        by : (os : List ℕ) → offers system T z p r ≡ os → Becomes p r os (before p r) (after p r)
        by [] e = a ∙ sym b
        by (k ∷ ks) e = absurd (out (offered_within p r k ks e))

    -- what becomes of any unknown
    becomes : (p r : ℕ) → Becomes p r (offers system T z p r) (before p r) (after p r)
    unfolding rows before after
    becomes p r = ⊎_elim inside beyond (row_or_not r)
      where
        inside : (r < length system.template) × (ltb r (length system.template) ≡ true)
            → Becomes p r (offers system T z p r) (pick_of (length system.template) old p r) (pick_of (length system.template) new p r)
        inside l =
            ⊎_elim
            (λ h. subst₂ (λ b a. Becomes p r (offers system T z p r) b a) (sym (picked_within old p r l.1))
            (sym (picked_within new p r l.1)) (each p r h l.0))
            (λ h. outside p r (λ w. let lower = w.0 in omega arith) (picked_within old p r l.1 ∙ picked_past old p r old_size h)
            (picked_within new p r l.1 ∙ picked_past new p r new_size h))
            (cases_lt p system.points)

        beyond : (length system.template ≤ r) × (ltb r (length system.template) ≡ false)
            → Becomes p r (offers system T z p r) (pick_of (length system.template) old p r) (pick_of (length system.template) new p r)
        beyond l = outside p r (λ w. let lower = w.1 in let upper = l.0 in omega arith) (picked_beyond old p r l.1)
            (picked_beyond new p r l.1)

    is_choice : IsChoice system T z policy choose
    unfolding choose edge_or
    is_choice = record {
      among = λ p r k ks. clamp_among (edge_or k (after p r)) k ks;
      chosen = λ p r k ks e. by p r k ks (subst (λ os. Becomes p r os (before p r) (after p r)) e (becomes p r));
    }
      where
        by : (p r k : ℕ) (ks : List ℕ) → Becomes p r (k ∷ ks) (before p r) (after p r)
            → Chosen system T z policy p r (clamp (edge_or k (after p r)) k ks)
        by p r k ks b = subst (Chosen system T z policy p r) (sym (ap (λ o. clamp (edge_or k o) k ks) b.3 ∙ clamp_is b.0 k ks b.2)) b.1

    -- the changed pick is the new one
    changed_is : changed_pick system T z choose before ≡ after
    unfolding changed_pick taken choose edge_or
    changed_is = fun_ext (λ p. fun_ext (λ r. by p r (offers system T z p r) (becomes p r)))
      where
        by : (p r : ℕ) (os : List ℕ) → Becomes p r os (before p r) (after p r) → taken system T z (choose p r) os (before p r) ≡ after p r
        by p r [] b = sym b
        by p r (k ∷ ks) b = ap Some (ap (λ o. clamp (edge_or k o) k ks) b.3 ∙ clamp_is b.0 k ks b.2) ∙ sym b.3

    some_next : (us : List Unknown) (u : Unknown) (k : ℕ) (ks : List ℕ) (better : Pick) → In us u → offers system T z u.point u.row ≡ k ∷ ks
        → next_pick system T z better us ≡ Some better
    unfolding next_pick if_offered
    some_next [] u k ks better m e = absurd m
    some_next (v ∷ us) u k ks better m e = by (offers system T z v.point v.row) refl m (λ n. some_next us u k ks better n e)
      where
        none : [] ≡ k ∷ ks → ⊥
        none f = cc

        by : (os : List ℕ) → offers system T z v.point v.row ≡ os → In (v ∷ us) u → (In us u → next_pick system T z better us ≡ Some better)
            → if_offered system T z os better (next_pick system T z better us) ≡ Some better
        by (j ∷ js) f n rec = refl
        by [] f n rec = ⊎_elim (λ h. absurd (none (sym f ∙ ap (λ w. offers system T z w.point w.row) h ∙ e))) rec n

    none_next : (us : List Unknown) (better : Pick) → ((p r : ℕ) → offers system T z p r ≡ []) → next_pick system T z better us ≡ None
    unfolding next_pick if_offered
    none_next [] better none = refl
    none_next (v ∷ us) better none = ap (λ os. if_offered system T z os better (next_pick system T z better us)) (none v.point v.row)
        ∙ none_next us better none

    -- where something is offered, the new pick is the next one
    pub next_is : (p r k : ℕ) (ks : List ℕ) → offers system T z p r ≡ k ∷ ks
        → IsNext system T z policy (pick_of (length system.template) old) (Some (pick_of (length system.template) new))
    unfolding policy_pick rows before after
    next_is p r k ks e =
        let w = offered_within p r k ks e in
        record {
          choose = choose;
          is_choice = is_choice;
          same = some_next (unknowns system) (record { point = p; row = r }) k ks (changed_pick system T z choose before)
              (in_unknowns system p r w.0 w.1) e ∙ ap Some changed_is;
        }

    -- where nothing is, there is none
    pub no_next : ((p r : ℕ) → p < system.points → r < length system.template → offers system T z p r ≡ [])
        → IsNext system T z policy (pick_of (length system.template) old) None
    unfolding policy_pick rows before
    no_next none = record {
      choose = choose;
      is_choice = is_choice;
      same =
          none_next (unknowns system) (changed_pick system T z choose before) everywhere;
    }
      where
        everywhere : (p r : ℕ) → offers system T z p r ≡ []
        everywhere p r = by (offers system T z p r) refl
          where
            by : (os : List ℕ) → offers system T z p r ≡ os → os ≡ []
            by [] e = refl
            by (k ∷ ks) e = let w = offered_within p r k ks e in sym e ∙ none p r w.0 w.1
