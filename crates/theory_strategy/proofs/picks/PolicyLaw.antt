-- Any choice among the exceeding edges is a policy, so with any choice the rounds over the whole list end at the least solution.
use Rattle.std.proofs.Common.{◌≡◌, ◌∙◌, ◌⊎◌, inl, inr, ⊎_elim, ℕ, zero, suc, ◌+◌, ◌<◌, eqb, ltb, Bool, true, false, true≢false, List, []}
use Rattle.std.proofs.Common.{◌∷◌, length, get_or, refl, sym, ap, subst, arith, if◌then◌else◌}
use Rattle.std.specs.Prelude.{Option, Some, None}
use Rattle.std.proofs.lemmas.Option.{none-some, slice_get_within, get_or_from_slice_get, same_Some}
use Rattle.std.proofs.lemmas.Bool.{ltb-true, lt-ltb}
use Rattle.std.proofs.lemmas.Bool.Decides.{eqb_tells}
use Rattle.std.proofs.lemmas.List.Elements.{Contains-get_or}
use Rattle.base_facts.specs.Elements.{In}
use Rattle.base_numbers.specs.Extended.{Ext, neg_inf, fin, pos_inf, ◌≤ᴱ◌, ◌<ᴱ◌}
use Rattle.base_numbers.proofs.extended.ExtendedLaws.{ext_le_or_lt}
use Rattle.flow_edges.specs.declared.edge.Edge.{Edge}
use Rattle.flow_systems.specs.Equations.{Equations, Vector}
use Rattle.theory_validity.specs.Steps.{Item, edge_of, row_of, Placed}
use Rattle.theory_validity.specs.Certificates.{PointsInRange}
use Rattle.theory_validity.proofs.certificates.Needs.{in_of_contains}
use Rattle.theory_strategy.specs.Picks.{Pick, Transformer, value_at, Picks, IsPick, Tight, Improves, choice}
use Rattle.theory_strategy.specs.PickCount.{Unknown, unknowns}
use Rattle.theory_strategy.specs.Policy.{exceeding, offers, taken, changed_pick, if_offered, next_pick, policy_pick}
use Rattle.theory_strategy.proofs.round.RoundGives.{Improved}
use Rattle.theory_strategy.proofs.round.FewRounds.{in_unknowns}
use Rattle.theory_strategy.proofs.round.Solve.{Better, Answers}

-- an edge of the list that ends at the point and whose transformer exceeds the bound
record Offer (system : Equations) (T : Transformer) (d : Vector) (p r : ℕ) (k : ℕ) : Type 0 where
  within : k < length system.edges
  into : (get_or system.edges k (record { from = 0; to = 0; actions = [] })).to ≡ p
  exceeds : d p r <ᴱ T d (get_or system.edges k (record { from = 0; to = 0; actions = [] })) (get_or system.template r [])

module _ (system : Equations) (T : Transformer) (d : Vector) (p r : ℕ) where
  none : Edge
  none = record { from = 0; to = 0; actions = [] }

  Found : ℕ → List Edge → ℕ → Type 0
  Found k edges n = (j : ℕ) × (n ≡ k + j) × (j < length edges) × ((get_or edges j none).to ≡ p)
      × (d p r <ᴱ T d (get_or edges j none) (get_or system.template r []))

  later : (k : ℕ) (edge : Edge) (edges : List Edge) (n : ℕ) → Found (suc k) edges n → Found k (edge ∷ edges) n
  unfolding Found
  later k edge edges n f = (suc f.0, (let e = f.1 in omega arith), (let l = f.2 in omega arith), f.3, f.4)

  found : (k : ℕ) (edges : List Edge) (n : ℕ) → In (exceeding system T d p r k edges) n → Found k edges n
  unfolding exceeding Found
  found k [] n m = absurd m
  found k (edge ∷ edges) n m = by (eqb edge.to p) (eqb_tells edge.to p) (ext_le_or_lt (T d edge (get_or system.template r [])) (d p r)) m
      (λ j. later k edge edges n (found (suc k) edges n j))
    where
      by : (b : Bool) → ((b ≡ true) × (edge.to ≡ p)) ⊎ ((b ≡ false) × (edge.to ≡ p → ⊥))
          → (o : (T d edge (get_or system.template r []) ≤ᴱ d p r) ⊎ (d p r <ᴱ T d edge (get_or system.template r []))) →
          In (if b then ⊎_elim (λ h. exceeding system T d p r (suc k) edges) (λ h. k ∷ exceeding system T d p r (suc k) edges) o
          else exceeding system T d p r (suc k) edges) n →
          (In (exceeding system T d p r (suc k) edges) n → Found k (edge ∷ edges) n) → Found k (edge ∷ edges) n
      by false t o m rec = rec m
      by true t (inl h) m rec = rec m
      by true (inl t) (inr h) m rec = ⊎_elim (λ e. (0, sym e ∙ omega arith, omega arith, t.1, h)) (λ j. rec j) m
      by true (inr t) (inr h) m rec = absurd (true≢false t.0)

  -- where no edge is offered, none exceeds
  unoffered : (k : ℕ) (edges : List Edge) → exceeding system T d p r k edges ≡ [] → (edge : Edge) → In edges edge → edge.to ≡ p
      → T d edge (get_or system.template r []) ≤ᴱ d p r
  unfolding exceeding
  unoffered k [] e edge m t = absurd m
  unoffered k (first ∷ edges) e edge m t = by (eqb first.to p) (eqb_tells first.to p)
      (ext_le_or_lt (T d first (get_or system.template r [])) (d p r)) e (λ f j. unoffered (suc k) edges f edge j t)
    where
      by : (b : Bool) → ((b ≡ true) × (first.to ≡ p)) ⊎ ((b ≡ false) × (first.to ≡ p → ⊥))
          → (o : (T d first (get_or system.template r []) ≤ᴱ d p r) ⊎ (d p r <ᴱ T d first (get_or system.template r []))) →
          (if b then ⊎_elim (λ h. exceeding system T d p r (suc k) edges) (λ h. k ∷ exceeding system T d p r (suc k) edges) o else exceeding
          system T d p r (suc k) edges) ≡ [] →
          (exceeding system T d p r (suc k) edges ≡ [] → In edges edge → T d edge (get_or system.template r []) ≤ᴱ d p r)
          → T d edge (get_or system.template r []) ≤ᴱ d p r
      by true c (inl h) f rec = ⊎_elim (λ g. subst (λ x. T d x (get_or system.template r []) ≤ᴱ d p r) g h) (λ j. rec f j) m
      by true c (inr h) f rec = cc
      by false (inl c) o f rec = absurd (true≢false (sym c.0))
      by false (inr c) o f rec = ⊎_elim (λ g. absurd (c.1 (ap (λ x. x.to) g ∙ t))) (λ j. rec f j) m

  offered : (n : ℕ) → In (offers system T d p r) n → (r < length system.template) × Offer system T d p r n
  unfolding offers Found none
  offered n m = by (ltb r (length system.template)) refl m
    where
      by : (b : Bool) → ltb r (length system.template) ≡ b → In (if b then exceeding system T d p r 0 system.edges else []) n
          → (r < length system.template) × Offer system T d p r n
      by true e m =
          let f = found 0 system.edges n m in
          let same : n ≡ f.0 = f.1 ∙ omega arith in (
            ltb-true r (length system.template) e,
            record {
              within = subst (λ j. j < length system.edges) (sym same) f.2;
              into = subst (λ j. (get_or system.edges j none).to ≡ p) (sym same) f.3;
              exceeds = subst (λ j. d p r <ᴱ T d (get_or system.edges j none) (get_or system.template r [])) (sym same) f.4;
            },
          )
      by false e m = absurd m

  -- where no edge is offered at a row of the template, none into the point exceeds
  nothing_offered : r < length system.template → offers system T d p r ≡ [] → (edge : Edge) → In system.edges edge → edge.to ≡ p
      → T d edge (get_or system.template r []) ≤ᴱ d p r
  unfolding offers
  nothing_offered l e edge m t = unoffered 0 system.edges (sym (ap (λ b. if b then exceeding system T d p r 0 system.edges else [])
      (lt-ltb r (length system.template) l)) ∙ e) edge m t

taken_is : (system : Equations) (T : Transformer) (d : Vector) (choose : ℕ → List ℕ → ℕ)
    → ((k : ℕ) (ks : List ℕ) → In (k ∷ ks) (choose k ks)) → (os : List ℕ) (old : Option ℕ) (e : ℕ) →
    taken system T d choose os old ≡ Some e → (old ≡ Some e) ⊎ In os e
unfolding taken
taken_is system T d choose among [] old e h = inl h
taken_is system T d choose among (k ∷ ks) old e h = inr (subst (In (k ∷ ks)) (same_Some (choose k ks) e h) (among k ks))

module _ (system : Equations) (T : Transformer) (range : PointsInRange system) (choose : ℕ → ℕ → ℕ → List ℕ → ℕ)
    (among : (p r k : ℕ) (ks : List ℕ) → In (k ∷ ks) (choose p r k ks))
    (d : Vector) (pick : Pick) (tight : Tight system T d pick) where
  -- an offer is a placed item
  offer_placed : (u : Item) → In (offers system T d u.point u.row) u.edge → Placed system u × (d u.point u.row <ᴱ value_at system T d u)
  unfolding edge_of row_of
  offer_placed u m =
      let f = offered system T d u.point u.row u.edge m in
      let o = f.1 in (
        record {
          later = later u.point refl o.exceeds f.0;
          point_within = subst (λ p. p < system.points) o.into (range.ends (edge_of system u)
              (Contains-get_or system.edges u.edge (record { from = 0; to = 0; actions = [] }) o.within));
          row_within = f.0;
          edge_within = o.within;
          into = o.into;
        },
        o.exceeds,
      )
    where
      nothing_above : (v w : Ext) → v ≡ pos_inf → v <ᴱ w → ⊥
      nothing_above neg_inf w e h = cc
      nothing_above (fin c) w e h = cc
      nothing_above pos_inf w e h = h

      later : (p : ℕ) → u.point ≡ p → d u.point u.row <ᴱ value_at system T d u → u.row < length system.template → 0 < u.point
      later zero e h l = absurd (nothing_above (d u.point u.row) (value_at system T d u)
          (ap (λ q. d q u.row) e ∙ tight.supported.entry u.row l) h)
      later (suc p) e h l = omega arith

  changed : Pick
  changed = changed_pick system T d choose pick

  change_is_pick : IsPick system changed
  unfolding changed changed_pick
  change_is_pick u h =
      ⊎_elim (λ e. tight.supported.is_pick u e) (λ m. (offer_placed u m).0)
      (taken_is system T d (choose u.point u.row) (among u.point u.row) (offers system T d u.point u.row) (pick u.point u.row) u.edge h)

  change_improves : Improves system T d pick changed
  unfolding changed changed_pick taken choice
  change_improves p r = by (offers system T d p r) refl
    where
      by : (os : List ℕ) → offers system T d p r ≡ os → (changed p r ≡ pick p r)
          ⊎ ((u : Item) × (u.point ≡ p) × (u.row ≡ r) × Picks changed u × (d p r <ᴱ value_at system T d u))
      by [] e = inl (ap (λ os. taken system T d (choose p r) os (pick p r)) e)
      by (k ∷ ks) e =
          let u = choice p r (choose p r k ks) in
          inr (
            u,
            refl,
            refl,
            ap (λ os. taken system T d (choose p r) os (pick p r)) e,
            (offer_placed u (subst (λ os. In os (choose p r k ks)) (sym e) (among p r k ks))).1,
          )

  improved_at : (p r k : ℕ) (ks : List ℕ) → offers system T d p r ≡ k ∷ ks → Improved system T d changed
  unfolding changed changed_pick taken choice
  improved_at p r k ks e =
      let u = choice p r (choose p r k ks) in
      record {
        item = u;
        picked = ap (λ os. taken system T d (choose p r) os (pick p r)) e;
        exceeds =
            (offer_placed u (subst (λ os. In os (choose p r k ks)) (sym e) (among p r k ks))).1;
      }

  better_is : (us : List Unknown) (b : Pick) → next_pick system T d changed us ≡ Some b → Better system T d pick b
  unfolding next_pick if_offered
  better_is [] b e = absurd (none-some b e)
  better_is (u ∷ us) b e = by (offers system T d u.point u.row) refl e (λ f. better_is us b f)
    where
      same : (a b : Pick) → Some a ≡ Some b → a ≡ b
      same a b f = ap (λ o. at o) f
        where
          at : Option Pick → Pick
          at None = a
          at (Some c) = c

      by : (os : List ℕ) → offers system T d u.point u.row ≡ os → if_offered system T d os changed (next_pick system T d changed us)
          ≡ Some b → (next_pick system T d changed us ≡ Some b → Better system T d pick b) → Better system T d pick b
      by [] f g rec = rec g
      by (k ∷ ks) f g rec = subst (Better system T d pick) (same changed b g)
          (record { is_pick = change_is_pick; improves = change_improves; improved = improved_at u.point u.row k ks f })

  no_offer : (us : List Unknown) → next_pick system T d changed us ≡ None → (u : Unknown) → In us u → offers system T d u.point u.row ≡ []
  unfolding next_pick if_offered
  no_offer [] e u m = absurd m
  no_offer (v ∷ us) e u m = by (offers system T d v.point v.row) refl e (λ f j. no_offer us f u j)
    where
      by : (os : List ℕ) → offers system T d v.point v.row ≡ os → if_offered system T d os changed (next_pick system T d changed us) ≡ None
          → (next_pick system T d changed us ≡ None → In us u → offers system T d u.point u.row ≡ []) →
          offers system T d u.point u.row ≡ []
      by [] f g rec = ⊎_elim (λ h. subst (λ w. offers system T d w.point w.row ≡ []) h f) (λ j. rec g j) m
      by (k ∷ ks) f g rec = absurd (none-some changed (sym g))

  -- any choice among the exceeding edges answers as a policy
  pub policy_answers : Answers system T d pick (policy_pick system T d choose pick)
  unfolding policy_pick changed
  policy_answers = by (next_pick system T d changed (unknowns system)) refl
    where
      by : (o : Option Pick) → next_pick system T d changed (unknowns system) ≡ o → Answers system T d pick o
      by (Some b) e = better_is (unknowns system) b e
      by None e = λ edge r row listed f.
          let l = slice_get_within system.template r row f in
          subst (λ w. T d edge w ≤ᴱ d edge.to r) (get_or_from_slice_get system.template r row [] f)
          (nothing_offered system T d edge.to r l (no_offer (unknowns system) e (record { point = edge.to; row = r })
          (in_unknowns system edge.to r (range.ends edge listed) l)) edge (in_of_contains system.edges edge listed) refl)
