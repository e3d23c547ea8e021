-- The whole list of unknowns that the growth raised to fractions, cut into the parts that a cut function gives, or left whole.
use Rattle.std.proofs.Common.{◌≡◌, ◌∙◌, ◌⊎◌, inl, inr, ⊎_elim, List, [], ◌∷◌, ◌++◌, append-nil, length, refl, sym, subst, subst₂, arith}
use Rattle.std.specs.Prelude.{ℤ, Bool}
use Rattle.base_facts.proofs.elements.Membership.{of_append}
use Rattle.base_facts.specs.Elements.{In}
use Rattle.base_numbers.specs.Rational.{ℚ}
use Rattle.base_numbers.specs.Extended.{Ext, neg_inf, fin, pos_inf}
use Rattle.flow_edges.specs.declared.edge.Edge.{Edge}
use Rattle.flow_systems.specs.Equations.{Equations, Vector}
use Rattle.theory_validity.specs.Steps.{Below, Item, Step, edge_of, after_step, Unnamed, Distinct, word}
use Rattle.theory_validity.specs.Certificates.{after_steps}
use Rattle.theory_validity.proofs.steps.Puts.{not_unnamed, runs_below}
use Rattle.theory_validity.proofs.steps.CertificateLaw.{led_up}
use Rattle.theory_strategy.specs.Picks.{Pick, Transformer, IsPick, Supported, choices}
use Rattle.theory_strategy.specs.RoundFacts.{Listed}
use Rattle.theory_strategy.specs.Growth.{Evident, Sizes, growth, items_of, grow}
use Rattle.theory_strategy.specs.Round.{Outcome, turns, members, Admissible, keep, finite_items, rising, round, round_steps}
use Rattle.theory_strategy.specs.Turns.{AreTurnsOf, PartsAreWaiting}
use Rattle.theory_strategy.proofs.round.CutLaw.{turns_are}
use Rattle.theory_strategy.proofs.round.Choices.{choices_picked}
use Rattle.theory_strategy.proofs.growth.RaiseStep.{Raise}
use Rattle.theory_strategy.proofs.growth.GrowthLaw.{Raises, raises_valid, led_unnamed}
use Rattle.theory_strategy.proofs.growth.PassLaw.{passes_done}
use Rattle.theory_strategy.proofs.growth.Grown.{grow_is}
use Rattle.theory_strategy.proofs.round.TurnLaw.{unnamed_by_all}
use Rattle.theory_strategy.proofs.round.PartLaw.{Joined}
use Rattle.theory_strategy.proofs.round.RoundLaw.{IsCut, RoundDone, cut_waiting, round_done}
use Rattle.theory_strategy.proofs.growth.ApartLaw.{choices_distinct, passes_apart}

-- the items at fractions
pub of_finite : (z : Vector) (us : List Item) (u : Item) → In (finite_items z us) u → In us u × ((c : ℚ) × (z u.point u.row ≡ fin c))
unfolding finite_items keep
of_finite z [] u m = absurd m
of_finite z (v ∷ us) u m = by (z v.point v.row) refl m (λ k. of_finite z us u k)
  where
    by : (x : Ext) → z v.point v.row ≡ x → In (keep x v (finite_items z us)) u
        → (In (finite_items z us) u → In us u × ((c : ℚ) × (z u.point u.row ≡ fin c)))
        → In (v ∷ us) u × ((c : ℚ) × (z u.point u.row ≡ fin c))
    by neg_inf e m rec = let r = rec m in (inr r.0, r.1)
    by (fin c) e m rec = ⊎_elim (λ f. (inl f, (c, subst (λ i. z i.point i.row ≡ fin c) f e))) (λ k. let r = rec k in (inr r.0, r.1)) m
    by pos_inf e m rec = let r = rec m in (inr r.0, r.1)

-- an item whose unknown is finite at the vector is among the items at fractions
pub in_finite : (z : Vector) (us : List Item) (u : Item) (c : ℚ) → In us u → z u.point u.row ≡ fin c → In (finite_items z us) u
unfolding finite_items keep
in_finite z [] u c m e = absurd m
in_finite z (v ∷ us) u c m e = by (z v.point v.row) refl (λ k. in_finite z us u c k e)
  where
    at : v ≡ u → z v.point v.row ≡ fin c
    at f = subst (λ i. z i.point i.row ≡ fin c) (sym f) e

    by : (x : Ext) → z v.point v.row ≡ x → (In us u → In (finite_items z us) u) → In (keep x v (finite_items z us)) u
    by neg_inf f rec = ⊎_elim (λ g. absurd (differ (sym f ∙ at g))) (λ k. rec k) m
      where
        differ : neg_inf ≡ fin c → ⊥
        differ h = cc
    by (fin a) f rec = ⊎_elim (λ g. inl g) (λ k. inr (rec k)) m
    by pos_inf f rec = ⊎_elim (λ g. absurd (differ (sym f ∙ at g))) (λ k. rec k) m
      where
        differ : pos_inf ≡ fin c → ⊥
        differ h = cc

distinct_finite : (z : Vector) (us : List Item) → Distinct us → Distinct (finite_items z us)
unfolding finite_items keep
distinct_finite z [] d = tt
distinct_finite z (v ∷ us) d = by (z v.point v.row) (distinct_finite z us d.1) (λ u m. (of_finite z us u m).0)
  where
    by : (x : Ext) → Distinct (finite_items z us) → ((u : Item) → In (finite_items z us) u → In us u)
        → Distinct (keep x v (finite_items z us))
    by neg_inf r from = r
    by (fin c) r from = (
      unnamed_by_all (finite_items z us) v.point v.row
          (λ u m e f. not_unnamed us u (from u m) (subst₂ (λ p q. Unnamed us p q) (sym e) (sym f) d.0)),
      r,
    )
    by pos_inf r from = r

-- a listed unknown is one at a greater vector that is the same there
listed_later : (system : Equations) (pick : Pick) (z f : Vector) (u : Item) → Below system z f → f u.point u.row ≡ z u.point u.row
    → Listed system pick z u → Listed system pick f u
listed_later system pick z f u below e h =
    record {
      picked = h.picked;
      bound = h.bound;
      finite = e ∙ h.finite;
      size = h.size;
      runs =
          runs_below system z f (edge_of system u) (word u.low) below h.runs;
      exceeds = h.exceeds;
    }

-- raises of distinct unknowns: each is +∞ at the end, or listed with its own low word
own_more : (system : Equations) (T : Transformer) (pick : Pick) (s : Step) (steps : List Step) (z : Vector) → Raise system T pick z s
    → Raises system T pick (after_step s z) steps → Distinct (s.items ++ items_of steps) →
    IsPick system pick →
    (Distinct (items_of steps) → (u : Item) → In (items_of steps) u → (after_steps steps (after_step s z) u.point u.row ≡ pos_inf)
    ⊎ Listed system pick (after_steps steps (after_step s z)) u) →
    (u : Item) → In (s.items ++ items_of steps) u → (after_steps steps (after_step s z) u.point u.row ≡ pos_inf)
    ⊎ Listed system pick (after_steps steps (after_step s z)) u
own_more system T pick s steps z h rest distinct is_pick known u m =
    ⊎_elim (λ k. here (subst (λ l. In l u) h.single k)) (λ k. known d.1 u k) (of_append s.items (items_of steps) u m)
  where
    d : Distinct (h.item ∷ items_of steps)
    d = subst (λ l. Distinct (l ++ items_of steps)) h.single distinct

    f : Vector
    f = after_steps steps (after_step s z)

    e : f h.item.point h.item.row ≡ after_step s z h.item.point h.item.row
    e = led_unnamed steps (after_step s z) h.item.point h.item.row d.0

    here : In (h.item ∷ []) u → (f u.point u.row ≡ pos_inf) ⊎ Listed system pick f u
    here (inl g) = subst (λ i. (f i.point i.row ≡ pos_inf) ⊎ Listed system pick f i) g
        (⊎_elim (λ t. inl (e ∙ t)) (λ l. inr (listed_later system pick (after_step s z) f h.item
        (led_up system steps (after_step s z) (raises_valid system T pick steps (after_step s z) rest)) e l)) h.own)
    here (inr k) = absurd k

own_is : (system : Equations) (T : Transformer) (pick : Pick) (steps : List Step) (z : Vector) → Raises system T pick z steps
    → Distinct (items_of steps) → IsPick system pick → (u : Item) → In (items_of steps) u →
    (after_steps steps z u.point u.row ≡ pos_inf) ⊎ Listed system pick (after_steps steps z) u
unfolding after_steps items_of
own_is system T pick [] z h distinct is_pick u m = absurd m
own_is system T pick (s ∷ steps) z h distinct is_pick u m =
    own_more system T pick s steps z h.0 h.1 distinct is_pick (λ d v k. own_is system T pick steps (after_step s z) h.1 d is_pick v k) u m

module _ (fitting : ℚ → Bool) (system : Equations) (T : Transformer) (reaches : Evident system T)
    (sizes : (z : Vector) (edge : Edge) (row : List ℤ) → Sizes system z edge row (T z edge row) (reaches z edge row)) where
  rising_listed : (d : Vector) (pick : Pick) → IsPick system pick → (u : Item) → In (rising fitting system T reaches d pick) u →
      In (items_of (grow fitting system T reaches d pick)) u × Listed system pick (after_steps (grow fitting system T reaches d pick) d) u
  unfolding rising grow growth
  rising_listed d pick is_pick u m =
      let us = choices system pick in
      let steps = grow fitting system T reaches d pick in
      let done = passes_done fitting system T reaches sizes pick is_pick (length us) us d (omega arith) (choices_picked system pick) in
      let apart = passes_apart fitting system T reaches sizes pick is_pick (length us) us d (choices_picked system pick)
      (choices_distinct system pick) in
      let r = of_finite (after_steps steps d) (items_of steps) u m in (
        r.0,
        ⊎_elim (λ t. absurd (differ r.1.0 (sym t ∙ r.1.1))) (λ l. l)
            (own_is system T pick steps d done.logged.raises apart.distinct is_pick u r.0),
      )
    where
      differ : (c : ℚ) → pos_inf ≡ fin c → ⊥
      differ c e = cc

  -- parts are a cut of the rising unknowns
  pub record Cuts (d : Vector) (pick : Pick) (lists : List (List Item)) : Type 0 where
    -- the parts are an admissible cut
    pub admissible : Admissible system lists
    -- their members are rising unknowns
    pub from : (u : Item) → In (members lists) u → In (rising fitting system T reaches d pick) u
    -- each rising unknown is a member
    pub all : (u : Item) → In (rising fitting system T reaches d pick) u → In (members lists) u

  -- admissible parts with the rising unknowns as members are a cut
  pub cut_is : (d : Vector) (pick : Pick) (lists : List (List Item)) → IsPick system pick → Cuts d pick lists →
      IsCut system pick (after_steps (grow fitting system T reaches d pick) d) (grow fitting system T reaches d pick) lists
  unfolding rising
  cut_is d pick lists is_pick cut =
      let steps = grow fitting system T reaches d pick in
      record {
        admissible = cut.admissible;
        listed = λ u m. (rising_listed d pick is_pick u (cut.from u m)).1;
        raised = λ u m. (u, (rising_listed d pick is_pick u (cut.from u m)).0, record { point = refl; row = refl; edge = refl });
        complete = λ v c m e. (
          v,
          cut.all v (in_finite (after_steps steps d) (items_of steps) v c m e),
          record { point = refl; row = refl; edge = refl },
        );
      }

  -- the whole list is a cut
  pub whole_cut : (d : Vector) (pick : Pick) → IsPick system pick → Cuts d pick (rising fitting system T reaches d pick ∷ [])
  unfolding rising members grow growth
  whole_cut d pick is_pick =
      let us = choices system pick in
      let steps = grow fitting system T reaches d pick in
      let apart = passes_apart fitting system T reaches sizes pick is_pick (length us) us d (choices_picked system pick)
      (choices_distinct system pick) in
      record {
        admissible = (distinct_finite (after_steps steps d) (items_of steps) apart.distinct, (λ u m. tt), (λ u m r l. tt), tt);
        from = λ u m. subst (λ l. In l u) (append-nil (rising fitting system T reaches d pick)) m;
        all = λ u m. subst (λ l. In l u) (sym (append-nil (rising fitting system T reaches d pick))) m;
      }

  -- the unknowns of a cut wait for their turns after the growth
  pub cuts_waiting : (d : Vector) (pick : Pick) (lists : List (List Item)) → Supported system T d pick → Cuts d pick lists →
      PartsAreWaiting system pick (after_steps (grow fitting system T reaches d pick) d)
      (after_steps (grow fitting system T reaches d pick) d) lists
  cuts_waiting d pick lists supported cuts =
      let steps = grow fitting system T reaches d pick in
      cut_waiting system T reaches pick d (after_steps steps d) steps supported (grow_is fitting system T reaches sizes d pick supported)
      lists
      (cut_is d pick lists supported.is_pick cuts)

  -- a round by a supported pick leads to the vector above d by the pick, whichever outcomes its turns are made by
  pub round_by : (d : Vector) (pick : Pick) (lists : List (List Item)) (made : List Step) → Supported system T d pick → Cuts d pick lists →
      AreTurnsOf system T (after_steps (grow fitting system T reaches d pick) d) lists made →
      RoundDone system T d (after_steps (grow fitting system T reaches d pick) d) pick (grow fitting system T reaches d pick)
      (grow fitting system T reaches d pick ++ made) (after_steps made (after_steps (grow fitting system T reaches d pick) d))
  round_by d pick lists made supported cuts turned =
      let steps = grow fitting system T reaches d pick in
      round_done system T reaches pick d (after_steps steps d) steps supported (grow_is fitting system T reaches sizes d pick supported)
      lists
      (cut_is d pick lists supported.is_pick cuts) made turned

  module _ (joint : Pick → Vector → List Item → Outcome) (joined : (pick : Pick) → IsPick system pick → Joined system T pick (joint pick))
      (cut : Vector → Pick → List (List Item))
      (cuts : (d : Vector) (pick : Pick) → IsPick system pick → Cuts d pick (cut d pick)) where
    -- the turns by a function for the outcomes are some
    pub turns_by : (d : Vector) (pick : Pick) → Supported system T d pick →
        AreTurnsOf system T (after_steps (grow fitting system T reaches d pick) d) (cut d pick)
        (turns (joint pick) (after_steps (grow fitting system T reaches d pick) d) (cut d pick))
    turns_by d pick supported =
        let z = after_steps (grow fitting system T reaches d pick) d in
        turns_are system T reaches pick supported.is_pick z (joint pick) (joined pick supported.is_pick) (cut d pick) z
        (cuts_waiting d pick (cut d pick) supported (cuts d pick supported.is_pick))

    -- so a round by them does
    pub round_is : (d : Vector) (pick : Pick) → Supported system T d pick →
        RoundDone system T d (after_steps (grow fitting system T reaches d pick) d) pick (grow fitting system T reaches d pick)
        (round_steps fitting system T reaches joint cut d pick) (round fitting system T reaches joint cut d pick)
    unfolding round round_steps
    round_is d pick supported =
        let z = after_steps (grow fitting system T reaches d pick) d in
        round_by d pick (cut d pick) (turns (joint pick) z (cut d pick)) supported (cuts d pick supported.is_pick)
        (turns_by d pick supported)
