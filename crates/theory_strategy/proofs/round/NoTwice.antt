-- No pick comes twice.
use Rattle.std.proofs.Common.{◌≡◌, ◌∙◌, inl, inr, ⊎_elim, ℕ, zero, suc, ◌+◌, ◌-◌, ◌<◌, ◌≤◌, List, [], ◌∷◌, length, refl, sym, ap, subst}
use Rattle.std.proofs.Common.{subst₂, arith}
use Rattle.std.specs.Prelude.{ℤ}
use Rattle.base_numbers.proofs.extended.ExtendedLaws.{ext_lt_of_lt_of_le, ext_lt_irrefl, ext_le_of_eq, top_from_le}
use Rattle.base_facts.specs.Elements.{In}
use Rattle.base_numbers.specs.Rational.{ℚ}
use Rattle.base_numbers.specs.Extended.{Ext, neg_inf, fin, pos_inf, ◌≤ᴱ◌, ◌<ᴱ◌}
use Rattle.flow_edges.specs.declared.edge.Edge.{Edge}
use Rattle.flow_systems.specs.Equations.{Equations, Vector}
use Rattle.theory_validity.specs.Steps.{Below, Item, Step, Kind, Plain, Jump, Ray, after_step, put, new_value, ValidStep, item_value}
use Rattle.theory_validity.specs.Certificates.{NotFinite, ValidSteps, after_steps}
use Rattle.theory_validity.specs.Transformers.{Reaches}
use Rattle.theory_validity.proofs.steps.Puts.{named_or_not, put-unnamed, put-named, below_trans}
use Rattle.theory_validity.proofs.steps.StepLaw.{step_up}
use Rattle.theory_validity.proofs.steps.CertificateLaw.{led_up}
use Rattle.theory_strategy.specs.Picks.{Pick, Transformer, Picks}
use Rattle.theory_strategy.proofs.picks.Picks.{tight_above, picked_or_not}
use Rattle.theory_strategy.specs.Rounds.{Rounds}
use Rattle.theory_strategy.proofs.round.RoundChain.{rise}
use Rattle.theory_strategy.proofs.round.FirstLaw.{HighWord, Supports, first_law}
use Rattle.theory_strategy.proofs.round.SecondLaw.{Tops, attained, no_ray}

module _ (system : Equations) (T : Transformer) (reaches : (z : Vector) (edge : Edge) (row : List ℤ)
    → Reaches system z edge row (T z edge row))
    (n : ℕ) (d z : ℕ → Vector) (pick : ℕ → Pick) (steps : ℕ → List Step) (rounds : Rounds system T n d z pick steps)
    (i j : ℕ) (i_before : i < j) (j_within : j ≤ n) (same_pick : (p r : ℕ) → pick i p r ≡ pick j p r) where
  -- a step of a round between two of one pick makes nothing +∞
  step_tops : (k : ℕ) → i ≤ k → k < j → (b : Vector) (step : Step) → Below system (d i) b → Tops system (d i) b → ValidStep system b step →
      Below system (after_step step b) (d (suc k)) → ((u : Item) → In step.items u → Picks (pick (suc k)) u)
      → Tops system (d i) (after_step step b)
  unfolding after_step new_value
  step_tops k h l b step over tops valid under picked p r within e = ⊎_elim named
      (λ u. tops p r within (sym (put-unnamed (new_value step.kind) step.items b p r u) ∙ e)) (named_or_not step.items p r)
    where
      by : (kind : Kind) (items : List Item) → ValidStep system b (record { kind = kind; items = items })
          → Below system (put (new_value kind) items b) (d (suc k)) →
          ((u : Item) → In items u → Picks (pick (suc k)) u) → (u : Item) → In items u
          → put (new_value kind) items b u.point u.row ≡ pos_inf → ⊥
      by Plain items v under picked u m e = differ u.number (sym (put-named (new_value Plain) items b u v.distinct m) ∙ e)
        where
          differ : (c : ℚ) → fin c ≡ pos_inf → ⊥
          differ c e = cc
      by Jump items v under picked u m e = differ u.number (sym (put-named (new_value Jump) items b u v.distinct m) ∙ e)
        where
          differ : (c : ℚ) → fin c ≡ pos_inf → ⊥
          differ c e = cc
      by Ray items v under picked u m e = no_ray system T reaches n d z pick steps rounds i j i_before j_within same_pick k h l b items over
          tops v under picked u m

      named : ((u : Item) × In step.items u × (u.point ≡ p) × (u.row ≡ r)) → d i p r ≡ pos_inf
      named u = absurd (by step.kind step.items valid under picked u.0 u.1
          (subst₂ (λ s t. put (new_value step.kind) step.items b s t ≡ pos_inf) (sym u.2) (sym u.3) e))

  steps_tops : (k : ℕ) → i ≤ k → k < j → (list : List Step) (b : Vector) → Below system (d i) b → Tops system (d i) b
      → ValidSteps system b list →
      Below system (after_steps list b) (d (suc k)) → ((step : Step) → In list step → (u : Item) → In step.items u → Picks (pick (suc k)) u)
      → Tops system (d i) (after_steps list b)
  unfolding after_steps
  steps_tops k h l [] b over tops valid under picked = tops
  steps_tops k h l (step ∷ list) b over tops valid under picked =
      let up = step_up system b step valid.0 in
      steps_tops k h l list (after_step step b) (below_trans system (d i) b (after_step step b) over up)
      (step_tops k h l b step over tops valid.0 (below_trans system (after_step step b) (after_steps list (after_step step b)) (d (suc k))
      (led_up system list (after_step step b) valid.1) under) (picked step (inl refl)))
      valid.1 under (λ s m. picked s (inr m))

  round_tops : (k : ℕ) → i ≤ k → k < j → Tops system (d i) (d k) → Tops system (d i) (d (suc k))
  round_tops k h l tops p r within e =
      let f = rounds.facts k (omega arith) in
      steps_tops k h l (steps k) (d k) (rise system T n d z pick steps rounds i k h (omega arith)) tops f.valid
      (λ s t w. ext_le_of_eq (after_steps (steps k) (d k) s t) (d (suc k) s t) (f.leads s t w)) f.items p r within (f.leads p r within ∙ e)

  rounds_tops : (m : ℕ) → i + m ≤ j → Tops system (d i) (d (i + m))
  rounds_tops zero h = λ p r l e. ap (λ k. d k p r) (omega arith) ∙ e
  rounds_tops (suc m) h = subst (λ k. Tops system (d i) (d k)) (omega arith)
      (round_tops (i + m) (omega arith) (omega arith) (rounds_tops m (omega arith)))

  -- what is +∞ after the later round was so after the earlier
  tops_between : Tops system (d i) (d j)
  tops_between = subst (λ k. Tops system (d i) (d k)) (omega arith) (rounds_tops (j - i) (omega arith))

  rising : Below system (d i) (d j)
  rising = rise system T n d z pick steps rounds i j (omega arith) j_within

  nothing_same : (p r : ℕ) → r < length system.template → d i p r ≡ neg_inf → d j p r ≡ neg_inf
  nothing_same zero r l e = absurd (differ (sym ((rounds.tight i (omega arith)).supported.entry r l) ∙ e))
    where
      differ : pos_inf ≡ neg_inf → ⊥
      differ f = cc
  nothing_same (suc p) r l e = ⊎_elim
      (λ u. absurd (ext_lt_irrefl neg_inf (subst (λ v. neg_inf <ᴱ v) e
      (subst₂ (λ s t. neg_inf <ᴱ d i s t) u.1 u.2 (tight_above system T reaches (d i) (pick i) u.0 (rounds.tight i (omega arith))
      u.3)))))
      (λ none. (rounds.tight j j_within).supported.unpicked (suc p) r (omega arith) l (sym (same_pick (suc p) r) ∙ none))
      (picked_or_not (pick i) (suc p) r)

  supports : Supports system (d i) (d j) (pick i)
  supports = record { over = rising; same = same; finite = finite; highs = highs }
    where
      same : (p r : ℕ) → r < length system.template → NotFinite (d i p r) → d j p r ≡ d i p r
      same p r l h = by (d i p r) refl h
        where
          by : (v : Ext) → d i p r ≡ v → NotFinite v → d j p r ≡ d i p r
          by neg_inf e h = nothing_same p r l e ∙ sym e
          by (fin c) e h = absurd h
          by pos_inf e h = top_from_le (d j p r) (subst (λ v. v ≤ᴱ d j p r) e (rising p r l)) ∙ sym e

      finite : (p r : ℕ) (c : ℚ) → r < length system.template → d i p r ≡ fin c → (b : ℚ) × (d j p r ≡ fin b)
      finite p r c l e = by (d j p r) refl
        where
          differ : pos_inf ≡ fin c → ⊥
          differ f = cc

          by : (v : Ext) → d j p r ≡ v → (b : ℚ) × (d j p r ≡ fin b)
          by neg_inf f = absurd (subst₂ (λ s t. s ≤ᴱ t) e f (rising p r l))
          by (fin b) f = (b, f)
          by pos_inf f = absurd (differ (sym (tops_between p r l f) ∙ e))

      highs : (u : Item) (c : ℚ) → Picks (pick i) u → d i u.point u.row ≡ fin c → HighWord system (d j) u
      highs u c p e =
          let p' : Picks (pick j) u = sym (same_pick u.point u.row) ∙ p in
          let b = finite u.point u.row c ((rounds.tight j j_within).supported.is_pick u p').row_within e in
          let w = attained system T reaches n d z pick steps rounds i j i_before j_within same_pick j j_within u b.0 p' b.1 in
          record { word = w.0; runs = w.1; reaches = subst (λ s. s ≤ᴱ fin (item_value system u w.0)) (sym b.1) w.2 }

  -- no pick comes twice
  pub no_twice : ⊥
  no_twice =
      let f = rounds.facts i (omega arith) in
      let law = first_law system T reaches n d z pick steps rounds i (omega arith) (d j) supports in
      ext_lt_irrefl (d i f.point f.row)
      (subst (λ v. d i f.point f.row <ᴱ v) (law f.point f.row f.row_within)
      (ext_lt_of_lt_of_le (d i f.point f.row) (d (suc i) f.point f.row) (d j f.point f.row) f.moves
      (rise system T n d z pick steps rounds (suc i) j (omega arith) j_within f.point f.row f.row_within)))
