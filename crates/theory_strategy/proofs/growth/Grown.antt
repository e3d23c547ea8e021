-- The growth of a supported pick, and flatness after it.
use Rattle.std.proofs.Common.{◌≡◌, ◌∙◌, ◌⊎◌, inl, inr, ⊎_elim, ℕ, ◌<◌, List, length, refl, sym, subst, subst₂, arith}
use Rattle.std.specs.Prelude.{ℤ, Bool, Some}
use Rattle.std.proofs.lemmas.Option.{none-some}
use Rattle.base_facts.specs.Elements.{In}
use Rattle.base_numbers.specs.Rational.{ℚ}
use Rattle.base_numbers.specs.Extended.{neg_inf, fin, ◌≤ᴱ◌, ◌<ᴱ◌}
use Rattle.base_numbers.proofs.extended.ExtendedLaws.{≤ᴱ_trans, ≤ᴱ_antisymm, ext_lt_of_lt_of_le, ext_lt_irrefl, ext_le_of_eq}
use Rattle.base_numbers.proofs.rational.Laws.{le_of_lt_ℚ}
use Rattle.flow_edges.specs.declared.edge.Edge.{Edge}
use Rattle.flow_systems.specs.Equations.{Equations, Vector}
use Rattle.theory_validity.specs.Steps.{Below, Item, Step, edge_of, row_of, item_value, Unnamed}
use Rattle.theory_validity.specs.Certificates.{ValidSteps, after_steps}
use Rattle.theory_validity.proofs.steps.Puts.{named_or_not, not_unnamed}
use Rattle.theory_validity.proofs.steps.CertificateLaw.{led_up}
use Rattle.theory_validity.proofs.words.TransformerLaw.{reach_upper}
use Rattle.theory_strategy.specs.Picks.{Pick, Transformer, value_at, Picks, Supported, Closed, choices}
use Rattle.theory_strategy.specs.Growth.{Evident, Sizes, Log, passes, growth, items_of, grow}
use Rattle.theory_strategy.proofs.picks.Picks.{picks_same, value_mono, value_flat}
use Rattle.theory_strategy.proofs.round.Choices.{choices_picked, picked_choice}
use Rattle.theory_strategy.proofs.growth.RaiseStep.{Settled, SameChoice, value_same, at_same}
use Rattle.theory_strategy.proofs.growth.GrowthLaw.{Raised, raised_is, raises_valid, raises_below, raises_picked, led_unnamed}
use Rattle.theory_strategy.proofs.growth.PassLaw.{passes_done}

-- what is known of the growth from d to z by its steps
pub record Grown (system : Equations) (T : Transformer) (d : Vector) (pick : Pick) (steps : List Step) (z : Vector) : Type 0 where
  -- the steps are valid
  pub valid : ValidSteps system d steps
  -- they lead from d to z
  pub leads : after_steps steps d ≡ z
  -- their items are picked
  pub items : (step : Step) → In steps step → (u : Item) → In step.items u → Picks pick u
  -- z is at least d
  pub over : Below system d z
  -- z is at most every closed vector that is at least d
  pub below : (q : Vector) → Below system d q → Closed system T q pick → Below system z q
  -- an unknown that wasn't raised keeps its bound
  pub unraised : (p r : ℕ) → Unnamed (items_of steps) p r → z p r ≡ d p r
  -- a raised unknown is picked, has risen and is settled
  pub raised : (u : Item) → In (items_of steps) u → Raised system T pick d z u
  -- the transformer of a picked unknown that wasn't raised is its bound, at d and at z
  pub still : (u : Item) → Picks pick u → Unnamed (items_of steps) u.point u.row
      → (value_at system T d u ≡ d u.point u.row) × (value_at system T z u ≡ d u.point u.row)

module _ (fitting : ℚ → Bool) (system : Equations) (T : Transformer) (reaches : Evident system T)
    (sizes : (z : Vector) (edge : Edge) (row : List ℤ) → Sizes system z edge row (T z edge row) (reaches z edge row)) where
  -- the growth of a supported pick
  pub grow_is : (d : Vector) (pick : Pick) → Supported system T d pick
      → Grown system T d pick (grow fitting system T reaches d pick) (after_steps (grow fitting system T reaches d pick) d)
  unfolding grow growth
  grow_is d pick supported =
      let us = choices system pick in
      let log = passes fitting system T reaches (length us) d us in
      let z = after_steps log.steps d in
      let done = passes_done fitting system T reaches sizes pick supported.is_pick (length us) us d (omega arith)
      (choices_picked system pick) in
      let raises = done.logged.raises in
      let valid = raises_valid system T pick log.steps d raises in
      let over = led_up system log.steps d valid in
      record {
        valid = valid;
        leads = refl;
        items = raises_picked system T reaches pick supported.is_pick log.steps d raises;
        over = over;
        below = λ q below closed. raises_below system T reaches pick supported.is_pick log.steps d q raises closed below;
        unraised = λ p r n. led_unnamed log.steps d p r n;
        raised = raised_is system T reaches pick supported.is_pick log.steps d raises;
        still = λ u p n. still log z over (λ q r. led_unnamed log.steps d q r) done.logged.covers done.ended u p n;
      }
    where
      still : (log : Log) (z : Vector) → Below system d z → ((p r : ℕ) → Unnamed (items_of log.steps) p r → z p r ≡ d p r) →
          ((u : Item) → In (choices system pick) u → In log.left u ⊎ ((v : Item) × In (items_of log.steps) v × SameChoice v u)) →
          ((u : Item) → In log.left u → value_at system T z u ≤ᴱ z u.point u.row) →
          (u : Item) → Picks pick u → Unnamed (items_of log.steps) u.point u.row
          → (value_at system T d u ≡ d u.point u.row) × (value_at system T z u ≡ d u.point u.row)
      still log z over kept covers ended u p n =
          let c = picked_choice system pick u supported.is_pick p in
          let same : SameChoice c.0 u = record { point = c.2; row = c.3; edge = c.4 } in
          let e = kept u.point u.row n in
          let high = value_mono system T reaches d z u over in
          let low : value_at system T z u ≤ᴱ d u.point u.row = ⊎_elim
          (λ m. subst₂ (λ s t. s ≤ᴱ t) (value_same system T z c.0 u same) (at_same z c.0 u same ∙ e) (ended c.0 m))
          (λ v. absurd (not_unnamed (items_of log.steps) v.0 v.1 (subst₂ (λ a b. Unnamed (items_of log.steps) a b) (sym (v.2.point ∙ c.2))
          (sym (v.2.row ∙ c.3)) n)))
          (covers c.0 c.1) in
          let rise = supported.rises u p in (
            ≤ᴱ_antisymm (value_at system T d u) (d u.point u.row) (≤ᴱ_trans (value_at system T d u) (value_at system T z u)
                (d u.point u.row) high low) rise,
            ≤ᴱ_antisymm (value_at system T z u) (d u.point u.row) low (≤ᴱ_trans (d u.point u.row) (value_at system T d u)
                (value_at system T z u) rise high),
          )

module _ (system : Equations) (T : Transformer) (reaches : Evident system T) where
  -- flatness after the growth: the transformers of the unraised stay, whatever the raised unknowns become
  pub grow_flat : (d z y : Vector) (pick : Pick) (steps : List Step) → Supported system T d pick → Grown system T d pick steps z
      → Below system z y →
      ((p r : ℕ) → r < length system.template → Unnamed (items_of steps) p r → y p r ≡ d p r) →
      (u : Item) → Picks pick u → Unnamed (items_of steps) u.point u.row → value_at system T y u ≡ d u.point u.row
  grow_flat d z y pick steps supported grown above kept u p n =
      let s = grown.still u p n in
      value_flat system T reaches d z y u grown.over above (λ r l e. source r l e) (supported.above u p) (s.0 ∙ sym s.1) ∙ s.0
    where
      from : ℕ
      from = (edge_of system u).from

      source : (r : ℕ) → r < length system.template → z from r ≡ d from r → y from r ≡ d from r
      source r l e = ⊎_elim (λ v. absurd (moved v)) (λ m. kept from r l m) (named_or_not (items_of steps) from r)
        where
          moved : ((v : Item) × In (items_of steps) v × (v.point ≡ from) × (v.row ≡ r)) → ⊥
          moved v = ext_lt_irrefl (d from r) (subst (λ w. d from r <ᴱ w) e
              (subst₂ (λ a b. d a b <ᴱ z a b) v.2 v.3 (grown.raised v.0 v.1).rises))

  -- the pick is supported after the growth
  pub grow_supported : (d z : Vector) (pick : Pick) (steps : List Step) → Supported system T d pick → Grown system T d pick steps z
      → Supported system T z pick
  grow_supported d z pick steps supported grown =
      record {
        is_pick = supported.is_pick;
        entry = λ r l. idle 0 r (λ u e f p. later u e (supported.is_pick u p).later) ∙ supported.entry r l;
        unpicked = λ p r later l none. idle p r (λ u e f h. none-some u.edge (sym none ∙ subst₂ (λ a b. pick a b ≡ Some u.edge) e f h))
            ∙ supported.unpicked p r later l none;
        above = λ u p. ext_lt_of_lt_of_le neg_inf (value_at system T d u) (value_at system T z u) (supported.above u p)
            (value_mono system T reaches d z u grown.over);
        rises = λ u p. ⊎_elim (λ v. raised u p v.0 v.1 v.2 v.3) (λ n. ext_le_of_eq (z u.point u.row) (value_at system T z u)
            (grown.unraised u.point u.row n ∙ sym (grown.still u p n).1)) (named_or_not (items_of steps) u.point u.row);
      }
    where
      later : (u : Item) → u.point ≡ 0 → 0 < u.point → ⊥
      later u e h = absurd (omega arith)

      idle : (p r : ℕ) → ((u : Item) → u.point ≡ p → u.row ≡ r → Picks pick u → ⊥) → z p r ≡ d p r
      idle p r no_item = ⊎_elim (λ v. absurd (no_item v.0 v.2 v.3 (grown.raised v.0 v.1).picked)) (λ n. grown.unraised p r n)
          (named_or_not (items_of steps) p r)

      settled_rises : (v : Item) → Settled system T z v → z v.point v.row ≤ᴱ value_at system T z v
      settled_rises v (inl h) = ext_le_of_eq (z v.point v.row) (value_at system T z v) (h.0 ∙ sym h.1)
      settled_rises v (inr h) =
          subst (λ s. s ≤ᴱ value_at system T z v) (sym h.finite)
          (≤ᴱ_trans (fin h.bound) (fin (item_value system v h.word)) (value_at system T z v) (le_of_lt_ℚ h.exceeds)
          (reach_upper system z (edge_of system v) (row_of system v) (value_at system T z v)
          (reaches z (edge_of system v) (row_of system v)) h.word h.runs))

      raised : (u : Item) → Picks pick u → (v : Item) → In (items_of steps) v → v.point ≡ u.point → v.row ≡ u.row
          → z u.point u.row ≤ᴱ value_at system T z u
      raised u p v m e f =
          let r = grown.raised v m in
          let same : SameChoice v u = record { point = e; row = f; edge = picks_same pick v u e f r.picked p } in
          subst₂ (λ s t. s ≤ᴱ t) (at_same z v u same) (value_same system T z v u same) (settled_rises v r.settled)
