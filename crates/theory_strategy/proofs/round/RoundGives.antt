-- What a round by an improved pick gives to the chain, and that the cut doesn't matter.
use Rattle.std.proofs.Common.{◌≡◌, ◌∙◌, inl, inr, ⊎_elim, ℕ, List, sym, ap, subst, subst₂}
use Rattle.base_numbers.proofs.extended.ExtendedLaws.{ext_lt_of_lt_of_le, ext_lt_irrefl, top_from_le}
use Rattle.base_facts.specs.Elements.{In}
use Rattle.base_numbers.specs.Rational.{ℚ}
use Rattle.base_numbers.specs.Extended.{fin, pos_inf, ◌≤ᴱ◌, ◌<ᴱ◌}
use Rattle.flow_systems.specs.Equations.{Equations, Vector}
use Rattle.theory_validity.specs.Steps.{Item, Step}
use Rattle.theory_validity.proofs.steps.Puts.{named_or_not}
use Rattle.theory_strategy.specs.Picks.{Pick, Transformer, value_at, Picks, IsPick, Improves}
use Rattle.theory_strategy.specs.RoundFacts.{LowWord, RoundFacts}
use Rattle.theory_strategy.specs.Growth.{Evident, items_of}
use Rattle.theory_strategy.proofs.picks.Picks.{picks_same, value_mono}
use Rattle.theory_strategy.proofs.growth.RaiseStep.{Settled, settled_same}
use Rattle.theory_strategy.proofs.growth.Grown.{Grown}
use Rattle.theory_strategy.proofs.round.RoundLaw.{RoundDone}

-- an unknown whose new edge's transformer exceeds its bound
pub record Improved (system : Equations) (T : Transformer) (d : Vector) (pick : Pick) : Type 0 where
  -- the unknown with its new edge
  pub item : Item
  -- the pick has that edge
  pub picked : Picks pick item
  -- the edge's transformer exceeds the unknown's bound
  pub exceeds : d item.point item.row <ᴱ value_at system T d item

module _ (system : Equations) (T : Transformer) (reaches : Evident system T) (d z f : Vector) (old pick : Pick) (grown steps : List Step)
    (is_pick : IsPick system pick)
    (growth : Grown system T d pick grown z) (done : RoundDone system T d z pick grown steps f) where
  -- a picked unknown whose transformer exceeded its bound has risen
  improved_rises : (u : Item) → Picks pick u → d u.point u.row <ᴱ value_at system T d u → d u.point u.row <ᴱ f u.point u.row
  improved_rises u p h =
      ext_lt_of_lt_of_le (d u.point u.row) (value_at system T d u) (f u.point u.row) h
      (subst (λ v. value_at system T d u ≤ᴱ v) (done.tight.same u p) (value_mono system T reaches d f u done.above.over))

  lows : (u : Item) (c : ℚ) → Picks pick u → d u.point u.row <ᴱ f u.point u.row → f u.point u.row ≡ fin c → LowWord system z u
  lows u c p rose e = ⊎_elim named (λ n. absurd (ext_lt_irrefl (d u.point u.row)
      (subst (λ v. d u.point u.row <ᴱ v) (done.unraised u.point u.row n) rose))) (named_or_not (items_of grown) u.point u.row)
    where
      differ : pos_inf ≡ fin c → ⊥
      differ g = cc

      by : Settled system T z u → LowWord system z u
      by (inl h) = absurd (differ (sym (top_from_le (f u.point u.row) (subst (λ v. v ≤ᴱ f u.point u.row) h.0
          (done.turns u.point u.row ((is_pick u p).row_within)))) ∙ e))
      by (inr h) = h

      named : ((v : Item) × In (items_of grown) v × (v.point ≡ u.point) × (v.row ≡ u.row)) → LowWord system z u
      named v =
          let r = growth.raised v.0 v.1 in
          by (settled_same system T z v.0 u (record { point = v.2; row = v.3; edge = picks_same pick v.0 u v.2 v.3 r.picked p }) r.settled)

  -- the facts of a round by an improved pick
  pub round_facts : Improves system T d old pick → Improved system T d pick → RoundFacts system d z f old pick steps
  round_facts improves improved =
      record {
        grows = growth.over;
        turns = done.turns;
        lows = lows;
        changed = λ p r l. ⊎_elim (λ e. inl e) (λ u. inr (moved p r u.0 u.1 u.2 u.3 u.4)) (improves p r);
        valid = done.valid;
        leads = λ p r l. ap (λ v. v p r) done.leads;
        items = done.items;
        point = improved.item.point;
        row = improved.item.row;
        row_within = (is_pick improved.item improved.picked).row_within;
        moves = improved_rises improved.item improved.picked improved.exceeds;
      }
    where
      moved : (p r : ℕ) (u : Item) → u.point ≡ p → u.row ≡ r → Picks pick u → d p r <ᴱ value_at system T d u → d p r <ᴱ f p r
      moved p r u e g h i = subst₂ (λ a b. d a b <ᴱ f a b) e g (improved_rises u h
          (subst₂ (λ a b. d a b <ᴱ value_at system T d u) (sym e) (sym g) i))
