-- The round: growth and turns over an admissible cut lead to the vector above d by the pick, where the pick is tight.
use Rattle.std.proofs.Common.{◌≡◌, ◌∙◌, inl, inr, ⊎_elim, ℕ, ◌<◌, List, ◌++◌, refl, sym, ap, subst, subst₂, arith}
use Rattle.std.specs.Prelude.{Some}
use Rattle.std.proofs.lemmas.Option.{none-some}
use Rattle.base_numbers.proofs.extended.ExtendedLaws.{ext_lt_of_lt_of_le, ext_le_of_eq, top_from_le}
use Rattle.base_facts.proofs.elements.Membership.{of_append}
use Rattle.base_facts.specs.Elements.{In}
use Rattle.base_numbers.specs.Rational.{ℚ}
use Rattle.base_numbers.specs.Extended.{neg_inf, fin, ◌≤ᴱ◌, ◌<ᴱ◌}
use Rattle.flow_systems.specs.Equations.{Equations, Vector}
use Rattle.theory_validity.specs.Steps.{Below, Item, Step, Unnamed}
use Rattle.theory_validity.specs.Certificates.{ValidSteps, after_steps}
use Rattle.theory_validity.proofs.steps.Puts.{named_or_not, below_itself, below_trans, not_unnamed}
use Rattle.theory_validity.proofs.steps.CertificateLaw.{led_up}
use Rattle.theory_strategy.specs.Picks.{Pick, Transformer, value_at, Picks, Supported, Tight, Above}
use Rattle.theory_strategy.specs.RoundFacts.{Listed}
use Rattle.theory_strategy.specs.Growth.{Evident, items_of}
use Rattle.theory_strategy.specs.Round.{members, Admissible}
use Rattle.theory_strategy.specs.Turns.{AreTurnsOf, PartsAreWaiting}
use Rattle.theory_strategy.proofs.picks.Picks.{picks_same, value_mono}
use Rattle.theory_strategy.proofs.growth.RaiseStep.{Settled, SameChoice, value_same, at_same}
use Rattle.theory_strategy.proofs.growth.GrowthLaw.{Raised, led_unnamed, led-append}
use Rattle.theory_strategy.proofs.growth.Grown.{Grown, grow_flat}
use Rattle.theory_strategy.proofs.round.TurnLaw.{unnamed_by_all}
use Rattle.theory_strategy.proofs.round.PartLaw.{PartDone}
use Rattle.theory_strategy.proofs.round.CutLaw.{unnamed_items, valid_append, led_closed, turns_done}

-- an admissible cut of the unknowns that the growth raised to fractions, with their low words
pub record IsCut (system : Equations) (pick : Pick) (z : Vector) (steps : List Step) (lists : List (List Item)) : Type 0 where
  -- the cut is admissible
  pub admissible : Admissible system lists
  -- its unknowns are listed with their low words
  pub listed : (u : Item) → In (members lists) u → Listed system pick z u
  -- its unknowns were raised by the growth
  pub raised : (u : Item) → In (members lists) u → (v : Item) × In (items_of steps) v × SameChoice v u
  -- each unknown that the growth raised to a fraction is in the cut
  pub complete : (v : Item) (c : ℚ) → In (items_of steps) v → z v.point v.row ≡ fin c → (u : Item) × In (members lists) u × SameChoice u v

-- what is known of a round from d to f, with the vector z after the growth by the first steps
pub record RoundDone (system : Equations) (T : Transformer) (d z : Vector) (pick : Pick) (grown steps : List Step) (f : Vector) :
    Type 0 where
  -- the round leads to the vector above d by the pick
  pub above : Above system T d pick f
  -- the pick is tight there
  pub tight : Tight system T f pick
  -- the steps are valid
  pub valid : ValidSteps system d steps
  -- they lead from d to f
  pub leads : after_steps steps d ≡ f
  -- their items are picked
  pub items : (step : Step) → In steps step → (v : Item) → In step.items v → Picks pick v
  -- f is at least the vector after the growth
  pub turns : Below system z f
  -- an unknown that the growth didn't raise keeps its bound
  pub unraised : (p r : ℕ) → Unnamed (items_of grown) p r → f p r ≡ d p r
  -- an unknown that the growth raised is picked and has risen
  pub raised : (u : Item) → In (items_of grown) u → Picks pick u × (d u.point u.row <ᴱ f u.point u.row)

module _ (system : Equations) (T : Transformer) (reaches : Evident system T) (pick : Pick)
    (d z : Vector) (grown : List Step) (supported : Supported system T d pick) (growth : Grown system T d pick grown z)
    (lists : List (List Item)) (cut : IsCut system pick z grown lists) where
  -- the unknowns of the cut wait for their turns
  pub cut_waiting : PartsAreWaiting system pick z z lists
  cut_waiting = record { over = below_itself system z; admissible = cut.admissible; listed = cut.listed; kept = λ u m. refl }

  module _ (made : List Step) (turned : AreTurnsOf system T z lists made) where
    after_growth : PartDone system T z z (members lists) made
    after_growth = turns_done system T reaches pick supported.is_pick z lists z made cut_waiting turned

    end : Vector
    end = after_steps (made) z

    over : Below system z end
    unfolding end
    over = led_up system (made) z after_growth.valid

    -- a vector that agrees with z where the cut names nothing
    kept : (p r : ℕ) → Unnamed (items_of grown) p r → end p r ≡ d p r
    unfolding end
    kept p r n =
        led_unnamed (made) z p r (unnamed_items (members lists) (made) after_growth.items p r
        (unnamed_by_all (members lists) p r (λ u m e f. let v = cut.raised u m in
        not_unnamed (items_of grown) v.0 v.1 (subst₂ (λ a b. Unnamed (items_of grown) a b) (sym (v.2.point ∙ e)) (sym (v.2.row ∙ f)) n))))
        ∙ growth.unraised p r n

    same_raised : (u : Item) → Picks pick u → (v : Item) → In (items_of grown) v → v.point ≡ u.point → v.row ≡ u.row
        → value_at system T end u ≡ end u.point u.row
    unfolding end
    same_raised u p v m e f = sym (value_same system T end v u s) ∙ by r.settled ∙ at_same end v u s
      where
        r : Raised system T pick d z v
        r = growth.raised v m

        s : SameChoice v u
        s = record { point = e; row = f; edge = picks_same pick v u e f r.picked p }

        by : Settled system T z v → value_at system T end v ≡ end v.point v.row
        by (inl h) =
            top_from_le (value_at system T end v) (subst (λ w. w ≤ᴱ value_at system T end v) h.1 (value_mono system T reaches z end v over))
            ∙ sym (top_from_le (end v.point v.row) (subst (λ w. w ≤ᴱ end v.point v.row) h.0
            (over v.point v.row ((supported.is_pick v r.picked).row_within))))
        by (inr h) =
            let w = cut.complete v h.bound m h.finite in
            sym (value_same system T end w.0 v w.2) ∙ after_growth.same w.0 w.1 ∙ at_same end w.0 v w.2

    same : (u : Item) → Picks pick u → value_at system T end u ≡ end u.point u.row
    same u p = ⊎_elim
        (λ v. same_raised u p v.0 v.1 v.2 v.3)
        (λ n. grow_flat system T reaches d z end pick grown supported growth over (λ q r l k. kept q r k) u p n
        ∙ sym (kept u.point u.row n))
        (named_or_not (items_of grown) u.point u.row)

    idle : (p r : ℕ) → ((u : Item) → u.point ≡ p → u.row ≡ r → Picks pick u → ⊥) → end p r ≡ d p r
    idle p r no_item = ⊎_elim (λ v. absurd (no_item v.0 v.2 v.3 (growth.raised v.0 v.1).picked)) (λ n. kept p r n)
        (named_or_not (items_of grown) p r)

    up : Below system d end
    up = below_trans system d z end growth.over over

    end_tight : Tight system T end pick
    end_tight = record {
      supported = record {
        is_pick = supported.is_pick;
        entry = λ r l. idle 0 r (λ u e f p. later u e (supported.is_pick u p).later) ∙ supported.entry r l;
        unpicked = λ p r later l none. idle p r (λ u e f h. none-some u.edge (sym none ∙ subst₂ (λ a b. pick a b ≡ Some u.edge) e f h))
            ∙ supported.unpicked p r later l none;
        above = λ u p. ext_lt_of_lt_of_le neg_inf (value_at system T d u) (value_at system T end u) (supported.above u p)
            (value_mono system T reaches d end u up);
        rises = λ u p. ext_le_of_eq (end u.point u.row) (value_at system T end u) (sym (same u p));
      };
      same = same;
    }
      where
        later : (u : Item) → u.point ≡ 0 → 0 < u.point → ⊥
        later u e h = absurd (omega arith)

    -- the turns' items are picked
    turns_picked : (step : Step) → In (made) step → (v : Item) → In step.items v → Picks pick v
    turns_picked step m v k =
        let u = after_growth.items step m v k in
        subst (λ e. pick v.point v.row ≡ Some e) u.2.edge (subst₂ (λ a b. pick a b ≡ Some u.0.edge) u.2.point u.2.row
        (cut.listed u.0 u.1).picked)

    -- the round's theorem
    pub round_done : RoundDone system T d z pick grown (grown ++ made) (after_steps (made) z)
    unfolding end
    round_done = record {
      above = record {
        over = up;
        closed = λ u p. ext_le_of_eq (value_at system T end u) (end u.point u.row) (same u p);
        least = λ q below closed. led_closed system T reaches pick supported.is_pick (made) z q after_growth.valid turns_picked
            closed (growth.below q below closed);
      };
      tight = end_tight;
      valid = valid_append system grown (made) d growth.valid
          (subst (λ y. ValidSteps system y (made)) (sym growth.leads) after_growth.valid);
      leads = led-append grown (made) d ∙ ap (after_steps (made)) growth.leads;
      items = λ step m v k. ⊎_elim (λ j. growth.items step j v k) (λ j. turns_picked step j v k)
          (of_append grown (made) step m);
      turns = over;
      unraised = kept;
      raised = λ u m. let r = growth.raised u m in (
        r.picked,
        ext_lt_of_lt_of_le (d u.point u.row) (z u.point u.row) (end u.point u.row) r.rises
            (over u.point u.row ((supported.is_pick u r.picked).row_within)),
      );
    }
