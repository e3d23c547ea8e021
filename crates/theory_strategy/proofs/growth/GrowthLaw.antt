-- The growth: valid steps; raised unknowns rise and are settled, and no other's transformer exceeds its bound.
use Rattle.std.proofs.Common.{◌≡◌, ◌∙◌, inl, inr, ⊎_elim, ℕ, List, [], ◌∷◌, ◌++◌, append_assoc, refl, sym, ap, subst}
use Rattle.base_facts.proofs.elements.Membership.{of_append}
use Rattle.base_numbers.proofs.extended.ExtendedLaws.{ext_lt_of_lt_of_le, ext_lt_of_le_of_lt}
use Rattle.base_facts.specs.Elements.{In}
use Rattle.base_numbers.specs.Extended.{◌<ᴱ◌}
use Rattle.flow_systems.specs.Equations.{Equations, Vector}
use Rattle.theory_validity.specs.Steps.{Below, Upper, Item, Step, edge_of, row_of, put, new_value, after_step, Unnamed}
use Rattle.theory_validity.specs.Certificates.{ValidSteps, after_steps}
use Rattle.theory_validity.proofs.steps.Puts.{named_or_not, put-unnamed}
use Rattle.theory_validity.proofs.steps.StepLaw.{step_up, step_below}
use Rattle.theory_validity.proofs.steps.CertificateLaw.{led_up}
use Rattle.theory_strategy.specs.Picks.{Pick, Transformer, Picks, IsPick, Closed}
use Rattle.theory_strategy.specs.Growth.{Evident, items_of}
use Rattle.theory_strategy.proofs.picks.Picks.{picks_same, value_upper}
use Rattle.theory_strategy.proofs.growth.RaiseStep.{Settled, Raise, settled_same, settled_later}

-- what an append names
pub unnamed_append : (xs ys : List Item) (p r : ℕ) → Unnamed (xs ++ ys) p r → Unnamed xs p r × Unnamed ys p r
unnamed_append [] ys p r u = (tt, u)
unnamed_append (x ∷ xs) ys p r u = let h = unnamed_append xs ys p r u.1 in ((u.0, h.0), h.1)

-- items, and vectors, of steps after steps
pub items-append : (a b : List Step) → items_of (a ++ b) ≡ items_of a ++ items_of b
unfolding items_of
items-append [] b = refl
items-append (s ∷ a) b = ap (λ l. s.items ++ l) (items-append a b) ∙ sym (append_assoc s.items (items_of a) (items_of b))

-- steps after steps lead where the second lead from the end of the first
pub led-append : (a b : List Step) (z : Vector) → after_steps (a ++ b) z ≡ after_steps b (after_steps a z)
unfolding after_steps
led-append [] b z = refl
led-append (s ∷ a) b z = led-append a b (after_step s z)

-- steps change nothing that no item names
pub led_unnamed : (steps : List Step) (z : Vector) (p r : ℕ) → Unnamed (items_of steps) p r → after_steps steps z p r ≡ z p r
unfolding after_steps items_of after_step
led_unnamed [] z p r u = refl
led_unnamed (s ∷ steps) z p r u =
    let h = unnamed_append s.items (items_of steps) p r u in
    led_unnamed steps (put (new_value s.kind) s.items z) p r h.1 ∙ put-unnamed (new_value s.kind) s.items z p r h.0

-- every step is a raise
abbrev pub Raises : Equations → Transformer → Pick → Vector → List Step → Type 0
Raises system T pick z [] = Unit {0}
Raises system T pick z (step ∷ steps) = Raise system T pick z step × Raises system T pick (after_step step z) steps

-- raises after raises
pub raises_append : (system : Equations) (T : Transformer) (pick : Pick) (a b : List Step) (z : Vector) → Raises system T pick z a
    → Raises system T pick (after_steps a z) b → Raises system T pick z (a ++ b)
unfolding after_steps
raises_append system T pick [] b z h i = i
raises_append system T pick (s ∷ a) b z h i = (h.0, raises_append system T pick a b (after_step s z) h.1 i)

-- raises are valid steps
pub raises_valid : (system : Equations) (T : Transformer) (pick : Pick) (steps : List Step) (z : Vector) → Raises system T pick z steps
    → ValidSteps system z steps
raises_valid system T pick [] z h = tt
raises_valid system T pick (s ∷ steps) z h = (h.0.valid, raises_valid system T pick steps (after_step s z) h.1)

-- what is known of a raised unknown at the end
pub record Raised (system : Equations) (T : Transformer) (pick : Pick) (z f : Vector) (u : Item) : Type 0 where
  -- the unknown is picked
  pub picked : Picks pick u
  -- its bound has risen
  pub rises : z u.point u.row <ᴱ f u.point u.row
  -- it is settled
  pub settled : Settled system T f u

module _ (system : Equations) (T : Transformer) (reaches : Evident system T) (pick : Pick) (is_pick : IsPick system pick) where
  raised_more : (s : Step) (steps : List Step) (z : Vector) → Raise system T pick z s → Raises system T pick (after_step s z) steps →
      ((v : Item) → In (items_of steps) v → Raised system T pick (after_step s z) (after_steps steps (after_step s z)) v) →
      (u : Item) → In (s.items ++ items_of steps) u → Raised system T pick z (after_steps steps (after_step s z)) u
  raised_more s steps z h rest known u m =
      ⊎_elim (λ k. here (subst (λ l. In l u) h.single k)) (λ k. later (known u k)) (of_append s.items (items_of steps) u m)
    where
      f : Vector
      f = after_steps steps (after_step s z)

      up : Below system (after_step s z) f
      up = led_up system steps (after_step s z) (raises_valid system T pick steps (after_step s z) rest)

      later : Raised system T pick (after_step s z) f u → Raised system T pick z f u
      later r = record {
        picked = r.picked;
        rises = ext_lt_of_le_of_lt (z u.point u.row) (after_step s z u.point u.row) (f u.point u.row)
            (step_up system z s h.valid u.point u.row ((is_pick u r.picked).row_within)) r.rises;
        settled = r.settled;
      }

      again : ((v : Item) × In (items_of steps) v × (v.point ≡ h.item.point) × (v.row ≡ h.item.row)) → Settled system T f h.item
      again v =
          let r = known v.0 v.1 in
          settled_same system T f v.0 h.item (record {
            point = v.2;
            row = v.3;
            edge =
                picks_same pick v.0 h.item v.2 v.3 r.picked h.picked;
          }) r.settled

      here : In (h.item ∷ []) u → Raised system T pick z f u
      here (inr k) = absurd k
      here (inl e) = subst (Raised system T pick z f) e (record {
        picked = h.picked;
        rises = ext_lt_of_lt_of_le (z h.item.point h.item.row) (after_step s z h.item.point h.item.row) (f h.item.point h.item.row) h.rises
            (up h.item.point h.item.row ((is_pick h.item h.picked).row_within));
        settled = ⊎_elim (λ v. again v) (λ n. settled_later system T reaches (after_step s z) f h.item up
            (led_unnamed steps (after_step s z) h.item.point h.item.row n) h.settled)
            (named_or_not (items_of steps) h.item.point h.item.row);
      })

  -- an item of the raises is a raised unknown
  pub raised_is : (steps : List Step) (z : Vector) → Raises system T pick z steps → (u : Item) → In (items_of steps) u
      → Raised system T pick z (after_steps steps z) u
  unfolding after_steps items_of
  raised_is [] z h u m = absurd m
  raised_is (s ∷ steps) z h u m = raised_more s steps z h.0 h.1 (λ v k. raised_is steps (after_step s z) h.1 v k) u m

  -- raises lead to at most every closed vector that is at least the first
  pub raises_below : (steps : List Step) (z q : Vector) → Raises system T pick z steps → Closed system T q pick → Below system z q
      → Below system (after_steps steps z) q
  unfolding after_steps
  raises_below [] z q h closed below = below
  raises_below (s ∷ steps) z q h closed below =
      raises_below steps (after_step s z) q h.1 closed (step_below system z q s h.0.valid below
      (λ u m. one u (subst (λ l. In l u) h.0.single m)))
    where
      one : (u : Item) → In (h.0.item ∷ []) u → Upper system q (edge_of system u) (row_of system u) (q u.point u.row)
      one u (inl e) = subst (λ v. Upper system q (edge_of system v) (row_of system v) (q v.point v.row)) e
          (value_upper system T reaches q h.0.item (q h.0.item.point h.0.item.row) (closed h.0.item h.0.picked))
      one u (inr m) = absurd m

  -- the items of raises are picked
  pub raises_picked : (steps : List Step) (z : Vector) → Raises system T pick z steps → (s : Step) → In steps s → (u : Item) → In s.items u
      → Picks pick u
  raises_picked [] z h s m u k = absurd m
  raises_picked (first ∷ steps) z h s m u k =
      ⊎_elim (λ e. one (subst (λ l. In l u) h.0.single (subst (λ t. In t.items u) (sym e) k)))
      (λ j. raises_picked steps (after_step first z) h.1 s j u k) m
    where
      one : In (h.0.item ∷ []) u → Picks pick u
      one (inl e) = subst (Picks pick) e h.0.picked
      one (inr m) = absurd m
