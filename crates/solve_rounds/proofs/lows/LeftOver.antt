-- What a ray leaves of a list: the unknowns whose bounds are fractions still.
use Rattle.std.proofs.Common.{◌≡◌, ◌∙◌, ◌⊎◌, inl, inr, ⊎_elim, ℕ, suc, ◌+◌, ◌<◌, ◌≤◌, Bool, true, false, true≢false, cond, List, [], ◌∷◌}
use Rattle.std.proofs.Common.{length, get_or, refl, sym, ap, subst, arith}
use Rattle.std.specs.Prelude.{Option}
use Rattle.std.specs.List.{filter}
use Rattle.base_facts.specs.Elements.{In}
use Rattle.flow_systems.specs.declared.system.System.{System}
use Rattle.theory_validity.specs.Steps.{Item, Unnamed}
use Rattle.theory_validity.proofs.steps.Puts.{named_or_not}
use Rattle.cert_types.specs.declared.step.Step.{Step as CodeStep}
use Rattle.theory_strategy.specs.Round.{without}
use Rattle.solve_joint.specs.Numbers.{ArePicked, Rises}
use Rattle.solve_rounds.specs.Lows.{raise_at, item_in, items_at}
use Rattle.solve_rounds.proofs.turning.TurnItems.{place_of, in_place}

-- what a list keeps is in it
pub of_filter : (test : ℕ → Bool) (list : List ℕ) (u : ℕ) → In (filter test list) u → In list u
of_filter test [] u m = absurd m
of_filter test (v ∷ list) u m = by (test v) m (λ k. of_filter test list u k)
  where
    by : (b : Bool) → In (cond b (v ∷ filter test list) (filter test list)) u → (In (filter test list) u → In list u) → In (v ∷ list) u
    by true m rec = ⊎_elim (λ e. inl e) (λ k. inr (rec k)) m
    by false m rec = inr (rec m)

-- what holds of each of a list holds of each that it keeps
pub kept_each : (P : ℕ → Type 0) (test : ℕ → Bool) (list : List ℕ) → ((k : ℕ) → k < length list → P (get_or list k 0)) → (k : ℕ)
    → k < length (filter test list) → P (get_or (filter test list) k 0)
kept_each P test list h k l =
    let p = place_of list (get_or (filter test list) k 0) 0 (of_filter test list (get_or (filter test list) k 0)
    (in_place (filter test list) 0 k l)) in
    subst P p.2 (h p.0 p.1)

rises_from_less : (a b : ℕ) (list : List ℕ) → a ≤ b → Rises b list → Rises a list
rises_from_less a b [] l h = tt
rises_from_less a b (u ∷ list) l h = (let k = h.0 in omega arith, h.1)

-- it rises
pub kept_rises : (test : ℕ → Bool) (n : ℕ) (list : List ℕ) → Rises n list → Rises n (filter test list)
kept_rises test n [] h = tt
kept_rises test n (u ∷ list) h = by (test u) (kept_rises test (u + 1) list h.1)
  where
    by : (b : Bool) → Rises (u + 1) (filter test list) → Rises n (cond b (u ∷ filter test list) (filter test list))
    by true r = (h.0, r)
    by false r = rises_from_less n (u + 1) (filter test list) (let k = h.0 in omega arith) r

-- and is picked
pub kept_picked : (system : System) (pick : List (Option ℕ)) (test : ℕ → Bool) (list : List ℕ) → ArePicked system pick list
    → ArePicked system pick (filter test list)
kept_picked system pick test [] h = tt
kept_picked system pick test (u ∷ list) h = by (test u) (kept_picked system pick test list h.1)
  where
    by : (b : Bool) → ArePicked system pick (filter test list) → ArePicked system pick (cond b (u ∷ filter test list) (filter test list))
    by true r = (h.0, r)
    by false r = r

-- a filtered list is no longer than the list
pub kept_length : (test : ℕ → Bool) (list : List ℕ) → length (filter test list) ≤ length list
kept_length test [] = omega arith
kept_length test (u ∷ list) = by (test u) (kept_length test list)
  where
    by : (b : Bool) → length (filter test list) ≤ length list → length (cond b (u ∷ filter test list) (filter test list))
        ≤ suc (length list)
    by true h = omega arith
    by false h = omega arith

-- where the test fails at just the named unknowns, the items of what is kept are those without the named
pub left_is : (rows : ℕ) (raises : List CodeStep) (places : List ℕ) (items : List Item) (test : ℕ → Bool) (list : List ℕ) →
    ((k : ℕ) → k < length list → (v : Item) → In items v → v.point ≡ (item_in rows (raise_at raises places (get_or list k 0))).point
    → v.row ≡ (item_in rows (raise_at raises places (get_or list k 0))).row → test (get_or list k 0) ≡ false) →
    ((k : ℕ) → k < length list → Unnamed items (item_in rows (raise_at raises places (get_or list k 0))).point
    (item_in rows (raise_at raises places (get_or list k 0))).row → test (get_or list k 0) ≡ true) →
    items_at rows raises places (filter test list) ≡ without items (items_at rows raises places list)
unfolding without
left_is rows raises places items test [] named unnamed = refl
left_is rows raises places items test (u ∷ list) named unnamed =
    by (test u) refl (named_or_not items (item_in rows (raise_at raises places u)).point (item_in rows (raise_at raises places u)).row)
    (left_is rows raises places items test list (λ k l. named (suc k) (omega arith)) (λ k l. unnamed (suc k) (omega arith)))
  where
    item : Item
    item = item_in rows (raise_at raises places u)

    by : (b : Bool) → test u ≡ b → (o : ((v : Item) × In items v × (v.point ≡ item.point) × (v.row ≡ item.row))
        ⊎ Unnamed items item.point item.row) →
        items_at rows raises places (filter test list) ≡ without items (items_at rows raises places list) →
        items_at rows raises places (cond b (u ∷ filter test list) (filter test list))
        ≡ ⊎_elim (λ h. without items (items_at rows raises places list)) (λ h. item ∷ without items (items_at rows raises places list))
        o
    by true e (inl v) r = absurd (true≢false (sym e ∙ named 0 (omega arith) v.0 v.1 v.2 v.3))
    by true e (inr n) r = ap (λ xs. item ∷ xs) r
    by false e (inl v) r = r
    by false e (inr n) r = absurd (true≢false (sym (unnamed 0 (omega arith) n) ∙ e))
