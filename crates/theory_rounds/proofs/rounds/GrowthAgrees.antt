-- From vectors that agree at the template's rows a growth makes the same steps.
use Rattle.std.proofs.Common.{◌≡◌, ◌∙◌, ◌⊎◌, inl, inr, ⊎_elim, ℕ, zero, suc, Bool, List, [], ◌∷◌, ◌++◌, length, refl, ap, arith}
use Rattle.base_facts.specs.Elements.{In}
use Rattle.base_numbers.specs.Rational.{ℚ}
use Rattle.base_numbers.specs.Extended.{Ext, neg_inf, fin, pos_inf, ◌≤ᴱ◌, ◌<ᴱ◌}
use Rattle.base_numbers.proofs.extended.ExtendedLaws.{ext_le_or_lt}
use Rattle.flow_systems.specs.Equations.{Equations, Vector}
use Rattle.theory_validity.specs.Steps.{Item, Step, edge_of, row_of, after_step}
use Rattle.theory_validity.specs.Certificates.{after_steps}
use Rattle.theory_transformers.specs.EdgeProblems.{transformer}
use Rattle.theory_strategy.specs.Picks.{Pick, Picks, IsPick, value_at, choices}
use Rattle.theory_strategy.specs.Growth.{Log, stay, go, continue, pass, passes, growth, grow, items_of}
use Rattle.theory_strategy.specs.Round.{keep, finite_items, rising}
use Rattle.theory_strategy.proofs.round.Choices.{choices_picked}
use Rattle.theory_strategy.proofs.growth.PassLaw.{passes_done}
use Rattle.theory_strategy.proofs.growth.GrowthLaw.{raises_picked}
use Rattle.theory_strategy.proofs.round.CutLaw.{of_items}
use Rattle.theory_rounds.specs.Evidence.{exact_evidence}
use Rattle.theory_rounds.specs.Agreement.{Agree, HaveRows}
use Rattle.theory_rounds.specs.Cut.{cut_items, in_order, exact_cut}
use Rattle.theory_rounds.specs.Rounds.{exact_raise, exact_pass, exact_passes, exact_growth, exact_grow, exact_rising}
use Rattle.theory_rounds.proofs.rounds.ExactRound.{exact_sizes}
use Rattle.theory_rounds.proofs.raises.ProblemsAgree.{transformer_agrees, raise_agrees, after_agrees, led_agrees}

-- one of two logs, by whether a transformer exceeds a bound
abbrev log_by : Ext → Ext → Log → Log → Log
log_by v b idle more = ⊎_elim (λ h. idle) (λ h. more) (ext_le_or_lt v b)

module _ (fitting : ℚ → Bool) (system : Equations) where
  value_agrees : (z q : Vector) (u : Item) → Agree system z q → value_at system (transformer system) z u
      ≡ value_at system (transformer system) q u
  value_agrees z q u agree = transformer_agrees system z q agree (edge_of system u) (row_of system u)

  -- a pass makes the same steps
  pass_agrees : (us : List Item) (z q : Vector) → Agree system z q → HaveRows system us
      → exact_pass fitting system z us ≡ exact_pass fitting system q us
  unfolding pass
  pass_agrees [] z q agree rows = refl
  pass_agrees (u ∷ us) z q agree rows =
      let a = exact_raise fitting system z u in
      let b = exact_raise fitting system q u in
      let e = raise_agrees fitting system z q u agree (rows u (inl refl)) in
      let same = pass_agrees us z q agree (λ v m. rows v (inr m)) in
      let later = pass_agrees us (after_step b z) (after_step b q) (after_agrees system b z q agree) (λ v m. rows v (inr m)) in
      ap (λ v. log_by v (z u.point u.row) (stay u (exact_pass fitting system z us)) (go a (exact_pass fitting system (after_step a z) us)))
      (value_agrees z q u agree)
      ∙ ap (λ v. log_by (value_at system (transformer system) q u) v (stay u (exact_pass fitting system z us))
      (go a (exact_pass fitting system (after_step a z) us))) (agree u.point u.row (rows u (inl refl)))
      ∙ ap (λ l. log_by (value_at system (transformer system) q u) (q u.point u.row) (stay u l)
      (go a (exact_pass fitting system (after_step a z) us))) same
      ∙ ap (λ s. log_by (value_at system (transformer system) q u) (q u.point u.row) (stay u (exact_pass fitting system q us))
      (go s (exact_pass fitting system (after_step s z) us))) e
      ∙ ap (λ l. log_by (value_at system (transformer system) q u) (q u.point u.row) (stay u (exact_pass fitting system q us)) (go b l))
      later

  -- what a pass leaves is some of its unknowns
  pass_left : (us : List Item) (z : Vector) (u : Item) → In (exact_pass fitting system z us).left u → In us u
  unfolding pass stay go
  pass_left [] z u m = m
  pass_left (v ∷ us) z u m =
      by (ext_le_or_lt (value_at system (transformer system) z v) (z v.point v.row)) m (λ k. pass_left us z u k)
      (λ k. pass_left us (after_step (exact_raise fitting system z v) z) u k)
    where
      by : (o : (value_at system (transformer system) z v ≤ᴱ z v.point v.row)
          ⊎ (z v.point v.row <ᴱ value_at system (transformer system) z v)) →
          In (⊎_elim (λ h. stay v (exact_pass fitting system z us)) (λ h. go (exact_raise fitting system z v)
          (exact_pass fitting system (after_step (exact_raise fitting system z v) z) us)) o).left u →
          (In (exact_pass fitting system z us).left u → In us u) → (In
          (exact_pass fitting system (after_step (exact_raise fitting system z v) z) us).left u → In us u) → In (v ∷ us) u
      by (inl h) m a b = ⊎_elim (λ e. inl e) (λ k. inr (a k)) m
      by (inr h) m a b = inr (b m)

  -- passes make the same steps
  passes_agree : (n : ℕ) (us : List Item) (z q : Vector) → Agree system z q → HaveRows system us
      → exact_passes fitting system n z us ≡ exact_passes fitting system n q us
  unfolding passes continue
  passes_agree zero us z q agree rows = refl
  passes_agree (suc n) us z q agree rows =
      ap (λ log. continue log.steps log z (λ y left. exact_passes fitting system n y left)) (pass_agrees us z q agree rows)
      ∙ by (exact_pass fitting system q us) (λ u m. rows u (pass_left us q u m)) (λ left y x a h. passes_agree n left y x a h)
    where
      more : (steps : List Step) (log : Log) → HaveRows system log.left
          → ((left : List Item) (y x : Vector) → Agree system y x → HaveRows system left
          → exact_passes fitting system n y left ≡ exact_passes fitting system n x left) →
          continue steps log z (λ y left. exact_passes fitting system n y left)
          ≡ continue steps log q (λ y left. exact_passes fitting system n y left)
      more [] log h rec = refl
      more (s ∷ steps) log h rec = ap (λ (rest : Log). record { steps = log.steps ++ rest.steps; left = rest.left })
          (rec log.left (after_steps log.steps z) (after_steps log.steps q) (led_agrees system log.steps z q agree) h)

      by : (log : Log) → HaveRows system log.left → ((left : List Item) (y x : Vector) → Agree system y x → HaveRows system left
          → exact_passes fitting system n y left ≡ exact_passes fitting system n x left) →
          continue log.steps log z (λ y left. exact_passes fitting system n y left)
          ≡ continue log.steps log q (λ y left. exact_passes fitting system n y left)
      by log h rec = more log.steps log h rec

  -- a growth makes the same steps
  growth_agrees : (us : List Item) (z q : Vector) → Agree system z q → HaveRows system us
      → exact_growth fitting system z us ≡ exact_growth fitting system q us
  unfolding growth
  growth_agrees us z q agree rows = passes_agree (length us) us z q agree rows

  -- ---- picks
  choices_rows : (pick : Pick) → IsPick system pick → HaveRows system (choices system pick)
  choices_rows pick is_pick u m = (is_pick u (choices_picked system pick u m)).row_within

  -- the growth of a pick
  pub grow_agrees : (pick : Pick) → IsPick system pick → (d e : Vector) → Agree system d e
      → exact_grow fitting system d pick ≡ exact_grow fitting system e pick
  unfolding grow
  grow_agrees pick is_pick d e agree = ap (λ (log : Log). log.steps) (growth_agrees (choices system pick) d e agree
      (choices_rows pick is_pick))

  -- the growth raises picked unknowns alone
  pub grow_picked : (pick : Pick) → IsPick system pick → (d : Vector) (u : Item) → In (items_of (exact_grow fitting system d pick)) u
      → Picks pick u
  unfolding grow growth
  grow_picked pick is_pick d u m =
      let us = choices system pick in
      let done = passes_done fitting system (transformer system) (exact_evidence system) (exact_sizes system) pick is_pick (length us) us d
      (omega arith) (choices_picked system pick) in
      let s = of_items (exact_grow fitting system d pick) u m in
      raises_picked system (transformer system) (exact_evidence system) pick is_pick (exact_grow fitting system d pick) d done.logged.raises
      s.0 s.1 u s.2

  -- the items at fractions are some of the items
  pub of_finite : (z : Vector) (us : List Item) (u : Item) → In (finite_items z us) u → In us u
  unfolding finite_items keep
  of_finite z [] u m = absurd m
  of_finite z (v ∷ us) u m = by (z v.point v.row) m (λ k. of_finite z us u k)
    where
      by : (x : Ext) → In (keep x v (finite_items z us)) u → (In (finite_items z us) u → In us u) → In (v ∷ us) u
      by neg_inf m rec = inr (rec m)
      by (fin c) m rec = ⊎_elim (λ e. inl e) (λ k. inr (rec k)) m
      by pos_inf m rec = inr (rec m)

  -- those that it raised to fractions are picked
  rising_picked : (pick : Pick) → IsPick system pick → (d : Vector) (u : Item) → In (exact_rising fitting system d pick) u → Picks pick u
  unfolding rising
  rising_picked pick is_pick d u m =
      grow_picked pick is_pick d u (of_finite (after_steps (exact_grow fitting system d pick) d)
      (items_of (exact_grow fitting system d pick)) u m)

  -- those that it raised to fractions stand at rows of the template
  pub rising_rows : (pick : Pick) → IsPick system pick → (d : Vector) → HaveRows system (exact_rising fitting system d pick)
  rising_rows pick is_pick d u m = (is_pick u (rising_picked pick is_pick d u m)).row_within

  finite_agrees : (us : List Item) (z q : Vector) → Agree system z q → HaveRows system us → finite_items z us ≡ finite_items q us
  unfolding finite_items
  finite_agrees [] z q agree rows = refl
  finite_agrees (u ∷ us) z q agree rows =
      ap (λ v. keep v u (finite_items z us)) (agree u.point u.row (rows u (inl refl)))
      ∙ ap (λ s. keep (q u.point u.row) u s) (finite_agrees us z q agree (λ v m. rows v (inr m)))

  -- the unknowns that it raised to fractions
  rising_agrees : (pick : Pick) → IsPick system pick → (d e : Vector) → Agree system d e
      → exact_rising fitting system d pick ≡ exact_rising fitting system e pick
  unfolding rising
  rising_agrees pick is_pick d e agree =
      let s = exact_grow fitting system d pick in
      finite_agrees (items_of s) (after_steps s d) (after_steps s e) (led_agrees system s d e agree)
      (λ u m. (is_pick u (grow_picked pick is_pick d u m)).row_within)
      ∙ ap (λ t. finite_items (after_steps t e) (items_of t)) (grow_agrees pick is_pick d e agree)

  -- and their parts
  pub cut_agrees : (pick : Pick) → IsPick system pick → (d e : Vector) → Agree system d e
      → exact_cut fitting system d pick ≡ exact_cut fitting system e pick
  unfolding exact_cut
  cut_agrees pick is_pick d e agree = ap (λ us. cut_items system (in_order us)) (rising_agrees pick is_pick d e agree)
