-- Every unknown that a step names is shown after it; what is stably shown stays so.
use Rattle.std.proofs.Common.{◌≡◌, ◌∙◌, ⊎_elim, ℕ, zero, suc, List, [], ◌∷◌, sym, subst, subst₂, arith}
use Rattle.std.specs.Prelude.{ℤ, Contains}
use Rattle.std.proofs.lemmas.List.Elements.{Contains-get_or}
use Rattle.base_facts.specs.Elements.{In}
use Rattle.base_numbers.specs.Rational.{ℚ, zero_ℚ, one_ℚ, ◌+ℚ◌, ◌-ℚ◌, ◌*ℚ◌, ◌≤ℚ◌, ◌<ℚ◌}
use Rattle.base_numbers.specs.Extended.{Ext, neg_inf, fin, pos_inf, ◌≤ᴱ◌, ◌<ᴱ◌}
use Rattle.base_numbers.proofs.rational.Laws.{lt_of_lt_of_le_ℚ, le_or_lt, ≤ℚ_refl}
use Rattle.base_numbers.proofs.tactics.Linarith.{lin_le, lin_lt, le, lt, reads_all}
use Rattle.flow_systems.specs.Equations.{Equations, Vector, Exceeds}
use Rattle.flow_edges.specs.declared.edge.Edge.{Edge}
use Rattle.theory_validity.specs.Words.{Word, lin, end_form, start_of, end_of, moved}
use Rattle.theory_validity.specs.Steps.{word, Below, Runs, end_value, Item, Kind, Plain, Jump, Ray, Step, edge_of, row_of, put, new_value}
use Rattle.theory_validity.specs.Steps.{after_step, Placed, Distinct, item_value, RayItem, ValidItem, ValidStep, start_vector}
use Rattle.theory_validity.proofs.steps.Shown.{StablyShown}
use Rattle.theory_validity.proofs.words.Traces.{trace_of_word, start_length}
use Rattle.theory_validity.proofs.steps.Puts.{named_or_not, put-unnamed, put-named, below_trans, runs_below}
use Rattle.theory_validity.proofs.certificates.StepNumbers.{time, time_is, past_time}
use Rattle.theory_validity.proofs.steps.RayLaw.{row_of_is, end_value-moved, ray_runs}
use Rattle.theory_validity.proofs.steps.StepLaw.{step_up}

-- a word that runs along a listed edge and ends above a number exceeds it
pub exceeds_by_word : (system : Equations) (F : Vector) (edge : Edge) (p : ℕ) (row : List ℤ) (number : Ext) (w : Word)
    → Contains system.edges edge → edge.to ≡ p →
    Runs system F edge w → number <ᴱ fin (end_value system edge row w) → Exceeds system F p row number
unfolding end_value
exceeds_by_word system F edge p row number w listed into runs above =
    record {
      edge = edge;
      before = start_of system.variables w;
      after = end_of system.variables edge.actions w;
      into = into;
      transition = record {
        listed = listed;
        starts = start_length system.variables w;
        fits = runs.fits;
        trace =
            trace_of_word system.variables edge.actions w runs.passes;
      };
      exceeds = above;
    }

item_exceeds : (system : Equations) (F : Vector) (item : Item) (number : Ext) (w : Word) → Placed system item
    → Runs system F (edge_of system item) w →
    number <ᴱ fin (item_value system item w) → Exceeds system F item.point (row_of system item) number
unfolding edge_of
item_exceeds system F item number w placed runs above =
    exceeds_by_word system F (edge_of system item) item.point (row_of system item) number w
    (Contains-get_or system.edges item.edge (record { from = 0; to = 0; actions = [] }) placed.edge_within) placed.into runs above

-- below a fraction that is at most another
lt_le : (v : Ext) (a b : ℚ) → v <ᴱ fin a → a ≤ℚ b → v <ᴱ fin b
lt_le neg_inf a b h i = tt
lt_le (fin c) a b h i = lt_of_lt_of_le_ℚ h i
lt_le pos_inf a b h i = absurd h

-- a value that rises at a rate exceeds every number at some time
pub exceeds_in_time : (c x d rate : ℚ) → zero_ℚ <ℚ rate → rate ≤ℚ d → (t : ℚ) × (zero_ℚ ≤ℚ t) × (c <ℚ x +ℚ t *ℚ d)
exceeds_in_time c x d rate h i = ⊎_elim
    (λ l. later (lin_le (x ∷ c ∷ []) (le l ∷ []) (search reads_all depth 40) tt))
    (λ l. (zero_ℚ, ≤ℚ_refl zero_ℚ, lin_lt (c ∷ x ∷ d ∷ []) (lt l ∷ []) (search reads_all depth 40) tt))
    (le_or_lt x c)
  where
    later : x -ℚ one_ℚ ≤ℚ c → (t : ℚ) × (zero_ℚ ≤ℚ t) × (c <ℚ x +ℚ t *ℚ d)
    later l =
        let takes = time_is (x -ℚ one_ℚ) c rate l h in (
          time (x -ℚ one_ℚ) c rate,
          takes.from_zero,
          past_time (time (x -ℚ one_ℚ) c rate) (x -ℚ one_ℚ) c rate x d takes
              (lin_lt (x ∷ []) [] (search reads_all depth 40) tt) i,
        )

-- a ray's item exceeds every number at every greater vector that is +∞ at the items
ray_exceeds : (system : Equations) (z F : Vector) (items : List Item) → Below system z F
    → ((item : Item) → In items item → RayItem system z items item) →
    ((item : Item) → In items item → pos_inf ≤ᴱ F item.point item.row) → (item : Item) → In items item → Placed system item → (number : Ext)
    → number <ᴱ pos_inf →
    Exceeds system F item.point (row_of system item) number
ray_exceeds system z F items below valid top item m placed neg_inf h =
    item_exceeds system F item neg_inf (word item.low) placed (runs_below system z F (edge_of system item) (word item.low) below
    (valid item m).low_runs) tt
ray_exceeds system z F items below valid top item m placed (fin c) h =
    let v = valid item m in
    let edge = edge_of system item in
    let r = exceeds_in_time c (item_value system item (word item.low))
    (lin (end_form system.variables edge.actions (row_of system item)) (word item.second)) item.number v.rate v.gains in
    item_exceeds system F item (fin c) (moved (word item.low) r.0 (word item.second)) placed
    (ray_runs system z F items below valid top item m r.0 r.1)
    (subst (λ s. c <ℚ s) (sym (end_value-moved system edge (row_of system item) (word item.low) r.0 (word item.second))) r.2)
ray_exceeds system z F items below valid top item m placed pos_inf h = absurd h

-- the start vector is stably shown
pub start_shown : (system : Equations) → StablyShown system start_vector
unfolding start_vector
start_shown system F below zero r h e row number f l = absurd (omega arith)
start_shown system F below (suc p) r h e row number f l = absurd (nothing_below number (subst (λ v. number <ᴱ v) e l))
  where
    nothing_below : (v : Ext) → v <ᴱ neg_inf → ⊥
    nothing_below neg_inf h = h
    nothing_below (fin c) h = h
    nothing_below pos_inf h = h

-- every unknown that a valid step names is shown at every vector that is at least the step's and the same there
named_shown : (system : Equations) (z F : Vector) (kind : Kind) (items : List Item) → Distinct items
    → ((item : Item) → In items item → Placed system item) →
    ((item : Item) → In items item → ValidItem kind system z items item) → Below system z F → Below system (put (new_value kind) items z) F
    →
    (item : Item) → In items item → F item.point item.row ≡ new_value kind item → (number : Ext) → number <ᴱ F item.point item.row →
    Exceeds system F item.point (row_of system item) number
unfolding new_value
named_shown system z F Plain items d placed valid below over item m e number h =
    let v = valid item m in
    item_exceeds system F item number (word item.low) (placed item m) (runs_below system z F (edge_of system item) (word item.low) below
    v.runs)
    (lt_le number item.number (item_value system item (word item.low)) (subst (λ k. number <ᴱ k) e h) v.reached)
named_shown system z F Jump items d placed valid below over item m e number h =
    let v = valid item m in
    item_exceeds system F item number (word item.second) (placed item m)
    (runs_below system (put (new_value Jump) items z) F (edge_of system item) (word item.second) over v.high_runs)
    (lt_le number item.number (item_value system item (word item.second)) (subst (λ k. number <ᴱ k) e h) v.high_reaches)
named_shown system z F Ray items d placed valid below over item m e number h =
    ray_exceeds system z F items below valid
    (λ other k. subst (λ v. v ≤ᴱ F other.point other.row) (put-named (new_value Ray) items z other d k)
    (over other.point other.row (placed other k).row_within))
    item m (placed item m) number (subst (λ k. number <ᴱ k) e h)

-- a valid step from a stably shown vector leads to a stably shown one
pub step_shown : (system : Equations) (z : Vector) (step : Step) → ValidStep system z step → StablyShown system z
    → StablyShown system (after_step step z)
unfolding after_step
step_shown system z step v shown F over p r later e row number listed less =
    ⊎_elim named (λ u. shown F below p r later (e ∙ put-unnamed (new_value step.kind) step.items z p r u) row number listed less)
    (named_or_not step.items p r)
  where
    below : Below system z F
    below = below_trans system z (after_step step z) F (step_up system z step v) over

    named : ((item : Item) × In step.items item × (item.point ≡ p) × (item.row ≡ r)) → Exceeds system F p row number
    named n =
        let item = n.0 in
        let same : F item.point item.row ≡ new_value step.kind item =
        subst₂ (λ s k. F s k ≡ put (new_value step.kind) step.items z s k) (sym n.2) (sym n.3) e
        ∙ put-named (new_value step.kind) step.items z item v.distinct n.1 in
        subst₂ (λ s k. Exceeds system F s k number) n.2 (row_of_is system item r row n.3 listed)
        (named_shown system z F step.kind step.items v.distinct v.placed v.valid below over item n.1 same number
        (subst₂ (λ s k. number <ᴱ F s k) (sym n.2) (sym n.3) less))
