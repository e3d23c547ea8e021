-- A raise is a valid step with one item, rises, and leaves a low word or a transformer at +∞.
use Rattle.base_numbers.proofs.extended.ExtendedLaws.{top_from_le}
use Rattle.flow_edges.specs.declared.edge.Action.{Action}
use Rattle.flow_edges.specs.declared.edge.Edge.{Edge}
use Rattle.flow_systems.specs.Equations.{Equations, Vector}
use Rattle.std.proofs.lemmas.List.{take-append-drop}
use Rattle.std.proofs.Common.{◌≡◌, ◌∙◌, ◌⊎◌, inl, inr, Bool, List, [], ◌∷◌, length, refl, sym, ap, subst, length-take, length-drop, min}
use Rattle.std.proofs.Common.{◌≤◌, arith, ℕ}
use Rattle.std.specs.Prelude.{ℤ, get_or}
use Rattle.base_numbers.specs.Rational.{ℚ, ◌<ℚ◌, ◌≤ℚ◌}
use Rattle.base_numbers.specs.Extended.{Ext, neg_inf, fin, pos_inf, ◌≤ᴱ◌, ◌<ᴱ◌}
use Rattle.base_numbers.proofs.rational.Laws.{le_of_lt_ℚ, ≤ℚ_trans, le_of_eq_ℚ, lt_of_lt_of_le_ℚ}
use Rattle.theory_validity.specs.Words.{Word, width, lin, end_form, free_count}
use Rattle.theory_validity.specs.Steps.{Below, Runs, end_value, Item, Step, Plain, Ray, edge_of, row_of, put, new_value, after_step, Placed}
use Rattle.theory_validity.specs.Steps.{ValidStep, word, Pieces}
use Rattle.theory_validity.specs.Transformers.{Reaches}
use Rattle.theory_validity.proofs.steps.Puts.{put-named, runs_below}
use Rattle.theory_validity.proofs.steps.StepLaw.{step_up}
use Rattle.theory_validity.proofs.steps.Raises.{raise_plain, raise_ray}
use Rattle.theory_strategy.specs.Picks.{Pick, Transformer, value_at, Picks}
use Rattle.theory_strategy.specs.RoundFacts.{LowWord, Listed}
use Rattle.theory_strategy.specs.Growth.{Evident, Sizes, raised_to, ray_low, with_words, raise, raise_at, split}
use Rattle.theory_strategy.proofs.picks.Picks.{value_mono}
use Rattle.theory_strategy.proofs.growth.RaiseNumbers.{raised_to_is, ray_low_is}

-- a raised unknown: +∞ as its transformer, or a fraction that a word which runs exceeds
abbrev pub Settled : Equations → Transformer → Vector → Item → Type 0
Settled system T z u = ((z u.point u.row ≡ pos_inf) × (value_at system T z u ≡ pos_inf)) ⊎ LowWord system z u

-- a valid step with one item, for an unknown that the pick has, which rises and is settled
pub record Raise (system : Equations) (T : Transformer) (pick : Pick) (z : Vector) (step : Step) : Type 0 where
  -- the item of the step
  pub item : Item
  -- the step has no other
  pub single : step.items ≡ item ∷ []
  -- the item is picked
  pub picked : Picks pick item
  -- the step is valid
  pub valid : ValidStep system z step
  -- the item's bound rises
  pub rises : z item.point item.row <ᴱ after_step step z item.point item.row
  -- the item's unknown is settled after the step
  pub settled : Settled system T (after_step step z) item
  -- its bound is +∞ after the step, or it is listed with its low word
  pub own : (after_step step z item.point item.row ≡ pos_inf) ⊎ Listed system pick (after_step step z) item

-- an item for the same unknown and edge
pub record SameChoice (u v : Item) : Type 0 where
  -- the points are the same
  pub point : u.point ≡ v.point
  -- the rows are the same
  pub row : u.row ≡ v.row
  -- the edges are the same
  pub edge : u.edge ≡ v.edge

-- what items for one unknown and edge share
pub value_same : (system : Equations) (T : Transformer) (z : Vector) (u v : Item) → SameChoice u v
    → value_at system T z u ≡ value_at system T z v
unfolding edge_of row_of
value_same system T z u v s =
    ap (λ k. T z (get_or system.edges k (record { from = 0; to = 0; actions = [] })) (get_or system.template u.row [])) s.edge
    ∙ ap (λ r. T z (get_or system.edges v.edge (record { from = 0; to = 0; actions = [] })) (get_or system.template r [])) s.row

-- the bounds of items for one unknown are the same
pub at_same : (z : Vector) (u v : Item) → SameChoice u v → z u.point u.row ≡ z v.point v.row
at_same z u v s = ap (λ p. z p u.row) s.point ∙ ap (λ r. z v.point r) s.row

-- an item for one unknown and edge is settled where another is
pub settled_same : (system : Equations) (T : Transformer) (z : Vector) (u v : Item) → SameChoice u v → Settled system T z u
    → Settled system T z v
unfolding edge_of row_of
settled_same system T z u v s (inl h) = inl (sym (at_same z u v s) ∙ h.0, sym (value_same system T z u v s) ∙ h.1)
settled_same system T z u v s (inr h) = inr (record {
  bound = h.bound;
  finite = sym (at_same z u v s) ∙ h.finite;
  word = h.word;
  size = subst (λ k. length h.word ≡ width system.variables (get_or system.edges k (record { from = 0; to = 0; actions = [] })).actions)
      s.edge h.size;
  runs = subst (λ k. Runs system z (get_or system.edges k (record { from = 0; to = 0; actions = [] })) h.word) s.edge h.runs;
  exceeds = subst (λ r. h.bound <ℚ end_value system (get_or system.edges v.edge (record { from = 0; to = 0; actions = [] }))
      (get_or system.template r []) h.word) s.row
      (subst (λ k. h.bound <ℚ end_value system (get_or system.edges k (record { from = 0; to = 0; actions = [] }))
      (get_or system.template u.row []) h.word) s.edge h.exceeds);
})

-- a settled unknown stays so while its bound does
pub settled_later : (system : Equations) (T : Transformer) (reaches : Evident system T) (z f : Vector) (u : Item) → Below system z f
    → f u.point u.row ≡ z u.point u.row → Settled system T z u → Settled system T f u
settled_later system T reaches z f u below e (inl h) = inl (
  e ∙ h.0,
  top_from_le (value_at system T f u)
      (subst (λ v. v ≤ᴱ value_at system T f u) h.1 (value_mono system T reaches z f u below)),
)
settled_later system T reaches z f u below e (inr h) = inr (record {
  bound = h.bound;
  finite = e ∙ h.finite;
  word = h.word;
  size =
      h.size;
  runs = runs_below system z f (edge_of system u) h.word below h.runs;
  exceeds = h.exceeds;
})

-- the pieces of a word of an edge's width
split_is : (n : ℕ) (actions : List Action) (w : Word) → length w ≡ width n actions
    → (length (split n w).start ≡ n) × (length (split n w).free ≡ free_count actions) × (word (split n w) ≡ w)
unfolding width split
split_is n actions w e = (
  length-take n w ∙ min_left n (length w) (omega (arith, e)),
  omega (arith, length-drop n w, e),
  take-append-drop n w,
)
  where
    min_left : (a b : ℕ) → a ≤ b → min a b ≡ a
    min_left a b h = omega arith

-- words of another item for the same unknown and edge
placed_with : (system : Equations) (u : Item) (low second : Pieces) (number : ℚ) → Placed system u
    → Placed system (with_words u low second number)
unfolding with_words edge_of
placed_with system u low second number p = record {
  later = p.later;
  point_within = p.point_within;
  row_within = p.row_within;
  edge_within =
      p.edge_within;
  into = p.into;
}

module _ (fitting : ℚ → Bool) (system : Equations) (T : Transformer) (reaches : Evident system T)
    (sizes : (z : Vector) (edge : Edge) (row : List ℤ) → Sizes system z edge row (T z edge row) (reaches z edge row)) (pick : Pick) where
  -- a raise towards a fraction
  plain_raise : (z : Vector) (u : Item) (c : ℚ) (h : Reaches system z (edge_of system u) (row_of system u) (fin c))
      → Sizes system z (edge_of system u) (row_of system u) (fin c) h →
      Placed system u → Picks pick u → z u.point u.row <ᴱ fin c →
      (r : Raise system T pick z (raise fitting system z u (fin c) h)) × SameChoice r.item u
  unfolding raise with_words edge_of row_of after_step new_value
  plain_raise z u c h size placed picked below =
      let n = system.variables in
      let cut = split_is n (edge_of system u).actions h.1.0 size in
      let item = with_words u (split n h.1.0) (split 0 []) (raised_to fitting (z u.point u.row) c) in
      let runs : Runs system z (edge_of system u) (word (split n h.1.0)) =
      subst (λ w. Runs system z (edge_of system u) w) (sym cut.2) h.1.1 in
      let ends : c ≤ℚ end_value system (edge_of system u) (row_of system u) (word (split n h.1.0)) =
      subst (λ w. c ≤ℚ end_value system (edge_of system u) (row_of system u) w) (sym cut.2) (le_of_eq_ℚ (sym h.1.2)) in
      let m = raised_to_is fitting (z u.point u.row) c below in
      let valid = raise_plain system z item (placed_with system u (split n h.1.0) (split 0 []) (raised_to fitting (z u.point u.row) c)
      placed) (cut.0, cut.1) runs m.0 (≤ℚ_trans (le_of_lt_ℚ m.1) ends) in
      let e = put-named (new_value Plain) (item ∷ []) z item (tt, tt) (inl refl) in (
        record {
          item = item;
          single = refl;
          picked = picked;
          valid = valid;
          rises = subst (λ v. z u.point u.row <ᴱ v) (sym e) m.0;
          settled = inr (record {
            bound = raised_to fitting (z u.point u.row) c;
            finite = e;
            word = h.1.0;
            size = size;
            runs = runs_below system z (put (new_value Plain) (item ∷ []) z) (edge_of system u) h.1.0
                (step_up system z (record { kind = Plain; items = item ∷ [] }) valid) h.1.1;
            exceeds = lt_of_lt_of_le_ℚ m.1 (le_of_eq_ℚ (sym h.1.2));
          });
          own = inr (record {
            picked = picked;
            bound = raised_to fitting (z u.point u.row) c;
            finite = e;
            size = (cut.0, cut.1);
            runs = runs_below system z (put (new_value Plain) (item ∷ []) z) (edge_of system u) (word (split n h.1.0))
                (step_up system z (record { kind = Plain; items = item ∷ [] }) valid) runs;
            exceeds = lt_of_lt_of_le_ℚ m.1 ends;
          });
        },
        record { point = refl; row = refl; edge = refl },
      )

  -- a raise to +∞
  ray_raise : (z : Vector) (u : Item) (h : Reaches system z (edge_of system u) (row_of system u) pos_inf)
      → Sizes system z (edge_of system u) (row_of system u) pos_inf h →
      value_at system T z u ≡ pos_inf → Placed system u → Picks pick u → z u.point u.row <ᴱ pos_inf →
      (r : Raise system T pick z (raise fitting system z u pos_inf h)) × SameChoice r.item u
  unfolding raise with_words edge_of row_of after_step new_value
  ray_raise z u h size top placed picked below =
      let gain = lin (end_form system.variables (edge_of system u).actions (row_of system u)) h.direction in
      let low = ray_low system z (edge_of system u) (row_of system u) h (z u.point u.row) in
      let n = system.variables in
      let item = with_words u (split n low) (split n h.direction) gain in
      let x = ray_low_is system z (edge_of system u) (row_of system u) h (z u.point u.row) below size.0 size.1 in
      let cut = split_is n (edge_of system u).actions low x.size in
      let way = split_is n (edge_of system u).actions h.direction size.1 in
      let valid = raise_ray system z item h (placed_with system u (split n low) (split n h.direction) gain placed) (cut.0, cut.1)
      (way.0, way.1) way.2 refl
      (subst (λ w. Runs system z (edge_of system u) w) (sym cut.2) x.runs) below
      (subst (λ w. z u.point u.row <ᴱ fin (end_value system (edge_of system u) (row_of system u) w)) (sym cut.2) x.exceeds) in
      let e = put-named (new_value Ray) (item ∷ []) z item (tt, tt) (inl refl) in (
        record {
          item = item;
          single = refl;
          picked = picked;
          valid = valid;
          rises = subst (λ v. z u.point u.row <ᴱ v) (sym e) below;
          settled = inl (
            e,
            top_from_le (value_at system T (put (new_value Ray) (item ∷ []) z) item)
                (subst (λ v. v ≤ᴱ value_at system T (put (new_value Ray) (item ∷ []) z) item) top
                (value_mono system T reaches z (put (new_value Ray) (item ∷ []) z) u
                (step_up system z (record { kind = Ray; items = item ∷ [] }) valid))),
          );
          own = inl e;
        },
        record { point = refl; row = refl; edge = refl },
      )

  any_raise : (z : Vector) (u : Item) (v : Ext) (h : Reaches system z (edge_of system u) (row_of system u) v)
      → Sizes system z (edge_of system u) (row_of system u) v h →
      value_at system T z u ≡ v → Placed system u → Picks pick u → z u.point u.row <ᴱ v →
      (r : Raise system T pick z (raise fitting system z u v h)) × SameChoice r.item u
  any_raise z u neg_inf h size e placed picked below = absurd (nothing (z u.point u.row) below)
    where
      nothing : (v : Ext) → v <ᴱ neg_inf → ⊥
      nothing neg_inf h = h
      nothing (fin c) h = h
      nothing pos_inf h = h
  any_raise z u (fin c) h size e placed picked below = plain_raise z u c h size placed picked below
  any_raise z u pos_inf h size e placed picked below = ray_raise z u h size e placed picked below

  -- the raise of an unknown whose transformer exceeds its bound
  pub raise_is : (z : Vector) (u : Item) → Placed system u → Picks pick u → z u.point u.row <ᴱ value_at system T z u →
      (r : Raise system T pick z (raise_at fitting system T reaches z u)) × SameChoice r.item u
  unfolding raise_at
  raise_is z u placed picked below =
      any_raise z u (value_at system T z u) (reaches z (edge_of system u) (row_of system u)) (sizes z (edge_of system u) (row_of system u))
      refl placed picked below
