-- Laws of picks: what is -∞, what a post-solution is, and that an improved tight pick is supported.
use Rattle.std.proofs.Common.{◌≡◌, ◌∙◌, ◌⊎◌, inl, inr, ⊎_elim, ℕ, zero, suc, ◌<◌, List, [], length, refl, sym, ap, subst, subst₂, arith}
use Rattle.std.specs.Prelude.{ℤ, Option, Some, None}
use Rattle.std.proofs.lemmas.Option.{none-some, slice_get-get_or, same_Some}
use Rattle.std.proofs.lemmas.List.Elements.{Contains-get_or}
use Rattle.base_numbers.specs.Rational.{ℚ}
use Rattle.base_numbers.specs.Extended.{Ext, neg_inf, fin, pos_inf, ◌≤ᴱ◌, ◌<ᴱ◌}
use Rattle.base_numbers.proofs.extended.ExtendedLaws.{≤ᴱ_trans, ≤ᴱ_antisymm, ext_le_of_lt, ext_lt_of_le_of_lt}
use Rattle.flow_edges.specs.declared.edge.Edge.{Edge}
use Rattle.flow_systems.specs.Equations.{Equations, Vector, PostSolution}
use Rattle.theory_validity.specs.Steps.{Below, end_value, Upper, Item, edge_of, row_of, start_vector}
use Rattle.theory_validity.specs.Transformers.{Reaches}
use Rattle.theory_validity.proofs.steps.CertificateLaw.{upper_of_post}
use Rattle.theory_validity.proofs.words.TransformerLaw.{reach_least, reach_upper, reach_is, transformer_mono, reach_flat}
use Rattle.theory_strategy.specs.Picks.{Pick, Transformer, value_at, Picks, IsPick, Supported, Tight, Closed, Above, Improves, choice}

-- ---- extended numbers

-- items of one unknown that one pick picks have one edge
pub picks_same : (pick : Pick) (u v : Item) → u.point ≡ v.point → u.row ≡ v.row → Picks pick u → Picks pick v → u.edge ≡ v.edge
picks_same pick u v e f h i = same_Some u.edge v.edge (sym h ∙ ap (λ p. pick p u.row) e ∙ ap (λ r. pick v.point r) f ∙ i)

-- an unknown is picked, or it is not
pub picked_or_not : (pick : Pick) (p r : ℕ) → ((u : Item) × (u.point ≡ p) × (u.row ≡ r) × Picks pick u) ⊎ (pick p r ≡ None)
unfolding choice
picked_or_not pick p r = by (pick p r) refl
  where
    by : (o : Option ℕ) → pick p r ≡ o → ((u : Item) × (u.point ≡ p) × (u.row ≡ r) × Picks pick u) ⊎ (pick p r ≡ None)
    by (Some k) e = inl (choice p r k, refl, refl, e)
    by None e = inr e

module _ (system : Equations) (T : Transformer) (reaches : (z : Vector) (edge : Edge) (row : List ℤ)
    → Reaches system z edge row (T z edge row)) where
  -- transformers are monotone
  pub value_mono : (z q : Vector) (u : Item) → Below system z q → value_at system T z u ≤ᴱ value_at system T q u
  value_mono z q u below =
      transformer_mono system z q (edge_of system u) (row_of system u) (value_at system T z u) (value_at system T q u) below
      (reach_is system z (edge_of system u) (row_of system u) (value_at system T z u) (reaches z (edge_of system u) (row_of system u)))
      (reach_is system q (edge_of system u) (row_of system u) (value_at system T q u) (reaches q (edge_of system u) (row_of system u)))

  -- a transformer is an upper bound
  pub value_upper : (z : Vector) (u : Item) (v : Ext) → value_at system T z u ≤ᴱ v → Upper system z (edge_of system u) (row_of system u) v
  value_upper z u v h w runs =
      ≤ᴱ_trans (fin (end_value system (edge_of system u) (row_of system u) w)) (value_at system T z u) v
      (reach_upper system z (edge_of system u) (row_of system u) (value_at system T z u)
      (reaches z (edge_of system u) (row_of system u)) w runs) h

  -- flatness: a transformer that did not rise with some source bounds does not rise whatever those become
  pub value_flat : (d e y : Vector) (u : Item) → Below system d e → Below system e y →
      ((r : ℕ) → r < length system.template → e (edge_of system u).from r ≡ d (edge_of system u).from r
      → y (edge_of system u).from r ≡ d (edge_of system u).from r) →
      neg_inf <ᴱ value_at system T d u → value_at system T d u ≡ value_at system T e u → value_at system T y u ≡ value_at system T d u
  value_flat d e y u below over kept above same =
      let edge = edge_of system u in
      let row = row_of system u in
      reach_flat system d e y edge row (T d edge row) (T y edge row) below over kept above (reaches d edge row)
      (subst (λ v. Reaches system e edge row v) (sym same) (reaches e edge row))
      (reach_is system y edge row (T y edge row) (reaches y edge row))

  -- a post-solution is closed under every pick
  post_closed : (q : Vector) (pick : Pick) → PostSolution system q → IsPick system pick → Closed system T q pick
  unfolding edge_of row_of
  post_closed q pick post is_pick u h =
      let p = is_pick u h in
      let edge = edge_of system u in
      let row = row_of system u in
      subst (λ s. T q edge row ≤ᴱ q s u.row) p.into
      (reach_least system q edge row (T q edge row) (q edge.to u.row) (reaches q edge row)
      (upper_of_post system q edge u.row row post (Contains-get_or system.edges u.edge (record { from = 0; to = 0; actions = [] })
      p.edge_within) (slice_get-get_or system.template u.row [] p.row_within)))

  -- the vector above d by a pick is at most every post-solution that is at least d
  pub above_post : (d e q : Vector) (pick : Pick) → IsPick system pick → Above system T d pick e → PostSolution system q → Below system d q
      → Below system e q
  above_post d e q pick is_pick above post below = above.least q below (post_closed q pick post is_pick)

  -- there is one vector above d by a pick
  pub above_unique : (d e f : Vector) (pick : Pick) → Above system T d pick e → Above system T d pick f → (p r : ℕ)
      → r < length system.template → e p r ≡ f p r
  above_unique d e f pick a b p r l = ≤ᴱ_antisymm (e p r) (f p r) (a.least f b.over b.closed p r l) (b.least e a.over a.closed p r l)

  -- at a tight pick a picked unknown is above -∞
  pub tight_above : (d : Vector) (pick : Pick) (u : Item) → Tight system T d pick → Picks pick u → neg_inf <ᴱ d u.point u.row
  tight_above d pick u tight h = subst (λ v. neg_inf <ᴱ v) (tight.same u h) (tight.supported.above u h)

  -- at a tight pick a finite bound is a picked unknown's
  pub tight_picked : (d : Vector) (pick : Pick) (p r : ℕ) (c : ℚ) → Tight system T d pick → r < length system.template → d p r ≡ fin c →
      (u : Item) × (u.point ≡ p) × (u.row ≡ r) × Picks pick u
  tight_picked d pick zero r c tight l e = absurd (differ (sym (tight.supported.entry r l) ∙ e))
    where
      differ : pos_inf ≡ fin c → ⊥
      differ f = cc
  tight_picked d pick (suc p) r c tight l e = ⊎_elim (λ h. h) (λ n. absurd
      (differ (sym (tight.supported.unpicked (suc p) r (omega arith) l n) ∙ e))) (picked_or_not pick (suc p) r)
    where
      differ : neg_inf ≡ fin c → ⊥
      differ f = cc

  -- an improved tight pick is supported
  pub improve_supported : (d : Vector) (pick better : Pick) → Tight system T d pick → IsPick system better → Improves system T d pick better
      → Supported system T d better
  unfolding edge_of row_of
  improve_supported d pick better tight is_pick improves =
      record {
        is_pick = is_pick;
        entry = tight.supported.entry;
        unpicked = λ p r later l n. ⊎_elim (λ e. tight.supported.unpicked p r later l (sym e ∙ n))
            (λ h. absurd (none-some h.0.edge (sym n ∙ subst₂ (λ a b. better a b ≡ Some h.0.edge) h.1 h.2 h.3))) (improves p r);
        above = λ u h. ⊎_elim (λ e. tight.supported.above u (sym e ∙ h))
            (λ i. ext_lt_of_le_of_lt neg_inf (d u.point u.row) (value_at system T d u) tt (moved u h i)) (improves u.point u.row);
        rises = λ u h. ⊎_elim (λ e. tight.supported.rises u (sym e ∙ h))
            (λ i. ext_le_of_lt (d u.point u.row) (value_at system T d u) (moved u h i)) (improves u.point u.row);
      }
    where
      moved : (u : Item) → Picks better u → ((v : Item) × (v.point ≡ u.point) × (v.row ≡ u.row) × Picks better v
          × (d u.point u.row <ᴱ value_at system T d v)) → d u.point u.row <ᴱ value_at system T d u
      moved u h i =
          let v = i.0 in
          let same = picks_same better v u i.1 i.2 i.3 h in
          let to_edge = subst (λ k. d u.point u.row <ᴱ T d (Rattle.std.specs.Prelude.get_or system.edges k
          (record { from = 0; to = 0; actions = [] })) (row_of system v)) same i.4 in
          subst (λ k. d u.point u.row <ᴱ T d (edge_of system u) (Rattle.std.specs.Prelude.get_or system.template k [])) i.2 to_edge

  -- the empty pick is tight at the start vector
  pub start_tight : Tight system T start_vector (λ p r. None)
  unfolding start_vector
  start_tight = record {
    supported = record {
      is_pick = λ u h. absurd (none-some u.edge h);
      entry = λ r l. refl;
      unpicked = λ p r later l e. below p later r;
      above = λ u h. absurd (none-some u.edge h);
      rises = λ u h. absurd (none-some u.edge h);
    };
    same = λ u h. absurd (none-some u.edge h);
  }
    where
      below : (p : ℕ) → 0 < p → (r : ℕ) → start_vector p r ≡ neg_inf
      below zero h r = absurd (omega arith)
      below (suc p) h r = refl
