-- The second law of picks: between rounds of one pick no ray step names an unknown.
use Rattle.std.proofs.Common.{◌≡◌, ◌∙◌, ⊎_elim, ℕ, suc, ◌<◌, ◌≤◌, List, [], ◌∷◌, length, refl, sym, ap, subst, subst₂, arith}
use Rattle.std.specs.Prelude.{ℤ, slice_get, Some, get_or}
use Rattle.std.proofs.lemmas.Option.{slice_get_within}
use Rattle.base_numbers.proofs.extended.ExtendedLaws.{ext_lt_of_le_of_lt, ext_le_of_eq, finite_inside, top_from_le}
use Rattle.base_facts.specs.Elements.{In}
use Rattle.base_numbers.specs.Rational.{ℚ, zero_ℚ, one_ℚ, ◌+ℚ◌, ◌*ℚ◌, ◌≤ℚ◌, ◌<ℚ◌}
use Rattle.base_numbers.specs.Extended.{Ext, neg_inf, fin, pos_inf, ◌≤ᴱ◌}
use Rattle.base_numbers.proofs.rational.Laws.{le_of_lt_ℚ, zero_lt_one}
use Rattle.base_numbers.proofs.tactics.Linarith.{lin_le, lin_false, le, lt, eq, reads_all}
use Rattle.flow_systems.specs.States.{dotℚ}
use Rattle.flow_edges.specs.declared.edge.Edge.{Edge}
use Rattle.flow_systems.specs.Equations.{Equations, Vector}
use Rattle.theory_validity.specs.Words.{Word, start_of, moved, lin, start_form, end_form}
use Rattle.theory_validity.specs.Steps.{Below, Runs, end_value, Item, Step, Ray, edge_of, row_of, item_value, put, new_value, Unnamed}
use Rattle.theory_validity.specs.Steps.{RayItem, ValidStep, word}
use Rattle.theory_validity.specs.Certificates.{num, NotFinite}
use Rattle.theory_validity.specs.Transformers.{Reaches}
use Rattle.theory_validity.proofs.words.WordLaws.{start-moved, end-moved, passes_moved}
use Rattle.theory_validity.proofs.certificates.StepNumbers.{num-fin, still_le}
use Rattle.theory_validity.proofs.steps.Puts.{named_or_not, put-unnamed, put-named, put_above, below_itself, runs_below}
use Rattle.theory_validity.proofs.steps.RayLaw.{row_of_is}
use Rattle.theory_validity.proofs.words.TransformerLaw.{reach_attains}
use Rattle.theory_strategy.specs.Picks.{Pick, Transformer, value_at, Picks}
use Rattle.theory_strategy.proofs.picks.Picks.{picks_same, tight_above}
use Rattle.theory_strategy.specs.Rounds.{Rounds}
use Rattle.theory_strategy.proofs.round.RoundChain.{rise, pick_stays}
use Rattle.theory_strategy.proofs.round.FirstLaw.{HighWord, first_law}

-- what is +∞ at a vector was +∞ at an earlier one
abbrev pub Tops : Equations → Vector → Vector → Type 0
Tops system before b = (p r : ℕ) → r < length system.template → b p r ≡ pos_inf → before p r ≡ pos_inf

module _ (system : Equations) (T : Transformer) (reaches : (z : Vector) (edge : Edge) (row : List ℤ)
    → Reaches system z edge row (T z edge row))
    (n : ℕ) (d z : ℕ → Vector) (pick : ℕ → Pick) (steps : ℕ → List Step) (rounds : Rounds system T n d z pick steps)
    (i j : ℕ) (i_before : i < j) (j_within : j ≤ n) (same_pick : (p r : ℕ) → pick i p r ≡ pick j p r) where
  -- a word that reaches the tight bound of a picked unknown
  pub attained : (k : ℕ) → k ≤ n → (u : Item) (c : ℚ) → Picks (pick k) u → d k u.point u.row ≡ fin c
      → (w : Word) × Runs system (d k) (edge_of system u) w × (c ≤ℚ item_value system u w)
  attained k h u c p e =
      reach_attains system (d k) (edge_of system u) (row_of system u) (value_at system T (d k) u) c
      (reaches (d k) (edge_of system u) (row_of system u))
      (ext_le_of_eq (fin c) (value_at system T (d k) u) (sym ((rounds.tight k h).same u p ∙ e)))

  module _ (k : ℕ) (k_from : i ≤ k) (k_before : k < j) (b : Vector) (items : List Item) (over : Below system (d i) b)
      (tops : Tops system (d i) b)
      (valid : ValidStep system b (record { kind = Ray; items = items })) (under : Below system (put (new_value Ray) items b) (d (suc k)))
      (picked : (u : Item) → In items u → Picks (pick (suc k)) u) where
    -- a named unknown is picked in round i, with the same edge
    picks_before : (u : Item) → In items u → Picks (pick i) u
    unfolding new_value
    picks_before u m =
        let l = (valid.placed u m).row_within in
        let top : d (suc k) u.point u.row ≡ pos_inf = top_from_le (d (suc k) u.point u.row)
        (subst (λ v. v ≤ᴱ d (suc k) u.point u.row) (put-named (new_value Ray) items b u valid.distinct m)
        (under u.point u.row l)) in
        let later : d j u.point u.row ≡ pos_inf = top_from_le (d j u.point u.row)
        (subst (λ v. v ≤ᴱ d j u.point u.row) top (rise system T n d z pick steps rounds (suc k) j (omega arith) j_within u.point
        u.row l)) in
        same_pick u.point u.row ∙ pick_stays system T n d z pick steps rounds (suc k) j u.point u.row (omega arith) j_within l
        (top ∙ sym later) ∙ picked u m

    -- and finite there
    finite_before : (u : Item) → In items u → (c : ℚ) × (d i u.point u.row ≡ fin c)
    finite_before u m =
        finite_inside neg_inf (d i u.point u.row) pos_inf (tight_above system T reaches (d i) (pick i) u (rounds.tight i (omega arith))
        (picks_before u m))
        (ext_lt_of_le_of_lt (d i u.point u.row) (b u.point u.row) pos_inf (over u.point u.row (valid.placed u m).row_within)
        (valid.valid u m).below_top)

    raised : Item → Ext
    raised u = fin (num (d i u.point u.row) +ℚ u.number)

    -- round i's vector with the named unknowns raised by their rates
    lifted : Vector
    lifted = put raised items (d i)

    raised_is : (u : Item) (c : ℚ) → d i u.point u.row ≡ fin c → raised u ≡ fin (c +ℚ u.number)
    unfolding raised
    raised_is u c e = ap (λ s. fin (s +ℚ u.number)) (num-fin (d i u.point u.row) c e)

    lifted_named : (u : Item) (c : ℚ) → In items u → d i u.point u.row ≡ fin c → lifted u.point u.row ≡ fin (c +ℚ u.number)
    unfolding lifted
    lifted_named u c m e = put-named raised items (d i) u valid.distinct m ∙ raised_is u c e

    plus_le : (c x : ℚ) → zero_ℚ <ℚ x → c ≤ℚ c +ℚ x
    plus_le c x h = lin_le (c ∷ x ∷ []) (lt h ∷ []) (search reads_all depth 40) tt

    lifted_over : Below system (d i) lifted
    unfolding lifted
    lifted_over = put_above system raised items (d i) (d i) (below_itself system (d i)) (λ u m.
        let c = finite_before u m in
        subst₂ (λ s t. s ≤ᴱ t) (sym c.1) (sym (raised_is u c.0 c.1)) (plus_le c.0 u.number (valid.valid u m).rate))

    lifted_same : (p r : ℕ) → NotFinite (d i p r) → lifted p r ≡ d i p r
    unfolding lifted
    lifted_same p r h = ⊎_elim
        (λ f. absurd (let c = finite_before f.0 f.1 in subst NotFinite c.1 (subst₂ (λ s t. NotFinite (d i s t)) (sym f.2) (sym f.3) h)))
        (λ u. put-unnamed raised items (d i) p r u)
        (named_or_not items p r)

    lifted_finite : (p r : ℕ) (c : ℚ) → d i p r ≡ fin c → (a : ℚ) × (lifted p r ≡ fin a)
    unfolding lifted
    lifted_finite p r c e = ⊎_elim
        (λ f. let x = finite_before f.0 f.1 in (
          x.0 +ℚ f.0.number,
          subst₂ (λ s t. put raised items (d i) s t ≡ fin (x.0 +ℚ f.0.number)) f.2
              f.3 (lifted_named f.0 x.0 f.1 x.1),
        ))
        (λ u. (c, put-unnamed raised items (d i) p r u ∙ e))
        (named_or_not items p r)

    -- at a source row, a word moved along a named unknown's direction fits
    moved_row : (u : Item) → In items u → (r : ℕ) (row : List ℤ) → slice_get system.template r ≡ Some row → (x : ℚ)
        → fin x ≤ᴱ d i (edge_of system u).from r →
        fin (x +ℚ one_ℚ *ℚ lin (start_form system.variables row) (word u.second)) ≤ᴱ lifted (edge_of system u).from r
    unfolding lifted
    moved_row u m r row e x fits = ⊎_elim named unnamed (named_or_not items from r)
      where
        from : ℕ
        from = (edge_of system u).from

        rate : ℚ
        rate = lin (start_form system.variables row) (word u.second)

        l : r < length system.template
        l = slice_get_within system.template r row e

        v : RayItem system b items u
        v = valid.valid u m

        sum_le : (x c g h : ℚ) → x ≤ℚ c → g ≤ℚ h → x +ℚ one_ℚ *ℚ g ≤ℚ c +ℚ h
        sum_le x c g h i k = lin_le (x ∷ c ∷ g ∷ h ∷ []) (le i ∷ le k ∷ []) (search reads_all depth 40) tt

        named : ((o : Item) × In items o × (o.point ≡ from) × (o.row ≡ r)) → fin (x +ℚ one_ℚ *ℚ rate) ≤ᴱ put raised items (d i) from r
        named o =
            let c = finite_before o.0 o.1 in
            let low : x ≤ℚ c.0 = subst (λ s. fin x ≤ᴱ s) c.1 (subst₂ (λ s t. fin x ≤ᴱ d i s t) (sym o.2) (sym o.3) fits) in
            let slow : rate ≤ℚ o.0.number = subst (λ s. lin (start_form system.variables s) (word u.second) ≤ℚ o.0.number)
            (row_of_is system o.0 r row o.3 e) (v.named o.0 o.1 o.2) in
            subst₂ (λ s t. fin (x +ℚ one_ℚ *ℚ rate) ≤ᴱ put raised items (d i) s t) o.2 o.3
            (subst (λ s. fin (x +ℚ one_ℚ *ℚ rate) ≤ᴱ s) (sym (lifted_named o.0 c.0 o.1 c.1)) (sum_le x c.0 rate o.0.number low slow))

        at : Unnamed items from r → (w : Ext) → b from r ≡ w → fin (x +ℚ one_ℚ *ℚ rate) ≤ᴱ d i from r
        at n neg_inf f = absurd (subst (λ s. fin (dotℚ row (start_of system.variables (word u.low))) ≤ᴱ s) f (v.low_runs.fits r row e))
        at n (fin c) f = still_le one_ℚ x rate (d i from r) (le_of_lt_ℚ zero_lt_one) (v.others r row c e n f) fits
        at n pos_inf f = subst (λ s. fin (x +ℚ one_ℚ *ℚ rate) ≤ᴱ s) (sym (tops from r l f)) tt

        unnamed : Unnamed items from r → fin (x +ℚ one_ℚ *ℚ rate) ≤ᴱ put raised items (d i) from r
        unnamed n = subst (λ s. fin (x +ℚ one_ℚ *ℚ rate) ≤ᴱ s) (sym (put-unnamed raised items (d i) from r n)) (at n (b from r) refl)

    -- the word of a named unknown
    named_high : (u : Item) → In items u → HighWord system lifted u
    unfolding end_value
    named_high u m =
        let c = finite_before u m in
        let top = attained i (omega arith) u c.0 (picks_before u m) c.1 in
        let edge = edge_of system u in
        let v = valid.valid u m in
        let w = moved top.0 one_ℚ (word u.second) in
        record {
          word = w;
          runs = record {
            passes = passes_moved system.variables edge.actions top.0 one_ℚ (word u.second) (le_of_lt_ℚ zero_lt_one) top.1.passes v.falls;
            fits = λ r row e. subst (λ s. fin s ≤ᴱ lifted edge.from r) (sym (start-moved system.variables row top.0 one_ℚ (word u.second)))
                (moved_row u m r row e (dotℚ row (start_of system.variables top.0)) (top.1.fits r row e));
          };
          reaches = subst (λ s. s ≤ᴱ fin (item_value system u w)) (sym (lifted_named u c.0 m c.1))
              (subst (λ s. c.0 +ℚ u.number ≤ℚ s) (sym (end-moved system.variables edge.actions (row_of system u) top.0 one_ℚ
              (word u.second)))
              (sum_le c.0 (item_value system u top.0) u.number (lin (end_form system.variables edge.actions (row_of system u))
              (word u.second)) top.2 v.gains));
        }
      where
        sum_le : (c x g h : ℚ) → c ≤ℚ x → g ≤ℚ h → c +ℚ g ≤ℚ x +ℚ one_ℚ *ℚ h
        sum_le c x g h i k = lin_le (c ∷ x ∷ g ∷ h ∷ []) (le i ∷ le k ∷ []) (search reads_all depth 40) tt

    -- a word for an item is one for every item of its unknown and edge
    high_same : (y : Vector) (u v : Item) → u.point ≡ v.point → u.row ≡ v.row → u.edge ≡ v.edge → HighWord system y u → HighWord system y v
    unfolding edge_of row_of
    high_same y u v e f g h =
        record {
          word = h.word;
          runs = subst (λ k. Runs system y (get_or system.edges k (record { from = 0; to = 0; actions = [] })) h.word) g h.runs;
          reaches =
              subst (λ p. y p v.row ≤ᴱ fin (item_value system v h.word)) e
              (subst (λ r. y u.point r ≤ᴱ fin (end_value system (edge_of system v) (get_or system.template r []) h.word)) f
              (subst (λ k. y u.point u.row ≤ᴱ fin (end_value system (get_or system.edges k (record { from = 0; to = 0; actions = [] }))
              (row_of system u) h.word)) g h.reaches));
        }

    high : (v : Item) (c : ℚ) → Picks (pick i) v → d i v.point v.row ≡ fin c → HighWord system lifted v
    unfolding lifted
    high v c p e = ⊎_elim
        (λ o. high_same lifted o.0 v o.2 o.3 (picks_same (pick i) o.0 v o.2 o.3 (picks_before o.0 o.1) p) (named_high o.0 o.1))
        (λ n. let top = attained i (omega arith) v c p e in
        record {
          word = top.0;
          runs = runs_below system (d i) lifted (edge_of system v) top.0 lifted_over top.1;
          reaches = subst (λ s. s ≤ᴱ fin (item_value system v top.0)) (sym (put-unnamed raised items (d i) v.point v.row n ∙ e)) top.2;
        })
        (named_or_not items v.point v.row)

    -- the second law: a ray step between the rounds names nothing
    pub no_ray : (u : Item) → In items u → ⊥
    no_ray u m =
        let law = first_law system T reaches n d z pick steps rounds i (omega arith) lifted
        (record {
          over = lifted_over;
          same = λ p r l h. lifted_same p r h;
          finite = λ p r c l e. lifted_finite p r c e;
          highs =
              high;
        }) in
        let c = finite_before u m in
        more c.0 u.number (valid.valid u m).rate (same_fin (c.0 +ℚ u.number) c.0
        (sym (lifted_named u c.0 m c.1) ∙ law u.point u.row (valid.placed u m).row_within ∙ c.1))
      where
        same_fin : (a b : ℚ) → fin a ≡ fin b → a ≡ b
        same_fin a b e = cc

        more : (c x : ℚ) → zero_ℚ <ℚ x → c +ℚ x ≡ c → ⊥
        more c x h e = lin_false (c ∷ x ∷ []) (lt h ∷ eq e ∷ []) (search reads_all depth 40) tt
