-- The first law of picks: between rounds of one pick, words of the pick support no vector but the first round's.
use Rattle.std.proofs.Common.{◌≡◌, ◌∙◌, ◌⊎◌, inl, inr, ⊎_elim, ℕ, zero, suc, ◌<◌, ◌≤◌, List, length, refl, sym, subst, subst₂, arith}
use Rattle.std.specs.Prelude.{ℤ}
use Rattle.std.proofs.lemmas.Option.{slice_get_within}
use Rattle.base_facts.specs.Elements.{In}
use Rattle.base_numbers.specs.Rational.{ℚ, zero_ℚ, one_ℚ, ◌+ℚ◌, ◌-ℚ◌, ◌*ℚ◌, ◌≤ℚ◌, ◌<ℚ◌}
use Rattle.base_numbers.specs.Extended.{Ext, neg_inf, fin, pos_inf, ◌≤ᴱ◌, ◌<ᴱ◌}
use Rattle.base_numbers.proofs.rational.Laws.{≤ℚ_trans, le_of_lt_ℚ, not_le_of_lt}
use Rattle.base_numbers.proofs.extended.ExtendedLaws.{≤ᴱ_trans, ≤ᴱ_antisymm, ext_le_or_lt, ext_lt_irrefl, ext_le_of_eq, finite_inside}
use Rattle.flow_systems.specs.States.{dotℚ}
use Rattle.flow_edges.specs.declared.edge.Edge.{Edge}
use Rattle.flow_systems.specs.Equations.{Equations, Vector}
use Rattle.theory_validity.specs.Words.{Word, start_of, mix}
use Rattle.theory_validity.specs.Steps.{Below, Runs, end_value, Upper, Item, Step, edge_of, row_of, item_value}
use Rattle.theory_validity.specs.Certificates.{num, NotFinite}
use Rattle.theory_validity.specs.Transformers.{Reaches}
use Rattle.theory_validity.proofs.steps.Lists.{least_bad}
use Rattle.theory_validity.proofs.words.WordLaws.{start-mix, end-mix, passes_mix}
use Rattle.theory_validity.proofs.certificates.StepNumbers.{num-fin, mix_le, share, Part, share_is, before_share, past_share}
use Rattle.theory_validity.proofs.words.Flat.{flat}
use Rattle.theory_validity.proofs.words.TransformerLaw.{reach_attains}
use Rattle.theory_strategy.specs.Picks.{Pick, Transformer, value_at, Picks, choices}
use Rattle.theory_strategy.specs.RoundFacts.{LowWord, RoundFacts}
use Rattle.theory_strategy.proofs.picks.Picks.{value_upper, tight_above, tight_picked}
use Rattle.theory_strategy.proofs.round.Choices.{choices_picked, picked_choice}
use Rattle.theory_strategy.specs.Rounds.{Rounds}
use Rattle.theory_strategy.proofs.round.RoundChain.{one_round, rise, pick_stays}

-- a word of a picked edge that runs at a vector and reaches the vector's number at the unknown
pub record HighWord (system : Equations) (y : Vector) (u : Item) : Type 0 where
  -- the word
  pub word : Word
  -- the word runs along the item's edge
  pub runs : Runs system y (edge_of system u) word
  -- its end value is at least the vector's number at the unknown
  pub reaches : y u.point u.row ≤ᴱ fin (item_value system u word)

-- a vector that is at least another one, the same where that isn't finite, finite where it is, and supported by words of the pick there
pub record Supports (system : Equations) (d y : Vector) (pick : Pick) : Type 0 where
  -- the vector is at least the other
  pub over : Below system d y
  -- it is the same where the other isn't finite
  pub same : (p r : ℕ) → r < length system.template → NotFinite (d p r) → y p r ≡ d p r
  -- it is finite where the other is
  pub finite : (p r : ℕ) (c : ℚ) → r < length system.template → d p r ≡ fin c → (b : ℚ) × (y p r ≡ fin b)
  -- each picked unknown with a finite number has its word
  pub highs : (u : Item) (c : ℚ) → Picks pick u → d u.point u.row ≡ fin c → HighWord system y u

module _ (system : Equations) (T : Transformer) (reaches : (z : Vector) (edge : Edge) (row : List ℤ)
    → Reaches system z edge row (T z edge row))
    (n : ℕ) (d z : ℕ → Vector) (pick : ℕ → Pick) (steps : ℕ → List Step) (rounds : Rounds system T n d z pick steps)
    (i : ℕ) (i_within : i ≤ n) (y : Vector) (supports : Supports system (d i) y (pick i)) where
  -- where the vector after round M is that of round i, y is at most it
  Claim : ℕ → Type 0
  Claim M = (p r : ℕ) → r < length system.template → d M p r ≡ d i p r → y p r ≤ᴱ d i p r

  Good : ℕ → Item → Type 0
  Good M u = d (suc M) u.point u.row ≡ d i u.point u.row → y u.point u.row ≤ᴱ d i u.point u.row

  record Bad (M : ℕ) (u : Item) : Type 0 where
    settled : d (suc M) u.point u.row ≡ d i u.point u.row
    rose : d M u.point u.row <ᴱ d (suc M) u.point u.row
    over : d i u.point u.row <ᴱ y u.point u.row

  -- where on the way from the growth's number to y's an unknown meets the round's
  meets : ℕ → Item → ℚ
  meets M u = share (num (z M u.point u.row)) (num (d i u.point u.row)) (num (y u.point u.row))

  -- what is known of a bad unknown
  record Known (M : ℕ) (u : Item) : Type 0 where
    low : LowWord system (z M) u
    limit : ℚ
    new : d i u.point u.row ≡ fin limit
    top : ℚ
    raised : y u.point u.row ≡ fin top
    wide : low.bound ≤ℚ limit
    beyond : limit <ℚ top
    part : Part low.bound limit top (meets M u)

  known : (M : ℕ) → M < i → (u : Item) → Picks (pick i) u → Bad M u → Known M u
  unfolding meets
  known M h u p bad =
      let tight = rounds.tight i i_within in
      let placed = tight.supported.is_pick u p in
      let l = placed.row_within in
      let c = finite_inside neg_inf (d i u.point u.row) (y u.point u.row) (tight_above system T reaches (d i) (pick i) u tight p)
      bad.over in
      let b = supports.finite u.point u.row c.0 l c.1 in
      let facts = rounds.facts M (omega arith) in
      let p' : Picks (pick (suc M)) u = sym (pick_stays system T n d z pick steps rounds (suc M) i u.point u.row (omega arith) i_within l
      bad.settled) ∙ p in
      let low = facts.lows u c.0 p' bad.rose (bad.settled ∙ c.1) in
      let wide : low.bound ≤ℚ c.0 = subst₂ (λ a e. a ≤ᴱ e) low.finite (bad.settled ∙ c.1) (facts.turns u.point u.row l) in
      let beyond : c.0 <ℚ b.0 = subst₂ (λ a e. a <ᴱ e) c.1 b.1 bad.over in
      record {
        low = low;
        limit = c.0;
        new = c.1;
        top = b.0;
        raised = b.1;
        wide = wide;
        beyond = beyond;
        part = subst (λ s. Part low.bound c.0 b.0 (share s (num (d i u.point u.row)) (num (y u.point u.row))))
            (sym (num-fin (z M u.point u.row) low.bound low.finite))
            (subst₂ (λ s t. Part low.bound c.0 b.0 (share low.bound s t)) (sym (num-fin (d i u.point u.row) c.0 c.1))
            (sym (num-fin (y u.point u.row) b.0 b.1)) (share_is low.bound c.0 b.0 wide beyond));
      }

  -- at a source row that is settled, the mixed word is at most the round's bound
  mixed_row : (M : ℕ) → M < i → Claim M → (t a x : ℚ) → zero_ℚ ≤ℚ t → t ≤ℚ one_ℚ →
      ((v : Item) → In (choices system (pick i)) v → Good M v ⊎ (Bad M v × (t ≤ℚ meets M v))) →
      (p r : ℕ) → r < length system.template → (w0 : ℚ) → fin w0 ≤ᴱ d (suc M) p r → fin a ≤ᴱ z M p r → fin x ≤ᴱ y p r
      → d (suc M) p r ≡ d i p r →
      fin ((one_ℚ -ℚ t) *ℚ a +ℚ t *ℚ x) ≤ᴱ d i p r
  unfolding Good
  mixed_row M h claim t a x from_zero below_one least p r l w0 fits0 low high settled = at (d i p r) refl
    where
      facts : RoundFacts system (d M) (z M) (d (suc M)) (pick M) (pick (suc M)) (steps M)
      facts = rounds.facts M (omega arith)

      Goal : ℕ → ℕ → Type 0
      Goal s k = fin ((one_ℚ -ℚ t) *ℚ a +ℚ t *ℚ x) ≤ᴱ d i s k

      low' : fin a ≤ᴱ d i p r
      low' = ≤ᴱ_trans (fin a) (z M p r) (d i p r) low (subst (λ v. z M p r ≤ᴱ v) settled (facts.turns p r l))

      within : y p r ≤ᴱ d i p r → Goal p r
      within k = mix_le t a x (d i p r) from_zero below_one low' (≤ᴱ_trans (fin x) (y p r) (d i p r) high k)

      crossing : (v : Item) → v.point ≡ p → v.row ≡ r → Known M v → t ≤ℚ meets M v → Goal p r
      crossing v e f k m =
          subst₂ Goal e f (subst (λ s. fin ((one_ℚ -ℚ t) *ℚ a +ℚ t *ℚ x) ≤ᴱ s) (sym k.new)
          (before_share t (meets M v) k.low.bound k.limit k.top a x from_zero below_one m k.part (≤ℚ_trans k.wide (le_of_lt_ℚ k.beyond))
          (subst₂ (λ s b. fin a ≤ᴱ b) e k.low.finite (subst₂ (λ s b. fin a ≤ᴱ z M s b) (sym e) (sym f) low))
          (subst (λ b. fin x ≤ᴱ b) k.raised (subst₂ (λ s b. fin x ≤ᴱ y s b) (sym e) (sym f) high))))

      at : (v : Ext) → d i p r ≡ v → Goal p r
      at neg_inf e = absurd (subst (λ v. fin w0 ≤ᴱ v) (settled ∙ e) fits0)
      at pos_inf e = subst (λ v. fin ((one_ℚ -ℚ t) *ℚ a +ℚ t *ℚ x) ≤ᴱ v) (sym e) tt
      at (fin c) e =
          let u = tight_picked system T reaches (d i) (pick i) p r c (rounds.tight i i_within) l e in
          let v = picked_choice system (pick i) u.0 (rounds.tight i i_within).supported.is_pick u.3 in
          let e1 : v.0.point ≡ p = v.2 ∙ u.1 in
          let e2 : v.0.row ≡ r = v.3 ∙ u.2 in
          ⊎_elim
          (λ good. within (subst₂ (λ s k. y s k ≤ᴱ d i s k) e1 e2 (good
          (subst₂ (λ s k. d (suc M) s k ≡ d i s k) (sym e1) (sym e2) settled))))
          (λ b. crossing v.0 e1 e2 (known M h v.0 (choices_picked system (pick i) v.0 v.1) b.0) b.1)
          (least v.0 v.1)

  -- there is no bad unknown that meets the bound first
  no_first : (M : ℕ) → M < i → Claim M → (u : Item) → In (choices system (pick i)) u → Bad M u →
      ((v : Item) → In (choices system (pick i)) v → Good M v ⊎ (Bad M v × (meets M u ≤ℚ meets M v))) → ⊥
  unfolding end_value
  no_first M h claim u m bad least =
      let p = choices_picked system (pick i) u m in
      let k = known M h u p bad in
      let edge = edge_of system u in
      let row = row_of system u in
      let high = supports.highs u k.limit p k.new in
      let t = meets M u in
      let one = le_of_lt_ℚ k.part.below_one in
      let passes = passes_mix system.variables edge.actions t k.low.word high.word k.part.from_zero one k.low.runs.passes
      high.runs.passes in
      let w = mix t k.low.word high.word in
      let p' : Picks (pick (suc M)) u = sym (pick_stays system T n d z pick steps rounds (suc M) i u.point u.row (omega arith) i_within
      ((rounds.tight i i_within).supported.is_pick u p).row_within bad.settled) ∙ p in
      let top = reach_attains system (d (suc M)) edge row (value_at system T (d (suc M)) u) k.limit (reaches (d (suc M)) edge row)
      (ext_le_of_eq (fin k.limit) (value_at system T (d (suc M)) u) (sym
      ((rounds.tight (suc M) (omega arith)).same u p' ∙ bad.settled ∙ k.new))) in
      let upper : Upper system (d i) edge row (fin k.limit) = value_upper system T reaches (d i) u (fin k.limit)
      (ext_le_of_eq (value_at system T (d i) u) (fin k.limit) ((rounds.tight i i_within).same u p ∙ k.new)) in
      let flattened = flat system (d (suc M)) (d i) edge row k.limit top.0 w
      (rise system T n d z pick steps rounds (suc M) i (omega arith) i_within) top.1 top.2 upper passes
      (λ r source e settled. subst₂ (λ s b. fin s ≤ᴱ b) (sym (start-mix system.variables source t k.low.word high.word)) (sym settled)
      (mixed_row M h claim t (dotℚ source (start_of system.variables k.low.word)) (dotℚ source (start_of system.variables high.word))
      k.part.from_zero one least edge.from r
      (slice_get_within system.template r source e) (dotℚ source (start_of system.variables top.0)) (top.1.fits r source e)
      (k.low.runs.fits r source e) (high.runs.fits r source e) settled)) in
      not_le_of_lt
      (past_share t k.low.bound k.limit k.top (item_value system u k.low.word) (item_value system u high.word) k.part k.low.exceeds
      (subst (λ v. v ≤ᴱ fin (item_value system u high.word)) k.raised high.reaches))
      (subst (λ s. s ≤ℚ k.limit) (end-mix system.variables edge.actions row t k.low.word high.word) flattened)

  tell : (M : ℕ) → M < i → Claim M → (u : Item) → In (choices system (pick i)) u → Good M u ⊎ Bad M u
  unfolding Good Claim
  tell M h claim u m = ⊎_elim (λ g. inl (λ e. g)) (λ over. ⊎_elim (λ back. inl (λ e. still back e)) (λ rose. settle over rose)
      (ext_le_or_lt (d (suc M) u.point u.row) (d M u.point u.row))) (ext_le_or_lt (y u.point u.row) (d i u.point u.row))
    where
      l : u.row < length system.template
      l = ((rounds.tight i i_within).supported.is_pick u (choices_picked system (pick i) u m)).row_within

      still : d (suc M) u.point u.row ≤ᴱ d M u.point u.row → d (suc M) u.point u.row ≡ d i u.point u.row
          → y u.point u.row ≤ᴱ d i u.point u.row
      still back e =
          claim u.point u.row l (≤ᴱ_antisymm (d M u.point u.row) (d (suc M) u.point u.row)
          (one_round system T n d z pick steps rounds M (omega arith) u.point u.row l) back ∙ e)

      settle : d i u.point u.row <ᴱ y u.point u.row → d M u.point u.row <ᴱ d (suc M) u.point u.row → Good M u ⊎ Bad M u
      settle over rose = ⊎_elim
          (λ k. inr (record {
            settled = ≤ᴱ_antisymm (d (suc M) u.point u.row) (d i u.point u.row)
                (rise system T n d z pick steps rounds (suc M) i (omega arith) i_within u.point u.row l) k;
            rose = rose;
            over = over;
          }))
          (λ k. inl (λ e. absurd (ext_lt_irrefl (d i u.point u.row) (subst (λ v. v <ᴱ d i u.point u.row) e k))))
          (ext_le_or_lt (d i u.point u.row) (d (suc M) u.point u.row))

  claim_next : (M : ℕ) → M < i → Claim M → Claim (suc M)
  unfolding Good Claim
  claim_next M h claim p r l settled = ⊎_elim (λ all. at all (d i p r) refl) (λ f. absurd (no_first M h claim f.0 f.1 f.2 f.3))
      (least_bad (Good M) (Bad M) (meets M) (choices system (pick i)) (tell M h claim))
    where
      at : ((u : Item) → In (choices system (pick i)) u → Good M u) → (v : Ext) → d i p r ≡ v → y p r ≤ᴱ d i p r
      at all neg_inf e = ext_le_of_eq (y p r) (d i p r) (supports.same p r l (subst NotFinite (sym e) tt))
      at all pos_inf e = ext_le_of_eq (y p r) (d i p r) (supports.same p r l (subst NotFinite (sym e) tt))
      at all (fin c) e =
          let u = tight_picked system T reaches (d i) (pick i) p r c (rounds.tight i i_within) l e in
          let v = picked_choice system (pick i) u.0 (rounds.tight i i_within).supported.is_pick u.3 in
          subst₂ (λ s k. y s k ≤ᴱ d i s k) (v.2 ∙ u.1) (v.3 ∙ u.2) (all v.0 v.1
          (subst₂ (λ s k. d (suc M) s k ≡ d i s k) (sym (v.2 ∙ u.1)) (sym (v.3 ∙ u.2)) settled))

  claim_start : Claim 0
  unfolding Claim
  claim_start zero r l e = ext_le_of_eq (y 0 r) (d i 0 r) (supports.same 0 r l
      (subst NotFinite (sym ((rounds.tight i i_within).supported.entry r l)) tt))
  claim_start (suc p) r l e = ext_le_of_eq (y (suc p) r) (d i (suc p) r)
      (supports.same (suc p) r l (subst NotFinite (sym (rounds.start (suc p) r (omega arith)) ∙ e) tt))

  claims : (M : ℕ) → M ≤ i → Claim M
  claims zero h = claim_start
  claims (suc M) h = claim_next M (omega arith) (claims M (omega arith))

  -- the first law: such a vector is the round's
  pub first_law : (p r : ℕ) → r < length system.template → y p r ≡ d i p r
  unfolding Claim
  first_law p r l = ≤ᴱ_antisymm (y p r) (d i p r) (claims i (omega arith) p r l refl) (supports.over p r l)
