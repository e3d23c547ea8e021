-- The numbers of a raise.
use Rattle.std.proofs.Common.{◌≡◌, ◌∙◌, ◌&&◌, Bool, true, false, T, List, [], ◌∷◌, length, refl, sym, subst, if◌then◌else◌}
use Rattle.std.specs.Prelude.{ℤ, pos, ◌+ℤ◌}
use Rattle.base_numbers.specs.Rational.{ℚ, whole, zero_ℚ, ◌+ℚ◌, ◌-ℚ◌, ◌*ℚ◌, ◌/ℚ◌, ◌≤ℚ◌, ◌<ℚ◌, lt_ℚ, floor}
use Rattle.base_numbers.specs.Extended.{Ext, neg_inf, fin, pos_inf, ◌<ᴱ◌}
use Rattle.base_numbers.proofs.rational.Laws.{ne_of_lt_ℚ, *ℚ_pos, le_of_not_lt_ℚ, lt_floor}
use Rattle.base_numbers.proofs.rational.Quotients.{quotient_times}
use Rattle.base_numbers.proofs.tactics.Linear.{gap_lt}
use Rattle.base_numbers.proofs.tactics.Linarith.{lin_lt, lin_false, le, lt, eq, gt0, reads_all}
use Rattle.flow_edges.specs.declared.edge.Edge.{Edge}
use Rattle.flow_systems.specs.Equations.{Equations, Vector}
use Rattle.theory_validity.specs.Words.{Word, width, lin, end_form, moved}
use Rattle.theory_validity.specs.Steps.{Runs, end_value}
use Rattle.theory_validity.specs.Transformers.{Unlimited}
use Rattle.theory_validity.proofs.steps.RayLaw.{end_value-moved}
use Rattle.theory_validity.proofs.steps.Raises.{length-moved}
use Rattle.theory_validity.proofs.words.TransformerLaw.{unlimited_runs}
use Rattle.theory_strategy.specs.Growth.{between, raised_to, ray_low}

two_pos : zero_ℚ <ℚ whole (pos 2)
two_pos = lin_lt [] [] (search reads_all depth 40) tt

midpoint : (b v : ℚ) → b <ℚ v → (b <ℚ (b +ℚ v) /ℚ whole (pos 2)) × ((b +ℚ v) /ℚ whole (pos 2) <ℚ v)
midpoint b v h = by ((b +ℚ v) /ℚ whole (pos 2)) (quotient_times (b +ℚ v) (whole (pos 2)) (λ e. ne_of_lt_ℚ two_pos (sym e)))
  where
    by : (m : ℚ) → m *ℚ whole (pos 2) ≡ b +ℚ v → (b <ℚ m) × (m <ℚ v)
    by m e = (
      lin_lt (m ∷ b ∷ v ∷ []) (eq e ∷ lt h ∷ []) (search reads_all depth 40) tt,
      lin_lt (m ∷ b ∷ v ∷ []) (eq e ∷ lt h ∷ []) (search reads_all depth 40) tt,
    )

both_true : (a b : Bool) → a && b ≡ true → T b
both_true true true e = tt
both_true true false e = cc
both_true false b e = cc

-- the number between a bound and a transformer
between_is : (fitting : ℚ → Bool) (b v : ℚ) → b <ℚ v → (b <ℚ between fitting b v) × (between fitting b v <ℚ v)
unfolding between
between_is fitting b v h = by (fitting (whole (floor b +ℤ pos 1)) && lt_ℚ (whole (floor b +ℤ pos 1)) v) refl
  where
    by : (t : Bool) → fitting (whole (floor b +ℤ pos 1)) && lt_ℚ (whole (floor b +ℤ pos 1)) v ≡ t →
        (b <ℚ (if t then whole (floor b +ℤ pos 1) else (b +ℚ v) /ℚ whole (pos 2)))
        × ((if t then whole (floor b +ℤ pos 1) else (b +ℚ v) /ℚ whole (pos 2)) <ℚ v)
    by true e = (lt_floor b, record { lt = both_true (fitting (whole (floor b +ℤ pos 1))) (lt_ℚ (whole (floor b +ℤ pos 1)) v) e })
    by false e = midpoint b v h

-- a raise is above the bound and below the transformer
pub raised_to_is : (fitting : ℚ → Bool) (b : Ext) (v : ℚ) → b <ᴱ fin v → (b <ᴱ fin (raised_to fitting b v)) × (raised_to fitting b v <ℚ v)
unfolding raised_to
raised_to_is fitting neg_inf v h = (tt, lin_lt (v ∷ []) [] (search reads_all depth 40) tt)
raised_to_is fitting (fin b) v h = between_is fitting b v h
raised_to_is fitting pos_inf v h = absurd h

-- what is known of a ray's low word
pub record Exceeding (system : Equations) (z : Vector) (edge : Edge) (row : List ℤ) (bound : Ext) (w : Word) : Type 0 where
  -- the word has a value for each column
  pub size : length w ≡ width system.variables edge.actions
  -- the word runs
  pub runs : Runs system z edge w
  -- its end value exceeds the bound
  pub exceeds : bound <ᴱ fin (end_value system edge row w)

long_enough : (b e rate : ℚ) → zero_ℚ <ℚ rate → e ≤ℚ b → (zero_ℚ ≤ℚ whole (floor ((b -ℚ e) /ℚ rate) +ℤ pos 1))
    × (b <ℚ e +ℚ whole (floor ((b -ℚ e) /ℚ rate) +ℤ pos 1) *ℚ rate)
long_enough b e rate h i = by ((b -ℚ e) /ℚ rate) (whole (floor ((b -ℚ e) /ℚ rate) +ℤ pos 1))
    (quotient_times (b -ℚ e) rate (λ f. ne_of_lt_ℚ h (sym f))) (lt_floor ((b -ℚ e) /ℚ rate))
  where
    early : (q t : ℚ) → q *ℚ rate ≡ b -ℚ e → q <ℚ t → t <ℚ zero_ℚ → ⊥
    early q t f l k = lin_false (q ∷ t ∷ b ∷ e ∷ rate ∷ []) (gt0 (*ℚ_pos (gap_lt l) h) ∷ gt0 (*ℚ_pos (gap_lt k) h) ∷ eq f ∷ le i ∷ [])
        (search reads_all depth 40) tt

    by : (q t : ℚ) → q *ℚ rate ≡ b -ℚ e → q <ℚ t → (zero_ℚ ≤ℚ t) × (b <ℚ e +ℚ t *ℚ rate)
    by q t f l = (
      le_of_not_lt_ℚ (λ k. early q t f l k),
      lin_lt (q ∷ t ∷ b ∷ e ∷ rate ∷ []) (gt0 (*ℚ_pos (gap_lt l) h) ∷ eq f ∷ [])
          (search reads_all depth 40) tt,
    )

-- a ray's low word runs and exceeds the bound
pub ray_low_is : (system : Equations) (z : Vector) (edge : Edge) (row : List ℤ) (u : Unlimited system z edge row) (bound : Ext)
    → bound <ᴱ pos_inf →
    length u.word ≡ width system.variables edge.actions → length u.direction ≡ width system.variables edge.actions
    → Exceeding system z edge row bound (ray_low system z edge row u bound)
unfolding ray_low
ray_low_is system z edge row u neg_inf h a b = record { size = a; runs = u.runs; exceeds = tt }
ray_low_is system z edge row u (fin c) h a b = by (lt_ℚ c (end_value system edge row u.word)) refl
  where
    rate : ℚ
    rate = lin (end_form system.variables edge.actions row) u.direction

    t : ℚ
    t = whole (floor ((c -ℚ end_value system edge row u.word) /ℚ rate) +ℤ pos 1)

    by : (test : Bool) → lt_ℚ c (end_value system edge row u.word) ≡ test
        → Exceeding system z edge row (fin c) (if test then u.word else moved u.word t u.direction)
    by true e = record { size = a; runs = u.runs; exceeds = record { lt = subst (λ x. T x) (sym e) tt } }
    by false e =
        let far = long_enough c (end_value system edge row u.word) rate u.gains (le_of_not_lt_ℚ (λ l. subst (λ x. T x) e l.lt)) in
        record {
          size = length-moved u.word t u.direction (a ∙ sym b) ∙ a;
          runs = unlimited_runs system z edge row u t far.0;
          exceeds = subst (λ s. c <ℚ s) (sym (end_value-moved system edge row u.word t u.direction)) far.1;
        }
ray_low_is system z edge row u pos_inf h a b = absurd h
