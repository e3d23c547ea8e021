-- The transformer as a total function: it has evidence, so it is the least upper bound, monotone and local.
use Rattle.std.proofs.Common.{◌≡◌, ◌∙◌, ◌↔◌, ⊎_elim, ℕ, zero, suc, ◌<◌, Bool, true, false, true≢false, List, [], ◌∷◌, length, refl, sym, ap}
use Rattle.std.proofs.Common.{subst, if◌then◌else◌}
use Rattle.std.specs.Prelude.{ℤ, slice_get, Some}
use Rattle.base_numbers.specs.Rational.{ℚ, zero_ℚ, ◌+ℚ◌, ◌≤ℚ◌, ◌<ℚ◌}
use Rattle.base_numbers.specs.Extended.{Ext, neg_inf, fin, pos_inf, ◌≤ᴱ◌, ◌<ᴱ◌}
use Rattle.base_numbers.specs.Vector.{dot}
use Rattle.base_numbers.proofs.tactics.Linarith.{lin_le, le, reads_all}
use Rattle.base_numbers.proofs.extended.ExtendedLaws.{≤ᴱ_trans}
use Rattle.std.proofs.lemmas.Option.{slice_get_within}
use Rattle.std.proofs.lemmas.Bool.{or_parts, or_cases}
use Rattle.flow_systems.specs.States.{dotℚ}
use Rattle.flow_edges.specs.declared.edge.Edge.{Edge}
use Rattle.flow_systems.specs.Equations.{Equations, Vector}
use Rattle.theory_validity.specs.Words.{Word, val, lin, width, end_form, start_of}
use Rattle.theory_validity.specs.Steps.{Runs, end_value, Upper}
use Rattle.theory_validity.specs.Transformers.{Unlimited, Reaches, IsTransformer}
use Rattle.theory_validity.proofs.words.WordLaws.{val-end_form}
use Rattle.theory_validity.proofs.words.Widths.{end_form_width}
use Rattle.theory_validity.proofs.words.TransformerLaw.{reach_exceeds, reach_attains, reach_is, reach_source, transformer_le}
use Rattle.theory_validity.proofs.words.TransformerLaw.{transformer_unique, transformer_local}
use Rattle.lp_theory.specs.Problem.{Outcome, best, unbounded, empty, value_at}
use Rattle.lp_theory.specs.Listed.{at}
use Rattle.lp_theory.specs.Free.{free_lp, IsFreeOutcome, IsFreeBest, IsFreeUnbounded}
use Rattle.lp_theory.proofs.FreePrograms.{free_lp_is, free_weak_best, free_weak_empty}
use Rattle.theory_transformers.specs.Limits.{limits_problem, product, tabulate}
use Rattle.theory_transformers.specs.EdgeProblems.{edge_problem, is_lost, lost, value_of, transformer, NoneLost}
use Rattle.theory_transformers.proofs.limits.Products.{product_is_sum, product-at, product-tabulate}
use Rattle.theory_transformers.proofs.edge_problems.EdgePoints.{point_runs, runs_point, direction_falls}

-- ---- rows at −∞

not_lost : (v : Ext) → is_lost v ≡ false → neg_inf <ᴱ v
not_lost neg_inf e = absurd (true≢false e)
not_lost (fin c) e = tt
not_lost pos_inf e = tt

is_at_neg : (v : Ext) → is_lost v ≡ true → v ≡ neg_inf
is_at_neg neg_inf e = refl
is_at_neg (fin c) e = absurd (true≢false (sym e))
is_at_neg pos_inf e = absurd (true≢false (sym e))

-- where no row is lost, none has the bound −∞
pub none_lost : (bounds : ℕ → Ext) (rows : List (List ℤ)) → lost bounds rows ≡ false → NoneLost bounds rows
unfolding lost
none_lost bounds [] e = record { above = λ r row f. cc }
none_lost bounds (first ∷ rows) e =
    let h = or_parts (is_lost (bounds 0)) (lost (λ r. bounds (suc r)) rows) e in
    record { above = by h.0 (none_lost (λ r. bounds (suc r)) rows h.1) }
  where
    by : is_lost (bounds 0) ≡ false → NoneLost (λ r. bounds (suc r)) rows → (r : ℕ) (row : List ℤ) → slice_get (first ∷ rows) r ≡ Some row
        → neg_inf <ᴱ bounds r
    by h n zero row f = not_lost (bounds 0) h
    by h n (suc r) row f = n.above r row f

-- else there is one
some_lost : (bounds : ℕ → Ext) (rows : List (List ℤ)) → lost bounds rows ≡ true
    → (r : ℕ) × (row : List ℤ) × (slice_get rows r ≡ Some row) × (bounds r ≡ neg_inf)
unfolding lost
some_lost bounds [] e = absurd (true≢false (sym e))
some_lost bounds (first ∷ rows) e =
    ⊎_elim (λ h. (0, first, refl, is_at_neg (bounds 0) h)) (λ h. let s = some_lost (λ r. bounds (suc r)) rows h in (suc s.0, s.1, s.2, s.3))
    (or_cases (is_lost (bounds 0)) (lost (λ r. bounds (suc r)) rows) e)

-- ---- the goal
goal_at : (system : Equations) (z : Vector) (edge : Edge) (row : List ℤ) (x : ℕ → ℚ)
    → value_at (edge_problem system z edge row) x ≡ product (end_form system.variables edge.actions row).coeffs x
unfolding edge_problem limits_problem
goal_at system z edge row x = product_is_sum (end_form system.variables edge.actions row).coeffs (width system.variables edge.actions) x
    (end_form_width system.variables edge.actions row)

end_is : (system : Equations) (edge : Edge) (row : List ℤ) (w : Word) →
    end_value system edge row w ≡ dot (end_form system.variables edge.actions row).coeffs w +ℚ
    (end_form system.variables edge.actions row).constant
unfolding end_value val
end_is system edge row w = sym (val-end_form system.variables edge.actions row w)

-- a word's value is the problem's goal plus the constant
value_of_word : (system : Equations) (z : Vector) (edge : Edge) (row : List ℤ) (w : Word)
    → end_value system edge row w ≡ value_at (edge_problem system z edge row) (at w) +ℚ
    (end_form system.variables edge.actions row).constant
value_of_word system z edge row w =
    end_is system edge row w ∙ ap (λ s. s +ℚ (end_form system.variables edge.actions row).constant)
    (sym (goal_at system z edge row (at w) ∙ product-at (end_form system.variables edge.actions row).coeffs w))

value_of_point : (system : Equations) (z : Vector) (edge : Edge) (row : List ℤ) (x : ℕ → ℚ) →
    end_value system edge row (tabulate (width system.variables edge.actions) x)
    ≡ value_at (edge_problem system z edge row) x +ℚ (end_form system.variables edge.actions row).constant
value_of_point system z edge row x =
    let f = end_form system.variables edge.actions row in
    end_is system edge row (tabulate (width system.variables edge.actions) x)
    ∙ ap (λ s. s +ℚ f.constant) (product-tabulate f.coeffs (width system.variables edge.actions) x
    (end_form_width system.variables edge.actions row) ∙ sym (goal_at system z edge row x))

shift_le : (a b c : ℚ) → a ≤ℚ b → a +ℚ c ≤ℚ b +ℚ c
shift_le a b c h = lin_le (a ∷ b ∷ c ∷ []) (le h ∷ []) (search reads_all depth 40) tt

-- ---- evidence
best_reaches : (system : Equations) (z : Vector) (edge : Edge) (row : List ℤ) (x y : ℕ → ℚ) (v : ℚ) → NoneLost (z edge.from) system.template
    →
    IsFreeBest (edge_problem system z edge row) x v y → Reaches system z edge row
    (fin (v +ℚ (end_form system.variables edge.actions row).constant))
best_reaches system z edge row x y v none b =
    let c = (end_form system.variables edge.actions row).constant in (
      λ w runs. subst (λ s. s ≤ℚ v +ℚ c) (sym (value_of_word system z edge row w))
          (shift_le (value_at (edge_problem system z edge row) (at w)) v c
          (free_weak_best (edge_problem system z edge row) x y v b (at w) (runs_point system z edge row w runs))),
      (
        tabulate (width system.variables edge.actions) x,
        point_runs system z edge row x none b.point,
        value_of_point system z edge row x ∙ ap (λ s. s +ℚ c) b.value,
      ),
    )

unbounded_reaches : (system : Equations) (z : Vector) (edge : Edge) (row : List ℤ) (x d : ℕ → ℚ) → NoneLost (z edge.from) system.template →
    IsFreeUnbounded (edge_problem system z edge row) x d → Unlimited system z edge row
unfolding lin
unbounded_reaches system z edge row x d none u =
    let f = direction_falls system z edge row d u.keeps in
    record {
      word = tabulate (width system.variables edge.actions) x;
      runs = point_runs system z edge row x none u.point;
      direction = tabulate (width system.variables edge.actions) d;
      still = f.1;
      falls = f.0;
      gains = subst (λ s. zero_ℚ <ℚ s) (goal_at system z edge row d ∙ sym
          (product-tabulate (end_form system.variables edge.actions row).coeffs (width system.variables edge.actions) d
          (end_form_width system.variables edge.actions row))) u.gains;
    }

outcome_reaches : (system : Equations) (z : Vector) (edge : Edge) (row : List ℤ) → NoneLost (z edge.from) system.template → (o : Outcome)
    → IsFreeOutcome (edge_problem system z edge row) o →
    Reaches system z edge row (value_of (end_form system.variables edge.actions row).constant o)
outcome_reaches system z edge row none (best x v y) h = best_reaches system z edge row x y v none h
outcome_reaches system z edge row none (unbounded x d) h = unbounded_reaches system z edge row x d none h
outcome_reaches system z edge row none (empty y) h = λ w runs. free_weak_empty (edge_problem system z edge row) y h (at w)
    (runs_point system z edge row w runs)

nothing_runs : (system : Equations) (z : Vector) (edge : Edge) (r : ℕ) (row : List ℤ) → slice_get system.template r ≡ Some row
    → z edge.from r ≡ neg_inf → (w : Word) → Runs system z edge w → ⊥
nothing_runs system z edge r row e f w runs = subst (λ v. fin (dotℚ row (start_of system.variables w)) ≤ᴱ v) f (runs.fits r row e)

-- the transformer's number has evidence
pub transformer_reaches : (system : Equations) (z : Vector) (edge : Edge) (row : List ℤ)
    → Reaches system z edge row (transformer system z edge row)
unfolding transformer
transformer_reaches system z edge row = by (lost (z edge.from) system.template) refl
  where
    by : (b : Bool) → lost (z edge.from) system.template ≡ b →
        Reaches system z edge row (if b then neg_inf else value_of (end_form system.variables edge.actions row).constant
        (free_lp (edge_problem system z edge row)))
    by true e = let s = some_lost (z edge.from) system.template e in nothing_runs system z edge s.0 s.1 s.2 s.3
    by false e = outcome_reaches system z edge row (none_lost (z edge.from) system.template e) (free_lp (edge_problem system z edge row))
        (free_lp_is (edge_problem system z edge row))

-- so it is the transformer
pub transformer_is : (system : Equations) (z : Vector) (edge : Edge) (row : List ℤ)
    → IsTransformer system z edge row (transformer system z edge row)
transformer_is system z edge row = reach_is system z edge row (transformer system z edge row) (transformer_reaches system z edge row)

-- exactly one number has evidence
pub reach_unique : (system : Equations) (z : Vector) (edge : Edge) (row : List ℤ) (v : Ext) → Reaches system z edge row v
    → v ≡ transformer system z edge row
reach_unique system z edge row v h = transformer_unique system z edge row v (transformer system z edge row) (reach_is system z edge row v h)
    (transformer_is system z edge row)

-- a number is an upper bound exactly where the transformer is at most it
pub transformer_lub : (system : Equations) (z : Vector) (edge : Edge) (row : List ℤ) (v : Ext) → (transformer system z edge row ≤ᴱ v)
    ↔ Upper system z edge row v
transformer_lub system z edge row v = transformer_le system z edge row (transformer system z edge row) v (transformer_is system z edge row)

-- every smaller number is exceeded
pub transformer_exceeds : (system : Equations) (z : Vector) (edge : Edge) (row : List ℤ) (v : Ext) → v <ᴱ transformer system z edge row
    → (w : Word) × Runs system z edge w × (v <ᴱ fin (end_value system edge row w))
transformer_exceeds system z edge row v l = reach_exceeds system z edge row (transformer system z edge row) v
    (transformer_reaches system z edge row) l

-- and every fraction that is at most the transformer is reached
pub transformer_attains : (system : Equations) (z : Vector) (edge : Edge) (row : List ℤ) (c : ℚ) → fin c ≤ᴱ transformer system z edge row
    → (w : Word) × Runs system z edge w × (c ≤ℚ end_value system edge row w)
transformer_attains system z edge row c l = reach_attains system z edge row (transformer system z edge row) c
    (transformer_reaches system z edge row) l

-- a word that runs has at most the transformer as its value
pub transformer_upper : (system : Equations) (z : Vector) (edge : Edge) (row : List ℤ)
    → Upper system z edge row (transformer system z edge row)
transformer_upper system z edge row = (transformer_is system z edge row).upper

-- above −∞ no source row is at −∞
pub transformer_source : (system : Equations) (z : Vector) (edge : Edge) (row : List ℤ) → neg_inf <ᴱ transformer system z edge row → (r : ℕ)
    → r < length system.template → neg_inf <ᴱ z edge.from r
transformer_source system z edge row l = reach_source system z edge row (transformer system z edge row)
    (transformer_reaches system z edge row) l

-- one vector's bounds at a point are at most another's
abbrev pub BelowAt : Equations → ℕ → Vector → Vector → Type 0
BelowAt system p z q = (r : ℕ) → r < length system.template → z p r ≤ᴱ q p r

-- a word that runs at a vector runs at one whose bounds at the source are at least as great
pub runs_below_at : (system : Equations) (z q : Vector) (edge : Edge) (w : Word) → BelowAt system edge.from z q → Runs system z edge w
    → Runs system q edge w
runs_below_at system z q edge w below runs = record {
  passes = runs.passes;
  fits = λ r row e. ≤ᴱ_trans (fin (dotℚ row (start_of system.variables w))) (z edge.from r) (q edge.from r) (runs.fits r row e)
      (below r (slice_get_within system.template r row e));
}

-- monotone in the bounds at the edge's source
pub transformer_rises : (system : Equations) (z q : Vector) (edge : Edge) (row : List ℤ) → BelowAt system edge.from z q
    → transformer system z edge row ≤ᴱ transformer system q edge row
transformer_rises system z q edge row below =
    (transformer_is system z edge row).least (transformer system q edge row)
    (λ w runs. transformer_upper system q edge row w (runs_below_at system z q edge w below runs))

-- and by them alone
pub transformer_by_source : (system : Equations) (z q : Vector) (edge : Edge) (row : List ℤ)
    → ((r : ℕ) → r < length system.template → z edge.from r ≡ q edge.from r) →
    transformer system z edge row ≡ transformer system q edge row
transformer_by_source system z q edge row same =
    transformer_local system z q edge row (transformer system z edge row) (transformer system q edge row) same
    (transformer_is system z edge row) (transformer_is system q edge row)
