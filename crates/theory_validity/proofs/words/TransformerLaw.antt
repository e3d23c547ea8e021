-- What evidence of a transformer gives: it is the transformer, monotone, local, attained or exceeded, and flat.
use Rattle.std.proofs.Common.{◌≡◌, ◌↔◌, ⊎_elim, ℕ, ◌<◌, List, [], length, get_or, refl, sym, subst}
use Rattle.std.specs.Prelude.{ℤ, slice_get, Some}
use Rattle.std.proofs.lemmas.Option.{slice_get_within, slice_get-get_or}
use Rattle.base_numbers.specs.Rational.{ℚ, zero_ℚ, ◌+ℚ◌, ◌*ℚ◌, ◌≤ℚ◌, ◌<ℚ◌}
use Rattle.base_numbers.specs.Extended.{Ext, neg_inf, fin, pos_inf, ◌≤ᴱ◌, ◌<ᴱ◌}
use Rattle.base_numbers.proofs.rational.Laws.{≤ℚ_refl, le_of_eq_ℚ, le_of_lt_ℚ, ≤ℚ_trans}
use Rattle.base_numbers.proofs.extended.ExtendedLaws.{≤ᴱ_trans, ≤ᴱ_antisymm, ext_not_le_of_lt, ext_le_or_lt}
use Rattle.flow_systems.specs.States.{dotℚ}
use Rattle.flow_edges.specs.declared.edge.Edge.{Edge}
use Rattle.flow_systems.specs.Equations.{Equations, Vector}
use Rattle.theory_validity.specs.Words.{Word, lin, start_form, end_form, start_of, moved}
use Rattle.theory_validity.specs.Steps.{Below, Runs, end_value, Upper}
use Rattle.theory_validity.specs.Transformers.{Unlimited, Reaches, IsTransformer}
use Rattle.theory_validity.proofs.words.WordLaws.{start-moved, passes_moved}
use Rattle.theory_validity.proofs.steps.Puts.{runs_below}
use Rattle.theory_validity.proofs.certificates.StepNumbers.{still_le}
use Rattle.theory_validity.proofs.steps.RayLaw.{end_value-moved}
use Rattle.theory_validity.proofs.steps.ShownLaw.{exceeds_in_time}
use Rattle.theory_validity.proofs.words.Flat.{flat}

-- along its direction an unlimited word runs
pub unlimited_runs : (system : Equations) (z : Vector) (edge : Edge) (row : List ℤ) (u : Unlimited system z edge row) (t : ℚ) → zero_ℚ ≤ℚ t
    → Runs system z edge (moved u.word t u.direction)
unlimited_runs system z edge row u t h =
    record {
      passes = passes_moved system.variables edge.actions u.word t u.direction h u.runs.passes u.falls;
      fits = λ r source e. subst (λ s. fin s ≤ᴱ z edge.from r) (sym (start-moved system.variables source u.word t u.direction))
          (at r source e (z edge.from r) refl);
    }
  where
    at : (r : ℕ) (source : List ℤ) → slice_get system.template r ≡ Some source → (v : Ext) → z edge.from r ≡ v →
        fin (dotℚ source (start_of system.variables u.word) +ℚ t *ℚ lin (start_form system.variables source) u.direction) ≤ᴱ z edge.from r
    at r source e neg_inf f = absurd (subst (λ v. fin (dotℚ source (start_of system.variables u.word)) ≤ᴱ v) f (u.runs.fits r source e))
    at r source e (fin b) f = still_le t (dotℚ source (start_of system.variables u.word))
        (lin (start_form system.variables source) u.direction) (z edge.from r) h (u.still r source b e f) (u.runs.fits r source e)
    at r source e pos_inf f = subst (λ v. fin (dotℚ source (start_of system.variables u.word) +ℚ t *ℚ lin
        (start_form system.variables source) u.direction) ≤ᴱ v) (sym f) tt

-- every number below a transformer is exceeded by a word that runs
pub reach_exceeds : (system : Equations) (z : Vector) (edge : Edge) (row : List ℤ) (v number : Ext) → Reaches system z edge row v
    → number <ᴱ v →
    (w : Word) × Runs system z edge w × (number <ᴱ fin (end_value system edge row w))
reach_exceeds system z edge row neg_inf neg_inf h l = absurd l
reach_exceeds system z edge row neg_inf (fin b) h l = absurd l
reach_exceeds system z edge row neg_inf pos_inf h l = absurd l
reach_exceeds system z edge row (fin c) number h l = (h.1.0, h.1.1, subst (λ s. number <ᴱ fin s) (sym h.1.2) l)
reach_exceeds system z edge row pos_inf neg_inf h l = (h.word, h.runs, tt)
reach_exceeds system z edge row pos_inf (fin c) h l =
    let gain = lin (end_form system.variables edge.actions row) h.direction in
    let r = exceeds_in_time c (end_value system edge row h.word) gain gain h.gains (≤ℚ_refl gain) in (
      moved h.word r.0 h.direction,
      unlimited_runs system z edge row h r.0 r.1,
      subst (λ s. c <ℚ s) (sym (end_value-moved system edge row h.word r.0 h.direction)) r.2,
    )
reach_exceeds system z edge row pos_inf pos_inf h l = absurd l

-- a fraction that is at most a transformer is at most the value of a word that runs
pub reach_attains : (system : Equations) (z : Vector) (edge : Edge) (row : List ℤ) (v : Ext) (c : ℚ) → Reaches system z edge row v
    → fin c ≤ᴱ v →
    (w : Word) × Runs system z edge w × (c ≤ℚ end_value system edge row w)
reach_attains system z edge row neg_inf c h l = absurd l
reach_attains system z edge row (fin b) c h l = (h.1.0, h.1.1, ≤ℚ_trans l (le_of_eq_ℚ (sym h.1.2)))
reach_attains system z edge row pos_inf c h l = let r = reach_exceeds system z edge row pos_inf (fin c) h tt in (r.0, r.1, le_of_lt_ℚ r.2)

-- evidence shows an upper bound
pub reach_upper : (system : Equations) (z : Vector) (edge : Edge) (row : List ℤ) (v : Ext) → Reaches system z edge row v
    → Upper system z edge row v
reach_upper system z edge row neg_inf h = λ w runs. absurd (h w runs)
reach_upper system z edge row (fin c) h = h.0
reach_upper system z edge row pos_inf h = λ w runs. tt

-- that is at most every other
pub reach_least : (system : Equations) (z : Vector) (edge : Edge) (row : List ℤ) (v other : Ext) → Reaches system z edge row v
    → Upper system z edge row other → v ≤ᴱ other
reach_least system z edge row v other h upper = ⊎_elim (λ l. l) (λ l. absurd (over (reach_exceeds system z edge row v other h l)))
    (ext_le_or_lt v other)
  where
    over : ((w : Word) × Runs system z edge w × (other <ᴱ fin (end_value system edge row w))) → ⊥
    over r = ext_not_le_of_lt other (fin (end_value system edge row r.0)) r.2 (upper r.0 r.1)

-- evidence shows the transformer
pub reach_is : (system : Equations) (z : Vector) (edge : Edge) (row : List ℤ) (v : Ext) → Reaches system z edge row v
    → IsTransformer system z edge row v
reach_is system z edge row v h = record {
  upper = reach_upper system z edge row v h;
  least =
      λ other u. reach_least system z edge row v other h u;
}

-- an edge and a row have one transformer
pub transformer_unique : (system : Equations) (z : Vector) (edge : Edge) (row : List ℤ) (v w : Ext) → IsTransformer system z edge row v
    → IsTransformer system z edge row w → v ≡ w
transformer_unique system z edge row v w a b = ≤ᴱ_antisymm v w (a.least w b.upper) (b.least v a.upper)

-- a transformer is at most a number exactly where the number is an upper bound
pub transformer_le : (system : Equations) (z : Vector) (edge : Edge) (row : List ℤ) (v number : Ext) → IsTransformer system z edge row v
    → (v ≤ᴱ number) ↔ Upper system z edge row number
transformer_le system z edge row v number t =
    ((λ h w runs. ≤ᴱ_trans (fin (end_value system edge row w)) v number (t.upper w runs) h), (λ u. t.least number u))

-- transformers are monotone
pub transformer_mono : (system : Equations) (z q : Vector) (edge : Edge) (row : List ℤ) (v w : Ext) → Below system z q
    → IsTransformer system z edge row v → IsTransformer system q edge row w → v ≤ᴱ w
transformer_mono system z q edge row v w below a b = a.least w (λ word runs. b.upper word (runs_below system z q edge word below runs))

-- and depend on the source's bounds alone
runs_local : (system : Equations) (z q : Vector) (edge : Edge) (w : Word)
    → ((r : ℕ) → r < length system.template → z edge.from r ≡ q edge.from r) → Runs system z edge w → Runs system q edge w
runs_local system z q edge w same runs =
    record {
      passes = runs.passes;
      fits = λ r row e. subst (λ v. fin (dotℚ row (start_of system.variables w)) ≤ᴱ v)
          (same r (slice_get_within system.template r row e)) (runs.fits r row e);
    }

-- two vectors that are the same at the source have the same transformer
pub transformer_local : (system : Equations) (z q : Vector) (edge : Edge) (row : List ℤ) (v w : Ext)
    → ((r : ℕ) → r < length system.template → z edge.from r ≡ q edge.from r) →
    IsTransformer system z edge row v → IsTransformer system q edge row w → v ≡ w
transformer_local system z q edge row v w same a b =
    ≤ᴱ_antisymm v w (a.least w (λ word runs. b.upper word (runs_local system z q edge word same runs)))
    (b.least v (λ word runs. a.upper word (runs_local system q z edge word (λ r l. sym (same r l)) runs)))

-- a transformer above -∞ has no source bound at -∞
pub reach_source : (system : Equations) (z : Vector) (edge : Edge) (row : List ℤ) (v : Ext) → Reaches system z edge row v → neg_inf <ᴱ v
    → (r : ℕ) → r < length system.template → neg_inf <ᴱ z edge.from r
reach_source system z edge row v h l r within =
    let w = reach_exceeds system z edge row v neg_inf h l in
    above (dotℚ (get_or system.template r []) (start_of system.variables w.0)) (z edge.from r)
    (w.1.fits r (get_or system.template r []) (slice_get-get_or system.template r [] within))
  where
    above : (x : ℚ) (u : Ext) → fin x ≤ᴱ u → neg_inf <ᴱ u
    above x neg_inf h = h
    above x (fin c) h = tt
    above x pos_inf h = tt

-- flatness: where a transformer did not rise with some of its source bounds, it does not rise whatever those become
pub reach_flat : (system : Equations) (d e y : Vector) (edge : Edge) (row : List ℤ) (v w : Ext) → Below system d e → Below system e y →
    ((r : ℕ) → r < length system.template → e edge.from r ≡ d edge.from r → y edge.from r ≡ d edge.from r) → neg_inf <ᴱ v →
    Reaches system d edge row v → Reaches system e edge row v → IsTransformer system y edge row w → w ≡ v
reach_flat system d e y edge row neg_inf w below over kept l a b t = absurd l
reach_flat system d e y edge row (fin c) w below over kept l a b t =
    ≤ᴱ_antisymm w (fin c)
    (t.least (fin c) (λ word runs. flat system d e edge row c a.1.0 word below a.1.1 (le_of_eq_ℚ (sym a.1.2)) b.0 runs.passes
    (λ r source f same. subst (λ k. fin (dotℚ source (start_of system.variables word)) ≤ᴱ k)
    (kept r (slice_get_within system.template r source f) (sym same)) (runs.fits r source f))))
    (transformer_mono system e y edge row (fin c) w over (reach_is system e edge row (fin c) b) t)
reach_flat system d e y edge row pos_inf w below over kept l a b t =
    ≤ᴱ_antisymm w pos_inf (top w) (transformer_mono system e y edge row pos_inf w over (reach_is system e edge row pos_inf b) t)
  where
    top : (u : Ext) → u ≤ᴱ pos_inf
    top neg_inf = tt
    top (fin c) = tt
    top pos_inf = tt
