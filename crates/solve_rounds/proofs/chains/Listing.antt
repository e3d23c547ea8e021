-- Lists of bounds and of picks, and the vectors and picks that they stand for.
use Rattle.std.proofs.Common.{◌≡◌, ◌∙◌, ℕ, zero, suc, ◌+◌, ◌*◌, ◌-◌, ◌/◌, ◌%◌, ◌<◌, ltb, Bool, true, false, List, length, length-append}
use Rattle.std.proofs.Common.{get_or, refl, sym, ap, arith, if◌then◌else◌}
use Rattle.std.specs.Prelude.{Option, None, replicate}
use Rattle.std.proofs.Math.Nat.{lt_of_mul-lt-mul_left}
use Rattle.std.proofs.Math.Path.{fun_ext}
use Rattle.std.proofs.lemmas.List.{ext_get_or, length-replicate}
use Rattle.std.proofs.lemmas.Nat.{div-add-mod'}
use Rattle.base_numbers.specs.Extended.{Ext, neg_inf, pos_inf}
use Rattle.flow_systems.specs.Equations.{Vector}
use Rattle.flow_systems.specs.Starts.{start_bounds}
use Rattle.flow_systems.specs.View.{vector_of, bounds_of, IsListed}
use Rattle.flow_systems.proofs.view.Listed.{listed_law}
use Rattle.flow_systems.proofs.starts.Started.{started_vector}
use Rattle.theory_validity.specs.Steps.{start_vector}
use Rattle.solve_offers.specs.Improvement.{pick_of}
use Rattle.solve_offers.proofs.offers.Unknowns.{row_within}

-- the point of a number
point_within : (u points rows : ℕ) → u < points * rows → u / rows < points
point_within u points rows h = lt_of_mul-lt-mul_left rows (let e = div-add-mod' u rows in omega arith)

-- a list of bounds that are a vector's is the list of the vector's bounds
pub bounds_same : (points rows : ℕ) (bounds : List Ext) (v : Vector) → length bounds ≡ points * rows
    → ((p r : ℕ) → p < points → r < rows → vector_of rows bounds p r ≡ v p r) → bounds ≡ bounds_of points rows v
bounds_same points rows bounds v size same = ext_get_or neg_inf bounds (bounds_of points rows v) (size ∙ sym (law.count v))
    (λ k h. at_place k (omega (arith, h, size)))
  where
    law : IsListed points rows
    law = listed_law points rows

    at_place : (k : ℕ) → k < points * rows → get_or bounds k neg_inf ≡ get_or (bounds_of points rows v) k neg_inf
    at_place k h =
        let p = point_within k points rows h in
        let r = row_within k points rows h in
        sym (ap (λ j. get_or bounds j neg_inf) (div-add-mod' k rows)) ∙ same (k / rows) (k % rows) p r
        ∙ sym (law.vector v (k / rows) (k % rows) p r)
        ∙ ap (λ j. get_or (bounds_of points rows v) j neg_inf) (div-add-mod' k rows)

length-start : (points rows : ℕ) → 0 < points → length (start_bounds points rows) ≡ points * rows
length-start zero rows h = absurd (omega arith)
length-start (suc points) rows h =
    length-append (replicate rows pos_inf) (replicate ((suc points - 1) * rows) neg_inf)
    ∙ (let a = length-replicate rows pos_inf in let b = length-replicate ((suc points - 1) * rows) neg_inf in
    let c : (suc points - 1) * rows ≡ points * rows = ap (λ n. n * rows) (let e : suc points - 1 ≡ points = omega arith in e) in
    omega arith)

start_same : (p r : ℕ) → Rattle.flow_systems.specs.Starts.start_vector p r ≡ start_vector p r
unfolding start_vector
start_same zero r = refl
start_same (suc p) r = refl

-- the bounds from which an analysis starts are those of the start vector
pub start_listed : (points rows : ℕ) → 0 < points → start_bounds points rows ≡ bounds_of points rows start_vector
start_listed points rows some =
    bounds_same points rows (start_bounds points rows) start_vector (length-start points rows some)
    (λ p r h l. started_vector points rows (start_bounds points rows) refl p r h l ∙ start_same p r)

abbrev nothing : Option ℕ
nothing = None

nothing_at : (n u : ℕ) → get_or (replicate n nothing) u nothing ≡ nothing
nothing_at zero u = refl
nothing_at (suc n) zero = refl
nothing_at (suc n) (suc u) = nothing_at n u

-- a list without edges is the pick of nothing
pub nothing_picked : (rows n : ℕ) → pick_of rows (replicate n nothing) ≡ (λ p r. nothing)
nothing_picked rows n = fun_ext (λ p. fun_ext (λ r. by p r (ltb r rows)))
  where
    by : (p r : ℕ) (b : Bool) → (if b then get_or (replicate n nothing) (p * rows + r) nothing else nothing) ≡ nothing
    by p r true = nothing_at n (p * rows + r)
    by p r false = refl
