-- Vectors and the lists of their bounds.
use Rattle.std.proofs.Common.{◌≡◌, ◌∙◌, ℕ, zero, suc, ◌+◌, ◌*◌, ◌/◌, ◌%◌, ◌<◌, List, length, get_or, map, sym, ap, subst, arith}
use Rattle.std.proofs.Common.{length-append, div-add-mod', mod-lt}
use Rattle.std.specs.Prelude.{flat_map}
use Rattle.std.specs.List.{range_with_len}
use Rattle.std.proofs.Math.ListN.{get_or-append}
use Rattle.std.proofs.Math.Nat.{lt_of_mul-lt-mul_left}
use Rattle.std.proofs.lemmas.List.{get_or-append-add, ext_get_or}
use Rattle.std.proofs.lemmas.List.FromFn.{length-map-range_with_len, get_or-map-range_with_len}
use Rattle.base_numbers.specs.Extended.{Ext, neg_inf}
use Rattle.flow_systems.specs.Equations.{Vector}
use Rattle.flow_systems.specs.View.{vector_of, bounds_of, VectorsAreLists}

-- the bounds at a point
abbrev row_bounds : Vector → ℕ → ℕ → List Ext
row_bounds v rows p = map (v p) (range_with_len 0 rows)

-- the bounds at the points from a on
abbrev from_point : Vector → ℕ → ℕ → ℕ → List Ext
from_point v rows a n = flat_map (row_bounds v rows) (range_with_len a n)

length-row_bounds : (v : Vector) (rows p : ℕ) → length (row_bounds v rows p) ≡ rows
length-row_bounds v rows p = length-map-range_with_len (v p) 0 rows

length-from_point : (v : Vector) (rows a n : ℕ) → length (from_point v rows a n) ≡ n * rows
length-from_point v rows a zero = let e : 0 ≡ 0 * rows = omega arith in e
length-from_point v rows a (suc n) =
    omega (
      arith,
      length-append (row_bounds v rows a) (from_point v rows (a + 1) n),
      length-row_bounds v rows a,
      length-from_point v rows (a + 1) n,
    )

get_or-row_bounds : (v : Vector) (rows p r : ℕ) (d : Ext) → r < rows → get_or (row_bounds v rows p) r d ≡ v p r
get_or-row_bounds v rows p r d h = get_or-map-range_with_len (v p) 0 rows r r d h (omega arith)

get_or-from_point : (v : Vector) (rows a n p r : ℕ) (d : Ext) → p < n → r < rows
    → get_or (from_point v rows a n) (p * rows + r) d ≡ v (a + p) r
get_or-from_point v rows a zero p r d h i = absurd (omega (arith, h))
get_or-from_point v rows a (suc n) zero r d h i =
    let k : 0 * rows + r ≡ r = omega arith in
    let q : a ≡ a + 0 = omega arith in
    ap (λ j. get_or (from_point v rows a (suc n)) j d) k
    ∙ get_or-append (row_bounds v rows a) (from_point v rows (a + 1) n) d r (omega (arith, i, length-row_bounds v rows a))
    ∙ get_or-row_bounds v rows a r d i ∙ ap (λ j. v j r) q
get_or-from_point v rows a (suc n) (suc p) r d h i =
    let k : suc p * rows + r ≡ length (row_bounds v rows a) + (p * rows + r) = omega (arith, length-row_bounds v rows a) in
    let q : a + 1 + p ≡ a + suc p = omega arith in
    ap (λ j. get_or (from_point v rows a (suc n)) j d) k
    ∙ get_or-append-add (row_bounds v rows a) (from_point v rows (a + 1) n) (p * rows + r) d
    ∙ get_or-from_point v rows (a + 1) n p r d (omega (arith, h)) i ∙ ap (λ j. v j r) q

vector-listed : (points rows : ℕ) (v : Vector) (p r : ℕ) → p < points → r < rows → vector_of rows (bounds_of points rows v) p r ≡ v p r
vector-listed points rows v p r h i = let q : 0 + p ≡ p = omega arith in
    get_or-from_point v rows 0 points p r neg_inf h i ∙ ap (λ j. v j r) q

-- a place in the list is that of a point and a row
placed : (points rows k : ℕ) → k < points * rows → (p : ℕ) × (r : ℕ) × (p < points) × (r < rows) × (p * rows + r ≡ k)
placed points zero k h = absurd (omega (arith, h))
placed points (suc rows) k h =
    let e = div-add-mod' k (suc rows) in
    let m = mod-lt k {m = suc rows} (omega arith) in
    (k / suc rows, k % suc rows, below (k / suc rows) (k % suc rows) e, m, e)
  where
    below : (p r : ℕ) → p * suc rows + r ≡ k → p < points
    below p r e = lt_of_mul-lt-mul_left (suc rows) (omega (arith, e, h))

list-vector : (points rows : ℕ) (bounds : List Ext) → length bounds ≡ points * rows → bounds_of points rows (vector_of rows bounds) ≡ bounds
list-vector points rows bounds e =
    let v = vector_of rows bounds in
    let size = length-from_point v rows 0 points in
    ext_get_or neg_inf (bounds_of points rows v) bounds (size ∙ sym e) (λ k h. at_place k (omega (arith, h, size)))
  where
    at_place : (k : ℕ) → k < points * rows → get_or (bounds_of points rows (vector_of rows bounds)) k neg_inf ≡ get_or bounds k neg_inf
    at_place k h =
        let s = placed points rows k h in
        subst (λ j. get_or (bounds_of points rows (vector_of rows bounds)) j neg_inf ≡ get_or bounds j neg_inf) s.4
        (vector-listed points rows (vector_of rows bounds) s.0 s.1 s.2 s.3)

-- each vector is that of its list at every unknown, and each list of the right length is that of its vector
pub listed_law : VectorsAreLists
listed_law points rows = record {
  vector = vector-listed points rows;
  count = λ v. length-from_point v rows 0 points;
  list =
      list-vector points rows;
}
