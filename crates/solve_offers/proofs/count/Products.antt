-- The product over all unknowns, point after point.
use Rattle.std.proofs.Common.{◌≡◌, ◌∙◌, ℕ, zero, suc, ◌+◌, ◌*◌, ◌^◌, ◌<◌, ◌≤◌, eqb, Bool, true, false, cond, List, [], ◌∷◌, ◌++◌, length}
use Rattle.std.proofs.Common.{map, refl, sym, ap, arith, mul_assoc, if◌then◌else◌}
use Rattle.std.specs.Prelude.{flat_map, ◌==◌}
use Rattle.std.specs.List.{filter, range_with_len, count_by}
use Rattle.std.proofs.Math.Nat.{one-le-pow, pow-zero, pow-suc, pow-succ', mul-le-mul_left, le-mul_of_pos_right, pow-le-pow_right}
use Rattle.std.proofs.lemmas.Grind.{flat_map-append}
use Rattle.std.proofs.lemmas.List.{map-append, append-nil, length-map}
use Rattle.std.proofs.lemmas.List.Sums.{length-filter}
use Rattle.std.proofs.lemmas.List.FromFn.{length-range_with_len, map-range_with_len_more}
use Rattle.flow_edges.specs.declared.edge.Edge.{Edge}
use Rattle.flow_systems.specs.Equations.{Equations}
use Rattle.theory_validity.specs.Certificates.{edges_into}
use Rattle.theory_strategy.specs.PickCount.{product, Unknown, unknowns, pick_count}

edges_into-filter : (p : ℕ) (edges : List Edge) → edges_into p edges ≡ filter (λ edge. edge.to == p) edges
unfolding edges_into
edges_into-filter p [] = refl
edges_into-filter p (edge ∷ edges) = by (eqb edge.to p) (edges_into-filter p edges)
  where
    by : (b : Bool) → edges_into p edges ≡ filter (λ other. other.to == p) edges →
        (if b then edge ∷ edges_into p edges else edges_into p edges) ≡ cond b (edge ∷ filter (λ other. other.to == p) edges)
        (filter (λ other. other.to == p) edges)
    by true e = ap (λ es. edge ∷ es) e
    by false e = e

-- edges into a point, counted
pub length-edges_into : (p : ℕ) (edges : List Edge) → length (edges_into p edges) ≡ count_by (λ edge. edge.to == p) edges
length-edges_into p edges = ap (λ es. length es) (edges_into-filter p edges) ∙ length-filter (λ edge. edge.to == p) edges

product-append : (xs ys : List ℕ) → product (xs ++ ys) ≡ product xs * product ys
unfolding product
product-append [] ys = omega arith
product-append (x ∷ xs) ys = ap (λ n. x * n) (product-append xs ys) ∙ sym (mul_assoc x (product xs) (product ys))

product-single : (x : ℕ) → product (x ∷ []) ≡ x
unfolding product
product-single x = omega arith

-- a number of equal factors
product-same : (c : ℕ) (rs : List Unknown) → product (map (λ r. c) rs) ≡ c ^ length rs
unfolding product
product-same c [] = sym (pow-zero c)
product-same c (r ∷ rs) = ap (λ n. c * n) (product-same c rs) ∙ sym (pow-succ' c (length rs))

-- factors of at least one
product-pos : (f : Unknown → ℕ) → ((u : Unknown) → 0 < f u) → (us : List Unknown) → 0 < product (map f us)
unfolding product
product-pos f h [] = omega arith
product-pos f h (u ∷ us) = let a = le-mul_of_pos_right (f u) (product-pos f h us) in let b = h u in omega arith

module _ (system : Equations) where
  -- one more than the edges into an unknown's point
  pub factor : Unknown → ℕ
  factor u = suc (length (edges_into u.point system.edges))

  -- the unknowns of a point
  made : ℕ → ℕ → Unknown
  made p r = record { point = p; row = r }

  at : ℕ → List Unknown
  at p = map (made p) (range_with_len 0 (length system.template))

  -- the product over the first points' unknowns
  pub product_to : ℕ → ℕ
  product_to n = product (map factor (flat_map at (range_with_len 0 n)))

  product_at : (p : ℕ) → product (map factor (at p)) ≡ suc (length (edges_into p system.edges)) ^ length system.template
  unfolding factor at made
  product_at p = ap (λ xs. product xs) (same (range_with_len 0 (length system.template)))
      ∙ product-same (suc (length (edges_into p system.edges))) (map (made p) (range_with_len 0 (length system.template)))
      ∙ ap (λ n. suc (length (edges_into p system.edges)) ^ n) (length-map (range_with_len 0 (length system.template)) (made p)
      ∙ length-range_with_len 0 (length system.template))
    where
      same : (rs : List ℕ) → map factor (map (made p) rs) ≡ map (λ u. suc (length (edges_into p system.edges))) (map (made p) rs)
      same [] = refl
      same (r ∷ rs) = ap (λ xs. suc (length (edges_into p system.edges)) ∷ xs) (same rs)

  -- the product over no point is one
  pub product_to-zero : product_to 0 ≡ 1
  unfolding product_to product
  product_to-zero = refl

  range_more : (n : ℕ) → range_with_len 0 (n + 1) ≡ range_with_len 0 n ++ n ∷ []
  range_more n = sym (map-id (range_with_len 0 (n + 1))) ∙ map-range_with_len_more (λ k. k) 0 n n (omega arith)
      ∙ ap (λ xs. xs ++ n ∷ []) (map-id (range_with_len 0 n))
    where
      map-id : (xs : List ℕ) → map (λ k. k) xs ≡ xs
      map-id [] = refl
      map-id (x ∷ xs) = ap (λ ys. x ∷ ys) (map-id xs)

  -- one more point
  pub product_to-more : (n : ℕ) → product_to (n + 1) ≡ product_to n * suc (length (edges_into n system.edges)) ^ length system.template
  unfolding product_to
  product_to-more n =
      ap (λ ps. product (map factor (flat_map at ps))) (range_more n)
      ∙ ap (λ us. product (map factor us)) (flat_map-append at (range_with_len 0 n) (n ∷ []))
      ∙ ap (λ xs. product xs) (map-append factor (flat_map at (range_with_len 0 n)) (flat_map at (n ∷ [])))
      ∙ product-append (map factor (flat_map at (range_with_len 0 n))) (map factor (flat_map at (n ∷ [])))
      ∙ ap (λ us. product (map factor (flat_map at (range_with_len 0 n))) * product (map factor us)) (append-nil (at n))
      ∙ ap (λ x. product (map factor (flat_map at (range_with_len 0 n))) * x) (product_at n)

  -- the product over all points is the number of picks
  pub product_to-all : product_to system.points ≡ pick_count system
  unfolding product_to factor at made pick_count unknowns
  product_to-all = refl

  -- more points give no smaller product
  pub product_to-grows : (n k : ℕ) → product_to n ≤ product_to (n + k)
  product_to-grows n zero = (let same : product_to n ≡ product_to (n + 0) = ap product_to (omega arith) in omega arith)
  product_to-grows n (suc k) =
      let more : product_to (n + k + 1) ≡ product_to (n + k) * suc (length (edges_into (n + k) system.edges)) ^ length system.template =
      product_to-more (n + k) in
      let up = le-mul_of_pos_right (product_to (n + k)) (one-le-pow (length system.template)
      (suc (length (edges_into (n + k) system.edges))) (omega arith)) in
      let before = product_to-grows n k in
      let same : product_to (n + suc k) ≡ product_to (n + k + 1) = ap product_to (omega arith) in
      omega arith

-- one more factor of a power
pub power_more : (product factor k : ℕ) → product * factor ^ k * factor ≡ product * factor ^ (k + 1)
power_more product factor k =
    mul_assoc product (factor ^ k) factor ∙ ap (λ n. product * n) (sym (pow-suc factor k)
    ∙ ap (λ n. factor ^ n) (let e : suc k ≡ k + 1 = omega arith in e))

-- a product that passes a limit passes it with more factors too
pub power_passes : (product factor k count limit : ℕ) → 0 < factor → k < count → limit < product * factor ^ k * factor
    → product * factor ^ count ≤ limit → ⊥
power_passes product factor k count limit positive within above below =
    let more : product * factor ^ (k + 1) ≤ product * factor ^ count = mul-le-mul_left product (pow-le-pow_right positive (omega arith)) in
    let same = power_more product factor k in
    omega arith
