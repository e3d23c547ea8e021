-- Sums over the points at which an edge ends, point by point.
use Rattle.std.proofs.Common.{◌≡◌, ◌∙◌, ◌==◌, ℕ, zero, suc, ◌+◌, ◌-◌, ◌*◌, ◌≤◌, Bool, true, false, cond, [], ◌∷◌, ◌++◌, length, ap, arith}
use Rattle.std.proofs.Common.{List, mul-le-mul_right}
use Rattle.std.specs.List.{filter, list_any, sum_by, range_with_len}
use Rattle.std.proofs.lemmas.List.Sums.{count_by-le-length, length-filter, sum_by-append, sum_by-cons}
use Rattle.std.proofs.lemmas.List.FromFn.{length-range_with_len}
use Rattle.std.proofs.lemmas.List.Elements.{filter-append}
use Rattle.flow_systems.specs.Equations.{Equations}
use Rattle.flow_systems.specs.Cells.{unknown_cells, cells_of}

range-more : (a n : ℕ) → range_with_len a (n + 1) ≡ range_with_len a n ++ (a + n) ∷ []
range-more a zero = let e : 0 + 1 ≡ 1 = omega arith in let k : a ≡ a + 0 = omega arith in ap (range_with_len a) e ∙ ap (λ x. x ∷ []) k
range-more a (suc n) =
    let e : suc n + 1 ≡ suc (n + 1) = omega arith in let k : a + 1 + n ≡ a + suc n = omega arith in
    ap (range_with_len a) e ∙ ap (λ xs. a ∷ xs) (range-more (a + 1) n ∙ ap (λ x. range_with_len (a + 1) n ++ x ∷ []) k)

-- an edge ends at the point
abbrev pub is_end : Equations → ℕ → Bool
is_end system p = list_any (λ e. e.to == p) system.edges

-- the sum over the first n points after the entry
abbrev pub sum_to : Equations → (ℕ → ℕ) → ℕ → ℕ
sum_to system size n = sum_by (λ p. length system.template * size p) (filter (is_end system) (range_with_len 1 n))

sum-more : (system : Equations) (size : ℕ → ℕ) (n : ℕ) → sum_to system size (n + 1)
    ≡ sum_to system size n + sum_by (λ p. length system.template * size p) (cond (is_end system (1 + n)) ((1 + n) ∷ []) [])
sum-more system size n =
    ap (λ ps. sum_by (λ p. length system.template * size p) ps) (ap (filter (is_end system)) (range-more 1 n)
    ∙ filter-append (is_end system) (range_with_len 1 n) ((1 + n) ∷ []))
    ∙ sum_by-append (λ p. length system.template * size p) (filter (is_end system) (range_with_len 1 n))
    (cond (is_end system (1 + n)) ((1 + n) ∷ []) [])

-- where an edge ends at the point p, the sum over the points up to p is that before, and the size at p for each row
pub sum_yes : (system : Equations) (size : ℕ → ℕ) (p : ℕ) → 1 ≤ p → is_end system p ≡ true
    → sum_to system size (p + 1 - 1) ≡ sum_to system size (p - 1) + length system.template * size p
sum_yes system size p h k =
    let e : p + 1 - 1 ≡ p - 1 + 1 = omega (arith, h) in
    let f : 1 + (p - 1) ≡ p = omega (arith, h) in
    ap (sum_to system size) e ∙ sum-more system size (p - 1)
    ∙ ap (λ x. sum_to system size (p - 1) + sum_by (λ q. length system.template * size q) (cond (is_end system x) (x ∷ []) [])) f
    ∙ ap (λ b. sum_to system size (p - 1) + sum_by (λ q. length system.template * size q) (cond b (p ∷ []) [])) k
    ∙ ap (λ x. sum_to system size (p - 1) + x) (sum_by-cons (λ q. length system.template * size q) p []
    ∙ (let z : length system.template * size p + 0 ≡ length system.template * size p = omega arith in z))

-- where no edge ends at the point p, the sum over the points up to p is that before
pub sum_no : (system : Equations) (size : ℕ → ℕ) (p : ℕ) → 1 ≤ p → is_end system p ≡ false
    → sum_to system size (p + 1 - 1) ≡ sum_to system size (p - 1)
sum_no system size p h k =
    let e : p + 1 - 1 ≡ p - 1 + 1 = omega (arith, h) in
    let f : 1 + (p - 1) ≡ p = omega (arith, h) in
    ap (sum_to system size) e ∙ sum-more system size (p - 1)
    ∙ ap (λ x. sum_to system size (p - 1) + sum_by (λ q. length system.template * size q) (cond (is_end system x) (x ∷ []) [])) f
    ∙ ap (λ b. sum_to system size (p - 1) + sum_by (λ q. length system.template * size q) (cond b (p ∷ []) [])) k
    ∙ (let z : sum_to system size (p - 1) + 0 ≡ sum_to system size (p - 1) = omega arith in z)

-- the sum of numbers that aren't greater than one is at most as often that
sum_few : (f : ℕ → ℕ) (m : ℕ) → ((p : ℕ) → f p ≤ m) → (ps : List ℕ) → sum_by f ps ≤ length ps * m
sum_few f m h [] = omega arith
sum_few f m h (p ∷ ps) = let s = sum_by-cons f p ps in omega (arith, s, h p, sum_few f m h ps)

-- a system whose unknowns at each point have few cells has few for each of its points
pub cells_few : (system : Equations) (m : ℕ) → ((p : ℕ) → length system.template * unknown_cells system p ≤ m)
    → cells_of system ≤ system.points * m
cells_few system m h =
    let points = range_with_len 1 (system.points - 1) in
    let sum = sum_few (λ p. length system.template * unknown_cells system p) m h (filter (is_end system) points) in
    let some : length (filter (is_end system) points) ≤ system.points =
    omega (
      arith,
      length-filter (is_end system) points,
      count_by-le-length (is_end system) points,
      length-range_with_len 1 (system.points - 1),
    ) in
    omega (arith, sum, mul-le-mul_right m some)
