-- Each list of one list followed by each of another: how many there are, and which has a number.
use Rattle.std.proofs.Common.{◌≡◌, ◌∙◌, ℕ, ◌+◌, ◌*◌, ◌<◌, ◌/◌, ◌%◌, List, [], ◌∷◌, ◌++◌, length, map, get_or, take, sym, ap, arith}
use Rattle.std.proofs.Common.{length-append}
use Rattle.std.specs.Prelude.{flat_map}
use Rattle.std.proofs.lemmas.List.{length-map, length-take-le, get_or-map}
use Rattle.std.proofs.lemmas.List.Concat.{get_or-flat_map}
use Rattle.std.proofs.Math.Nat.{suc-mul, zero-mul, div-lt_iff_lt-mul}
use Rattle.flow_edges.specs.declared.edge.Action.{Action}

-- the first list followed by each of these
abbrev followed : List (List Action) → List Action → List (List Action)
followed ys x = map (λ y. x ++ y) ys

abbrev pub crossing : List (List Action) → List (List Action) → List (List Action)
crossing xs ys = flat_map (followed ys) xs

-- there are as many pairs as the product of the two numbers of lists
pub length-crossing : (xs ys : List (List Action)) → length (crossing xs ys) ≡ length xs * length ys
length-crossing [] ys = omega (arith, zero-mul (length ys))
length-crossing (x ∷ xs) ys =
    omega (
      arith,
      length-append (followed ys x) (crossing xs ys),
      length-map ys (λ y. x ++ y),
      length-crossing xs ys,
      suc-mul (length xs) (length ys),
    )

-- the one of number k
pub get_or-crossing : (xs ys : List (List Action)) (k : ℕ) → 0 < length ys → k / length ys < length xs →
    get_or (crossing xs ys) k [] ≡ get_or xs (k / length ys) [] ++ get_or ys (k % length ys) []
get_or-crossing xs ys k some within =
    let i = k / length ys in
    let j = k % length ys in
    let x = get_or xs i [] in
    let inner : j < length ys = omega arith in
    let inside : j < length (followed ys x) = omega (arith, length-map ys (λ y. x ++ y)) in
    let taken : length (take i xs) ≡ i = length-take-le i xs (omega arith) in
    let before : length (crossing (take i xs) ys) ≡ i * length ys = length-crossing (take i xs) ys ∙ ap (λ n. n * length ys) taken in
    let place : length (crossing (take i xs) ys) + j ≡ k = omega (arith, before) in
    sym (ap (λ n. get_or (crossing xs ys) n []) place)
    ∙ get_or-flat_map (followed ys) xs i j [] [] within inside
    ∙ get_or-map (λ y. x ++ y) ys j [] [] inner

-- a number below the product of two numbers has a first part below the first
pub quotient_below : (k n m : ℕ) → 0 < m → k < n * m → k / m < n
quotient_below k n m some below = (div-lt_iff_lt-mul {k = m} {x = k} {y = n} some).1 below
