-- The bounds from which an analysis starts, as a list and as a vector.
use Rattle.std.proofs.Common.{◌≡◌, ◌∙◌, ℕ, zero, suc, ◌+◌, ◌-◌, ◌*◌, ◌<◌, ◌≤◌, ⊎_elim, List, ◌∷◌, ◌++◌, length, get_or, map, take, ap, ap₂}
use Rattle.std.proofs.Common.{sym, refl, arith}
use Rattle.std.specs.Prelude.{replicate}
use Rattle.std.proofs.Math.Nat.{mul-le-mul_right}
use Rattle.std.proofs.Math.ListN.{get_or-append}
use Rattle.std.proofs.lemmas.Bool.{cases_lt}
use Rattle.std.proofs.lemmas.List.{length-replicate, get_or-replicate, get_or-append_right, get_or_past, take_all, map-append}
use Rattle.base_numbers.specs.Extended.{Ext, neg_inf, pos_inf}
use Rattle.base_fractions.specs.Extended.{extended}
use Rattle.base_fractions.specs.declared.ext.Ext.{Ext as Value}
use Rattle.base_fractions.specs.declared.ext.Ext.TheVariants.{NegInf, PosInf}
use Rattle.flow_systems.specs.View.{vector_of}
use Rattle.flow_systems.specs.Starts.{start_vector, start_bounds}

map-replicate : (n : ℕ) (a : Value) → map extended (replicate n a) ≡ replicate n (extended a)
map-replicate zero a = refl
map-replicate (suc n) a = ap (λ xs. extended a ∷ xs) (map-replicate n a)

-- the unknowns outside the entry
rest_of : (points rows : ℕ) → 1 ≤ points → points * rows - rows ≡ (points - 1) * rows
rest_of zero rows h = absurd (omega (arith, h))
rest_of (suc p) rows h = let e : suc p * rows - rows ≡ p * rows = omega arith in let k : suc p - 1 ≡ p = omega arith in
    e ∙ ap (λ m. m * rows) (sym k)

-- the list as it is made: the bounds of the entry, and as many more as there are unknowns
pub started_list : (points rows P R n : ℕ) (all start : List Value) → P ≡ points → R ≡ rows → 1 ≤ points → start ≡ replicate R PosInf
    → n ≡ R → all ≡ take (P * R) start ++ replicate (P * R - n) NegInf →
    map extended all ≡ start_bounds points rows
started_list points rows P R n all start a b h e k f =
    let least : 1 * rows ≤ points * rows = mul-le-mul_right rows h in
    let same : P * R ≡ points * rows = ap₂ (λ x y. x * y) a b in
    let first : start ≡ replicate rows PosInf = e ∙ ap (λ m. replicate m PosInf) b in
    let size : length start ≤ P * R = omega (arith, ap length first, length-replicate rows PosInf, least, same) in
    let rest : P * R - n ≡ (points - 1) * rows = ap₂ (λ x y. x - y) same (k ∙ b) ∙ rest_of points rows h in
    ap (map extended) (f ∙ ap₂ (λ xs m. xs ++ replicate m NegInf) (take_all (P * R) start size ∙ first) rest)
    ∙ map-append extended (replicate rows PosInf) (replicate ((points - 1) * rows) NegInf)
    ∙ ap₂ (λ xs ys. xs ++ ys) (map-replicate rows PosInf) (map-replicate ((points - 1) * rows) NegInf)

-- a bound of a list of bounds that are -inf, and what stands for one past its end
get_or-same : (n i : ℕ) → get_or (replicate n neg_inf) i neg_inf ≡ neg_inf
get_or-same n i = ⊎_elim (λ l. get_or-replicate n i neg_inf neg_inf l)
    (λ l. get_or_past (replicate n neg_inf) i neg_inf (omega (arith, l, length-replicate n neg_inf))) (cases_lt i n)

-- the vector of the bounds from which an analysis starts is +inf at the entry and -inf elsewhere
pub started_vector : (points rows : ℕ) (bounds : List Ext) → bounds ≡ start_bounds points rows → (p r : ℕ) → p < points → r < rows
    → vector_of rows bounds p r ≡ start_vector p r
started_vector points rows bounds e zero r h i =
    let k : 0 * rows + r ≡ r = omega arith in
    ap₂ (λ xs j. get_or xs j neg_inf) e k
    ∙ get_or-append (replicate rows pos_inf) (replicate ((points - 1) * rows) neg_inf) neg_inf r
    (omega (arith, i, length-replicate rows pos_inf))
    ∙ get_or-replicate rows r pos_inf neg_inf i
started_vector points rows bounds e (suc p) r h i =
    ap (λ xs. get_or xs (suc p * rows + r) neg_inf) e
    ∙ get_or-append_right (replicate rows pos_inf) (replicate ((points - 1) * rows) neg_inf) rows (suc p * rows + r) neg_inf
    (length-replicate rows pos_inf) (omega arith)
    ∙ get_or-same ((points - 1) * rows) (suc p * rows + r - rows)
