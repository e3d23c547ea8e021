-- Unknowns in order of number are those of point after point and row after row.
use Rattle.std.proofs.Common.{◌≡◌, ◌∙◌, ℕ, zero, suc, ◌+◌, ◌-◌, ◌*◌, ◌/◌, ◌%◌, ◌<◌, ◌≤◌, List, [], ◌∷◌, ◌++◌, length, get_or, map, mul-zero}
use Rattle.std.proofs.Common.{refl, sym, ap, ap₂, arith}
use Rattle.std.specs.Prelude.{flat_map}
use Rattle.std.specs.List.{range_with_len}
use Rattle.std.proofs.lemmas.Nat.{div-mul-add, mod-mul-add}
use Rattle.std.proofs.lemmas.Grind.{flat_map-append}
use Rattle.std.proofs.Math.Nat.{div-add-mod, mod-lt}
use Rattle.base_numbers.specs.Extended.{Ext, neg_inf}
use Rattle.flow_systems.specs.Equations.{Equations, Vector}
use Rattle.theory_validity.specs.Certificates.{needs_at, needs, bounds_vector}
use Rattle.theory_validity.specs.Faults.{unknowns}
use Rattle.cert_checker.specs.Needs.{needs_from, needs_of}
use Rattle.cert_checker.specs.Stands.{Stands}
use Rattle.cert_checker.proofs.names.Items.{point_below}

-- a range is one part after another
range_split : (a m n : ℕ) → range_with_len a (m + n) ≡ range_with_len a m ++ range_with_len (a + m) n
range_split a zero n = let e : 0 + n ≡ n = omega arith in let f : a ≡ a + 0 = omega arith in ap₂ range_with_len f e
range_split a (suc m) n =
    let e : suc m + n ≡ suc (m + n) = omega arith in
    let f : a + 1 + m ≡ a + suc m = omega arith in
    ap (range_with_len a) e ∙ ap (λ xs. a ∷ xs) (range_split (a + 1) m n ∙ ap (λ b. range_with_len (a + 1) m ++ range_with_len b n) f)

-- a range that isn't empty begins with its first number
pub range_next : (u n : ℕ) → u < n → range_with_len u (n - u) ≡ u ∷ range_with_len (u + 1) (n - (u + 1))
range_next u n l = let e : n - u ≡ suc (n - (u + 1)) = omega arith in ap (range_with_len u) e

-- and one from its end on is empty
pub range_end : (u n : ℕ) → n ≤ u → range_with_len u (n - u) ≡ []
range_end u n l = let e : n - u ≡ 0 = omega arith in ap (range_with_len u) e

module _ {A : Type 0} (w : ℕ) (f : ℕ → ℕ → List A) where
  -- what stands at a number
  abbrev pub at_number : ℕ → List A
  at_number u = f (u / w) (u % w)

  row_numbered : (a r n : ℕ) → r + n ≤ w → flat_map (f a) (range_with_len r n) ≡ flat_map at_number (range_with_len (a * w + r) n)
  row_numbered a r zero h = refl
  row_numbered a r (suc n) h =
      let l : r < w = omega (arith, h) in
      let e : a * w + (r + 1) ≡ a * w + r + 1 = omega arith in
      ap₂ (λ xs rest. xs ++ rest) (sym (ap₂ f (div-mul-add a w r l) (mod-mul-add a w r l)))
      (row_numbered a (r + 1) n (omega (arith, h)) ∙ ap (λ s. flat_map at_number (range_with_len s n)) e)

  -- rows within points are numbers in order
  pub numbered : (a n : ℕ) → flat_map (λ p. flat_map (f p) (range_with_len 0 w)) (range_with_len a n)
      ≡ flat_map at_number (range_with_len (a * w) (n * w))
  numbered a zero = let e : 0 ≡ 0 * w = omega arith in ap (λ k. flat_map at_number (range_with_len (a * w) k)) e
  numbered a (suc n) =
      let e : a * w + 0 ≡ a * w = omega arith in
      let g : (a + 1) * w ≡ a * w + w = omega arith in
      let k : w + n * w ≡ suc n * w = omega arith in
      ap₂ (λ xs rest. xs ++ rest) (row_numbered a 0 w (omega arith) ∙ ap (λ s. flat_map at_number (range_with_len s w)) e)
      (numbered (a + 1) n ∙ ap (λ s. flat_map at_number (range_with_len s (n * w))) g)
      ∙ sym (flat_map-append at_number (range_with_len (a * w) w) (range_with_len (a * w + w) (n * w)))
      ∙ ap (flat_map at_number) (sym (range_split (a * w) w (n * w)) ∙ ap (range_with_len (a * w)) k)

-- ---- unknowns
-- the pair of a point and a row, alone
abbrev alone : ℕ → ℕ → List (ℕ × ℕ)
alone p r = (p, r) ∷ []

alone_row : (p : ℕ) (rs : List ℕ) → map (λ r. (p, r)) rs ≡ flat_map (alone p) rs
alone_row p [] = refl
alone_row p (r ∷ rs) = ap (λ xs. (p, r) ∷ xs) (alone_row p rs)

alone_points : (rs ps : List ℕ) → flat_map (λ p. map (λ r. (p, r)) rs) ps ≡ flat_map (λ p. flat_map (alone p) rs) ps
alone_points rs [] = refl
alone_points rs (p ∷ ps) = ap₂ (λ xs rest. xs ++ rest) (alone_row p rs) (alone_points rs ps)

-- the unknowns from number u on
abbrev pub unknowns_from : Equations → ℕ → List (ℕ × ℕ)
unknowns_from system u = flat_map (λ v. (v / length system.template, v % length system.template) ∷ [])
    (range_with_len u (system.points * length system.template - u))

-- all unknowns are those from number 0 on
pub unknowns_all : (system : Equations) → unknowns system ≡ unknowns_from system 0
unfolding unknowns
unknowns_all system =
    let w = length system.template in
    let e : 0 * w ≡ 0 = omega arith in
    let k : system.points * w ≡ system.points * w - 0 = omega arith in
    alone_points (range_with_len 0 w) (range_with_len 0 system.points) ∙ numbered w alone 0 system.points
    ∙ ap₂ (λ a n. flat_map (λ v. (v / w, v % w) ∷ []) (range_with_len a n)) e k

-- ---- needs
-- all needs are those from the first unknown past the entry on
pub needs_all : (system : Equations) (z : Vector) → needs system z ≡ needs_from system z (length system.template)
unfolding needs
needs_all system z =
    let w = length system.template in
    let e : 1 * w ≡ w = omega arith in
    numbered w (λ p r. needs_at system p r (z p r)) 1 (system.points - 1)
    ∙ ap₂ (λ a n. flat_map (needs_of system z) (range_with_len a n)) e (rest system.points w)
  where
    rest : (points w : ℕ) → (points - 1) * w ≡ points * w - w
    rest zero w = let a : zero - 1 ≡ 0 = omega arith in ap (λ n. n * w) a ∙ (let b : 0 * w ≡ zero * w - w = omega arith in b)
    rest (suc p) w = let a : suc p - 1 ≡ p = omega arith in ap (λ n. n * w) a ∙ (let b : p * w ≡ suc p * w - w = omega arith in b)

-- the needs from an unknown on are its own and those from the next on
pub needs_next : (system : Equations) (z : Vector) (u : ℕ) → u < system.points * length system.template
    → needs_from system z u ≡ needs_of system z u ++ needs_from system z (u + 1)
needs_next system z u l = ap (flat_map (needs_of system z)) (range_next u (system.points * length system.template) l)

-- past the last unknown nothing is needed
pub needs_end : (system : Equations) (z : Vector) (u : ℕ) → system.points * length system.template ≤ u → needs_from system z u ≡ []
needs_end system z u l = ap (flat_map (needs_of system z)) (range_end u (system.points * length system.template) l)

-- ---- bounds
-- an unknown's number
pub number_is : (u w : ℕ) → u / w * w + u % w ≡ u
number_is u w = let a = div-add-mod u w in omega (arith, a)

-- where there is an unknown there is a row
some_row : (points w u : ℕ) → u < points * w → 0 < w
some_row points zero u l = (let none : points * zero ≡ zero = mul-zero points in absurd (omega (arith, l, none)))
some_row points (suc w) u l = omega arith

-- the bound of a number
pub bound_of : (system : Equations) (b : List Ext) (z : Vector) → Stands system b z → (u : ℕ) → u < length b
    → get_or b u neg_inf ≡ z (u / length system.template) (u % length system.template)
bound_of system b z h u l =
    let w = length system.template in
    let s = h.size in
    let k : u < system.points * w = omega (arith, l, s) in
    let q : u % w < w = mod-lt u (some_row system.points w u k) in
    ap (λ n. get_or b n neg_inf) (sym (number_is u w)) ∙ h.at (u / w) (u % w) (point_below u system.points w k) q

-- bounds stand for their vector
pub stands_itself : (system : Equations) (b : List Ext) → length b ≡ system.points * length system.template
    → Stands system b (bounds_vector system b)
unfolding bounds_vector
stands_itself system b e = record { size = e; at = λ p r k l. refl }
