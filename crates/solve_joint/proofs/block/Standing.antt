-- Rows of the code that stand for limits of the theory.
use Rattle.std.proofs.Common.{◌≡◌, ◌∙◌, ℕ, ◌+◌, ◌≤◌, List, [], ◌∷◌, ◌++◌, length, map, Result, Ok, Err, refl, ap, ap₂, sym, subst, subst₂}
use Rattle.std.proofs.Common.{arith}
use Rattle.std.specs.Prelude.{ℤ, OnOk}
use Rattle.std.proofs.lemmas.List.{append-nil, length-map}
use Rattle.base_numbers.specs.Rational.{ℚ, zero_ℚ, one_ℚ, whole, neg_ℚ}
use Rattle.base_numbers.specs.Extended.{neg_inf, fin, pos_inf}
use Rattle.base_numbers.specs.Vector.{scale_vec}
use Rattle.lp_theory.specs.Listed.{at}
use Rattle.theory_validity.specs.Words.{Affine, start_form}
use Rattle.theory_transformers.specs.Limits.{Limit}
use Rattle.theory_transformers.specs.EdgeProblems.{source_limit, guard_limits}
use Rattle.solve_joint.specs.Rows.{on_numbers, dense_row, StandsFor, AllStand, SameForm, embedded, own_limit_of}
use Rattle.solve_joint.proofs.rows.Padded.{dense_same, length-dense, start_same, negated_same}

-- what holds of a success holds where two facts of it give it
pub on_ok_both : {T E P Q R : Type 0} (r : Result T E) → OnOk r P → OnOk r Q → (P → Q → R) → OnOk r R
on_ok_both (Ok x) p q f = f p q
on_ok_both (Err e) p q f = tt

stand_push : (cols : ℕ) (rows : List (List ℚ)) (sides : List ℚ) (ls : List Limit) (r : List ℚ) (s : ℚ) (l : Limit)
    → AllStand cols rows sides ls → StandsFor cols r s l → AllStand cols (rows ++ r ∷ []) (sides ++ s ∷ []) (ls ++ l ∷ [])
stand_push cols [] [] [] r s l h k = (k, tt)
stand_push cols [] [] (m ∷ ls) r s l h k = absurd h
stand_push cols [] (t ∷ sides) ls r s l h k = absurd h
stand_push cols (q ∷ rows) [] ls r s l h k = absurd h
stand_push cols (q ∷ rows) (t ∷ sides) [] r s l h k = absurd h
stand_push cols (q ∷ rows) (t ∷ sides) (m ∷ ls) r s l h k = (h.0, stand_push cols rows sides ls r s l h.1 k)

-- one row more
pub stand_more : (cols : ℕ) (rows new_rows : List (List ℚ)) (sides new_sides : List ℚ) (ls : List Limit) (r : List ℚ) (s : ℚ) (l : Limit)
    → new_rows ≡ rows ++ r ∷ [] → new_sides ≡ sides ++ s ∷ [] → StandsFor cols r s l →
    AllStand cols rows sides ls → AllStand cols new_rows new_sides (ls ++ l ∷ [])
stand_more cols rows new_rows sides new_sides ls r s l e f k h = subst₂ (λ xs ys. AllStand cols xs ys (ls ++ l ∷ [])) (sym e) (sym f)
    (stand_push cols rows sides ls r s l h k)

-- a dense row stands for one whose coefficients have the same entries
stands_for : (cols : ℕ) (c : ℚ) (target : ℕ) (list : List ℕ) (offset : ℕ) (u v : List ℚ) (row : List ℚ) (side : ℚ)
    → length list + (offset + (length u + length u)) ≤ cols → ((k : ℕ) → at u k ≡ at v k) →
    row ≡ dense_row cols (on_numbers c target list) offset u → StandsFor cols row side
    (record { coeffs = embedded c target list offset v; side = side })
stands_for cols c target list offset u v row side l h e = record {
  size = ap length e ∙ length-dense cols (on_numbers c target list) offset u
      (let k = length-map list (λ x. Rattle.solve_joint.specs.Rows.on_number c target x) in omega (arith, k, l));
  entries = λ k. ap (λ xs. at xs k) e ∙ dense_same cols (on_numbers c target list) offset u v h k;
  same_side = refl;
}

-- a template's row with its side stands for the limit of a source
pub source_stands : (cols : ℕ) (target : ℕ) (list : List ℕ) (offset n : ℕ) (template_row : List ℤ) (coeffs row : List ℚ) (c side : ℚ)
    → length list + (offset + (length template_row + length template_row)) ≤ cols → length template_row ≤ n →
    coeffs ≡ map whole template_row → c ≡ neg_ℚ one_ℚ → row ≡ dense_row cols (on_numbers c target list) offset coeffs →
    StandsFor cols row side (record { coeffs = embedded (neg_ℚ one_ℚ) target list offset (start_form n template_row).coeffs; side = side })
source_stands cols target list offset n template_row coeffs row c side l m e f g =
    stands_for cols (neg_ℚ one_ℚ) target list offset (map whole template_row) (start_form n template_row).coeffs row side
    (let k = length-map template_row whole in omega (arith, k, l)) (start_same n template_row m)
    (g ∙ ap₂ (λ a u. dense_row cols (on_numbers a target list) offset u) f e)

-- a finite bound gives its row one limit
pub source_finite : (embed : List ℚ → List ℚ) (n : ℕ) (side : ℚ) (row : List ℤ)
    → source_limit embed n (fin side) row [] ≡ record { coeffs = embed (start_form n row).coeffs; side = side } ∷ []
unfolding source_limit
source_finite embed n side row = refl

-- a bound of minus infinity gives its row no limit
pub source_below : (embed : List ℚ → List ℚ) (n : ℕ) (row : List ℤ) (ls : List Limit) → ls ++ source_limit embed n neg_inf row [] ≡ ls
unfolding source_limit
source_below embed n row ls = append-nil ls

-- a bound of infinity gives its row no limit
pub source_above : (embed : List ℚ → List ℚ) (n : ℕ) (row : List ℤ) (ls : List Limit) → ls ++ source_limit embed n pos_inf row [] ≡ ls
unfolding source_limit
source_above embed n row ls = append-nil ls

-- a guard's row with its side stands for the guard's limit
pub guard_stands : (cols : ℕ) (list : List ℕ) (offset : ℕ) (coeffs row : List ℚ) (c constant side : ℚ) (form : Affine)
    → length list + (offset + (length coeffs + length coeffs)) ≤ cols → SameForm coeffs constant form → c ≡ zero_ℚ →
    side ≡ neg_ℚ constant → row ≡ dense_row cols (on_numbers c 0 list) offset coeffs
    → StandsFor cols row side (record { coeffs = embedded zero_ℚ 0 list offset form.coeffs; side = neg_ℚ form.constant })
guard_stands cols list offset coeffs row c constant side form l h z e f =
    subst (λ s. StandsFor cols row side (record { coeffs = embedded zero_ℚ 0 list offset form.coeffs; side = s }))
    (e ∙ ap neg_ℚ h.same_constant)
    (stands_for cols zero_ℚ 0 list offset coeffs form.coeffs row side l h.entries
    (f ∙ ap (λ a. dense_row cols (on_numbers a 0 list) offset coeffs) z))

-- a guard gives one limit
pub guard_one : (embed : List ℚ → List ℚ) (form : Affine) → guard_limits embed (form ∷ [])
    ≡ record { coeffs = embed form.coeffs; side = neg_ℚ form.constant } ∷ []
unfolding guard_limits
guard_one embed form = refl

-- the row of an unknown's own form stands for the limit of its rise
pub own_stands : (cols : ℕ) (target : ℕ) (list : List ℕ) (offset : ℕ) (coeffs turned row : List ℚ) (c side : ℚ) (form : Affine)
    → length list + (offset + (length coeffs + length coeffs)) ≤ cols → ((k : ℕ) → at coeffs k ≡ at form.coeffs k) → c ≡ one_ℚ →
    turned ≡ map neg_ℚ coeffs → row ≡ dense_row cols (on_numbers c target list) offset turned
    → StandsFor cols row side (own_limit_of (embedded one_ℚ target list offset) form side)
own_stands cols target list offset coeffs turned row c side form l h z e f =
    stands_for cols one_ℚ target list offset (map neg_ℚ coeffs) (scale_vec (neg_ℚ one_ℚ) form.coeffs) row side
    (let k = length-map coeffs neg_ℚ in omega (arith, k, l)) (negated_same coeffs form.coeffs h)
    (f ∙ ap₂ (λ a u. dense_row cols (on_numbers a target list) offset u) z e)
