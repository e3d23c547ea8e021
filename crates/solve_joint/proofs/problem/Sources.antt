-- The rows of a template as far as they are put.
use Rattle.std.proofs.Common.{◌≡◌, ◌∙◌, ℕ, suc, ◌+◌, ◌<◌, ◌≤◌, List, [], ◌∷◌, ◌++◌, length, get_or, drop, take, refl, ap, ap₂, sym, subst}
use Rattle.std.proofs.Common.{append_assoc, ⊎_elim, true≢false, arith}
use mathlib.Core.Path.{fun_ext}
use Rattle.std.specs.Prelude.{ℤ, IsTrue, ◌==◌}
use Rattle.std.proofs.lemmas.Bool.Decides.{eqb_tells}
use Rattle.std.proofs.lemmas.List.Folds.{list_all_at}
use Rattle.flow_systems.specs.SystemLimits.{is_over}
use Rattle.std.proofs.lemmas.List.{append-nil, drop_more, drop_all, take_more}
use Rattle.base_numbers.specs.Rational.{ℚ, neg_ℚ}
use Rattle.base_numbers.specs.Extended.{Ext, neg_inf, fin, pos_inf}
use Rattle.theory_validity.specs.Words.{Affine}
use Rattle.theory_transformers.specs.Limits.{Limit}
use Rattle.theory_transformers.specs.EdgeProblems.{source_limit, source_limits, guard_limits}
use Rattle.solve_joint.specs.Rows.{AllStand}

source_parts : (embed : List ℚ → List ℚ) (n : ℕ) (b : Ext) (row : List ℤ) (rest : List Limit)
    → source_limit embed n b row rest ≡ source_limit embed n b row [] ++ rest
unfolding source_limit
source_parts embed n neg_inf row rest = refl
source_parts embed n (fin c) row rest = refl
source_parts embed n pos_inf row rest = refl

-- the limits of the rows from one on
abbrev pub later_limits : (ℕ → List ℚ → List ℚ) → ℕ → (ℕ → Ext) → List (List ℤ) → ℕ → List Limit
later_limits embed n bounds template i = source_limits (λ r. embed (i + r)) n (λ r. bounds (i + r)) (drop i template)

later_more : (embed : ℕ → List ℚ → List ℚ) (n : ℕ) (bounds : ℕ → Ext) (template : List (List ℤ)) (i : ℕ) → i < length template →
    later_limits embed n bounds template i ≡ source_limit (embed i) n (bounds i) (get_or template i []) []
    ++ later_limits embed n bounds template (i + 1)
unfolding source_limits
later_more embed n bounds template i l =
    let here : i + 0 ≡ i = omega arith in
    let next = λ (r : ℕ). let e : i + suc r ≡ (i + 1) + r = omega arith in e in
    ap (source_limits (λ r. embed (i + r)) n (λ r. bounds (i + r))) (drop_more template i [] l)
    ∙ ap₂ (λ j k. source_limit (embed j) n (bounds k) (get_or template i [])
    (source_limits (λ r. embed (i + suc r)) n (λ r. bounds (i + suc r)) (drop (i + 1) template))) here here
    ∙ ap₂ (λ (f : ℕ → List ℚ → List ℚ) (g : ℕ → Ext). source_limit (embed i) n (bounds i) (get_or template i [])
    (source_limits f n g (drop (i + 1) template))) (fun_ext (λ r. ap embed (next r))) (fun_ext (λ r. ap bounds (next r)))
    ∙ source_parts (embed i) n (bounds i) (get_or template i []) (later_limits embed n bounds template (i + 1))

-- the rows of the template so far stand for their limits, behind those that stood before
pub record AreSources (cols : ℕ) (embed : ℕ → List ℚ → List ℚ) (n : ℕ) (bounds : ℕ → Ext) (template : List (List ℤ))
    (rows_old : List (List ℚ)) (sides_old : List ℚ) (rows : List (List ℚ)) (sides : List ℚ) (i : ℕ) : Type 0 where
  -- the limits of the rows so far
  pub done : List Limit
  -- all limits of the source are those so far, and then those of the rows left
  pub rest : source_limits embed n bounds template ≡ done ++ later_limits embed n bounds template i
  -- the rows and sides put stand for the limits so far, behind those before
  pub stand : (ls : List Limit) → AllStand cols rows_old sides_old ls → AllStand cols rows sides (ls ++ done)

module _ (cols : ℕ) (embed : ℕ → List ℚ → List ℚ) (n : ℕ) (bounds : ℕ → Ext) (template : List (List ℤ)) (rows_old : List (List ℚ))
    (sides_old : List ℚ) where
  -- before the first row nothing is put
  pub sources_none : AreSources cols embed n bounds template rows_old sides_old rows_old sides_old 0
  sources_none =
      let here = λ (r : ℕ). let e : r ≡ 0 + r = omega arith in e in
      record {
        done = [];
        rest = ap₂ (λ (f : ℕ → List ℚ → List ℚ) (g : ℕ → Ext). source_limits f n g template) (fun_ext (λ r. ap embed (here r)))
            (fun_ext (λ r. ap bounds (here r)));
        stand = λ ls h. subst (AllStand cols rows_old sides_old) (sym (append-nil ls)) h;
      }

  -- a row that stands for its limits extends what is put
  pub sources_more : (rows new_rows : List (List ℚ)) (sides new_sides : List ℚ) (i : ℕ) (row : List ℤ) (b : Ext)
      → AreSources cols embed n bounds template rows_old sides_old rows sides i → i < length template → row ≡ get_or template i []
      → b ≡ bounds i →
      ((ls : List Limit) → AllStand cols rows sides ls → AllStand cols new_rows new_sides (ls ++ source_limit (embed i) n b row []))
      → AreSources cols embed n bounds template rows_old sides_old new_rows new_sides (i + 1)
  sources_more rows new_rows sides new_sides i row b h l e f k = record {
    done = h.done ++ source_limit (embed i) n b row [];
    rest = h.rest ∙ ap (λ xs. h.done ++ xs) (later_more embed n bounds template i l
        ∙ ap₂ (λ x y. source_limit (embed i) n x y [] ++ later_limits embed n bounds template (i + 1)) (sym f) (sym e))
        ∙ sym (append_assoc h.done (source_limit (embed i) n b row []) (later_limits embed n bounds template (i + 1)));
    stand = λ ls s. subst (AllStand cols new_rows new_sides) (append_assoc ls h.done (source_limit (embed i) n b row []))
        (k (ls ++ h.done) (h.stand ls s));
  }

  no_limits : (f : ℕ → List ℚ → List ℚ) (g : ℕ → Ext) → source_limits f n g [] ≡ []
  unfolding source_limits
  no_limits f g = refl

  -- behind the last row the rows and sides stand for all limits of the source
  pub sources_all : (rows : List (List ℚ)) (sides : List ℚ) (i : ℕ) → AreSources cols embed n bounds template rows_old sides_old rows sides
      i → length template ≤ i →
      (ls : List Limit) → AllStand cols rows_old sides_old ls → AllStand cols rows sides (ls ++ source_limits embed n bounds template)
  sources_all rows sides i h l ls s =
      let e : later_limits embed n bounds template i ≡ [] = ap (source_limits (λ r. embed (i + r)) n (λ r. bounds (i + r)))
      (drop_all i template l) ∙ no_limits (λ r. embed (i + r)) (λ r. bounds (i + r)) in
      subst (λ xs. AllStand cols rows sides (ls ++ xs)) (sym (h.rest ∙ ap (λ xs. h.done ++ xs) e ∙ append-nil h.done)) (h.stand ls s)

-- ---- guards
guard-append : (embed : List ℚ → List ℚ) (xs ys : List Affine) → guard_limits embed (xs ++ ys)
    ≡ guard_limits embed xs ++ guard_limits embed ys
unfolding guard_limits
guard-append embed [] ys = refl
guard-append embed (x ∷ xs) ys = ap (λ zs. record { coeffs = embed x.coeffs; side = neg_ℚ x.constant } ∷ zs) (guard-append embed xs ys)

-- no guard adds no limit
pub guards_none : (embed : List ℚ → List ℚ) (ls : List Limit) → ls ++ guard_limits embed [] ≡ ls
unfolding guard_limits
guards_none embed ls = append-nil ls

-- the guard at hand adds its limit in front of those left
pub guard_more : (embed : List ℚ → List ℚ) (forms : List Affine) (i : ℕ) (form : Affine) (ls : List Limit) → i < length forms
    → form ≡ get_or forms i form →
    (ls ++ guard_limits embed (take i forms)) ++ guard_limits embed (form ∷ []) ≡ ls ++ guard_limits embed (take (i + 1) forms)
guard_more embed forms i form ls l e =
    append_assoc ls (guard_limits embed (take i forms)) (guard_limits embed (form ∷ []))
    ∙ ap (λ xs. ls ++ xs) (sym (guard-append embed (take i forms) (form ∷ [])) ∙ ap (λ x. guard_limits embed (take i forms ++ x ∷ [])) e
    ∙ ap (guard_limits embed) (sym (take_more forms i form l)))

-- each row of a template has one coefficient for each variable
pub row_size : (n : ℕ) (template : List (List ℤ)) (i : ℕ) → IsTrue (is_over n template) → i < length template
    → length (get_or template i []) ≡ n
row_size n template i h l = ⊎_elim (λ e. e.1) (λ e. absurd (true≢false (sym h ∙ list_all_at (λ row. length row == n) template i [] l e.0)))
    (eqb_tells (length (get_or template i [])) n)
