-- What rows say, one after another.
use Rattle.std.proofs.Common.{◌≡◌, ◌<◌, ◌+◌, ◌++◌, ℕ, suc, zero, ℤ, List, [], ◌∷◌, drop, get_or, length, take, refl, ap, sym, ◌∙◌, arith}
use Rattle.base_fractions.specs.declared.ext.Ext.{Ext}
use Rattle.base_fractions.specs.Extended.{extended}
use Rattle.acsl_notes.specs.Clauses.{Bounded, Clause, clauses_from, clauses_of}
use Rattle.acsl_notes.specs.View.{bound_at, bounded}

-- one row more
pub bounded_more : (rows : List (List ℤ)) (bounds : List Ext) (k : ℕ) → k < length rows → length rows ≡ length bounds
    → bounded (take (suc k) rows) (take (suc k) bounds) ≡ bounded (take k rows) (take k bounds) ++ (get_or rows k [], bound_at bounds k)
    ∷ []
bounded_more [] bounds k h e = absurd (omega (arith, h))
bounded_more (row ∷ rows) [] k h e = absurd (omega (arith, e))
bounded_more (row ∷ rows) (bound ∷ bounds) zero h e = refl
bounded_more (row ∷ rows) (bound ∷ bounds) (suc k) h e =
    ap (λ (more : List Bounded). (row, extended bound) ∷ more) (bounded_more rows bounds k (omega (arith, h)) (omega (arith, e)))

-- the rows from one on begin with it
pub bounded_next : (rows : List (List ℤ)) (bounds : List Ext) (k : ℕ) → k < length rows → length rows ≡ length bounds
    → bounded (drop k rows) (drop k bounds) ≡ (get_or rows k [], bound_at bounds k) ∷ bounded (drop (suc k) rows) (drop (suc k) bounds)
bounded_next [] bounds k h e = absurd (omega (arith, h))
bounded_next (row ∷ rows) [] k h e = absurd (omega (arith, e))
bounded_next (row ∷ rows) (bound ∷ bounds) zero h e = refl
bounded_next (row ∷ rows) (bound ∷ bounds) (suc k) h e = bounded_next rows bounds k (omega (arith, h)) (omega (arith, e))

-- what the rows from one on say, behind those before it
abbrev pub rest_says : List ℕ → List (List ℤ) → List Ext → ℕ → List Clause
rest_says known rows bounds k = clauses_from known (bounded (take k rows) (take k bounds)) (bounded (drop k rows) (drop k bounds))

-- the first of them, and then the others
pub rest_step : (known : List ℕ) (rows : List (List ℤ)) (bounds : List Ext) (k : ℕ) → k < length rows → length rows ≡ length bounds
    → rest_says known rows bounds k
    ≡ clauses_of known (bounded (take k rows) (take k bounds)) (get_or rows k []) (bound_at bounds k)
    (bounded (drop (k + 1) rows) (drop (k + 1) bounds))
    ++ rest_says known rows bounds (k + 1)
rest_step known rows bounds k h e =
    let next : k + 1 ≡ suc k = omega arith in
    rw next (ap (clauses_from known (bounded (take k rows) (take k bounds))) (bounded_next rows bounds k h e)
    ∙ ap (λ before. clauses_of known (bounded (take k rows) (take k bounds)) (get_or rows k []) (bound_at bounds k)
    (bounded (drop (suc k) rows) (drop (suc k) bounds))
    ++ clauses_from known before (bounded (drop (suc k) rows) (drop (suc k) bounds))) (sym (bounded_more rows bounds k h e)))
