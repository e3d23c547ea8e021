-- The first wide operation among numbered ones.
use Rattle.std.proofs.Common.{◌≡◌, ℕ, ◌+◌, ◌<◌, Bool, true, false, cond, ℤ, List, [], ◌∷◌, ◌++◌}
use Rattle.std.proofs.Common.{Some, None, refl, ap, ◌∙◌}
use Rattle.std.proofs.lemmas.List.Folds.{find-append}
use Rattle.base_fractions.specs.Operation.{Operation, is_wide, first_wide}
use Rattle.lp_dictionary.specs.Listed.{joined}
use Rattle.lp_dictionary.proofs.listed.Joins.{joined-zero, none_found_more, found_at}
use Rattle.lp_simplex.specs.Operations.{Numbered, numbered, first_refused}

-- where none of the operations of a pivot is wide, none of the numbered ones is
pub numbered_none : (L : ℤ) (j : ℕ) (os : List Operation) → first_wide L os ≡ None → first_refused L (numbered j os) ≡ None
numbered_none L j [] e = refl
numbered_none L j (o ∷ os) e = by (is_wide L o) e (λ f. numbered_none L j os f)
  where
    by : (b : Bool) → cond b (Some o) (first_wide L os) ≡ None → (first_wide L os ≡ None → first_refused L (numbered j os) ≡ None)
        → cond b (Some (record { pivot = j; operation = o })) (first_refused L (numbered j os)) ≡ None
    by true e k = cc
    by false e k = k e

-- the first wide operation of a pivot comes first among the numbered ones, with the pivot's number
pub numbered_some : (L : ℤ) (j : ℕ) (os : List Operation) (o : Operation) → first_wide L os ≡ Some o
    → first_refused L (numbered j os) ≡ Some (record { pivot = j; operation = o })
numbered_some L j [] o e = cc
numbered_some L j (p ∷ os) o e = by (is_wide L p) e (λ f. numbered_some L j os o f)
  where
    by : (b : Bool) → cond b (Some p) (first_wide L os) ≡ Some o → (first_wide L os ≡ Some o
        → first_refused L (numbered j os) ≡ Some (record { pivot = j; operation = o })) →
        cond b (Some (record { pivot = j; operation = p })) (first_refused L (numbered j os)) ≡ Some (record { pivot = j; operation = o })
    by true e k = let f : p ≡ o = cc in ap (λ x. Some (record { pivot = j; operation = x })) f
    by false e k = k e

-- where no numbered operation of the first list is wide, the first wide one of both lists is that of the second
pub refused_later : (L : ℤ) (os ps : List Numbered) → first_refused L os ≡ None → first_refused L (os ++ ps) ≡ first_refused L ps
refused_later L os ps e = find-append (λ o. is_wide L o.operation) os ps ∙ cc

-- the first wide numbered operation of a list stays the first when more come after it
pub refused_sooner : (L : ℤ) (os ps : List Numbered) (o : Numbered) → first_refused L os ≡ Some o → first_refused L (os ++ ps) ≡ Some o
refused_sooner L os ps o e = find-append (λ o. is_wide L o.operation) os ps ∙ cc

-- one more pivot, of which no operation is wide
pub run_fits_more : (L : ℤ) (k : ℕ) (f : ℕ → List Numbered) → first_refused L (joined k f) ≡ None → first_refused L (f k) ≡ None
    → first_refused L (joined (k + 1) f) ≡ None
run_fits_more L k f h e = none_found_more (first_refused L) (refused_sooner L) (refused_later L) k f h e

-- a pivot with an operation that is wide
pub run_wide_at : (L : ℤ) (k n : ℕ) (f : ℕ → List Numbered) (o : Numbered) → k < n → first_refused L (joined k f) ≡ None
    → first_refused L (f k) ≡ Some o → first_refused L (joined n f) ≡ Some o
run_wide_at L k n f o l h w = found_at (first_refused L) (refused_sooner L) (refused_later L) k n f o l h w

-- no pivots have no wide operation
pub run_fits_none : (L : ℤ) (f : ℕ → List Numbered) → first_refused L (joined 0 f) ≡ None
run_fits_none L f = ap (first_refused L) (joined-zero f)
