-- Deeds that are put under a condition one by one.
use Rattle.std.proofs.Common.{◌≡◌, ◌∙◌, ◌++◌, ◌<◌, ℕ, zero, suc, List, [], ◌∷◌, length, get_or, map, false, refl, sym, ap, ap₂, arith}
use Rattle.std.proofs.lemmas.Bool.{and_left, and_right}
use Rattle.lang_tree.specs.Tree.{Condition}
use Rattle.lang_tree.specs.DeedView.{deed_of, deeds_of}
use Rattle.lang_tree.specs.declared.deed.Deed as code
use Rattle.source_core.specs.Preludes.{under, all_under}
use Rattle.source_value.specs.Kept.{has_small, have_small}
use Rattle.source_value.proofs.kept.Kept.{deeds-append}

under-append : (c : Condition) (xs ys : List code.Deed)
    → all_under c (deeds_of (xs ++ ys)) ≡ all_under c (deeds_of xs) ++ all_under c (deeds_of ys)
under-append c [] ys = refl
under-append c (x ∷ xs) ys = ap (λ r. under c (deed_of x) ∷ r) (under-append c xs ys)

-- a deed whose condition is too large under the condition is one of the list
pub large_at : (c : Condition) (ds : List code.Deed) (i : ℕ) (x : code.Deed) → i < length ds → x ≡ get_or ds i x
    → has_small (under c (deed_of x)) ≡ false → have_small (all_under c (deeds_of ds)) ≡ false
large_at c [] i x h e f = absurd (omega arith)
large_at c (d ∷ ds) zero x h e f = and_left (has_small (under c (deed_of d))) (have_small (all_under c (deeds_of ds)))
    (ap (λ (y : code.Deed). has_small (under c (deed_of y))) (sym e) ∙ f)
large_at c (d ∷ ds) (suc i) x h e f = and_right (has_small (under c (deed_of d))) (have_small (all_under c (deeds_of ds)))
    (large_at c ds i x (omega arith) e f)

-- one deed more
pub one_more : (c : Condition) (xs list now : List code.Deed) (x y : code.Deed) → deeds_of list ≡ all_under c (deeds_of xs)
    → deed_of y ≡ under c (deed_of x) → now ≡ list ++ y ∷ [] → deeds_of now ≡ all_under c (deeds_of (xs ++ x ∷ []))
one_more c xs list now x y e f g = ap deeds_of g ∙ deeds-append list (y ∷ []) ∙ ap₂ ◌++◌ e (ap (λ d. d ∷ []) f)
    ∙ sym (under-append c xs (x ∷ []))

-- a list of which each place is left as it is
pub map-same : (xs : List code.Deed) → map (λ y. y) xs ≡ xs
map-same [] = refl
map-same (x ∷ xs) = ap (λ r. x ∷ r) (map-same xs)
