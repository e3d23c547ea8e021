-- Elaborated expressions are in range where their parts are.
use Rattle.std.proofs.Common.{◌≡◌, ◌∙◌, ◌++◌, List, [], ◌∷◌, true, false, ◌&&◌, refl}
use Rattle.std.proofs.lemmas.Bool.{and_from, and_left, and_right, and_parts}
use Rattle.std.proofs.lemmas.List.Folds.{list_all-append}
use Rattle.lang_tree.specs.declared.form.Form.{Form}
use Rattle.lang_tree.specs.Limits.{has_numbers}
use Rattle.lang_tree.specs.Tree.{Condition, Deed, sets, havocs, wheres, checks}
use Rattle.source_core.specs.Preludes.{under, all_under}
use Rattle.source_core.specs.Fits.{condition_fits, deed_fits, deeds_fit}

-- deeds in a row are in range where both lists are
pub deeds_fit_both : (xs ys : List Deed) → deeds_fit xs ≡ true → deeds_fit ys ≡ true → deeds_fit (xs ++ ys) ≡ true
deeds_fit_both xs ys e f = list_all-append deed_fits xs ys ∙ and_from (deeds_fit xs) (deeds_fit ys) e f

-- one deed out of range is one of the list
pub last_unfit : (xs : List Deed) (d : Deed) → deed_fits d ≡ false → deeds_fit (xs ++ d ∷ []) ≡ false
last_unfit xs d e = list_all-append deed_fits xs (d ∷ [])
    ∙ and_right (deeds_fit xs) (deeds_fit (d ∷ [])) (and_left (deed_fits d) true e)

-- so one with another before it
pub last_of_two_unfit : (xs : List Deed) (c d : Deed) → deed_fits d ≡ false → deeds_fit (xs ++ c ∷ d ∷ []) ≡ false
last_of_two_unfit xs c d e = list_all-append deed_fits xs (c ∷ d ∷ [])
    ∙ and_right (deeds_fit xs) (deeds_fit (c ∷ d ∷ []))
    (and_right (deed_fits c) (deeds_fit (d ∷ [])) (and_left (deed_fits d) true e))

-- one with others before and behind it
pub first_unfit : (xs ys : List Deed) → deeds_fit xs ≡ false → deeds_fit (xs ++ ys) ≡ false
first_unfit xs ys e = list_all-append deed_fits xs ys ∙ and_left (deeds_fit xs) (deeds_fit ys) e

-- likewise behind others
pub second_unfit : (xs ys : List Deed) → deeds_fit ys ≡ false → deeds_fit (xs ++ ys) ≡ false
second_unfit xs ys e = list_all-append deed_fits xs ys ∙ and_right (deeds_fit xs) (deeds_fit ys) e

under_fits : (c : Condition) (d : Deed) → condition_fits c ≡ true → deed_fits d ≡ true → deed_fits (under c d) ≡ true
under_fits c (sets var form line) e f = f
under_fits c (havocs var line) e f = f
under_fits c (wheres x line) e f = f
under_fits c (checks about x line) e f = and_from (condition_fits c) (condition_fits x) e f

-- deeds are in range under a condition that is
pub all_under_fit : (c : Condition) (ds : List Deed) → condition_fits c ≡ true → deeds_fit ds ≡ true → deeds_fit (all_under c ds) ≡ true
all_under_fit c [] e f = refl
all_under_fit c (d ∷ ds) e f =
    let p = and_parts (deed_fits d) (deeds_fit ds) f in
    and_from (deed_fits (under c d)) (deeds_fit (all_under c ds)) (under_fits c d e p.0) (all_under_fit c ds e p.1)

-- a form behind a prelude is out of range where the form is
pub form_unfit : (ds : List Deed) (f : Form) → has_numbers f ≡ false → deeds_fit ds && has_numbers f ≡ false
form_unfit ds f e = and_right (deeds_fit ds) (has_numbers f) e
