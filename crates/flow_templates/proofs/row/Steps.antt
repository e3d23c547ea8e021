-- The row of terms.
use Rattle.std.proofs.Common.{◌≡◌, ℕ, ℤ, pos, Bool, true, false, cond, ◌&&◌, List, [], ◌∷◌, length, take, map, get_or, refl, ap, sym, ◌∙◌}
use Rattle.std.proofs.Common.{arith}
use Rattle.std.specs.List.{list_all, range_with_len}
use Rattle.std.proofs.lemmas.Bool.{and_from}
use Rattle.std.proofs.lemmas.List.{take_all}
use Rattle.lang_tree.specs.Numbers.{is_number, are_numbers}
use Rattle.flow_templates.specs.declared.term.Term.{Term}
use Rattle.flow_templates.specs.Grammar.{Amount}
use Rattle.flow_templates.specs.Sums.{is_among, coefficient_by, row_by, row_of, total, StaysWithin}
use Rattle.flow_templates.specs.RowFiles.{are_known}
use Rattle.flow_templates.specs.Kept.{kept_amount}

-- the coefficient at an index whose name stands earlier, too, is 0
pub coefficient_repeated : (names : List (List ℕ)) (sum : List ℕ → ℤ) (i : ℕ) (name : List ℕ) → get_or names i [] ≡ name
    → is_among (take i names) name ≡ true → coefficient_by names sum i ≡ pos 0
coefficient_repeated names sum i name e h = rw (e, h) refl

-- the coefficient at an index whose name stands there first is the sum of that name
pub coefficient_first : (names : List (List ℕ)) (sum : List ℕ → ℤ) (i : ℕ) (name : List ℕ) → get_or names i [] ≡ name
    → is_among (take i names) name ≡ false → coefficient_by names sum i ≡ sum name
coefficient_first names sum i name e h = rw (e, h) refl

coefficient_same : (names : List (List ℕ)) (f g : List ℕ → ℤ) (i : ℕ) → ((name : List ℕ) → f name ≡ g name)
    → coefficient_by names f i ≡ coefficient_by names g i
coefficient_same names f g i h = ap (cond (is_among (take i names) (get_or names i [])) (pos 0)) (h (get_or names i []))

coefficients_same : (names : List (List ℕ)) (f g : List ℕ → ℤ) (ks : List ℕ) → ((name : List ℕ) → f name ≡ g name)
    → map (coefficient_by names f) ks ≡ map (coefficient_by names g) ks
coefficients_same names f g [] h = refl
coefficients_same names f g (k ∷ ks) h =
    let first : coefficient_by names f k ≡ coefficient_by names g k = coefficient_same names f g k h in
    let others : map (coefficient_by names f) ks ≡ map (coefficient_by names g) ks = coefficients_same names f g ks h in
    cc

number_either : (b : Bool) (z : ℤ) → is_number z ≡ true → is_number (cond b (pos 0) z) ≡ true
number_either true z h = refl
number_either false z h = h

coefficients_numbers : (names : List (List ℕ)) (f : List ℕ → ℤ) (ks : List ℕ) → ((name : List ℕ) → is_number (f name) ≡ true)
    → are_numbers (map (coefficient_by names f) ks) ≡ true
coefficients_numbers names f [] h = refl
coefficients_numbers names f (k ∷ ks) h =
    and_from _ _ (number_either (is_among (take k names) (get_or names k [])) (f (get_or names k [])) (h (get_or names k [])))
    (coefficients_numbers names f ks h)

-- the row of what is kept is that of the terms
pub kept_row : (names : List (List ℕ)) (sum : List ℕ → ℤ) (amounts : List Amount) → ((name : List ℕ) → sum name ≡ total name amounts)
    → row_by names sum ≡ row_of names amounts
kept_row names sum amounts h = coefficients_same names sum (λ name. total name amounts) (range_with_len 0 (length names)) h

-- where the coefficients stay in their range, the row's stay within 2^63 - 1
pub row_numbers : (names : List (List ℕ)) (amounts : List Amount) → StaysWithin amounts → are_numbers (row_of names amounts) ≡ true
row_numbers names amounts w =
    coefficients_numbers names (λ name. total name amounts) (range_with_len 0 (length names))
    (λ name. ap (λ a. is_number (total name a)) (sym (take_all (length amounts) amounts (omega arith)))
    ∙ w name (length amounts) (omega arith))

-- the names of kept terms are known exactly where those of their amounts are
pub known_kept : (names : List (List ℕ)) (terms : List Term) → list_all (λ (t : Term). is_among names t.name.now) terms
    ≡ are_known names (map kept_amount terms)
known_kept names [] = refl
known_kept names (t ∷ ts) = ap (λ b. is_among names t.name.now && b) (known_kept names ts)
