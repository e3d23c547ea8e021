-- Rows without a fault are a template.
use Rattle.std.proofs.Common.{◌≡◌, ◌+◌, subst, ℕ, ℤ, Bool, true, false, cond, ◌&&◌, eqb, List, [], ◌∷◌, ◌++◌, length, slice_get, None, refl}
use Rattle.std.proofs.Common.{sym, nat_le}
use Rattle.std.specs.List.{list_all}
use Rattle.std.proofs.lemmas.Bool.{and_from, and_parts, eqb-true}
use Rattle.flow_templates.specs.declared.fault.RowFault.{RowFault}
use Rattle.flow_templates.specs.declared.fault.RowFault.TheVariants.{Count}
use Rattle.flow_templates.specs.Rows.{is_row, is_template, width_of}
use Rattle.flow_templates.specs.RowFaults.{row_faults, count_faults, faults_from, faults_of}
use Rattle.flow_templates.specs.declared.limits.TheConstants.{MOST_ROWS}

-- a list without a first element is empty
pub none_first : {X : Type 0} (xs : List X) → slice_get xs 0 ≡ None → xs ≡ []
none_first [] h = refl
none_first (x ∷ xs) h = cc

front_none : {X : Type 0} (xs ys : List X) → xs ++ ys ≡ [] → xs ≡ []
front_none [] ys h = refl
front_none (x ∷ xs) ys h = cc

back_none : {X : Type 0} (xs ys : List X) → xs ++ ys ≡ [] → ys ≡ []
back_none [] ys h = h
back_none (x ∷ xs) ys h = cc

both_pass : (b c : Bool) (f g : RowFault) → cond b (cond c [] (f ∷ [])) (g ∷ []) ≡ [] → (c && b) ≡ true
both_pass true true f g h = refl
both_pass true false f g h = cc
both_pass false c f g h = cc

within : (b : Bool) (f : RowFault) → cond b [] (f ∷ []) ≡ [] → b ≡ true
within true f h = refl
within false f h = cc

-- a row over n variables
abbrev pub is_row_over : ℕ → List ℤ → Bool
is_row_over n row = is_row row && eqb (length row) n

all_rows : (n line : ℕ) (rows : List (List ℤ)) → faults_from n line rows ≡ [] → list_all (is_row_over n) rows ≡ true
all_rows n line [] h = refl
all_rows n line (row ∷ rows) h =
    and_from _ _ (both_pass (eqb (length row) n) (is_row row) _ _ (front_none (row_faults n (line, row)) _ h))
    (all_rows n (line + 1) rows (back_none (row_faults n (line, row)) _ h))

-- where a number of rows has no fault, it is at least 1 and at most the limit
pub count_within : (count : ℕ) → count_faults count ≡ [] → (nat_le 1 count && nat_le count MOST_ROWS) ≡ true
count_within count h = within (nat_le 1 count && nat_le count MOST_ROWS) (Count count) h

-- rows over n variables, in a number that is right, are a template
pub template_from : (n : ℕ) (rows : List (List ℤ)) → list_all (is_row_over n) rows ≡ true
    → (nat_le 1 (length rows) && nat_le (length rows) MOST_ROWS) ≡ true → (is_template rows ≡ true) × (width_of rows ≡ n)
template_from n [] h k = cc
template_from n (row ∷ rows) h k =
    let same : length row ≡ n = eqb-true _ _ (and_parts _ _ (and_parts _ _ h).0).1 in
    let wide : list_all (is_row_over (length row)) (row ∷ rows) ≡ true =
    subst (λ m. list_all (is_row_over m) (row ∷ rows) ≡ true) (sym same) h in
    (and_from _ _ k wide, same)

-- rows without a fault are a template over the variables
pub template_of_sound : (n : ℕ) (rows : List (List ℤ)) → faults_of n rows ≡ [] → (is_template rows ≡ true) × (width_of rows ≡ n)
template_of_sound n rows h =
    template_from n rows (all_rows n 1 rows (front_none (faults_from n 1 rows) _ h))
    (count_within (length rows) (back_none (faults_from n 1 rows) _ h))
