-- The rows of a template.
use Rattle.std.specs.Prelude.{◌==◌, ◌&&◌, ℕ, ℤ, Bool, not, List, [], ◌∷◌, length, nat_abs, nat_le}
use Rattle.std.specs.List.{list_all, list_any}
use Rattle.flow_templates.specs.declared.limits.TheConstants.{MOST_ROWS}

-- some coefficient isn't 0
abbrev pub is_row : List ℤ → Bool
is_row row = list_any (λ c. not (nat_abs c == 0)) row

-- the number of coefficients of the first row
abbrev pub width_of : List (List ℤ) → ℕ
width_of [] = 0
width_of (row ∷ rows) = length row

-- 1 to the greatest number of rows, each with a coefficient for the same variables, not all 0
abbrev pub is_template : List (List ℤ) → Bool
is_template rows =
    (nat_le 1 (length rows) && nat_le (length rows) MOST_ROWS)
    && list_all (λ row. is_row row && length row == width_of rows) rows
