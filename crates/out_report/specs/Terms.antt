-- Terms of a row, wherever they stand.
use Rattle.std.specs.Prelude.{◌==◌, ◌++◌, ℕ, ℤ, Bool, false, List, [], nat_abs, if◌then◌else◌}
use Rattle.flow_systems.specs.Report.{first_sign, later_sign, later_terms, row_text, term_text}

-- a term with its sign, as the first of its row or a later one
abbrev pub signed_text : Bool → ℤ → List ℕ → List ℕ
signed_text is_first c name = (if is_first then first_sign c else later_sign c) ++ term_text (nat_abs c) name

-- a term, or nothing where the coefficient is 0
abbrev pub some_text : Bool → ℤ → List ℕ → List ℕ
some_text is_first c name = if nat_abs c == 0 then [] else signed_text is_first c name

-- whether the term after this one is the first of its row
abbrev pub still_first : Bool → ℤ → Bool
still_first is_first c = if nat_abs c == 0 then is_first else false

-- the terms of a row from here on, where none or some were printed before
abbrev pub rest_text : Bool → List (List ℕ) → List ℤ → List ℕ
rest_text is_first names cs = if is_first then row_text names cs else later_terms names cs
