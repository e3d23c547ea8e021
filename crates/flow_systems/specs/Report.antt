-- The report of a vector as a list of bytes.
use Rattle.std.specs.Prelude.{◌==◌, ◌++◌, ℕ, suc, ℤ, pos, negsuc, List, [], ◌∷◌, codes, decimal, flat_map, nat_abs, if◌then◌else◌}
use Rattle.base_numbers.specs.Extended.{Ext, neg_inf, fin, pos_inf}
use Rattle.base_fractions.specs.Texts.{frac_text}
use Rattle.flow_edges.specs.declared.point.Place.{Place}
use Rattle.flow_edges.specs.declared.point.Place.TheVariants.{Entry, Loop, Label, Join, Assume, Exit}
use Rattle.flow_edges.specs.declared.point.Point.{Point}
use Rattle.flow_systems.specs.declared.footer.Footer.{Footer}
use Rattle.flow_systems.specs.declared.footer.Footer.TheVariants.{Improvements, Accepted}
use Rattle.flow_systems.specs.declared.system.System.{System}
use Rattle.flow_systems.specs.Equations.{Vector}

-- a line ends with a line feed
abbrev pub line : List ℕ → List ℕ
line bytes = bytes ++ 10 ∷ []

-- the text of a bound
abbrev pub bound_text : Ext → List ℕ
bound_text neg_inf = codes "-inf"
bound_text (fin q) = frac_text q
bound_text pos_inf = codes "+inf"

-- ---- rows
-- a term without its sign: the name, with the coefficient's size before it unless that is 1
abbrev pub term_text : ℕ → List ℕ → List ℕ
term_text size name = if size == 1 then name else decimal size ++ 42 ∷ name

-- what stands before the first term
abbrev pub first_sign : ℤ → List ℕ
first_sign (pos n) = []
first_sign (negsuc n) = codes "-"

-- what stands before a later one
abbrev pub later_sign : ℤ → List ℕ
later_sign (pos n) = codes " + "
later_sign (negsuc n) = codes " - "

-- the terms of a row after its first, those with the coefficient 0 left out
abbrev pub later_terms : List (List ℕ) → List ℤ → List ℕ
later_terms [] cs = []
later_terms (name ∷ names) [] = []
later_terms (name ∷ names) (c ∷ cs) = (if nat_abs c == 0 then [] else later_sign c ++ term_text (nat_abs c) name) ++ later_terms names cs

-- a row over the variables of these names
abbrev pub row_text : List (List ℕ) → List ℤ → List ℕ
row_text [] cs = []
row_text (name ∷ names) [] = []
row_text (name ∷ names) (c ∷ cs) = if nat_abs c == 0 then row_text names cs else (first_sign c ++ term_text (nat_abs c) name)
    ++ later_terms names cs

-- what a point is, and where
abbrev pub place_text : Place → ℕ → List ℕ
place_text Entry at = codes "entry"
place_text Loop at = codes "loop at line " ++ decimal at
place_text (Label name) at = codes "label " ++ name ++ codes " at line " ++ decimal at
place_text Join at = codes "join at line " ++ decimal at
place_text Assume at = codes "assume at line " ++ decimal at
place_text Exit at = codes "exit"

-- the head of a point
abbrev pub head_line : ℕ → Point → List ℕ
head_line p point = line (codes "point " ++ decimal p ++ codes ": " ++ place_text point.place point.line)

-- the line of a row and its bound
abbrev pub row_line : List (List ℕ) → List ℤ → Ext → List ℕ
row_line names row bound = line (codes "  " ++ row_text names row ++ codes " <= " ++ bound_text bound)

-- a line for each row, the first of them having the number r
abbrev pub row_lines : List (List ℕ) → ℕ → List (List ℤ) → (ℕ → Ext) → List ℕ
row_lines names r [] bounds = []
row_lines names r (row ∷ rows) bounds = row_line names row (bounds r) ++ row_lines names (suc r) rows bounds

-- a point whose first bound is -inf is unreachable
abbrev pub bound_lines : List (List ℕ) → List (List ℤ) → (ℕ → Ext) → Ext → List ℕ
bound_lines names template bounds neg_inf = line (codes "  unreachable")
bound_lines names template bounds (fin q) = row_lines names 0 template bounds
bound_lines names template bounds pos_inf = row_lines names 0 template bounds

-- a point's head and the lines of its bounds
abbrev pub point_lines : List (List ℕ) → List (List ℤ) → Vector → ℕ → Point → List ℕ
point_lines names template v p point = head_line p point ++ bound_lines names template (v p) (v p 0)

-- each point in order, the first having the number p
abbrev pub points_lines : List (List ℕ) → List (List ℤ) → Vector → ℕ → List Point → List ℕ
points_lines names template v p [] = []
points_lines names template v p (point ∷ points) = point_lines names template v p point ++ points_lines names template v (suc p) points

-- the names of the variables
abbrev pub variables_line : List (List ℕ) → List ℕ
variables_line names = line (codes "variables" ++ flat_map (λ name. 32 ∷ name) names)

-- the last line
abbrev pub footer_line : Footer → List ℕ
footer_line (Improvements k) = line (codes "improvements: " ++ decimal k)
footer_line Accepted = line (codes "certificate: accepted")

-- the variables, the points with their bounds, and the footer
abbrev pub report_text : List (List ℕ) → List Point → List (List ℤ) → Vector → Footer → List ℕ
report_text names points template v footer = variables_line names ++ points_lines names template v 0 points ++ footer_line footer

-- the report of a vector of a system
abbrev pub report_of : System → Vector → Footer → List ℕ
report_of s v footer = report_text s.flow.names s.flow.points s.template v footer
