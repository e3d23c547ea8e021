-- The lines of a report are those that its value tells.
use Rattle.std.proofs.Common.{◌≡◌, ◌++◌, ◌∷◌, [], ℕ, suc, List, refl, sym, ap, ap₂, append_assoc}
use Rattle.std.specs.Prelude.{ℤ, Some, codes, decimal, flat_map}
use Rattle.base_numbers.specs.Extended.{Ext, neg_inf, fin, pos_inf}
use Rattle.serde_json.specs.Data.{string}
use Rattle.flow_edges.specs.declared.point.Place.{Place}
use Rattle.flow_edges.specs.declared.point.Place.TheVariants.{Entry, Loop, Label, Join, Assume, Exit}
use Rattle.flow_edges.specs.declared.point.Point.{Point}
use Rattle.flow_systems.specs.declared.footer.Footer.{Footer}
use Rattle.flow_systems.specs.declared.footer.Footer.TheVariants.{Improvements, Accepted}
use Rattle.flow_systems.specs.Equations.{Vector}
use Rattle.flow_systems.specs.Report.{bound_lines, footer_line, line, place_text, point_lines, points_lines}
use Rattle.flow_systems.specs.Report.{report_text, row_line, row_lines}
use Rattle.out_json.specs.Pieces.{texts}
use Rattle.out_json.specs.Reports.{is_reachable, kind_text, line_value, name_value, point_bounds, point_value, point_values, report_value}
use Rattle.out_json.specs.Reports.{row_bounds, row_values}
use Rattle.out_json.specs.Told.{behind, bounds_told, names_told, number_told, point_told, points_told, report_told, rows_told, text_told}

names_line : (names : List (List ℕ)) → names_told (texts names) ≡ flat_map (λ name. 32 ∷ name) names
names_line [] = refl
names_line (name ∷ names) = ap (λ t. (32 ∷ name) ++ t) (names_line names)

rows_lines : (names : List (List ℕ)) (r : ℕ) (rows : List (List ℤ)) (bounds : ℕ → Ext)
    → rows_told (row_values names rows) (row_bounds r rows bounds) ≡ row_lines names r rows bounds
rows_lines names r [] bounds = refl
rows_lines names r (row ∷ rows) bounds = ap (λ t. row_line names row (bounds r) ++ t) (rows_lines names (suc r) rows bounds)

bounds_lines : (names : List (List ℕ)) (template : List (List ℤ)) (bounds : ℕ → Ext) (first : Ext)
    → bounds_told (is_reachable first) (row_values names template) (point_bounds template bounds first)
    ≡ bound_lines names template bounds first
bounds_lines names template bounds neg_inf = refl
bounds_lines names template bounds (fin q) = rows_lines names 0 template bounds
bounds_lines names template bounds pos_inf = rows_lines names 0 template bounds

label_is : (name digits : List ℕ) → codes "label" ++ (codes " " ++ name) ++ (codes " at line " ++ digits)
    ≡ codes "label " ++ name ++ codes " at line " ++ digits
label_is name digits = ap (λ t. codes "label " ++ t) (sym (append_assoc name (codes " at line ") digits))

place_is : (place : Place) (at : ℕ) → text_told (Some (string (kind_text place))) ++ behind (codes " ") (Some (name_value place))
    ++ number_told (codes " at line ") (Some (line_value place at)) ≡ place_text place at
place_is Entry at = refl
place_is Loop at = refl
place_is (Label name) at = label_is name (decimal at)
place_is Join at = refl
place_is Assume at = refl
place_is Exit at = refl

point_is : (names : List (List ℕ)) (template : List (List ℤ)) (v : Vector) (p : ℕ) (point : Point)
    → point_told (row_values names template) (point_value template v p point) ≡ point_lines names template v p point
point_is names template v p point =
    ap₂ (λ t u. line (codes "point " ++ decimal p ++ codes ": " ++ t) ++ u) (place_is point.place point.line)
    (bounds_lines names template (v p) (v p 0))

points_are : (names : List (List ℕ)) (template : List (List ℤ)) (v : Vector) (p : ℕ) (points : List Point)
    → points_told (row_values names template) (point_values template v p points) ≡ points_lines names template v p points
points_are names template v p [] = refl
points_are names template v p (point ∷ points) =
    ap₂ (λ t u. t ++ u) (point_is names template v p point) (points_are names template v (suc p) points)

-- whatever the vector and the end
pub reports_told : (names : List (List ℕ)) (points : List Point) (template : List (List ℤ)) (v : Vector) (footer : Footer)
    → report_told (report_value names points template v footer) ≡ report_text names points template v footer
reports_told names points template v (Improvements k) =
    ap₂ (λ t u. line (codes "variables" ++ t) ++ u ++ footer_line (Improvements k)) (names_line names)
    (points_are names template v 0 points)
reports_told names points template v Accepted =
    ap₂ (λ t u. line (codes "variables" ++ t) ++ u ++ footer_line Accepted) (names_line names) (points_are names template v 0 points)
