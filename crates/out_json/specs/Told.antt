-- The lines that JSON values tell: those of the report, or of the values, that they stand for.
use Rattle.std.specs.Prelude.{◌≡◌, ◌++◌, ℕ, ℤ, Bool, true, false, List, [], Option, Some, None, codes, decimal}
use Rattle.serde_json.specs.Data.{Data, boolean, number, string, array, unsigned, Items, no_items, item}
use Rattle.serde_json.specs.Find.{get}
use Rattle.base_numbers.specs.Extended.{Ext}
use Rattle.flow_edges.specs.declared.point.Point.{Point}
use Rattle.flow_systems.specs.declared.footer.Footer.{Footer}
use Rattle.flow_systems.specs.Equations.{Vector}
use Rattle.flow_systems.specs.Report.{line, report_text}
use Rattle.out_report.specs.Values.{values_text}
use Rattle.out_json.specs.Reports.{report_value}
use Rattle.out_json.specs.Values.{values_value}

-- ---- what stands at a key

-- a text; nothing where there is none
abbrev pub text_told : Option Data → List ℕ
text_told (Some (string text)) = text
text_told _ = []

-- items; none where there is no array
abbrev pub items_told : Option Data → Items
items_told (Some (array items)) = items
items_told _ = no_items

-- whether it is true
abbrev pub is_told : Option Data → Bool
is_told (Some (boolean b)) = b
is_told _ = false

-- words, and the decimal digits of a number behind them; nothing where there is no number
abbrev pub number_told : List ℕ → Option Data → List ℕ
number_told words (Some (number (unsigned n))) = words ++ decimal n
number_told words _ = []

-- the decimal digits of a number; nothing where there is none
abbrev pub digits_told : Option Data → List ℕ
digits_told (Some (number (unsigned n))) = decimal n
digits_told _ = []

-- words, and a text behind them; nothing where there is none
abbrev pub behind : List ℕ → Option Data → List ℕ
behind words (Some (string text)) = words ++ text
behind words _ = []

-- the last line, by a number of improvements, or else by what is said of a certificate
abbrev pub footer_told : Option Data → Option Data → List ℕ
footer_told (Some (number (unsigned n))) certificate = line (codes "improvements: " ++ decimal n)
footer_told _ certificate = line (codes "certificate: " ++ text_told certificate)

-- ---- reports

-- the names, each behind a space
abbrev pub names_told : Items → List ℕ
names_told no_items = []
names_told (item d ds) = behind (codes " ") (Some d) ++ names_told ds

-- a line for each row and bound
abbrev pub rows_told : Items → Items → List ℕ
rows_told (item row rows) (item bound bounds) =
    line (codes "  " ++ text_told (Some row) ++ codes " <= " ++ text_told (Some bound)) ++ rows_told rows bounds
rows_told _ _ = []

-- the lines of a point's bounds, by whether it is reachable
abbrev pub bounds_told : Bool → Items → Items → List ℕ
bounds_told true rows bounds = rows_told rows bounds
bounds_told false rows bounds = line (codes "  unreachable")

-- what a point is, and where
abbrev pub place_told : Data → List ℕ
place_told d = text_told (get (codes "kind") d) ++ behind (codes " ") (get (codes "name") d)
    ++ number_told (codes " at line ") (get (codes "line") d)

-- the lines of a point
abbrev pub point_told : Items → Data → List ℕ
point_told rows d = line (number_told (codes "point ") (get (codes "point") d) ++ codes ": " ++ place_told d)
    ++ bounds_told (is_told (get (codes "reachable") d)) rows (items_told (get (codes "bounds") d))

-- the lines of points
abbrev pub points_told : Items → Items → List ℕ
points_told rows no_items = []
points_told rows (item d ds) = point_told rows d ++ points_told rows ds

-- the lines of a report
abbrev pub report_told : Data → List ℕ
report_told d = line (codes "variables" ++ names_told (items_told (get (codes "variables") d)))
    ++ points_told (items_told (get (codes "rows") d)) (items_told (get (codes "points") d))
    ++ footer_told (get (codes "improvements") d) (get (codes "certificate") d)

-- ---- values

-- the line of a name and its value
abbrev pub value_told : Data → List ℕ
value_told d = line (text_told (get (codes "name") d) ++ codes " = " ++ text_told (get (codes "value") d))

-- a line for each
abbrev pub each_value_told : Items → List ℕ
each_value_told no_items = []
each_value_told (item d ds) = value_told d ++ each_value_told ds

-- the lines of values
abbrev pub values_told : Data → List ℕ
values_told d = each_value_told (items_told (get (codes "values") d))
    ++ footer_told (get (codes "improvements") d) (get (codes "certificate") d)

-- ---- laws

-- the lines of a report are those that its value tells
abbrev pub ReportsAreTold : Type 0
ReportsAreTold = (names : List (List ℕ)) (points : List Point) (template : List (List ℤ)) (v : Vector) (footer : Footer)
    → report_told (report_value names points template v footer) ≡ report_text names points template v footer

-- the lines of values are those that their value tells
abbrev pub ValuesAreTold : Type 0
ValuesAreTold = (names : List (List ℕ)) (values : ℕ → Ext) (footer : Footer)
    → values_told (values_value names values footer) ≡ values_text names values footer
