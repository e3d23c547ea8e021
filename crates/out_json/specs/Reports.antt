-- The report of a vector as a JSON value.
use Rattle.std.specs.Prelude.{ℕ, suc, ℤ, Bool, true, false, List, [], ◌∷◌, codes}
use Rattle.base_numbers.specs.Extended.{Ext, neg_inf, fin, pos_inf}
use Rattle.serde_json.specs.Data.{Data, null, boolean, string, array, object, Items, no_items, item, Members, no_members, member}
use Rattle.flow_edges.specs.declared.point.Place.{Place}
use Rattle.flow_edges.specs.declared.point.Place.TheVariants.{Entry, Loop, Label, Join, Assume, Exit}
use Rattle.flow_edges.specs.declared.point.Point.{Point}
use Rattle.flow_systems.specs.declared.footer.Footer.{Footer}
use Rattle.flow_systems.specs.declared.system.System.{System}
use Rattle.flow_systems.specs.Equations.{Vector}
use Rattle.flow_systems.specs.Report.{bound_text, row_text}
use Rattle.out_json.specs.Pieces.{count, footer_member, texts}

-- the word for what a point is
abbrev pub kind_text : Place → List ℕ
kind_text Entry = codes "entry"
kind_text Loop = codes "loop"
kind_text (Label name) = codes "label"
kind_text Join = codes "join"
kind_text Assume = codes "assume"
kind_text Exit = codes "exit"

-- the line of a point: none at the entry and the exit
abbrev pub line_value : Place → ℕ → Data
line_value Entry at = null
line_value Loop at = count at
line_value (Label name) at = count at
line_value Join at = count at
line_value Assume at = count at
line_value Exit at = null

-- the name of a label: no other point has one
abbrev pub name_value : Place → Data
name_value Entry = null
name_value Loop = null
name_value (Label name) = string name
name_value Join = null
name_value Assume = null
name_value Exit = null

-- a point whose first bound is -inf is unreachable
abbrev pub is_reachable : Ext → Bool
is_reachable neg_inf = false
is_reachable (fin q) = true
is_reachable pos_inf = true

-- the texts of the bounds of each row, the first of them having the number r
abbrev pub row_bounds : ℕ → List (List ℤ) → (ℕ → Ext) → Items
row_bounds r [] bounds = no_items
row_bounds r (row ∷ rows) bounds = item (string (bound_text (bounds r))) (row_bounds (suc r) rows bounds)

-- those of a point, by its first bound: none where it is unreachable
abbrev pub point_bounds : List (List ℤ) → (ℕ → Ext) → Ext → Items
point_bounds template bounds neg_inf = no_items
point_bounds template bounds (fin q) = row_bounds 0 template bounds
point_bounds template bounds pos_inf = row_bounds 0 template bounds

-- the name of a point
abbrev pub name_members : Place → Members → Members
name_members place rest = member (codes "name") (name_value place) rest

-- its line and its name
abbrev pub line_members : Point → Members → Members
line_members point rest = member (codes "line") (line_value point.place point.line) (name_members point.place rest)

-- what a point is, and where
abbrev pub place_members : Point → Members → Members
place_members point rest = member (codes "kind") (string (kind_text point.place)) (line_members point rest)

-- the number of a point, and whether it is reachable
abbrev pub last_members : ℕ → Bool → Members
last_members p reachable = member (codes "point") (count p) (member (codes "reachable") (boolean reachable) no_members)

-- a point with these bounds, by the first of them
abbrev pub bounded_members : List (List ℤ) → (ℕ → Ext) → Ext → ℕ → Point → Members
bounded_members template bounds first p point = member (codes "bounds") (array (point_bounds template bounds first))
    (place_members point (last_members p (is_reachable first)))

-- a point with its bounds
abbrev pub point_value : List (List ℤ) → Vector → ℕ → Point → Data
point_value template v p point = object (bounded_members template (v p) (v p 0) p point)

-- each point in order, the first having the number p
abbrev pub point_values : List (List ℤ) → Vector → ℕ → List Point → Items
point_values template v p [] = no_items
point_values template v p (point ∷ points) = item (point_value template v p point) (point_values template v (suc p) points)

-- the rows, as they stand in a report
abbrev pub row_values : List (List ℕ) → List (List ℤ) → Items
row_values names [] = no_items
row_values names (row ∷ rows) = item (string (row_text names row)) (row_values names rows)

-- the variables
abbrev pub variable_members : List (List ℕ) → Members
variable_members names = member (codes "variables") (array (texts names)) no_members

-- the rows and the variables
abbrev pub row_members : List (List ℕ) → List (List ℤ) → Members
row_members names template = member (codes "rows") (array (row_values names template)) (variable_members names)

-- the points with their bounds, the rows and the variables
abbrev pub body_members : List (List ℕ) → List Point → List (List ℤ) → Vector → Members
body_members names points template v = member (codes "points") (array (point_values template v 0 points)) (row_members names template)

-- how it ends, the points with their bounds, the rows and the variables
abbrev pub report_value : List (List ℕ) → List Point → List (List ℤ) → Vector → Footer → Data
report_value names points template v footer = object (footer_member footer (body_members names points template v))

-- the report of a vector of a system
abbrev pub report_value_of : System → Vector → Footer → Data
report_value_of s v footer = report_value s.flow.names s.flow.points s.template v footer
