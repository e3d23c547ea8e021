-- A certificate's steps as data, and when a step is valid at a vector.
use Rattle.std.specs.Prelude.{◌≡◌, ℕ, zero, suc, ◌<◌, ◌&&◌, eqb, Bool, ℤ, List, [], ◌∷◌, ◌++◌, length, get_or, slice_get, if◌then◌else◌}
use Rattle.std.specs.Prelude.{Some}
use Rattle.base_facts.specs.Elements.{In}
use Rattle.base_numbers.specs.Rational.{ℚ, zero_ℚ, ◌≤ℚ◌, ◌<ℚ◌}
use Rattle.base_numbers.specs.Extended.{Ext, neg_inf, fin, pos_inf, ◌≤ᴱ◌, ◌<ᴱ◌}
use Rattle.flow_systems.specs.States.{dotℚ}
use Rattle.flow_edges.specs.declared.edge.Edge.{Edge}
use Rattle.flow_systems.specs.Equations.{Equations, Vector, Fits}
use Rattle.theory_validity.specs.Words.{Word, free_count, lin, start_form, end_form, start_of, end_of, Passes, Falls}

-- one vector is at most another
abbrev pub Below : Equations → Vector → Vector → Type 0
Below system z q = (p r : ℕ) → r < length system.template → z p r ≤ᴱ q p r

-- a word of an edge whose guards hold and whose start state fits a vector at the edge's source
pub record Runs (system : Equations) (z : Vector) (edge : Edge) (w : Word) : Type 0 where
  pub passes : Passes system.variables edge.actions w
  pub fits : Fits system z edge.from (start_of system.variables w)

-- the row's value where the word ends
unfoldable pub end_value : Equations → Edge → List ℤ → Word → ℚ
end_value system edge row w = dotℚ row (end_of system.variables edge.actions w)

-- every word that runs along the edge has at most this value at its end
abbrev pub Upper : Equations → Vector → Edge → List ℤ → Ext → Type 0
Upper system z edge row number = (w : Word) → Runs system z edge w → fin (end_value system edge row w) ≤ᴱ number

-- a trace of a certificate: the start values and the free values
pub record Pieces : Type 0 where
  pub start : List ℚ
  pub free : List ℚ

-- its word
abbrev pub word : Pieces → Word
word t = t.start ++ t.free

-- an item of a step: an unknown, the number of an edge into its point, a trace along the edge, and a second trace and a number that the
-- kinds read differently
pub record Item : Type 0 where
  pub point : ℕ
  pub row : ℕ
  pub edge : ℕ
  pub low : Pieces
  -- a jump's high trace, a ray's direction; nothing in a plain step
  pub second : Pieces
  -- the new bound of a plain step or a jump, the rate of a ray
  pub number : ℚ

-- the three kinds of steps
pub data Kind : Type 0 where
  Plain Jump Ray : Kind

-- a step of a certificate
pub record Step : Type 0 where
  pub kind : Kind
  pub items : List Item

-- an item's edge
unfoldable pub edge_of : Equations → Item → Edge
edge_of system item = get_or system.edges item.edge (record { from = 0; to = 0; actions = [] })

-- an item's row of the template
unfoldable pub row_of : Equations → Item → List ℤ
row_of system item = get_or system.template item.row []

-- whether an item names an unknown
unfoldable pub names : Item → ℕ → ℕ → Bool
names item p r = eqb item.point p && eqb item.row r

-- a vector with the items' unknowns at their values, the first item that names an unknown deciding
unfoldable pub put : (Item → Ext) → List Item → Vector → Vector
put value [] z p r = z p r
put value (item ∷ items) z p r = if names item p r then value item else put value items z p r

-- the number that an item's unknown takes
unfoldable pub new_value : Kind → Item → Ext
new_value Plain item = fin item.number
new_value Jump item = fin item.number
new_value Ray item = pos_inf

-- the vector after a step
unfoldable pub after_step : Step → Vector → Vector
after_step step z = put (new_value step.kind) step.items z

-- an item's unknown is in range and not at the entry, and its edge is there and ends at its point
pub record Placed (system : Equations) (item : Item) : Type 0 where
  pub later : 0 < item.point
  pub point_within : item.point < system.points
  pub row_within : item.row < length system.template
  pub edge_within : item.edge < length system.edges
  pub into : (edge_of system item).to ≡ item.point

-- no two items name one unknown
abbrev pub Unnamed : List Item → ℕ → ℕ → Type 0
Unnamed [] p r = Unit {0}
Unnamed (item ∷ items) p r = (names item p r ≡ Bool.false) × Unnamed items p r

-- no two items name one unknown
abbrev pub Distinct : List Item → Type 0
Distinct [] = Unit {0}
Distinct (item ∷ items) = Unnamed items item.point item.row × Distinct items

-- the value of an item's row at the end of a word of its edge
abbrev pub item_value : Equations → Item → Word → ℚ
item_value system item w = end_value system (edge_of system item) (row_of system item) w

-- a trace of the item's edge has a value for each variable and each free assignment
abbrev pub Sized : Equations → Item → Pieces → Type 0
Sized system item t = (length t.start ≡ system.variables) × (length t.free ≡ free_count (edge_of system item).actions)

-- a plain item: its new bound exceeds the old one and is at most the low word's value
pub record PlainItem (system : Equations) (z : Vector) (item : Item) : Type 0 where
  pub size : Sized system item item.low
  pub runs : Runs system z (edge_of system item) (word item.low)
  pub above : z item.point item.row <ᴱ fin item.number
  pub reached : item.number ≤ℚ item_value system item (word item.low)

-- a jump's item at the vector, the bound being a fraction; p is the vector with every new bound in place
pub record JumpItem (system : Equations) (z p : Vector) (item : Item) : Type 0 where
  pub low_size : Sized system item item.low
  pub high_size : Sized system item item.second
  pub bound : ℚ
  pub finite : z item.point item.row ≡ fin bound
  pub low_runs : Runs system z (edge_of system item) (word item.low)
  pub low_above : bound <ℚ item_value system item (word item.low)
  pub rises : bound ≤ℚ item.number
  pub high_runs : Runs system p (edge_of system item) (word item.second)
  pub high_reaches : item.number ≤ℚ item_value system item (word item.second)

-- a ray's item: along the direction a row of the source that the step names rises at most by its rate, another with a finite bound not at
-- all
pub record RayItem (system : Equations) (z : Vector) (items : List Item) (item : Item) : Type 0 where
  pub low_size : Sized system item item.low
  pub direction_size : Sized system item item.second
  pub below_top : z item.point item.row <ᴱ pos_inf
  pub low_runs : Runs system z (edge_of system item) (word item.low)
  pub low_above : z item.point item.row <ᴱ fin (item_value system item (word item.low))
  pub rate : zero_ℚ <ℚ item.number
  pub named : (other : Item) → In items other → other.point ≡ (edge_of system item).from →
      lin (start_form system.variables (row_of system other)) (word item.second) ≤ℚ other.number
  pub others : (r : ℕ) (row : List ℤ) (bound : ℚ) → slice_get system.template r ≡ Some row → Unnamed items (edge_of system item).from r →
      z (edge_of system item).from r ≡ fin bound → lin (start_form system.variables row) (word item.second) ≤ℚ zero_ℚ
  pub falls : Falls system.variables (edge_of system item).actions (word item.second)
  pub gains : item.number ≤ℚ lin (end_form system.variables (edge_of system item).actions (row_of system item)) (word item.second)

-- an item's validity by the kind of its step
abbrev pub ValidItem : Kind → Equations → Vector → List Item → Item → Type 0
ValidItem Plain system z items item = PlainItem system z item
ValidItem Jump system z items item = JumpItem system z (put (new_value Jump) items z) item
ValidItem Ray system z items item = RayItem system z items item

-- a step is valid at a vector
pub record ValidStep (system : Equations) (z : Vector) (step : Step) : Type 0 where
  pub distinct : Distinct step.items
  pub placed : (item : Item) → In step.items item → Placed system item
  pub valid : (item : Item) → In step.items item → ValidItem step.kind system z step.items item

-- a vector bounds the items of a step where each item's edge leads to at most the vector's number at its unknown
abbrev pub BoundsItems : Equations → Vector → List Item → Type 0
BoundsItems system q items = (item : Item) → In items item → Upper system q (edge_of system item) (row_of system item)
    (q item.point item.row)

-- +∞ at the entry, −∞ elsewhere
unfoldable pub start_vector : Vector
start_vector zero r = pos_inf
start_vector (suc p) r = neg_inf
