-- The values of names as a JSON value.
use Rattle.std.specs.Prelude.{ℕ, suc, List, [], ◌∷◌, codes}
use Rattle.base_numbers.specs.Extended.{Ext}
use Rattle.serde_json.specs.Data.{Data, string, array, object, Items, no_items, item, Members, no_members, member}
use Rattle.flow_systems.specs.declared.footer.Footer.{Footer}
use Rattle.flow_systems.specs.Report.{bound_text}
use Rattle.out_json.specs.Pieces.{footer_member}

-- a name and its value
abbrev pub named_value : List ℕ → Ext → Data
named_value name value = object (member (codes "name") (string name) (member (codes "value") (string (bound_text value)) no_members))

-- each name with its value, the first of them having the number k
abbrev pub named_values : ℕ → List (List ℕ) → (ℕ → Ext) → Items
named_values k [] values = no_items
named_values k (name ∷ names) values = item (named_value name (values k)) (named_values (suc k) names values)

-- the values of names in order
abbrev pub value_members : List (List ℕ) → (ℕ → Ext) → Members
value_members names values = member (codes "values") (array (named_values 0 names values)) no_members

-- how it ends, and the values of names in order
abbrev pub values_value : List (List ℕ) → (ℕ → Ext) → Footer → Data
values_value names values footer = object (footer_member footer (value_members names values))
