-- The values of names as bytes.
use Rattle.std.specs.Prelude.{◌++◌, ℕ, suc, List, [], ◌∷◌, codes}
use Rattle.base_numbers.specs.Extended.{Ext}
use Rattle.flow_systems.specs.declared.footer.Footer.{Footer}
use Rattle.flow_systems.specs.Report.{bound_text, footer_line, line}

-- a name and its value
abbrev pub value_line : List ℕ → Ext → List ℕ
value_line name value = line (name ++ codes " = " ++ bound_text value)

-- a line for each name, the first of them having the number k
abbrev pub value_lines : ℕ → List (List ℕ) → (ℕ → Ext) → List ℕ
value_lines k [] values = []
value_lines k (name ∷ names) values = value_line name (values k) ++ value_lines (suc k) names values

-- the values of names in order, and the footer
abbrev pub values_text : List (List ℕ) → (ℕ → Ext) → Footer → List ℕ
values_text names values footer = value_lines 0 names values ++ footer_line footer
