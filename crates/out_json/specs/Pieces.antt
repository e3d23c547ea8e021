-- Pieces of JSON values that several outputs have, and the line of a value.
use Rattle.std.specs.Prelude.{ℕ, List, [], ◌∷◌, codes}
use Rattle.serde_json.specs.Data.{Data, number, string, unsigned, Items, no_items, item, Members, member}
use Rattle.serde_json.specs.Written.{compact_text}
use Rattle.flow_systems.specs.declared.footer.Footer.{Footer}
use Rattle.flow_systems.specs.declared.footer.Footer.TheVariants.{Improvements, Accepted}
use Rattle.flow_systems.specs.Report.{line}

-- a number
abbrev pub count : ℕ → Data
count n = number (unsigned n)

-- texts in order
abbrev pub texts : List (List ℕ) → Items
texts [] = no_items
texts (text ∷ rest) = item (string text) (texts rest)

-- how it ends: the number of improvements, or that a certificate is accepted
abbrev pub footer_member : Footer → Members → Members
footer_member (Improvements k) rest = member (codes "improvements") (count k) rest
footer_member Accepted rest = member (codes "certificate") (string (codes "accepted")) rest

-- the text of a value, as `serde_json` prints it, and a line feed
abbrev pub value_line : Data → List ℕ
value_line d = line (compact_text d)
