-- Evidence of upper bounds.
use Rattle.std.specs.Prelude.{◌&&◌, ◌||◌, ◌==◌, Bool, List, ℕ, Option, None, if◌then◌else◌, option_and_then, option_map, codes}
use Rattle.serde_json.specs.Data.{Data, member, no_members, object, string}
use Rattle.cert_written.specs.declared.upper.Upper.{Upper}
use Rattle.cert_written.specs.declared.upper.Upper.TheVariants.{Unreached, Empty, Bound}
use Rattle.cert_text.specs.Keys.{index_at, index_data, is_index, is_kind, member_count, passes_at}
use Rattle.cert_written.specs.declared.entries.Entries.{Entries}
use Rattle.cert_text.specs.Pairs.{are_entries, entries_at, entries_data}

-- exactly the keys `kind`, which is `unreached`, and `row`
abbrev pub is_unreached : Data → Bool
is_unreached d = (member_count d == 2) && is_kind (codes "unreached") d && passes_at is_index (codes "row") d

-- exactly the keys `guards`, `kind`, which is this text, and `rows`
abbrev pub is_weighted : Bool → List ℕ → Data → Bool
is_weighted sparse kind d = (member_count d == 3) && is_kind kind d && passes_at (are_entries sparse) (codes "guards") d
    && passes_at (are_entries sparse) (codes "rows") d

-- evidence of one of the three kinds
abbrev pub is_upper : Bool → Data → Bool
is_upper sparse d = is_unreached d || is_weighted sparse (codes "bound") d || is_weighted sparse (codes "empty") d

-- the multipliers of rows and guards
abbrev pub weights_in : Bool → Data → Option (Entries × Entries)
weights_in sparse d = option_and_then (λ guards. option_map (λ rows. (rows, guards)) (entries_at sparse (codes "rows") d))
    (entries_at sparse (codes "guards") d)

-- the evidence that a value is
abbrev pub upper_in : Bool → Data → Option Upper
upper_in sparse d = if is_kind (codes "unreached") d then option_map (λ row. Unreached row) (index_at (codes "row") d)
    else (if is_kind (codes "bound") d then option_map (λ w. Bound w.0 w.1) (weights_in sparse d)
    else (if is_kind (codes "empty") d then option_map (λ w. Empty w.0 w.1) (weights_in sparse d) else None))

-- the value with these multipliers and this kind
abbrev pub weights_object : Data → List ℕ → Data → Data
weights_object guards kind rows = object (member (codes "guards") guards
    (member (codes "kind") (string kind) (member (codes "rows") rows no_members)))

-- the same of multipliers as numbers
abbrev pub weights_data : List ℕ → Entries → Entries → Data
weights_data kind rows guards = weights_object (entries_data guards) kind (entries_data rows)

-- the value of evidence by a row at `-inf`
abbrev pub unreached_data : ℕ → Data
unreached_data row = object (member (codes "kind") (string (codes "unreached")) (member (codes "row") (index_data row) no_members))

-- the value of evidence
abbrev pub upper_data : Upper → Data
upper_data (Unreached row) = unreached_data row
upper_data (Empty rows guards) = weights_data (codes "empty") rows guards
upper_data (Bound rows guards) = weights_data (codes "bound") rows guards
