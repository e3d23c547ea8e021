use Rattle.std.proofs.Common.{◌≡◌, ℕ, ◌≤◌, length}
use Rattle.json.specs.Json.{members, value}
use Rattle.serde_json.specs.Data.{Members, no_members}
use Rattle.serde_json.specs.Read.{of_members, converted}
use Rattle.serde_json.specs.View.{members_view}
use Rattle.base_values.specs.Outline.{flat_members}
use Rattle.base_values.proofs.outline.read_flat_members.Given as goal

abbrev pub invariant-members : goal.invariant-members
invariant-members l =
    (n : ℕ) × (length l.reader ≤ n) × (old : Members) × (members_view l.found.entries ≡ flat_members old)
    × (converted (λ ms. of_members ms no_members) (members (value l.depth) (length l.initial.reader) l.initial.reader)
    ≡ converted (λ ms. of_members ms old) (members (value l.depth) n l.reader))

abbrev pub decreases-members : goal.decreases-members
decreases-members l = length l.reader
