use Rattle.std.proofs.Common.{◌≡◌, ◌<◌, ℕ, ◌≤◌, length, Some}
use Rattle.json.specs.Json.{members, value}
use Rattle.base_values.specs.Places.{last_at}
use Rattle.base_values.proofs.Counts.{latest, tally}
use Rattle.base_values.proofs.members.find_last.Given as goal

abbrev pub invariant-members : goal.invariant-members
invariant-members l =
    (n : ℕ) × (length l.reader ≤ n) × (0 < l.left)
    × (tally l.key (members (value 126) n l.reader) ≡ Some l.left)
    × (last_at l.key l.initial.reader ≡ latest l.key (members (value 126) n l.reader))

abbrev pub decreases-members : goal.decreases-members
decreases-members l = length l.reader
