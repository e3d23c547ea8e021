use Rattle.std.proofs.Common.{◌≡◌, ℕ, ◌≤◌, length}
use Rattle.json.specs.Json.{members, value}
use Rattle.base_values.specs.Places.{count_at}
use Rattle.base_values.proofs.Counts.{plus, tally}
use Rattle.base_values.proofs.members.count.Given as goal

abbrev pub invariant-members : goal.invariant-members
invariant-members l =
    (n : ℕ) × (length l.reader ≤ n)
    × (count_at l.key l.initial.reader ≡ plus l.found (tally l.key (members (value 126) n l.reader)))

abbrev pub decreases-members : goal.decreases-members
decreases-members l = length l.reader
