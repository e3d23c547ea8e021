-- How many points a statement makes. Points are numbered along the statements in order; the entry is 0.
use Rattle.std.specs.Prelude.{ℕ, ◌+◌, Bool, true, nat_lt, if◌then◌else◌, length}
use Rattle.lang_tree.specs.Tree.{Condition, Statement, Statements, set, havoc, assume, only_where, check, branch, loop, jump, label}
use Rattle.lang_tree.specs.Tree.{nil, cons}
use Rattle.lang_tree.specs.Cases.{cases_of}

-- an assumption makes a point where it has more than one case
abbrev pub splits : Condition → Bool
splits c = nat_lt 1 (length (cases_of true c))

abbrev mutual
  -- a label makes one point, a loop its head, an `if` its join
  pub points_of : Statement → ℕ
  points_of (set var form line) = 0
  points_of (havoc var line) = 0
  points_of (assume c line) = if splits c then 1 else 0
  points_of (only_where c line) = 0
  points_of (check about c line) = 0
  points_of (branch c first second line) = points_in first + points_in second + 1
  points_of (loop kind c body line) = 1 + points_in body
  points_of (jump kind line) = 0
  points_of (label name line) = 1

  -- the points of all statements of a list
  pub points_in : Statements → ℕ
  points_in nil = 0
  points_in (cons s rest) = points_of s + points_in rest

-- an `if`'s join comes after the points of both branches, the first of which is n
abbrev pub join_of : Statements → Statements → ℕ → ℕ
join_of first second n = n + points_in first + points_in second

-- the exit comes last
abbrev pub exit_of : Statements → ℕ
exit_of body = points_in body + 1

-- the entry, the points of the statements, and the exit
abbrev pub point_count : Statements → ℕ
point_count body = points_in body + 2
