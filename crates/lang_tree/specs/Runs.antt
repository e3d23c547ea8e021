-- Runs of a program over integer states, by the list of work that is left to do.
use Rattle.std.specs.Prelude.{◌≡◌, ℕ, ℤ, pos, ◌+◌, Bool, true, false, List, [], ◌∷◌, ◌++◌, length, take, if◌then◌else◌, Contains}
use Rattle.lang_tree.specs.declared.check.Check.{Check}
use Rattle.lang_tree.specs.Tree.{Condition, Deed, LoopKind, while_loop, for_loop, do_loop, breaks, continues, returns, statement_by}
use Rattle.lang_tree.specs.Tree.{Statement, Statements, set, havoc, assume, only_where, check, branch, loop, jump, label, nil, cons}
use Rattle.lang_tree.specs.Meaning.{State, put, value, MayBe}
use Rattle.lang_tree.specs.PointNumbers.{splits, points_of, points_in, join_of, exit_of}

-- a node: a statement with the number of the first point that it makes; the mark of a point;
-- the turn of a loop, at which its condition is tested; or the end of a loop's body
pub data Item : Type 0 where
  node : Statement → ℕ → Item
  mark : ℕ → Item
  turn : (kind : LoopKind) (cond : Condition) (body : Statements) (line head : ℕ) → Item
  end : (kind : LoopKind) (cond : Condition) (body : Statements) (line head : ℕ) → Item

-- the nodes of a list of statements, the first point that they make being n
abbrev pub nodes : Statements → ℕ → List Item
nodes nil n = []
nodes (cons s rest) n = node s n ∷ nodes rest (n + points_of s)

-- what a run starts with: the entry's mark, the program's nodes, the exit's mark
abbrev pub start_work : Statements → List Item
start_work body = mark 0 ∷ (nodes body 1 ++ mark (exit_of body) ∷ [])

-- an `if` goes into the first branch where its condition may be true, into the second where it may be false, and on to its join
abbrev pub branch_work : Bool → Statements → Statements → ℕ → List Item → List Item
branch_work truth first second n rest = (if truth then nodes first n else nodes second (n + points_in first))
    ++ (mark (join_of first second n) ∷ rest)

-- the body of a loop whose head is n, and its end
abbrev pub body_work : LoopKind → Condition → Statements → (line n : ℕ) → List Item → List Item
body_work kind c body line n rest = nodes body (n + 1) ++ (end kind c body line n ∷ rest)

-- deeds one after another, which make no points
abbrev pub deeds_work : List Deed → List Item → List Item
deeds_work [] rest = rest
deeds_work (d ∷ ds) rest = node (statement_by d) 0 ∷ deeds_work ds rest

-- behind its head a `while` and a `for` do their prelude and test their condition, a `do` goes into its body
abbrev pub head_work : LoopKind → Condition → Statements → (line n : ℕ) → List Item → List Item
head_work (while_loop p) c body line n rest = deeds_work p (turn (while_loop p) c body line n ∷ rest)
head_work (for_loop p g) c body line n rest = deeds_work p (turn (for_loop p g) c body line n ∷ rest)
head_work (do_loop p) c body line n rest = body_work (do_loop p) c body line n rest

-- where the condition of a loop may be true, a `while` and a `for` go into the body, a `do` goes to its head again
abbrev pub again_work : LoopKind → Condition → Statements → (line n : ℕ) → List Item → List Item
again_work (while_loop p) c body line n rest = body_work (while_loop p) c body line n rest
again_work (for_loop p g) c body line n rest = body_work (for_loop p g) c body line n rest
again_work (do_loop p) c body line n rest = node (loop (do_loop p) c body line) n ∷ rest

-- and where it may be false, all go past the loop
abbrev pub turn_work : Bool → LoopKind → Condition → Statements → (line n : ℕ) → List Item → List Item
turn_work truth kind c body line n rest = if truth then again_work kind c body line n rest else rest

-- behind its body a `while` goes to its head, a `for` makes its change before that, a `do` does its prelude and tests its condition
abbrev pub end_work : LoopKind → Condition → Statements → (line n : ℕ) → List Item → List Item
end_work (while_loop p) c body line n rest = node (loop (while_loop p) c body line) n ∷ rest
end_work (for_loop p g) c body line n rest = deeds_work g (node (loop (for_loop p g) c body line) n ∷ rest)
end_work (do_loop p) c body line n rest = deeds_work p (turn (do_loop p) c body line n ∷ rest)

-- the work past the innermost loop: all up to the first end of a loop is dropped, and this end
abbrev pub past_loop : List Item → List Item
past_loop [] = []
past_loop (node s n ∷ rest) = past_loop rest
past_loop (mark p ∷ rest) = past_loop rest
past_loop (turn kind c body line n ∷ rest) = past_loop rest
past_loop (end kind c body line n ∷ rest) = rest

-- the work from the end of the innermost loop's body on: all before the first end of a loop is dropped
abbrev pub end_of_body : List Item → List Item
end_of_body [] = []
end_of_body (node s n ∷ rest) = end_of_body rest
end_of_body (mark p ∷ rest) = end_of_body rest
end_of_body (turn kind c body line n ∷ rest) = end_of_body rest
end_of_body (end kind c body line n ∷ rest) = end kind c body line n ∷ rest

-- one step with the first item, behind which `rest` is left, in a state: the work and the state after it; a `return` leaves the mark of
-- the exit alone
abbrev pub Does : (exit : ℕ) → Item → (rest : List Item) → State → List Item → State → Type 0
Does exit (mark p) rest x work y = (work ≡ rest) × (y ≡ x)
Does exit (node (set var form line) n) rest x work y = (work ≡ rest) × (y ≡ put (pos 0) x var (value form x))
Does exit (node (havoc var line) n) rest x work y = (z : ℤ) × (work ≡ rest) × (y ≡ put (pos 0) x var z)
Does exit (node (assume c line) n) rest x work y = MayBe true c x × (work ≡ (if splits c then mark n ∷ rest else rest)) × (y ≡ x)
Does exit (node (only_where c line) n) rest x work y = MayBe true c x × (work ≡ rest) × (y ≡ x)
Does exit (node (check about c line) n) rest x work y = (work ≡ rest) × (y ≡ x)
Does exit (node (branch c first second line) n) rest x work y = (truth : Bool) × MayBe truth c x × (work
    ≡ branch_work truth first second n rest)
    × (y ≡ x)
Does exit (node (loop kind c body line) n) rest x work y = (work ≡ mark n ∷ head_work kind c body line n rest) × (y ≡ x)
Does exit (node (jump breaks line) n) rest x work y = (work ≡ past_loop rest) × (y ≡ x)
Does exit (node (jump continues line) n) rest x work y = (work ≡ end_of_body rest) × (y ≡ x)
Does exit (node (jump returns line) n) rest x work y = (work ≡ mark exit ∷ []) × (y ≡ x)
Does exit (node (label name line) n) rest x work y = (work ≡ mark n ∷ rest) × (y ≡ x)
Does exit (turn kind c body line n) rest x work y = (truth : Bool) × MayBe truth c x × (work
    ≡ turn_work truth kind c body line n rest) × (y ≡ x)
Does exit (end kind c body line n) rest x work y = (work ≡ end_work kind c body line n rest) × (y ≡ x)

-- the work that is left, and a state
pub record Configuration : Type 0 where
  pub work : List Item
  pub state : State

-- the state of n variables that is left before this work: at a mark the hidden ones have no values any more
abbrev pub left_at : ℕ → List Item → State → State
left_at n [] x = x
left_at n (mark p ∷ rest) x = take n x
left_at n (node s m ∷ rest) x = x
left_at n (turn kind c body line m ∷ rest) x = x
left_at n (end kind c body line m ∷ rest) x = x

-- a step does the first item, over n variables and the hidden ones, in a program with this exit
pub record Step (n exit : ℕ) (before after : Configuration) : Type 0 where
  pub item : Item
  pub rest : List Item
  pub first : before.work ≡ item ∷ rest
  -- the state before hidden values are forgotten
  pub reached : State
  pub does : Does exit item rest before.state after.work reached
  pub left : after.state ≡ left_at n after.work reached

-- each configuration is a step from the one before it
abbrev pub Follows : (n exit : ℕ) → Configuration → List Configuration → Type 0
Follows n exit c [] = Unit {0}
Follows n exit c (d ∷ ds) = Step n exit c d × Follows n exit d ds

-- a run of a program: a list of configurations, the first of which is the start work with any state of so many variables
abbrev pub IsRun : ℕ → Statements → List Configuration → Type 0
IsRun variables body [] = ⊥
IsRun variables body (c ∷ cs) = (c.work ≡ start_work body) × (length c.state ≡ variables) × Follows variables (exit_of body) c cs

-- a configuration is at a point where the point's mark is the first item
abbrev pub IsAt : Configuration → ℕ → Type 0
IsAt c p = (rest : List Item) × (c.work ≡ mark p ∷ rest)

-- a configuration is at a check with a condition where this node is the first item
abbrev pub IsAtCheck : Configuration → Check → Condition → Type 0
IsAtCheck c about cond = (line n : ℕ) × (rest : List Item) × (c.work ≡ node (check about cond line) n ∷ rest)

-- a check with a condition is true in a run: where it stands the condition may not be false
abbrev pub CheckIsTrue : Check → Condition → List Configuration → Type 0
CheckIsTrue about cond run = (now : Configuration) → Contains run now → IsAtCheck now about cond → ¬ (MayBe false cond now.state)
