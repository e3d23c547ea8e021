-- Runs of a source program over integer states, by the list of work that is left to do, and by all integers or by those of a machine. An
-- operation without a value, which one that overflows is, ends a run, and so does an assumption that is false. Points are those of the
-- core.
use Rattle.std.specs.Prelude.{◌≡◌, ◌≢◌, ◌⊎◌, ℕ, ℤ, pos, ◌+◌, Bool, List, [], ◌∷◌, ◌++◌, length, if◌then◌else◌, Contains}
use Rattle.lang_tree.specs.declared.check.Check.{Check}
use Rattle.lang_tree.specs.declared.check.CheckKind.TheVariants.{Assert, Error}
use Rattle.lang_tree.specs.Tree.{breaks, continues, returns}
use Rattle.lang_tree.specs.Meaning.{State, put}
use Rattle.lang_tree.specs.PointNumbers.{splits}
use Rattle.base_integers.specs.declared.integers.Integers.{Integers}
use Rattle.base_integers.specs.Integers.{Has}
use Rattle.source_tree.specs.Expressions.{Expression}
use Rattle.source_tree.specs.Values.{Tells, May, AllMay, Breaks, SomeBreaks}
use Rattle.source_tree.specs.Statements.{Change, sets, evaluates, LoopKind, while_loop, for_loop, do_loop}
use Rattle.source_tree.specs.Statements.{Statement, Statements, declares, changes, assumes, asserts, never, branch, loop, jump, label, nil}
use Rattle.source_tree.specs.Statements.{cons}
use Rattle.source_core.specs.Laws.{AreIn}
use Rattle.source_core.specs.Core.{condition_of, points_of, points_in}

-- a node: a statement with the number of the first point that it makes; a change of a `for`; the mark of a point; the turn of a loop, at
-- which its condition is tested; or the end of a loop's body
pub data Item : Type 0 where
  node : Statement → ℕ → Item
  change : Change → Item
  mark : ℕ → Item
  turn : LoopKind → Expression → Statements → (line head : ℕ) → Item
  end : LoopKind → Expression → Statements → (line head : ℕ) → Item

-- a change may lead from one state to another
abbrev pub Changes : Integers → Change → State → State → Type 0
Changes integers (sets var e line) x y = (z : ℤ) × (u : State) × May integers e x z u × (y ≡ put (pos 0) u var z)
Changes integers (evaluates es line) x y = AllMay integers es x y

-- the work past the innermost loop
abbrev pub past_loop : List Item → List Item
past_loop [] = []
past_loop (node s m ∷ rest) = past_loop rest
past_loop (change g ∷ rest) = past_loop rest
past_loop (mark p ∷ rest) = past_loop rest
past_loop (turn kind c body line m ∷ rest) = past_loop rest
past_loop (end kind c body line m ∷ rest) = rest

-- the work from the end of the innermost loop's body on
abbrev pub end_of_body : List Item → List Item
end_of_body [] = []
end_of_body (node s m ∷ rest) = end_of_body rest
end_of_body (change g ∷ rest) = end_of_body rest
end_of_body (mark p ∷ rest) = end_of_body rest
end_of_body (turn kind c body line m ∷ rest) = end_of_body rest
end_of_body (end kind c body line m ∷ rest) = end kind c body line m ∷ rest

-- the changes of a `for` in order, and other work behind them
abbrev pub changes_work : List Change → List Item → List Item
changes_work [] rest = rest
changes_work (g ∷ gs) rest = change g ∷ changes_work gs rest

-- by these integers, over n variables
module _ (integers : Integers) (n : ℕ) where
  -- the nodes of a list of statements, the first point that they make being m
  abbrev pub nodes : Statements → ℕ → List Item
  nodes nil m = []
  nodes (cons s rest) m = node s m ∷ nodes rest (m + points_of integers n s)

  -- the number of the exit, behind all other points
  abbrev pub exit_of : Statements → ℕ
  exit_of body = points_in integers n body + 1

  -- the entry's mark, the nodes of the body, and the exit's mark
  abbrev pub start_work : Statements → List Item
  start_work body = mark 0 ∷ (nodes body 1 ++ mark (exit_of body) ∷ [])

  -- a branch of an `if`, and then the mark of the point behind both
  abbrev pub branch_work : Bool → Statements → Statements → ℕ → List Item → List Item
  branch_work truth first second m rest = (if truth then nodes first m else nodes second (m + points_in integers n first))
      ++ (mark (m + points_in integers n first + points_in integers n second) ∷ rest)

  -- the body of a loop and its end
  abbrev pub body_work : LoopKind → Expression → Statements → (line m : ℕ) → List Item → List Item
  body_work kind c body line m rest = nodes body (m + 1) ++ (end kind c body line m ∷ rest)

  -- behind its head a `while` and a `for` test their condition, a `do` goes into its body
  abbrev pub head_work : LoopKind → Expression → Statements → (line m : ℕ) → List Item → List Item
  head_work while_loop c body line m rest = turn while_loop c body line m ∷ rest
  head_work (for_loop gs) c body line m rest = turn (for_loop gs) c body line m ∷ rest
  head_work do_loop c body line m rest = body_work do_loop c body line m rest

  -- where the condition is true a `while` and a `for` go into the body, a `do` goes to its head again
  abbrev pub again_work : LoopKind → Expression → Statements → (line m : ℕ) → List Item → List Item
  again_work while_loop c body line m rest = body_work while_loop c body line m rest
  again_work (for_loop gs) c body line m rest = body_work (for_loop gs) c body line m rest
  again_work do_loop c body line m rest = node (loop do_loop c body line) m ∷ rest

  -- behind its turn a loop goes on where the condition is true, and is left where it is false
  abbrev pub turn_work : Bool → LoopKind → Expression → Statements → (line m : ℕ) → List Item → List Item
  turn_work truth kind c body line m rest = if truth then again_work kind c body line m rest else rest

  -- behind its body a `while` goes to its head, a `for` makes its changes before that, a `do` tests its condition
  abbrev pub end_work : LoopKind → Expression → Statements → (line m : ℕ) → List Item → List Item
  end_work while_loop c body line m rest = node (loop while_loop c body line) m ∷ rest
  end_work (for_loop gs) c body line m rest = changes_work gs (node (loop (for_loop gs) c body line) m ∷ rest)
  end_work do_loop c body line m rest = turn do_loop c body line m ∷ rest

  -- one step with the first item, behind which `rest` is left, in a state: the work and the state after it
  abbrev pub Does : (exit : ℕ) → Item → (rest : List Item) → State → List Item → State → Type 0
  Does exit (mark p) rest x work y = (work ≡ rest) × (y ≡ x)
  Does exit (change g) rest x work y = (work ≡ rest) × Changes integers g x y
  Does exit (node (declares var line) m) rest x work y = (z : ℤ) × Has integers z × (work ≡ rest) × (y ≡ put (pos 0) x var z)
  Does exit (node (changes g) m) rest x work y = (work ≡ rest) × Changes integers g x y
  Does exit (node (assumes e line) m) rest x work y = (z : ℤ) × May integers e x z y × (z ≢ pos 0)
      × (work ≡ (if splits (condition_of integers n line e).condition then mark m ∷ rest else rest))
  Does exit (node (asserts e at line) m) rest x work y = (z : ℤ) × May integers e x z y × (z ≢ pos 0) × (work ≡ rest)
  Does exit (node (never at line) m) rest x work y = (work ≡ rest) × (y ≡ x)
  Does exit (node (branch e first second line) m) rest x work y = (z : ℤ) × (t : Bool) × May integers e x z y × Tells t z
      × (work ≡ branch_work t first second m rest)
  Does exit (node (loop kind e body line) m) rest x work y = (work ≡ mark m ∷ head_work kind e body line m rest) × (y ≡ x)
  Does exit (node (jump breaks line) m) rest x work y = (work ≡ past_loop rest) × (y ≡ x)
  Does exit (node (jump continues line) m) rest x work y = (work ≡ end_of_body rest) × (y ≡ x)
  Does exit (node (jump returns line) m) rest x work y = (work ≡ mark exit ∷ []) × (y ≡ x)
  Does exit (node (label name line) m) rest x work y = (work ≡ mark m ∷ rest) × (y ≡ x)
  Does exit (turn kind e body line m) rest x work y = (z : ℤ) × (t : Bool) × May integers e x z y × Tells t z
      × (work ≡ turn_work t kind e body line m rest)
  Does exit (end kind e body line m) rest x work y = (work ≡ end_work kind e body line m rest) × (y ≡ x)

-- the work that is left, and a state
pub record Configuration : Type 0 where
  pub work : List Item
  pub state : State

-- a step from one configuration to another
pub record Step (integers : Integers) (n exit : ℕ) (before after : Configuration) : Type 0 where
  pub item : Item
  pub rest : List Item
  pub first : before.work ≡ item ∷ rest
  pub does : Does integers n exit item rest before.state after.work after.state

-- each configuration is a step from the one before it
abbrev pub Follows : Integers → (n exit : ℕ) → Configuration → List Configuration → Type 0
Follows integers n exit c [] = Unit {0}
Follows integers n exit c (d ∷ ds) = Step integers n exit c d × Follows integers n exit d ds

-- a run of a function of n variables by these integers: the first configuration is the start work with any state of them
abbrev pub IsRun : Integers → ℕ → Statements → List Configuration → Type 0
IsRun integers n body [] = ⊥
IsRun integers n body (c ∷ cs) =
    (c.work ≡ start_work integers n body) × (length c.state ≡ n) × AreIn integers n c.state
    × Follows integers n (exit_of integers n body) c cs

-- a configuration is at a point
abbrev pub IsAt : Configuration → ℕ → Type 0
IsAt c p = (rest : List Item) × (c.work ≡ mark p ∷ rest)

-- in a change a check may not be true
abbrev pub ChangeBreaks : Integers → Change → State → Check → Type 0
ChangeBreaks integers (sets var e line) x about = Breaks integers e x about
ChangeBreaks integers (evaluates es line) x about = SomeBreaks integers es x about

-- with this first item, in a state, a check may not be true: of an operation without a value, an assertion, or a place not to be reached
abbrev pub ItemBreaks : Integers → Item → State → Check → Type 0
ItemBreaks integers (mark p) x about = ⊥
ItemBreaks integers (change g) x about = ChangeBreaks integers g x about
ItemBreaks integers (node (declares var line) m) x about = ⊥
ItemBreaks integers (node (changes g) m) x about = ChangeBreaks integers g x about
ItemBreaks integers (node (assumes e line) m) x about = Breaks integers e x about
ItemBreaks integers (node (asserts e at line) m) x about = Breaks integers e x about
    ⊎ ((y : State) × May integers e x (pos 0) y × (about ≡ record { kind = Assert; at = at }))
ItemBreaks integers (node (never at line) m) x about = about ≡ record { kind = Error; at = at }
ItemBreaks integers (node (branch e first second line) m) x about = Breaks integers e x about
ItemBreaks integers (node (loop kind e body line) m) x about = ⊥
ItemBreaks integers (node (jump kind line) m) x about = ⊥
ItemBreaks integers (node (label name line) m) x about = ⊥
ItemBreaks integers (turn kind e body line m) x about = Breaks integers e x about
ItemBreaks integers (end kind e body line m) x about = ⊥

-- a check is true in a run: at no configuration of it does its first item break it
abbrev pub CheckIsTrue : Integers → Check → List Configuration → Type 0
CheckIsTrue integers about run = (c : Configuration) → Contains run c → (item : Item) → (rest : List Item) → c.work ≡ item ∷ rest
    → ¬ (ItemBreaks integers item c.state about)
