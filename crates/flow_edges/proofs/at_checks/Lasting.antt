-- What is so of all work that a run of a program has left: jumps stand before the end of a loop, and a mark comes last.
use Rattle.std.proofs.Common.{◌≡◌, ℕ, ◌+◌, Bool, true, false, List, [], ◌∷◌, ◌++◌, refl, sym, subst}
use Rattle.std.specs.Prelude.{◌&&◌, IsTrue, if◌then◌else◌}
use Rattle.std.proofs.lemmas.Bool.{and_parts}
use Rattle.lang_tree.specs.Tree.{Condition, Deed, sets, havocs, wheres, checks, LoopKind, while_loop, for_loop, do_loop, breaks, continues}
use Rattle.lang_tree.specs.Tree.{returns}
use Rattle.lang_tree.specs.Tree.{Statement, Statements, set, havoc, assume, only_where, check, branch, loop, jump, label, nil, cons}
use Rattle.lang_tree.specs.Limits.{is_tested, is_jump, is_kind, is_statement, are_statements}
use Rattle.lang_tree.specs.Meaning.{State}
use Rattle.lang_tree.specs.PointNumbers.{splits, points_of, points_in, join_of, exit_of}
use Rattle.lang_tree.specs.Runs.{Item, node, mark, turn, end, nodes, start_work, branch_work, body_work, head_work, again_work, turn_work}
use Rattle.lang_tree.specs.Runs.{deeds_work, end_work}
use Rattle.lang_tree.specs.Runs.{past_loop, end_of_body, Does}

-- ---- jumps in loops
abbrev mutual
  -- the jumps of a statement stand in loops; `inside` says whether the statement itself stands in one
  pub Stands : (inside : Bool) → Statement → Type 0
  Stands inside (set var form line) = Unit {0}
  Stands inside (havoc var line) = Unit {0}
  Stands inside (assume c line) = Unit {0}
  Stands inside (only_where c line) = Unit {0}
  Stands inside (check about c line) = Unit {0}
  Stands inside (branch c first second line) = AllStand inside first × AllStand inside second
  Stands inside (loop kind c body line) = AllStand true body
  Stands inside (jump kind line) = IsTrue (is_jump inside kind)
  Stands inside (label name line) = Unit {0}

  -- so do those of a list of statements
  pub AllStand : (inside : Bool) → Statements → Type 0
  AllStand inside nil = Unit {0}
  AllStand inside (cons s rest) = Stands inside s × AllStand inside rest

mutual
  statement_stands : (n : ℕ) (inside : Bool) (s : Statement) → IsTrue (is_statement n inside s) → Stands inside s
  statement_stands n inside (set var form line) h = tt
  statement_stands n inside (havoc var line) h = tt
  statement_stands n inside (assume c line) h = tt
  statement_stands n inside (only_where c line) h = tt
  statement_stands n inside (check about c line) h = tt
  statement_stands n inside (branch c first second line) h =
      let p = and_parts (is_tested n c) (are_statements n inside first && are_statements n inside second) h in
      let q = and_parts (are_statements n inside first) (are_statements n inside second) p.1 in
      (statements_stand n inside first q.0, statements_stand n inside second q.1)
  statement_stands n inside (loop kind c body line) h =
      let p = and_parts (is_tested n c) (is_kind n kind && are_statements n true body) h in
      statements_stand n true body (and_parts (is_kind n kind) (are_statements n true body) p.1).1
  statement_stands n inside (jump kind line) h = h
  statement_stands n inside (label name line) h = tt

  -- the jumps of statements within the limits stand in loops
  pub statements_stand : (n : ℕ) (inside : Bool) (ss : Statements) → IsTrue (are_statements n inside ss) → AllStand inside ss
  statements_stand n inside nil h = tt
  statements_stand n inside (cons s rest) h =
      let p = and_parts (is_statement n inside s) (are_statements n inside rest) h in
      (statement_stands n inside s p.0, statements_stand n inside rest p.1)

-- ---- work
-- whether the end of a loop's body is in the work
abbrev pub in_loop : List Item → Bool
in_loop [] = false
in_loop (mark p ∷ rest) = in_loop rest
in_loop (node s n ∷ rest) = in_loop rest
in_loop (turn kind c body line n ∷ rest) = in_loop rest
in_loop (end kind c body line n ∷ rest) = true

-- something is left to do
abbrev pub HasMore : List Item → Type 0
HasMore [] = ⊥
HasMore (item ∷ rest) = Unit {0}

-- no item but a mark comes last, and the jumps of each statement stand in its loops or before the end of a loop
abbrev pub Lasting : List Item → Type 0
Lasting [] = Unit {0}
Lasting (mark p ∷ rest) = Lasting rest
Lasting (node s n ∷ rest) = Stands (in_loop rest) s × HasMore rest × Lasting rest
Lasting (turn kind c body line n ∷ rest) = AllStand true body × HasMore rest × Lasting rest
Lasting (end kind c body line n ∷ rest) = AllStand true body × HasMore rest × Lasting rest

in_loop-nodes : (ss : Statements) (n : ℕ) (rest : List Item) → in_loop (nodes ss n ++ rest) ≡ in_loop rest
in_loop-nodes nil n rest = refl
in_loop-nodes (cons s more) n rest = in_loop-nodes more (n + points_of s) rest

more-nodes : (ss : Statements) (n : ℕ) (rest : List Item) → HasMore rest → HasMore (nodes ss n ++ rest)
more-nodes nil n rest h = h
more-nodes (cons s more) n rest h = tt

nodes_last : (ss : Statements) (n : ℕ) (rest : List Item) → AllStand (in_loop rest) ss → HasMore rest → Lasting rest
    → Lasting (nodes ss n ++ rest)
nodes_last nil n rest a h l = l
nodes_last (cons s more) n rest a h l =
    let m = n + points_of s in (
      subst (λ b. Stands b s) (sym (in_loop-nodes more m rest)) a.0,
      more-nodes more m rest h,
      nodes_last more m rest a.1 h l,
    )

past_lasts : (rest : List Item) → Lasting rest → Lasting (past_loop rest)
past_lasts [] l = l
past_lasts (mark p ∷ rest) l = past_lasts rest l
past_lasts (node s n ∷ rest) l = past_lasts rest l.2
past_lasts (turn kind c body line n ∷ rest) l = past_lasts rest l.2
past_lasts (end kind c body line n ∷ rest) l = l.2

end_lasts : (rest : List Item) → Lasting rest → Lasting (end_of_body rest)
end_lasts [] l = l
end_lasts (mark p ∷ rest) l = end_lasts rest l
end_lasts (node s n ∷ rest) l = end_lasts rest l.2
end_lasts (turn kind c body line n ∷ rest) l = end_lasts rest l.2
end_lasts (end kind c body line n ∷ rest) l = l

-- ---- what the steps leave
mark_if : (b : Bool) (n : ℕ) (rest : List Item) → Lasting rest → Lasting (if b then mark n ∷ rest else rest)
mark_if true n rest l = l
mark_if false n rest l = l

branch_lasts : (truth : Bool) (first second : Statements) (n : ℕ) (rest : List Item) → AllStand (in_loop rest) first
    → AllStand (in_loop rest) second → Lasting rest → Lasting (branch_work truth first second n rest)
branch_lasts true first second n rest a b l = nodes_last first n (mark (join_of first second n) ∷ rest) a tt l
branch_lasts false first second n rest a b l = nodes_last second (n + points_in first) (mark (join_of first second n) ∷ rest) b tt l

body_lasts : (kind : LoopKind) (c : Condition) (body : Statements) (line n : ℕ) (rest : List Item) → AllStand true body → HasMore rest
    → Lasting rest → Lasting (body_work kind c body line n rest)
body_lasts kind c body line n rest a h l = nodes_last body (n + 1) (end kind c body line n ∷ rest) a tt (a, h, l)

deeds_last : (ds : List Deed) (rest : List Item) → HasMore rest → Lasting rest → Lasting (deeds_work ds rest) × HasMore (deeds_work ds rest)
deeds_last [] rest h l = (l, h)
deeds_last (sets var form line ∷ ds) rest h l = let r = deeds_last ds rest h l in ((tt, r.1, r.0), tt)
deeds_last (havocs var line ∷ ds) rest h l = let r = deeds_last ds rest h l in ((tt, r.1, r.0), tt)
deeds_last (wheres c line ∷ ds) rest h l = let r = deeds_last ds rest h l in ((tt, r.1, r.0), tt)
deeds_last (checks about c line ∷ ds) rest h l = let r = deeds_last ds rest h l in ((tt, r.1, r.0), tt)

head_lasts : (kind : LoopKind) (c : Condition) (body : Statements) (line n : ℕ) (rest : List Item) → AllStand true body → HasMore rest
    → Lasting rest → Lasting (head_work kind c body line n rest)
head_lasts (while_loop p) c body line n rest a h l = (deeds_last p (turn (while_loop p) c body line n ∷ rest) tt (a, h, l)).0
head_lasts (for_loop p g) c body line n rest a h l = (deeds_last p (turn (for_loop p g) c body line n ∷ rest) tt (a, h, l)).0
head_lasts (do_loop p) c body line n rest a h l = body_lasts (do_loop p) c body line n rest a h l

again_lasts : (kind : LoopKind) (c : Condition) (body : Statements) (line n : ℕ) (rest : List Item) → AllStand true body → HasMore rest
    → Lasting rest → Lasting (again_work kind c body line n rest)
again_lasts (while_loop p) c body line n rest a h l = body_lasts (while_loop p) c body line n rest a h l
again_lasts (for_loop p g) c body line n rest a h l = body_lasts (for_loop p g) c body line n rest a h l
again_lasts (do_loop p) c body line n rest a h l = (a, h, l)

turn_lasts : (truth : Bool) (kind : LoopKind) (c : Condition) (body : Statements) (line n : ℕ) (rest : List Item) → AllStand true body
    → HasMore rest → Lasting rest → Lasting (turn_work truth kind c body line n rest)
turn_lasts true kind c body line n rest a h l = again_lasts kind c body line n rest a h l
turn_lasts false kind c body line n rest a h l = l

end_of_lasts : (kind : LoopKind) (c : Condition) (body : Statements) (line n : ℕ) (rest : List Item) → AllStand true body → HasMore rest
    → Lasting rest → Lasting (end_work kind c body line n rest)
end_of_lasts (while_loop p) c body line n rest a h l = (a, h, l)
end_of_lasts (for_loop p g) c body line n rest a h l = (deeds_last g (node (loop (for_loop p g) c body line) n ∷ rest) tt (a, h, l)).0
end_of_lasts (do_loop p) c body line n rest a h l = (deeds_last p (turn (do_loop p) c body line n ∷ rest) tt (a, h, l)).0

-- a step keeps it so
pub step_lasts : (exit : ℕ) (item : Item) (rest : List Item) (x : State) (work : List Item) (y : State) → Does exit item rest x work y
    → Lasting (item ∷ rest) → Lasting work
step_lasts exit (mark p) rest x work y d l = subst Lasting (sym d.0) l
step_lasts exit (node (set var form line) n) rest x work y d l = subst Lasting (sym d.0) l.2
step_lasts exit (node (havoc var line) n) rest x work y d l = subst Lasting (sym d.1) l.2
step_lasts exit (node (assume c line) n) rest x work y d l = subst Lasting (sym d.1) (mark_if (splits c) n rest l.2)
step_lasts exit (node (only_where c line) n) rest x work y d l = subst Lasting (sym d.1) l.2
step_lasts exit (node (check about c line) n) rest x work y d l = subst Lasting (sym d.0) l.2
step_lasts exit (node (branch c first second line) n) rest x work y d l =
    subst Lasting (sym d.2) (branch_lasts d.0 first second n rest l.0.0 l.0.1 l.2)
step_lasts exit (node (loop kind c body line) n) rest x work y d l = subst Lasting (sym d.0)
    (head_lasts kind c body line n rest l.0 l.1 l.2)
step_lasts exit (node (jump breaks line) n) rest x work y d l = subst Lasting (sym d.0) (past_lasts rest l.2)
step_lasts exit (node (jump continues line) n) rest x work y d l = subst Lasting (sym d.0) (end_lasts rest l.2)
step_lasts exit (node (jump returns line) n) rest x work y d l = subst Lasting (sym d.0) tt
step_lasts exit (node (label name line) n) rest x work y d l = subst Lasting (sym d.0) l.2
step_lasts exit (turn kind c body line n) rest x work y d l =
    subst Lasting (sym d.2) (turn_lasts d.0 kind c body line n rest l.0 l.1 l.2)
step_lasts exit (end kind c body line n) rest x work y d l =
    subst Lasting (sym d.0) (end_of_lasts kind c body line n rest l.0 l.1 l.2)

-- and it is so at the start
pub start_lasts : (body : Statements) → AllStand false body → Lasting (start_work body)
start_lasts body a = nodes_last body 1 (mark (exit_of body) ∷ []) a tt tt
