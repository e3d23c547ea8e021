-- A run by a machine's integers is one by all.
use Rattle.std.proofs.Common.{◌≡◌, ◌+◌, ℕ, Bool, true, false, List, [], ◌∷◌, ◌++◌, refl, sym, ap, ap₂, subst, ◌∙◌, arith}
use Rattle.std.specs.Prelude.{if◌then◌else◌}
use Rattle.lang_tree.specs.Tree.{Deed, sets, havocs, wheres, checks, breaks, continues, returns}
use Rattle.lang_tree.specs.Tree as tree
use Rattle.lang_tree.specs.Meaning.{State}
use Rattle.lang_tree.specs.PointNumbers as points
use Rattle.lang_tree.specs.PointNumbers.{splits}
use Rattle.base_integers.specs.declared.integers.Integers.{Integers}
use Rattle.base_integers.specs.declared.integers.Integers.TheVariants.{Mathematical}
use Rattle.source_tree.specs.Expressions.{Expression}
use Rattle.source_tree.specs.Statements.{Change, sets as set_to, evaluates, LoopKind, while_loop, for_loop, do_loop}
use Rattle.source_tree.specs.Statements.{Statement, Statements, declares, changes, assumes, asserts, never, branch, loop, jump, label, nil}
use Rattle.source_tree.specs.Statements.{cons}
use Rattle.source_core.specs.RunLaws.{MachineRunsAreRuns}
use Rattle.source_core.specs.Elaborated.{as_condition}
use Rattle.source_core.specs.Core.{behind, change_deeds, condition_of, core_of, core_in, points_of, points_in, taken_any}
use Rattle.source_core.specs.SourceRuns.{Item, node, change, mark, turn, end, Changes, Configuration, Does, Follows, nodes}
use Rattle.source_core.specs.SourceRuns.{body_work, branch_work, end_work, exit_of, head_work, start_work, turn_work}
use Rattle.source_core.proofs.expressions.Same.{may-by_all, all-by_all, elaborated_same}
use Rattle.source_core.proofs.runs.Work.{points-followed}

-- ---- points
-- deeds make no points
points_behind : (ds : List Deed) (rest : tree.Statements) → points.points_in (behind ds rest) ≡ points.points_in rest
points_behind [] rest = refl
points_behind (sets var f line ∷ ds) rest = let e = points_behind ds rest in omega (arith, e)
points_behind (havocs var line ∷ ds) rest = let e = points_behind ds rest in omega (arith, e)
points_behind (wheres c line ∷ ds) rest = let e = points_behind ds rest in omega (arith, e)
points_behind (checks about c line ∷ ds) rest = let e = points_behind ds rest in omega (arith, e)

module _ (integers : Integers) (n : ℕ) where
  condition_same : (line : ℕ) (e : Expression)
      → (condition_of integers n line e).condition ≡ (condition_of Mathematical n line e).condition
  condition_same line e = ap as_condition (elaborated_same integers line e n).0

  mutual
    -- a statement makes as many points by all integers
    points_same : (s : Statement) → points_of integers n s ≡ points_of Mathematical n s
    points_same (declares var line) =
        points_behind (taken_any integers var line) tree.nil ∙ sym (points_behind (taken_any Mathematical var line) tree.nil)
    points_same (changes g) =
        points_behind (change_deeds integers n g) tree.nil ∙ sym (points_behind (change_deeds Mathematical n g) tree.nil)
    points_same (assumes e line) =
        points_behind (condition_of integers n line e).prelude _
        ∙ ap (λ c. points.points_in (tree.cons (tree.assume c line) tree.nil)) (condition_same line e)
        ∙ sym (points_behind (condition_of Mathematical n line e).prelude _)
    points_same (asserts e at line) =
        points_behind (condition_of integers n line e).prelude _ ∙ sym (points_behind (condition_of Mathematical n line e).prelude _)
    points_same (never at line) = refl
    points_same (branch e first second line) =
        points_behind (condition_of integers n line e).prelude _
        ∙ ap₂ (λ a b. a + b + 1 + 0) (all_same first) (all_same second)
        ∙ sym (points_behind (condition_of Mathematical n line e).prelude _)
    points_same (loop kind e body line) = ap (λ k. 1 + k + 0) (all_same body)
    points_same (jump kind line) = refl
    points_same (label name line) = refl

    -- so do statements in order
    all_same : (ss : Statements) → points_in integers n ss ≡ points_in Mathematical n ss
    all_same nil = refl
    all_same (cons s ss) =
        points-followed (core_of integers n s) (core_in integers n ss) ∙ ap₂ (λ a b. a + b) (points_same s) (all_same ss)
        ∙ sym (points-followed (core_of Mathematical n s) (core_in Mathematical n ss))

  -- ---- work
  nodes_same : (ss : Statements) (m : ℕ) → nodes integers n ss m ≡ nodes Mathematical n ss m
  nodes_same nil m = refl
  nodes_same (cons s ss) m = ap (λ r. node s m ∷ r)
      (nodes_same ss (m + points_of integers n s) ∙ ap (λ k. nodes Mathematical n ss (m + k)) (points_same s))

  exit_same : (body : Statements) → exit_of integers n body ≡ exit_of Mathematical n body
  exit_same body = ap (λ k. k + 1) (all_same body)

  start_same : (body : Statements) → start_work integers n body ≡ start_work Mathematical n body
  start_same body = ap₂ (λ (w : List Item) k. mark 0 ∷ (w ++ mark k ∷ [])) (nodes_same body 1) (exit_same body)

  branch_same : (t : Bool) (first second : Statements) (m : ℕ) (rest : List Item)
      → branch_work integers n t first second m rest ≡ branch_work Mathematical n t first second m rest
  branch_same t first second m rest =
      ap₂ (λ (w : List Item) k. w ++ (mark k ∷ rest)) (one t)
      (ap₂ (λ a b. m + a + b) (all_same first) (all_same second))
    where
      one : (t : Bool) → (if t then nodes integers n first m else nodes integers n second (m + points_in integers n first))
          ≡ (if t then nodes Mathematical n first m else nodes Mathematical n second (m + points_in Mathematical n first))
      one true = nodes_same first m
      one false =
          nodes_same second (m + points_in integers n first) ∙ ap (λ k. nodes Mathematical n second (m + k)) (all_same first)

  body_same : (kind : LoopKind) (c : Expression) (body : Statements) (line m : ℕ) (rest : List Item)
      → body_work integers n kind c body line m rest ≡ body_work Mathematical n kind c body line m rest
  body_same kind c body line m rest = ap (λ (w : List Item). w ++ (end kind c body line m ∷ rest)) (nodes_same body (m + 1))

  head_same : (kind : LoopKind) (c : Expression) (body : Statements) (line m : ℕ) (rest : List Item)
      → head_work integers n kind c body line m rest ≡ head_work Mathematical n kind c body line m rest
  head_same while_loop c body line m rest = refl
  head_same (for_loop gs) c body line m rest = refl
  head_same do_loop c body line m rest = body_same do_loop c body line m rest

  turn_same : (t : Bool) (kind : LoopKind) (c : Expression) (body : Statements) (line m : ℕ) (rest : List Item)
      → turn_work integers n t kind c body line m rest ≡ turn_work Mathematical n t kind c body line m rest
  turn_same false kind c body line m rest = refl
  turn_same true while_loop c body line m rest = body_same while_loop c body line m rest
  turn_same true (for_loop gs) c body line m rest = body_same (for_loop gs) c body line m rest
  turn_same true do_loop c body line m rest = refl

  end_same : (kind : LoopKind) (c : Expression) (body : Statements) (line m : ℕ) (rest : List Item)
      → end_work integers n kind c body line m rest ≡ end_work Mathematical n kind c body line m rest
  end_same while_loop c body line m rest = refl
  end_same (for_loop gs) c body line m rest = refl
  end_same do_loop c body line m rest = refl

  -- ---- steps
  change_by_all : (g : Change) (x y : State) → Changes integers g x y → Changes Mathematical g x y
  change_by_all (set_to var e line) x y m = (m.0, m.1, may-by_all integers e x m.0 m.1 m.2, m.3)
  change_by_all (evaluates es line) x y m = all-by_all integers es x y m

  does_by_all : (exit : ℕ) (item : Item) (rest work : List Item) (x y : State) → Does integers n exit item rest x work y
      → Does Mathematical n exit item rest x work y
  does_by_all exit (mark p) rest work x y d = d
  does_by_all exit (change g) rest work x y d = (d.0, change_by_all g x y d.1)
  does_by_all exit (node (declares var line) m) rest work x y d = (d.0, tt, d.2, d.3)
  does_by_all exit (node (changes g) m) rest work x y d = (d.0, change_by_all g x y d.1)
  does_by_all exit (node (assumes e line) m) rest work x y d = (
    d.0,
    may-by_all integers e x d.0 y d.1,
    d.2,
    d.3 ∙ ap (λ c. if splits c then mark m ∷ rest else rest) (condition_same line e),
  )
  does_by_all exit (node (asserts e at line) m) rest work x y d = (d.0, may-by_all integers e x d.0 y d.1, d.2, d.3)
  does_by_all exit (node (never at line) m) rest work x y d = d
  does_by_all exit (node (branch e first second line) m) rest work x y d =
      (d.0, d.1, may-by_all integers e x d.0 y d.2, d.3, d.4 ∙ branch_same d.1 first second m rest)
  does_by_all exit (node (loop kind e body line) m) rest work x y d =
      (d.0 ∙ ap (λ w. mark m ∷ w) (head_same kind e body line m rest), d.1)
  does_by_all exit (node (jump breaks line) m) rest work x y d = d
  does_by_all exit (node (jump continues line) m) rest work x y d = d
  does_by_all exit (node (jump returns line) m) rest work x y d = d
  does_by_all exit (node (label name line) m) rest work x y d = d
  does_by_all exit (turn kind e body line m) rest work x y d =
      (d.0, d.1, may-by_all integers e x d.0 y d.2, d.3, d.4 ∙ turn_same d.1 kind e body line m rest)
  does_by_all exit (end kind e body line m) rest work x y d = (d.0 ∙ end_same kind e body line m rest, d.1)

  follows_by_all : (exit : ℕ) (c : Configuration) (cs : List Configuration) → Follows integers n exit c cs
      → Follows Mathematical n exit c cs
  follows_by_all exit c [] f = tt
  follows_by_all exit c (d ∷ ds) f = (
    record {
      item = f.0.item;
      rest = f.0.rest;
      first = f.0.first;
      does = does_by_all exit f.0.item f.0.rest d.work c.state d.state f.0.does;
    },
    follows_by_all exit d ds f.1,
  )

-- the law
pub machine-runs : MachineRunsAreRuns
machine-runs integers n body [] r = absurd r
machine-runs integers n body (c ∷ cs) r = (
  r.0 ∙ start_same integers n body,
  r.1,
  (λ i l. tt),
  subst (λ k. Follows Mathematical n k c cs) (exit_same integers n body)
      (follows_by_all integers n (exit_of integers n body) c cs r.3),
)
