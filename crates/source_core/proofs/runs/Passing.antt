-- Work of which everything passes a test leads to such work.
use Rattle.std.proofs.Common.{◌+◌, ℕ, Bool, true, false, List, [], ◌∷◌, ◌++◌, refl, sym, subst}
use Rattle.std.specs.Prelude.{◌&&◌, IsTrue, if◌then◌else◌}
use Rattle.std.specs.List.{list_all}
use Rattle.lang_tree.specs.Meaning.{State}
use Rattle.lang_tree.specs.PointNumbers.{splits}
use Rattle.lang_tree.specs.Tree.{breaks, continues, returns}
use Rattle.base_integers.specs.declared.integers.Integers.{Integers}
use Rattle.source_tree.specs.Expressions.{Expression}
use Rattle.source_tree.specs.Statements.{Change, LoopKind, while_loop, for_loop, do_loop}
use Rattle.source_tree.specs.Statements.{Statement, Statements, declares, changes, assumes, asserts, never, branch}
use Rattle.source_tree.specs.Statements.{loop, jump, label, nil, cons}
use Rattle.source_core.specs.RunLaws.{Test, kind_passes, passes, all_pass}
use Rattle.source_core.specs.Core.{condition_of, points_in}
use Rattle.source_core.specs.SourceRuns.{Item, node, change, mark, turn, end, Does, nodes, past_loop, end_of_body}
use Rattle.source_core.specs.SourceRuns.{body_work, branch_work, changes_work, end_work, head_work, turn_work}
use Rattle.source_core.proofs.forms.Tests.{both_of, both_from}

module _ (test : Test) where
  -- an item passes
  abbrev pub item_passes : Item → Type 0
  item_passes (node s m) = IsTrue (passes test s)
  item_passes (change g) = IsTrue (test.changed g)
  item_passes (mark p) = Unit {0}
  item_passes (turn kind e body line m) = IsTrue (passes test (loop kind e body line))
  item_passes (end kind e body line m) = IsTrue (passes test (loop kind e body line))

  -- all items pass
  abbrev pub work_passes : List Item → Type 0
  work_passes [] = Unit {0}
  work_passes (i ∷ is) = item_passes i × work_passes is

  -- the nodes of statements that pass, and such work behind them
  pub passing-nodes : (integers : Integers) (n : ℕ) (ss : Statements) (m : ℕ) (is : List Item) → IsTrue (all_pass test ss)
      → work_passes is → work_passes (nodes integers n ss m ++ is)
  passing-nodes integers n nil m is o w = w
  passing-nodes integers n (cons s ss) m is o w =
      let p = both_of (passes test s) (all_pass test ss) o in (p.0, passing-nodes integers n ss _ is p.1 w)

  -- past the innermost loop
  passing-past : (is : List Item) → work_passes is → work_passes (past_loop is)
  passing-past [] w = tt
  passing-past (node s m ∷ is) w = passing-past is w.1
  passing-past (change g ∷ is) w = passing-past is w.1
  passing-past (mark p ∷ is) w = passing-past is w.1
  passing-past (turn kind e body line m ∷ is) w = passing-past is w.1
  passing-past (end kind e body line m ∷ is) w = w.1

  -- from the end of the innermost loop's body on
  passing-ending : (is : List Item) → work_passes is → work_passes (end_of_body is)
  passing-ending [] w = tt
  passing-ending (node s m ∷ is) w = passing-ending is w.1
  passing-ending (change g ∷ is) w = passing-ending is w.1
  passing-ending (mark p ∷ is) w = passing-ending is w.1
  passing-ending (turn kind e body line m ∷ is) w = passing-ending is w.1
  passing-ending (end kind e body line m ∷ is) w = w

  -- the changes of a `for`
  passing-changes : (gs : List Change) (is : List Item) → IsTrue (list_all test.changed gs) → work_passes is
      → work_passes (changes_work gs is)
  passing-changes [] is o w = w
  passing-changes (g ∷ gs) is o w =
      let p = both_of (test.changed g) (list_all test.changed gs) o in (p.0, passing-changes gs is p.1 w)

  -- the condition of a loop
  pub loop_tested : (kind : LoopKind) (e : Expression) (body : Statements) (line : ℕ) → IsTrue (passes test (loop kind e body line))
      → IsTrue (test.tested line e)
  loop_tested kind e body line o =
      (both_of (test.tested line e) (all_pass test body)
      (both_of (kind_passes test kind) (test.tested line e && all_pass test body) o).1).0

  -- the condition of an `if`
  pub branch_tested : (e : Expression) (first second : Statements) (line : ℕ) → IsTrue (passes test (branch e first second line))
      → IsTrue (test.tested line e)
  branch_tested e first second line o = (both_of (test.tested line e) (all_pass test first && all_pass test second) o).0

  module _ (integers : Integers) (n : ℕ) where
    passing-body : (kind : LoopKind) (e : Expression) (body : Statements) (line m : ℕ) (is : List Item)
        → IsTrue (passes test (loop kind e body line)) → work_passes is → work_passes (body_work integers n kind e body line m is)
    passing-body kind e body line m is o w =
        let p = both_of (kind_passes test kind) (test.tested line e && all_pass test body) o in
        let q = both_of (test.tested line e) (all_pass test body) p.1 in passing-nodes integers n body (m + 1) _ q.1 (o, w)

    passing-branch : (t : Bool) (e : Expression) (first second : Statements) (line m : ℕ) (is : List Item)
        → IsTrue (passes test (branch e first second line)) → work_passes is
        → work_passes (branch_work integers n t first second m is)
    passing-branch t e first second line m is o w =
        let p = both_of (test.tested line e) (all_pass test first && all_pass test second) o in
        let q = both_of (all_pass test first) (all_pass test second) p.1 in by t q.0 q.1
      where
        by : (t : Bool) → IsTrue (all_pass test first) → IsTrue (all_pass test second)
            → work_passes (branch_work integers n t first second m is)
        by true p q = passing-nodes integers n first m _ p (tt, w)
        by false p q = passing-nodes integers n second (m + points_in integers n first) _ q (tt, w)

    passing-head : (kind : LoopKind) (e : Expression) (body : Statements) (line m : ℕ) (is : List Item)
        → IsTrue (passes test (loop kind e body line)) → work_passes is → work_passes (head_work integers n kind e body line m is)
    passing-head while_loop e body line m is o w = (o, w)
    passing-head (for_loop gs) e body line m is o w = (o, w)
    passing-head do_loop e body line m is o w = passing-body do_loop e body line m is o w

    passing-turn : (t : Bool) (kind : LoopKind) (e : Expression) (body : Statements) (line m : ℕ) (is : List Item)
        → IsTrue (passes test (loop kind e body line)) → work_passes is → work_passes (turn_work integers n t kind e body line m is)
    passing-turn true while_loop e body line m is o w = passing-body while_loop e body line m is o w
    passing-turn true (for_loop gs) e body line m is o w = passing-body (for_loop gs) e body line m is o w
    passing-turn true do_loop e body line m is o w = (o, w)
    passing-turn false kind e body line m is o w = w

    passing-end : (kind : LoopKind) (e : Expression) (body : Statements) (line m : ℕ) (is : List Item)
        → IsTrue (passes test (loop kind e body line)) → work_passes is → work_passes (end_work integers n kind e body line m is)
    passing-end while_loop e body line m is o w = (o, w)
    passing-end (for_loop gs) e body line m is o w =
        let p = both_of (kind_passes test (for_loop gs)) (test.tested line e && all_pass test body) o in passing-changes gs _ p.0 (o, w)
    passing-end do_loop e body line m is o w = (o, w)

    passing-split : (t : Bool) (m : ℕ) (is : List Item) → work_passes is → work_passes (if t then mark m ∷ is else is)
    passing-split true m is w = (tt, w)
    passing-split false m is w = w

    -- behind each step
    pub passing-does : (exit : ℕ) (item : Item) (rest work : List Item) (x y : State) → item_passes item → work_passes rest
        → Does integers n exit item rest x work y → work_passes work
    passing-does exit (mark p) rest work x y o w d = subst work_passes (sym d.0) w
    passing-does exit (change g) rest work x y o w d = subst work_passes (sym d.0) w
    passing-does exit (node (declares var line) m) rest work x y o w d = subst work_passes (sym d.2) w
    passing-does exit (node (changes g) m) rest work x y o w d = subst work_passes (sym d.0) w
    passing-does exit (node (assumes e line) m) rest work x y o w d =
        subst work_passes (sym d.3) (passing-split (splits (condition_of integers n line e).condition) m rest w)
    passing-does exit (node (asserts e at line) m) rest work x y o w d = subst work_passes (sym d.3) w
    passing-does exit (node (never at line) m) rest work x y o w d = subst work_passes (sym d.0) w
    passing-does exit (node (branch e first second line) m) rest work x y o w d =
        subst work_passes (sym d.4) (passing-branch d.1 e first second line m rest o w)
    passing-does exit (node (loop kind e body line) m) rest work x y o w d =
        subst work_passes (sym d.0) (tt, passing-head kind e body line m rest o w)
    passing-does exit (node (jump breaks line) m) rest work x y o w d = subst work_passes (sym d.0) (passing-past rest w)
    passing-does exit (node (jump continues line) m) rest work x y o w d = subst work_passes (sym d.0) (passing-ending rest w)
    passing-does exit (node (jump returns line) m) rest work x y o w d = subst work_passes (sym d.0) (tt, tt)
    passing-does exit (node (label name line) m) rest work x y o w d = subst work_passes (sym d.0) (tt, w)
    passing-does exit (turn kind e body line m) rest work x y o w d =
        subst work_passes (sym d.4) (passing-turn d.1 kind e body line m rest o w)
    passing-does exit (end kind e body line m) rest work x y o w d =
        subst work_passes (sym d.0) (passing-end kind e body line m rest o w)

-- ---- other tests
module _ (a b : Test) (declared : (i : ℕ) → IsTrue (a.declared i) → IsTrue (b.declared i))
    (changed : (g : Change) → IsTrue (a.changed g) → IsTrue (b.changed g))
    (tested : (line : ℕ) (e : Expression) → IsTrue (a.tested line e) → IsTrue (b.tested line e)) where
  changes-more : (gs : List Change) → IsTrue (list_all a.changed gs) → IsTrue (list_all b.changed gs)
  changes-more [] h = refl
  changes-more (g ∷ gs) h =
      let p = both_of (a.changed g) (list_all a.changed gs) h in
      both_from (b.changed g) (list_all b.changed gs) (changed g p.0) (changes-more gs p.1)

  kind-more : (kind : LoopKind) → IsTrue (kind_passes a kind) → IsTrue (kind_passes b kind)
  kind-more while_loop h = refl
  kind-more (for_loop gs) h = changes-more gs h
  kind-more do_loop h = refl

  mutual
    passes-more : (s : Statement) → IsTrue (passes a s) → IsTrue (passes b s)
    passes-more (declares var line) h = declared var h
    passes-more (changes g) h = changed g h
    passes-more (assumes e line) h = tested line e h
    passes-more (asserts e at line) h = tested line e h
    passes-more (never at line) h = refl
    passes-more (branch e first second line) h =
        let p = both_of (a.tested line e) (all_pass a first && all_pass a second) h in
        let q = both_of (all_pass a first) (all_pass a second) p.1 in
        both_from (b.tested line e) (all_pass b first && all_pass b second) (tested line e p.0)
        (both_from (all_pass b first) (all_pass b second) (all-pass-more first q.0) (all-pass-more second q.1))
    passes-more (loop kind e body line) h =
        let p = both_of (kind_passes a kind) (a.tested line e && all_pass a body) h in
        let q = both_of (a.tested line e) (all_pass a body) p.1 in
        both_from (kind_passes b kind) (b.tested line e && all_pass b body) (kind-more kind p.0)
        (both_from (b.tested line e) (all_pass b body) (tested line e q.0) (all-pass-more body q.1))
    passes-more (jump kind line) h = refl
    passes-more (label name line) h = refl

    -- what passes one test passes another that asks for no more
    pub all-pass-more : (ss : Statements) → IsTrue (all_pass a ss) → IsTrue (all_pass b ss)
    all-pass-more nil h = refl
    all-pass-more (cons s ss) h =
        let p = both_of (passes a s) (all_pass a ss) h in
        both_from (passes b s) (all_pass b ss) (passes-more s p.0) (all-pass-more ss p.1)
