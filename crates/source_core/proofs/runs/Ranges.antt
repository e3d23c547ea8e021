-- In each state of a run the variables are among the integers by which it goes.
use Rattle.std.proofs.Common.{◌≡◌, ⊎_elim, ℕ, List, [], ◌∷◌, sym, ap, subst}
use Rattle.std.specs.Prelude.{pos, nat_lt, IsTrue}
use Rattle.lang_tree.specs.Tree.{breaks, continues, returns}
use Rattle.lang_tree.specs.Meaning.{State, put}
use Rattle.base_integers.specs.declared.integers.Integers.{Integers}
use Rattle.source_tree.specs.Statements.{Change, sets, evaluates}
use Rattle.source_tree.specs.Statements.{declares, changes, assumes, asserts, never, branch, loop, jump, label}
use Rattle.source_core.specs.Laws.{is_over, AreIn}
use Rattle.source_core.specs.RunLaws.{is_change_over, over_test, StatesAreInRange}
use Rattle.source_core.specs.SourceRuns.{Item, node, change, mark, turn, end, Changes, Configuration, Does, Follows, exit_of}
use Rattle.source_core.proofs.forms.Tests.{both_of}
use Rattle.source_core.proofs.expressions.Ranges.{may-in, left-in, all_left-keep, put-in}
use Rattle.source_core.proofs.runs.Passing.{item_passes, work_passes, branch_tested, loop_tested, passing-does}
use Rattle.source_core.proofs.runs.Runs.{Among, started, contains-among}

same-in : (integers : Integers) (n : ℕ) (x y : State) → y ≡ x → AreIn integers n x → AreIn integers n y
same-in integers n x y e a = subst (λ s. AreIn integers n s) (sym e) a

change-in : (integers : Integers) (n : ℕ) (g : Change) (x y : State) → IsTrue (is_change_over n g) → Changes integers g x y
    → AreIn integers n x → AreIn integers n y
change-in integers n (sets var e line) x y o m a =
    let p = both_of (nat_lt var n) (is_over n e) o in
    same-in integers n (put (pos 0) m.1 var m.0) y m.3
    (put-in integers n m.1 var m.0 (may-in integers e n x m.0 m.1 p.1 a m.2) (left-in integers e n x m.0 m.1 p.1 a m.2))
change-in integers n (evaluates es line) x y o m a =
    all_left-keep integers n (λ w. AreIn integers n w) (λ w i v l h t. put-in integers n w i v h t) es x y o m a

step-in : (integers : Integers) (n exit : ℕ) (item : Item) (rest work : List Item) (x y : State) → item_passes (over_test n) item
    → Does integers n exit item rest x work y → AreIn integers n x → AreIn integers n y
step-in integers n exit (mark p) rest work x y o d a = same-in integers n x y d.1 a
step-in integers n exit (change g) rest work x y o d a = change-in integers n g x y o d.1 a
step-in integers n exit (node (declares var line) m) rest work x y o d a =
    same-in integers n (put (pos 0) x var d.0) y d.3 (put-in integers n x var d.0 d.1 a)
step-in integers n exit (node (changes g) m) rest work x y o d a = change-in integers n g x y o d.1 a
step-in integers n exit (node (assumes e line) m) rest work x y o d a = left-in integers e n x d.0 y o a d.1
step-in integers n exit (node (asserts e at line) m) rest work x y o d a = left-in integers e n x d.0 y o a d.1
step-in integers n exit (node (never at line) m) rest work x y o d a = same-in integers n x y d.1 a
step-in integers n exit (node (branch e first second line) m) rest work x y o d a =
    left-in integers e n x d.0 y (branch_tested (over_test n) e first second line o) a d.2
step-in integers n exit (node (loop kind e body line) m) rest work x y o d a = same-in integers n x y d.1 a
step-in integers n exit (node (jump breaks line) m) rest work x y o d a = same-in integers n x y d.1 a
step-in integers n exit (node (jump continues line) m) rest work x y o d a = same-in integers n x y d.1 a
step-in integers n exit (node (jump returns line) m) rest work x y o d a = same-in integers n x y d.1 a
step-in integers n exit (node (label name line) m) rest work x y o d a = same-in integers n x y d.1 a
step-in integers n exit (turn kind e body line m) rest work x y o d a =
    left-in integers e n x d.0 y (loop_tested (over_test n) kind e body line o) a d.2
step-in integers n exit (end kind e body line m) rest work x y o d a = same-in integers n x y d.1 a

along : (integers : Integers) (n exit : ℕ) (s : Configuration) (ss : List Configuration) → work_passes (over_test n) s.work
    → Follows integers n exit s ss → AreIn integers n s.state → (t : Configuration) → Among s ss t → AreIn integers n t.state
along integers n exit s [] o f a t h = same-in integers n s.state t.state (ap (λ (k : Configuration). k.state) h) a
along integers n exit s (u ∷ us) o f a t h =
    let st = f.0 in
    let at = subst (work_passes (over_test n)) st.first o in
    let next = step-in integers n exit st.item st.rest u.work s.state u.state at.0 st.does a in
    ⊎_elim (λ e. same-in integers n s.state t.state (ap (λ (k : Configuration). k.state) e) a)
    (λ m. along integers n exit u us (passing-does (over_test n) integers n exit st.item st.rest u.work s.state u.state at.0 at.1 st.does)
    f.1 next t m) h

-- the law
pub states-in : StatesAreInRange
states-in integers n body o [] r = absurd r
states-in integers n body o (s ∷ ss) r = λ t h.
    along integers n (exit_of integers n body) s ss (started (over_test n) integers n body s r.0 o) r.3 r.2 t (contains-among s ss t h)
