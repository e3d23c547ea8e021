-- A check that isn't true in a run of the source isn't true in a run of its core.
use Rattle.std.proofs.Common.{◌≡◌, inr, ⊎_elim, ◌+◌, ℕ, false, List, [], ◌∷◌}
use Rattle.std.proofs.Common.{refl, sym, ap, subst, ◌∙◌, arith}
use Rattle.std.specs.Prelude.{pos, ◌==◌, nat_lt, IsTrue}
use Rattle.lang_tree.specs.declared.check.Check.{Check}
use Rattle.lang_tree.specs.declared.check.CheckKind.TheVariants.{Assert, Error}
use Rattle.lang_tree.specs.declared.cond.Rel.TheVariants.{Ne}
use Rattle.lang_tree.specs.Tree.{Deed}
use Rattle.lang_tree.specs.Tree as tree
use Rattle.lang_tree.specs.Meaning.{State, MayBe}
use Rattle.lang_tree.specs.Runs as core
use Rattle.lang_tree.specs.Runs.{left_at}
use Rattle.source_tree.specs.Expressions.{Expression}
use Rattle.source_tree.specs.Values.{May, Breaks}
use Rattle.source_tree.specs.Statements.{Change, sets, evaluates}
use Rattle.source_tree.specs.Statements.{declares, changes, assumes, asserts, never, branch, loop, jump, label}
use Rattle.source_core.specs.Forms.{constant_form}
use Rattle.source_core.specs.Preludes.{MayFail}
use Rattle.source_core.specs.Laws.{is_over, Agree, AreIn, occurrences, occurrences_in, steps_apart}
use Rattle.source_core.specs.RunLaws.{is_change_over, over_test, is_change_apart, apart_test, ChecksAreKept}
use Rattle.source_core.specs.Elaborated.{Result, a_form, a_truth, any, Elaborated, elaborated, numbered}
use Rattle.source_core.specs.Core.{one, taken, change_deeds, condition_of, kind_of, core_in}
use Rattle.source_core.specs.SourceRuns.{Item, node, change, mark, turn, end, ItemBreaks, ChangeBreaks, exit_of}
use Rattle.source_core.proofs.forms.Tests.{both_of}
use Rattle.source_core.proofs.forms.Forms.{value-constant}
use Rattle.source_core.proofs.preludes.Preludes.{fail-before}
use Rattle.source_core.proofs.expressions.Apart.{occurs_in, apart-alone, apart-target, apart-together}
use Rattle.source_core.proofs.expressions.Broken.{broken, some_broken}
use Rattle.source_core.proofs.expressions.Failing.{fail-number}
use Rattle.source_core.proofs.runs.Work.{deed_items, deeds_work-is, image}
use Rattle.source_core.proofs.runs.Reach.{Reaches, reaches-same, reaches-step, last_of, do-deeds, Fails, fails-behind, fails-here}
use Rattle.source_core.proofs.runs.Reach.{fail-deeds}
use Rattle.source_core.proofs.runs.Steps.{Same, core-behind, condition-kept}
use Rattle.source_core.proofs.runs.Passing.{branch_tested, loop_tested}
use Rattle.source_core.proofs.runs.Ranges.{states-in}
use Rattle.source_core.proofs.runs.Runs.{Among, keep, starts, contains-among, among-contains}
use Rattle.base_integers.specs.declared.integers.Integers.{Integers}

-- ---- what a configuration comes to
-- where the deeds that stand first may fail
fails-first : (n exit : ℕ) (c : core.Configuration) (ds : List Deed) (m : ℕ) (rest : List core.Item) (about : Check)
    → c.work ≡ deed_items m ds rest
    → MayFail ds c.state about → Fails n exit c about
fails-first n exit c ds m rest about w f =
    let at : core.Configuration = record { work = deed_items m ds rest; state = c.state } in
    let is : at ≡ c = ap (λ v. let r : core.Configuration = record { work = v; state = c.state } in r) (sym w) in
    subst (λ k. Fails n exit k about) is (fail-deeds n exit ds m rest c.state about f)

taken-fails : (integers : Integers) (line var : ℕ) (e : Elaborated) (x : State) (about : Check) → MayFail e.prelude x about
    → MayFail (taken integers var line e e.result) x about
taken-fails integers line var e x about f = by e.result
  where
    by : (r : Result) → MayFail (taken integers var line e r) x about
    by (a_form g) = fail-before (numbered integers line e).prelude _ x about (fail-number integers line e x about f)
    by (a_truth c) = fail-before (numbered integers line e).prelude _ x about (fail-number integers line e x about f)
    by any = fail-before e.prelude _ x about f

change-fails : (integers : Integers) (n : ℕ) (g : Change) (x s : State) (about : Check) → IsTrue (is_change_over n g)
    → IsTrue (is_change_apart g) → AreIn integers n x → Agree n x s → ChangeBreaks integers g x about
    → MayFail (change_deeds integers n g) s about
change-fails integers n (sets var e line) x s about o p i a b =
    taken-fails integers line var (elaborated integers line e n) s about
    (broken integers line e n n (λ j. occurs_in j var + occurrences j e == 1) (omega arith) (both_of (nat_lt var n) (is_over n e) o).1
    (apart-target var e p) x s a i about b)
change-fails integers n (evaluates es line) x s about o p i a b =
    some_broken integers line es n n (λ j. occurrences_in j es == 1) (omega arith) o (apart-together es p) x s a i about b

condition-fails : (integers : Integers) (n line : ℕ) (e : Expression) (x s : State) (about : Check) → IsTrue (is_over n e)
    → IsTrue (steps_apart e) → AreIn integers n x → Agree n x s → Breaks integers e x about
    → MayFail (condition_of integers n line e).prelude s about
condition-fails integers n line e x s about o p i a b =
    broken integers line e n n (λ j. occurrences j e == 1) (omega arith) o (apart-alone e p) x s a i about b

never_true : (x : State) → MayBe false (tree.compare Ne (constant_form (pos 0))) x
never_true x = λ d. d (value-constant (pos 0) x)

-- an assertion that is false
assert-fails : (integers : Integers) (n exit line at m : ℕ) (e : Expression) (rest : List Item) (x y : State) (c : core.Configuration)
    → Same integers n record { work = node (asserts e at line) m ∷ rest; state = x } c → May integers e x (pos 0) y
    → Fails n exit c record { kind = Assert; at = at }
assert-fails integers n exit line at m e rest x y c s z =
    let con = condition_of integers n line e in
    let about : Check = record { kind = Assert; at = at } in
    let k = condition-kept integers n line e x c.state (pos 0) y s.over.0 s.apart.0 s.agree z in
    let last = tree.cons (tree.check about con.condition line) (one (tree.only_where con.condition line)) in
    let behind = core.node (tree.only_where con.condition line) (m + 0) ∷ image integers n rest in
    let here = core.node (tree.check about con.condition line) m in
    let w = s.work ∙ core-behind con.prelude last m (image integers n rest) in
    let start : core.Configuration = record { work = deed_items m con.prelude (here ∷ behind); state = c.state } in
    let is : start ≡ c = ap (λ v. let r : core.Configuration = record { work = v; state = c.state } in r) (sym w) in
    let left = ap (λ v. left_at n v c.state) (sym w) ∙ s.left in
    subst (λ d. Fails n exit d about) is
    (fails-behind n exit start record { work = here ∷ behind; state = k.0 } about
    (do-deeds n exit con.prelude m (here ∷ behind) c.state k.0 left k.1)
    (fails-here n exit about con.condition line m behind k.0 (k.2 false refl)))

item-fails : (integers : Integers) (n exit : ℕ) (item : Item) (rest : List Item) (x : State) (c : core.Configuration) (about : Check)
    → Same integers n record { work = item ∷ rest; state = x } c → AreIn integers n x → ItemBreaks integers item x about
    → Fails n exit c about
item-fails integers n exit (mark p) rest x c about s i b = absurd b
item-fails integers n exit (change g) rest x c about s i b =
    fails-first n exit c (change_deeds integers n g) 0 (image integers n rest) about (s.work
    ∙ deeds_work-is (change_deeds integers n g) (image integers n rest))
    (change-fails integers n g x c.state about s.over.0 s.apart.0 i s.agree b)
item-fails integers n exit (node (declares var line) m) rest x c about s i b = absurd b
item-fails integers n exit (node (changes g) m) rest x c about s i b =
    fails-first n exit c (change_deeds integers n g) m (image integers n rest) about (s.work
    ∙ core-behind (change_deeds integers n g) tree.nil m (image integers n rest))
    (change-fails integers n g x c.state about s.over.0 s.apart.0 i s.agree b)
item-fails integers n exit (node (assumes e line) m) rest x c about s i b =
    let con = condition_of integers n line e in
    fails-first n exit c con.prelude m _ about (s.work ∙ core-behind con.prelude (one (tree.assume con.condition line)) m
    (image integers n rest))
    (condition-fails integers n line e x c.state about s.over.0 s.apart.0 i s.agree b)
item-fails integers n exit (node (asserts e at line) m) rest x c about s i b =
    let con = condition_of integers n line e in
    let last = tree.cons (tree.check record { kind = Assert; at = at } con.condition line) (one (tree.only_where con.condition line)) in
    ⊎_elim
    (λ k. fails-first n exit c con.prelude m _ about (s.work ∙ core-behind con.prelude last m (image integers n rest))
    (condition-fails integers n line e x c.state about s.over.0 s.apart.0 i s.agree k))
    (λ k. subst (λ a. Fails n exit c a) (sym k.2) (assert-fails integers n exit line at m e rest x k.0 c s k.1)) b
item-fails integers n exit (node (never at line) m) rest x c about s i b =
    let none = tree.compare Ne (constant_form (pos 0)) in
    let here : Check = record { kind = Error; at = at } in
    let is = ap (λ v. let r : core.Configuration = record { work = v; state = c.state } in r) (sym s.work) in
    subst (λ a. Fails n exit c a) (sym b)
    (subst (λ d. Fails n exit d here) is (fails-here n exit here none line m (image integers n rest) c.state (never_true c.state)))
item-fails integers n exit (node (branch e first second line) m) rest x c about s i b =
    let con = condition_of integers n line e in
    let last = one (tree.branch con.condition (core_in integers n first) (core_in integers n second) line) in
    fails-first n exit c con.prelude m _ about (s.work ∙ core-behind con.prelude last m (image integers n rest))
    (condition-fails integers n line e x c.state about (branch_tested (over_test n) e first second line s.over.0)
    (branch_tested apart_test e first second line s.apart.0) i s.agree b)
item-fails integers n exit (node (loop kind e body line) m) rest x c about s i b = absurd b
item-fails integers n exit (node (jump kind line) m) rest x c about s i b = absurd b
item-fails integers n exit (node (label name line) m) rest x c about s i b = absurd b
item-fails integers n exit (turn kind e body line m) rest x c about s i b =
    let con = condition_of integers n line e in
    let item = core.turn (kind_of integers n kind con.prelude) con.condition (core_in integers n body) line m in
    fails-first n exit c con.prelude 0 (item ∷ image integers n rest) about (s.work
    ∙ deeds_work-is con.prelude (item ∷ image integers n rest))
    (condition-fails integers n line e x c.state about (loop_tested (over_test n) kind e body line s.over.0)
    (loop_tested apart_test kind e body line s.apart.0) i s.agree b)
item-fails integers n exit (end kind e body line m) rest x c about s i b = absurd b

-- ---- the law
-- the way to a configuration among those of a path
cut : (n exit : ℕ) (c : core.Configuration) (path : List core.Configuration) (d : core.Configuration) → core.Follows n exit c path
    → Among c path d
    → Reaches n exit c d
cut n exit c [] d f h = subst (λ k. Reaches n exit c k) (sym h) (reaches-same n exit c)
cut n exit c (e ∷ es) d f h = ⊎_elim (λ k. subst (λ v. Reaches n exit c v) (sym k) (reaches-same n exit c))
    (λ k. reaches-step n exit c e d f.0 (cut n exit e es d f.1 k)) h

last-among : (c : core.Configuration) (path : List core.Configuration) (d : core.Configuration) → last_of c path ≡ d → Among c path d
last-among c [] d e = sym e
last-among c (b ∷ bs) d e = inr (last-among b bs d e)

-- a check that is true in each run of the core is true in each run of the source
pub checks-kept : ChecksAreKept
checks-kept integers n body o p about true_in_core [] r = absurd r
checks-kept integers n body o p about true_in_core (s ∷ ss) r = λ t h item rest w b.
    let exit = exit_of integers n body in
    let c : core.Configuration = record { work = core.start_work (core_in integers n body); state = s.state } in
    let k = keep integers n exit s ss c (starts integers n body s o p r.0 r.1) r.3 in
    let d = k.each t (contains-among s ss t h) in
    let same = subst (λ v. Same integers n record { work = v; state = t.state } d.0) w d.2 in
    let f = fails-behind n exit c d.0 about (cut n exit c k.path d.0 k.follows d.1)
    (item-fails integers n exit item rest t.state d.0 about same
    (states-in integers n body o (s ∷ ss) r t h) b) in
    let now : core.Configuration = record { work = core.node (tree.check about f.cond f.line) f.number ∷ f.rest; state = f.state } in
    true_in_core (c ∷ f.reaches.path) (refl, r.1, f.reaches.follows) f.cond now
    (among-contains c f.reaches.path now (last-among c f.reaches.path now f.reaches.ends)) (f.line, f.number, f.rest, refl) f.fails
