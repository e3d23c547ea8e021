-- What each item of a source program's work does is done by steps of its core.
use Rattle.std.proofs.Common.{◌≡◌, ◌+◌, ◌≤◌, ℕ, Bool, true, List, [], ◌∷◌, length}
use Rattle.std.proofs.Common.{refl, sym, ap, subst, ◌∙◌, arith}
use Rattle.std.specs.Prelude.{ℤ, pos, IsTrue, if◌then◌else◌}
use Rattle.std.proofs.lemmas.Bool.{ltb-true}
use Rattle.lang_tree.specs.declared.check.Check.{Check}
use Rattle.lang_tree.specs.declared.check.CheckKind.TheVariants.{Assert}
use Rattle.lang_tree.specs.Tree.{breaks, continues, returns}
use Rattle.lang_tree.specs.Tree.{Deed}
use Rattle.lang_tree.specs.Tree as tree
use Rattle.lang_tree.specs.Meaning.{State, put, MayBe}
use Rattle.lang_tree.specs.PointNumbers.{splits}
use Rattle.lang_tree.specs.Runs as core
use Rattle.lang_tree.specs.Runs.{left_at}
use Rattle.lang_tree.proofs.Put.{put_size}
use Rattle.source_tree.specs.Expressions.{Expression}
use Rattle.source_tree.specs.Values.{Tells, May}
use Rattle.source_tree.specs.Statements.{Change}
use Rattle.source_tree.specs.Statements.{declares, changes, assumes, asserts, never, branch, loop, jump, label}
use Rattle.source_core.specs.Preludes.{AllLeave}
use Rattle.source_core.specs.Laws.{is_over, Agree, steps_apart}
use Rattle.source_core.specs.RunLaws.{is_change_over, over_test, is_change_apart, apart_test}
use Rattle.source_core.specs.Core.{one, taken_any, change_deeds, condition_of, kind_of, core_in}
use Rattle.source_core.specs.SourceRuns.{Item, node, change, mark, turn, end, Changes, Does}
use Rattle.source_core.proofs.preludes.Held.{take-any}
use Rattle.source_core.proofs.preludes.Preludes.{put-agree}
use Rattle.source_core.proofs.runs.Work.{deed_items, deeds_work-is, image, image-branch, image-head, image-turn, image-end, image-split}
use Rattle.source_core.proofs.runs.Work.{image-past}
use Rattle.source_core.proofs.runs.Work.{image-ending}
use Rattle.source_core.proofs.runs.Passing.{work_passes, loop_tested, branch_tested, passing-does}
use Rattle.source_core.proofs.runs.Reach.{Reaches, reaches-same, reaches-step, reaches-then, step, do-deeds}
use Rattle.source_core.proofs.runs.Steps.{Same, Done, arrives, by_deeds, core-behind, condition-kept, condition-size, change-kept}
use Rattle.source_core.proofs.runs.Steps.{change-size, leave-longer}
use Rattle.base_integers.specs.declared.integers.Integers.{Integers}

-- the items that are left behind pass what is asked of them
module _ (integers : Integers) (n exit : ℕ) (rest work : List Item) (x y : State) (c : core.Configuration)
    (o : work_passes (over_test n) work) (p : work_passes apart_test work) where
  -- where steps of the core come to
  finish : (w : List core.Item) (z : State) → Reaches n exit c record { work = w; state = left_at n w z } → w ≡ image integers n work
      → Agree n y z → length y ≡ n → n ≤ length z → Done integers n exit c record { work = work; state = y }
  finish w z r e a s l =
      let d : core.Configuration = record { work = w; state = left_at n w z } in (d, r, arrives integers n work w y z e a s l o p)

  -- one step that leaves the state as it is
  stays : (item : Item) (s : Same integers n record { work = item ∷ rest; state = x } c) (first : core.Item) (w : List core.Item)
      → c.work ≡ first ∷ image integers n rest → core.Does exit first (image integers n rest) c.state w c.state
      → w ≡ image integers n work → y ≡ x → Done integers n exit c record { work = work; state = y }
  stays item s first w e d k is =
      let left = ap (λ v. left_at n v c.state) (sym e) ∙ s.left in
      finish w c.state (by_deeds n exit c [] 0 first (image integers n rest) w c.state c.state e s.left refl left d) k
      (subst (λ v. Agree n v c.state) (sym is) s.agree) (ap (λ (v : State). length v) is ∙ s.size) s.enough

  -- a prelude of a condition, and one step behind it that leaves the state
  tests : (item : Item) (s : Same integers n record { work = item ∷ rest; state = x } c) (line : ℕ) (e : Expression) (m : ℕ)
      (first : core.Item) → c.work ≡ deed_items m (condition_of integers n line e).prelude (first ∷ image integers n rest)
      → IsTrue (is_over n e) → IsTrue (steps_apart e) → (z : ℤ) → May integers e x z y
      → ((t : State) → left_at n (first ∷ image integers n rest) t ≡ t)
      → ((t : State) → ((b : Bool) → Tells b z → MayBe b (condition_of integers n line e).condition t)
      → (w : List core.Item) × core.Does exit first (image integers n rest) t w t × (w ≡ image integers n work))
      → Done integers n exit c record { work = work; state = y }
  tests item s line e m first at over apart z may keeps does =
      let k = condition-kept integers n line e x c.state z y over apart s.agree may in
      let d = does k.0 k.2 in
      let longer = leave-longer (condition_of integers n line e).prelude c.state k.0 k.1 in
      finish d.0 k.0
      (by_deeds n exit c (condition_of integers n line e).prelude m first (image integers n rest) d.0 k.0 k.0 at s.left k.1
      (keeps k.0) d.1) d.2 k.3 (condition-size integers n e x z y over s.size may) (omega (arith, longer, s.enough))

  -- deeds
  deeds_done : (item : Item) (s : Same integers n record { work = item ∷ rest; state = x } c) (ds : List Deed) (m : ℕ)
      → c.work ≡ deed_items m ds (image integers n rest) → (t : State) → AllLeave ds c.state t → Agree n y t → length y ≡ n → work ≡ rest
      → Done integers n exit c record { work = work; state = y }
  deeds_done item s ds m e t leaves agree size is =
      let longer = leave-longer ds c.state t leaves in
      let at : core.Configuration = record { work = deed_items m ds (image integers n rest); state = c.state } in
      let same : at ≡ c = ap (λ v. let r : core.Configuration = record { work = v; state = c.state } in r) (sym e) in
      let left = ap (λ v. left_at n v c.state) (sym e) ∙ s.left in
      finish (image integers n rest) t
      (subst (λ r. Reaches n exit r record { work = image integers n rest; state = left_at n (image integers n rest) t }) same
      (do-deeds n exit ds m (image integers n rest) c.state t left leaves)) (ap (image integers n) (sym is)) agree size
      (omega (arith, longer, s.enough))

  -- a change
  changes_done : (item : Item) (s : Same integers n record { work = item ∷ rest; state = x } c) (g : Change) (m : ℕ)
      → c.work ≡ deed_items m (change_deeds integers n g) (image integers n rest) → IsTrue (is_change_over n g)
      → IsTrue (is_change_apart g) → Changes integers g x y → work ≡ rest → Done integers n exit c record { work = work; state = y }
  changes_done item s g m e over apart may is =
      let k = change-kept integers n g x y c.state over apart s.agree may in
      deeds_done item s (change_deeds integers n g) m e k.0 k.1 k.2 (change-size integers n g x y over s.size may) is

  -- what an item does
  done : (item : Item) (s : Same integers n record { work = item ∷ rest; state = x } c) → Does integers n exit item rest x work y
      → Done integers n exit c record { work = work; state = y }
  done (mark q) s d = stays (mark q) s (core.mark q) (image integers n rest) s.work (refl, refl) (ap (image integers n) (sym d.0)) d.1
  done (change g) s d = changes_done (change g) s g 0 (s.work ∙ deeds_work-is (change_deeds integers n g) (image integers n rest))
      s.over.0 s.apart.0 d.1 d.0
  done (node (declares var line) m) s d =
      let v = ltb-true var n s.over.0 in
      deeds_done (node (declares var line) m) s (taken_any integers var line) m
      (s.work ∙ core-behind (taken_any integers var line) tree.nil m (image integers n rest)) (put (pos 0) c.state var d.0)
      (take-any integers line var c.state d.0 d.1)
      (subst (λ w. Agree n w (put (pos 0) c.state var d.0)) (sym d.3) (put-agree n var x c.state d.0 s.agree))
      (ap (λ (w : State). length w) d.3 ∙ put_size (pos 0) x var d.0 (omega (arith, v, s.size)) ∙ s.size) d.2
  done (node (changes g) m) s d =
      changes_done (node (changes g) m) s g m (s.work ∙ core-behind (change_deeds integers n g) tree.nil m (image integers n rest))
      s.over.0 s.apart.0 d.1 d.0
  done (node (assumes e line) m) s d =
      let con = (condition_of integers n line e).condition in
      tests (node (assumes e line) m) s line e m (core.node (tree.assume con line) m)
      (s.work ∙ core-behind (condition_of integers n line e).prelude (one (tree.assume con line)) m
      (image integers n rest)) s.over.0 s.apart.0 d.0 d.1 (λ t. refl)
      (λ t truth. (
        (if splits con then core.mark m ∷ image integers n rest else image integers n rest),
        (truth true d.2, refl, refl),
        image-split integers n (splits con) m rest ∙ ap (image integers n) (sym d.3),
      ))
  done (node (asserts e at line) m) s d =
      let con = condition_of integers n line e in
      let about : Check = record { kind = Assert; at = at } in
      let k = condition-kept integers n line e x c.state d.0 y s.over.0 s.apart.0 s.agree d.1 in
      let longer = leave-longer con.prelude c.state k.0 k.1 in
      let there = core.node (tree.only_where con.condition line) (m + 0) in
      let checked = core.node (tree.check about con.condition line) m in
      let to_check = by_deeds n exit c con.prelude m checked (there ∷ image integers n rest) (there ∷ image integers n rest) k.0 k.0
      (s.work ∙ core-behind con.prelude (tree.cons (tree.check about con.condition line) (one (tree.only_where con.condition line))) m
      (image integers n rest)) s.left k.1 refl (refl, refl) in
      let last = reaches-step n exit record { work = there ∷ image integers n rest; state = k.0 } _ _
      (step n exit there (image integers n rest) (image integers n rest) k.0 k.0 (k.2 true d.2, refl, refl))
      (reaches-same n exit record { work = image integers n rest; state = left_at n (image integers n rest) k.0 }) in
      finish (image integers n rest) k.0
      (reaches-then n exit c record { work = there ∷ image integers n rest; state = k.0 } _ to_check last)
      (ap (image integers n) (sym d.3)) k.3 (condition-size integers n e x d.0 y s.over.0 s.size d.1) (omega (arith, longer, s.enough))
  done (node (never at line) m) s d =
      stays (node (never at line) m) s _ (image integers n rest) s.work (refl, refl) (ap (image integers n) (sym d.0)) d.1
  done (node (branch e first second line) m) s d =
      let con = (condition_of integers n line e).condition in
      tests (node (branch e first second line) m) s line e m
      (core.node (tree.branch con (core_in integers n first) (core_in integers n second) line) m)
      (s.work ∙ core-behind (condition_of integers n line e).prelude (one (tree.branch con (core_in integers n first)
      (core_in integers n second) line)) m
      (image integers n rest)) (branch_tested (over_test n) e first second line s.over.0)
      (branch_tested apart_test e first second line s.apart.0) d.0 d.2 (λ t. refl)
      (λ t truth. (
        core.branch_work d.1 (core_in integers n first) (core_in integers n second) m (image integers n rest),
        (d.1, truth d.1 d.3, refl, refl),
        image-branch integers n d.1 first second m rest ∙ ap (image integers n) (sym d.4),
      ))
  done (node (loop kind e body line) m) s d =
      stays (node (loop kind e body line) m) s _ _ s.work (refl, refl)
      (ap (λ w. core.mark m ∷ w) (image-head integers n kind e body line m rest) ∙ ap (image integers n) (sym d.0)) d.1
  done (node (jump breaks line) m) s d =
      stays (node (jump breaks line) m) s _ _ s.work (refl, refl) (image-past integers n rest ∙ ap (image integers n) (sym d.0)) d.1
  done (node (jump continues line) m) s d =
      stays (node (jump continues line) m) s _ _ s.work (refl, refl) (image-ending integers n rest ∙ ap (image integers n) (sym d.0)) d.1
  done (node (jump returns line) m) s d =
      stays (node (jump returns line) m) s _ _ s.work (refl, refl) (ap (image integers n) (sym d.0)) d.1
  done (node (label name line) m) s d =
      stays (node (label name line) m) s _ _ s.work (refl, refl) (ap (image integers n) (sym d.0)) d.1
  done (turn kind e body line m) s d =
      let con = condition_of integers n line e in
      let item = core.turn (kind_of integers n kind con.prelude) con.condition (core_in integers n body) line m in
      tests (turn kind e body line m) s line e 0 item
      (s.work ∙ deeds_work-is con.prelude (item ∷ image integers n rest)) (loop_tested (over_test n) kind e body line s.over.0)
      (loop_tested apart_test kind e body line s.apart.0) d.0 d.2 (λ t. refl)
      (λ t truth. (
        _,
        (d.1, truth d.1 d.3, refl, refl),
        image-turn integers n d.1 kind e body line m rest ∙ ap (image integers n) (sym d.4),
      ))
  done (end kind e body line m) s d =
      stays (end kind e body line m) s _ _ s.work (refl, refl)
      (image-end integers n kind e body line m rest ∙ ap (image integers n) (sym d.0)) d.1

-- what an item of the source does is done by steps of the core
pub simulated : (integers : Integers) (n exit : ℕ) (item : Item) (rest work : List Item) (x y : State) (c : core.Configuration)
    → Same integers n record { work = item ∷ rest; state = x } c → Does integers n exit item rest x work y
    → Done integers n exit c record { work = work; state = y }
simulated integers n exit item rest work x y c s d =
    done integers n exit rest work x y c (passing-does (over_test n) integers n exit item rest work x y s.over.0 s.over.1 d)
    (passing-does apart_test integers n exit item rest work x y s.apart.0 s.apart.1 d) item s d
