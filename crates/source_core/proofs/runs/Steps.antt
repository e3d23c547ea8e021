-- Each step of a source program is done by steps of its core.
use Rattle.std.proofs.Common.{◌≡◌, ◌≤◌, ◌+◌, ℕ, zero, suc, Bool, List, [], ◌∷◌, ◌++◌, length, take}
use Rattle.std.proofs.Common.{refl, sym, ap, subst, ◌∙◌, arith}
use Rattle.std.specs.Prelude.{ℤ, pos, ◌==◌, nat_lt, IsTrue}
use Rattle.std.proofs.lemmas.Bool.{ltb-true}
use Rattle.lang_tree.specs.Tree.{Deed}
use Rattle.lang_tree.specs.Tree as tree
use Rattle.lang_tree.specs.Meaning.{State, put, value, MayBe}
use Rattle.lang_tree.specs.Runs as core
use Rattle.lang_tree.specs.Runs.{left_at}
use Rattle.lang_tree.proofs.Put.{put_keeps, put_size}
use Rattle.source_tree.specs.Expressions.{Expression}
use Rattle.source_tree.specs.Values.{Tells, May}
use Rattle.source_tree.specs.Statements.{Change, sets, evaluates}
use Rattle.source_core.specs.Preludes.{AllLeave}
use Rattle.source_core.specs.Laws.{is_over, Agree, MayResult, occurrences, occurrences_in, steps_apart}
use Rattle.source_core.specs.RunLaws.{is_change_over, over_test, is_change_apart, apart_test}
use Rattle.source_core.specs.Elaborated.{Result, a_form, a_truth, any, Elaborated, elaborated, numbered}
use Rattle.source_core.specs.Core.{behind, taken, change_deeds, condition_of, taken_any}
use Rattle.source_core.specs.SourceRuns.{Item, Changes, Configuration}
use Rattle.source_core.proofs.forms.Tests.{both_of}
use Rattle.source_core.proofs.forms.Over.{agree_trans}
use Rattle.source_core.proofs.preludes.Preludes.{leave-then, put-agree}
use Rattle.source_core.proofs.preludes.Parts.{Keeps}
use Rattle.source_core.proofs.preludes.Held.{take-any}
use Rattle.source_core.proofs.preludes.Results.{keeps-number, keeps-truth}
use Rattle.source_core.proofs.expressions.Apart.{Stepped, counts, occurs_in, apart-alone, apart-target, apart-together}
use Rattle.source_core.proofs.expressions.Ranges.{left-keeps, all_left-keep, sized}
use Rattle.source_core.proofs.expressions.Kept.{kept, all_kept}
use Rattle.source_core.proofs.runs.Work.{deed_items, deed_items-onto, nodes-behind, image}
use Rattle.source_core.proofs.runs.Passing.{work_passes}
use Rattle.source_core.proofs.runs.Reach.{Reaches, reaches-same, reaches-step, reaches-then, step, do-deeds}
use Rattle.base_integers.specs.declared.integers.Integers.{Integers}

-- ---- states that are left
take-take : (n : ℕ) (x : State) → take n (take n x) ≡ take n x
take-take zero x = refl
take-take (suc n) [] = refl
take-take (suc n) (y ∷ x) = ap (λ r. y ∷ r) (take-take n x)

-- what is left of a state is left once more as it is
pub left-left : (n : ℕ) (w : List core.Item) (x : State) → left_at n w (left_at n w x) ≡ left_at n w x
left-left n [] x = refl
left-left n (core.mark p ∷ rest) x = take-take n x
left-left n (core.node s m ∷ rest) x = refl
left-left n (core.turn kind c body line m ∷ rest) x = refl
left-left n (core.end kind c body line m ∷ rest) x = refl

take-agrees : (n : ℕ) (x : State) → Agree n x (take n x)
take-agrees zero x i l = absurd (omega (arith, l))
take-agrees (suc n) [] i l = refl
take-agrees (suc n) (y ∷ x) zero l = refl
take-agrees (suc n) (y ∷ x) (suc i) l = take-agrees n x i (omega (arith, l))

-- what is left of a state agrees on the variables with what the state agreed with
pub left-agrees : (n : ℕ) (w : List core.Item) (x y : State) → Agree n x y → Agree n x (left_at n w y)
left-agrees n [] x y a = a
left-agrees n (core.mark p ∷ rest) x y a = agree_trans n x y (take n y) a (take-agrees n y)
left-agrees n (core.node s m ∷ rest) x y a = a
left-agrees n (core.turn kind c body line m ∷ rest) x y a = a
left-agrees n (core.end kind c body line m ∷ rest) x y a = a

length-take_enough : (n : ℕ) (x : State) → n ≤ length x → n ≤ length (take n x)
length-take_enough zero x h = omega arith
length-take_enough (suc n) [] h = absurd (omega (arith, h))
length-take_enough (suc n) (y ∷ x) h = let k = length-take_enough n x (omega (arith, h)) in omega (arith, k)

-- where a state has a value for each variable, so has what is left of it
pub left-enough : (n : ℕ) (w : List core.Item) (x : State) → n ≤ length x → n ≤ length (left_at n w x)
left-enough n [] x h = h
left-enough n (core.mark p ∷ rest) x h = length-take_enough n x h
left-enough n (core.node s m ∷ rest) x h = h
left-enough n (core.turn kind c body line m ∷ rest) x h = h
left-enough n (core.end kind c body line m ∷ rest) x h = h

-- deeds make no state shorter
pub leave-longer : (ds : List Deed) (x y : State) → AllLeave ds x y → length x ≤ length y
leave-longer [] x y l = let e = ap (λ (s : State). length s) l in omega (arith, e)
leave-longer (tree.sets v f line ∷ ds) x y l =
    let a = put_keeps (pos 0) x v (value f x) in
    let e = ap (λ (s : State). length s) l.1 in
    let b = leave-longer ds l.0 y l.2 in omega (arith, a, e, b)
leave-longer (tree.havocs v line ∷ ds) x y l =
    let a = put_keeps (pos 0) x v l.1.0 in
    let e = ap (λ (s : State). length s) l.1.1 in
    let b = leave-longer ds l.0 y l.2 in omega (arith, a, e, b)
leave-longer (tree.wheres c line ∷ ds) x y l =
    let e = ap (λ (s : State). length s) l.1.1 in let b = leave-longer ds l.0 y l.2 in omega (arith, e, b)
leave-longer (tree.checks about c line ∷ ds) x y l =
    let e = ap (λ (s : State). length s) l.1 in let b = leave-longer ds l.0 y l.2 in omega (arith, e, b)

-- ---- a source configuration and one of the core
-- a configuration of the core stands for one of the source
pub record Same (integers : Integers) (n : ℕ) (s : Configuration) (c : core.Configuration) : Type 0 where
  -- its work is that for the items of the source
  pub work : c.work ≡ image integers n s.work
  -- the states have the same values of the variables
  pub agree : Agree n s.state c.state
  -- the source's state has a value for each variable, and no more
  pub size : length s.state ≡ n
  -- the core's has a value for each, and maybe hidden ones
  pub enough : n ≤ length c.state
  -- no hidden value is there where a mark stands first
  pub left : left_at n c.work c.state ≡ c.state
  -- the source's work has no variables but these
  pub over : work_passes (over_test n) s.work
  -- its steps stand apart
  pub apart : work_passes apart_test s.work

-- what a step of the source is done by
abbrev pub Done : (integers : Integers) (n exit : ℕ) → core.Configuration → Configuration → Type 0
Done integers n exit c t = (d : core.Configuration) × Reaches n exit c d × Same integers n t d

-- a state that is reached before its hidden values are forgotten
pub arrives : (integers : Integers) (n : ℕ) (work : List Item) (w : List core.Item) (y z : State) → w ≡ image integers n work
    → Agree n y z → length y ≡ n → n ≤ length z → work_passes (over_test n) work → work_passes apart_test work
    → Same integers n record { work = work; state = y } record { work = w; state = left_at n w z }
arrives integers n work w y z e a s l o p = record {
  work = e;
  agree = left-agrees n w y z a;
  size = s;
  enough = left-enough n w z l;
  left = left-left n w z;
  over = o;
  apart = p;
}

-- ---- changes
-- a variable takes a value that an expression may have, in the state that the expression leaves
taken-kept : (integers : Integers) (n : ℕ) (S : ℕ → Type 0) (line var : ℕ) (P : State → ℤ → State → Type 0) (e : Elaborated)
    → Keeps integers n S n P e → (x s : State) (z : ℤ) (u : State) → Agree n x s → P x z u
    → (y : State) × AllLeave (taken integers var line e e.result) s y × Agree n (put (pos 0) u var z) y
taken-kept integers n S line var P e k x s z u a m = by e.result refl
  where
    number : (y : State) × AllLeave ((numbered integers line e).prelude ++ (tree.sets var (numbered integers line e).form line ∷ [])) s y
        × Agree n (put (pos 0) u var z) y
    number =
        let f = (numbered integers line e).form in
        let c = keeps-number integers line n S n P e k in
        let r = c.keeps x s z u a m in
        let y = put (pos 0) r.0 var (value f r.0) in (
          y,
          leave-then (numbered integers line e).prelude (tree.sets var f line ∷ []) s r.0 y r.1 (y, refl, refl),
          subst (λ v. Agree n (put (pos 0) u var z) (put (pos 0) r.0 var v)) r.3 (put-agree n var u r.0 z r.2),
        )

    by : (r : Result) → e.result ≡ r → (y : State) × AllLeave (taken integers var line e r) s y × Agree n (put (pos 0) u var z) y
    by (a_form f) q = number
    by (a_truth c) q = number
    by any q =
        let r = k.keeps x s z u a m in
        let y = put (pos 0) r.0 var z in (
          y,
          leave-then e.prelude (taken_any integers var line) s r.0 y r.1
              (take-any integers line var r.0 z (subst (λ t. MayResult integers t r.0 z) q r.3)),
          put-agree n var u r.0 z r.2,
        )

-- each state that a change may leave agrees on the variables with one that its deeds may leave
pub change-kept : (integers : Integers) (n : ℕ) (g : Change) (x y s : State) → IsTrue (is_change_over n g) → IsTrue (is_change_apart g)
    → Agree n x s → Changes integers g x y
    → (t : State) × AllLeave (change_deeds integers n g) s t × Agree n y t
change-kept integers n (sets var e line) x y s o p a m =
    let test = λ (i : ℕ). occurs_in i var + occurrences i e == 1 in
    let k = kept integers line e n n test (omega arith) (both_of (nat_lt var n) (is_over n e) o).1 (apart-target var e p) in
    let r = taken-kept integers n (Stepped n test (counts e)) line var (May integers e) (elaborated integers line e n) k x s m.0 m.1 a
    m.2 in
    (r.0, r.1, subst (λ w. Agree n w r.0) (sym m.3) r.2)
change-kept integers n (evaluates es line) x y s o p a m =
    let k = all_kept integers line es n n (λ i. occurrences_in i es == 1) (omega arith) o (apart-together es p) in k.keeps x s y a m

-- a change keeps the number of values
pub change-size : (integers : Integers) (n : ℕ) (g : Change) (x y : State) → IsTrue (is_change_over n g) → length x ≡ n
    → Changes integers g x y → length y ≡ n
change-size integers n (sets var e line) x y o l m =
    let p = both_of (nat_lt var n) (is_over n e) o in
    let v = ltb-true var n p.0 in
    let u = left-keeps integers n (λ w. length w ≡ n) (sized integers n) e x m.0 m.1 p.1 m.2 l in
    ap (λ (s : State). length s) m.3 ∙ put_size (pos 0) m.1 var m.0 (omega (arith, v, u)) ∙ u
change-size integers n (evaluates es line) x y o l m = all_left-keep integers n (λ w. length w ≡ n) (sized integers n) es x y o m l

-- ---- conditions
-- behind the prelude of a condition it may be true, or false, as the value of its expression says
pub condition-kept : (integers : Integers) (n line : ℕ) (e : Expression) (x s : State) (z : ℤ) (y : State) → IsTrue (is_over n e)
    → IsTrue (steps_apart e) → Agree n x s → May integers e x z y
    → (t : State) × AllLeave (condition_of integers n line e).prelude s t × ((b : Bool) → Tells b z
    → MayBe b (condition_of integers n line e).condition t) × Agree n y t
condition-kept integers n line e x s z y o p a m =
    let test = λ (i : ℕ). occurrences i e == 1 in
    let k = keeps-truth integers n (Stepped n test (counts e)) n (May integers e) (elaborated integers line e n)
    (kept integers line e n n test (omega arith) o (apart-alone e p)) in
    let r = k.keeps x s z y a m in (r.0, r.1, r.3, r.2)

-- it keeps the number of values
pub condition-size : (integers : Integers) (n : ℕ) (e : Expression) (x : State) (z : ℤ) (y : State) → IsTrue (is_over n e)
    → length x ≡ n → May integers e x z y → length y ≡ n
condition-size integers n e x z y o l m = left-keeps integers n (λ w. length w ≡ n) (sized integers n) e x z y o m l

-- ---- a step behind a prelude
-- the work of a statement that is a prelude and a last part
pub core-behind : (ds : List Deed) (last : tree.Statements) (m : ℕ) (rest : List core.Item)
    → core.nodes (behind ds last) m ++ rest ≡ deed_items m ds (core.nodes last m ++ rest)
core-behind ds last m rest = ap (λ r. r ++ rest) (nodes-behind ds last m) ∙ deed_items-onto m ds (core.nodes last m) rest

-- deeds, then one step, of a configuration with this work
pub by_deeds : (n exit : ℕ) (c : core.Configuration) (ds : List Deed) (m : ℕ) (item : core.Item) (rest work : List core.Item) (t z : State)
    → c.work ≡ deed_items m ds (item ∷ rest) → left_at n c.work c.state ≡ c.state → AllLeave ds c.state t
    → left_at n (item ∷ rest) t ≡ t → core.Does exit item rest t work z
    → Reaches n exit c record { work = work; state = left_at n work z }
by_deeds n exit c ds m item rest work t z w l a f d =
    let at : core.Configuration = record { work = deed_items m ds (item ∷ rest); state = c.state } in
    let is : at ≡ c = ap (λ v. let r : core.Configuration = record { work = v; state = c.state } in r) (sym w) in
    let first = do-deeds n exit ds m (item ∷ rest) c.state t (ap (λ v. left_at n v c.state) (sym w) ∙ l) a in
    let mid : core.Configuration = record { work = item ∷ rest; state = t } in
    let to_mid = subst (λ s. Reaches n exit at record { work = item ∷ rest; state = s }) f first in
    let second = reaches-step n exit mid _ _ (step n exit item rest work t z d)
    (reaches-same n exit record { work = work; state = left_at n work z }) in
    subst (λ k. Reaches n exit k record { work = work; state = left_at n work z }) is
    (reaches-then n exit at mid record { work = work; state = left_at n work z } to_mid second)
