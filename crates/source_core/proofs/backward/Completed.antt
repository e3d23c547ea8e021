-- What deeds of an item leave is what the item does, where its operations are exact.
use Rattle.std.proofs.Common.{◌≡◌, ◌≤◌, ◌+◌, ℕ, Bool, true, List, [], ◌∷◌, ◌++◌, length}
use Rattle.std.proofs.Common.{refl, sym, ap, subst, ◌∙◌, arith}
use Rattle.std.specs.Prelude.{ℤ, pos, ◌==◌, nat_lt, IsTrue}
use Rattle.std.proofs.lemmas.Bool.{ltb-true}
use Rattle.lang_tree.specs.Tree as tree
use Rattle.lang_tree.specs.Meaning.{State, put, value, MayBe}
use Rattle.lang_tree.proofs.Put.{put_size}
use Rattle.source_tree.specs.Expressions.{Expression, Expressions, none, more}
use Rattle.source_tree.specs.Values.{truth_number, Tells, May, AllMay}
use Rattle.source_tree.specs.Statements.{Change, sets, evaluates}
use Rattle.source_tree.specs.Statements.{declares, changes, assumes, asserts, never, branch, loop, jump, label}
use Rattle.source_core.specs.Preludes.{AllLeave}
use Rattle.source_core.specs.Laws.{is_over, are_over, is_exact, are_exact, Agree, MayResult, occurrences, occurrences_in, steps_apart}
use Rattle.source_core.specs.RunLaws.{is_change_over, is_change_apart, is_change_exact, over_test, apart_test, exact_test}
use Rattle.source_core.specs.Elaborated.{Result, a_form, a_truth, any, Elaborated, elaborated, evaluated, numbered}
use Rattle.source_core.specs.Core.{taken, change_deeds, condition_of}
use Rattle.source_core.specs.SourceRuns.{Item, node, change, mark, turn, end, Changes, Does}
use Rattle.source_core.proofs.forms.Tests.{both_of}
use Rattle.source_core.proofs.forms.Over.{has_truth}
use Rattle.source_core.proofs.preludes.Preludes.{put-agree}
use Rattle.source_core.proofs.preludes.Parts.{Keeps}
use Rattle.source_core.proofs.expressions.Apart.{Stepped, counts, occurs_in, ApartIn, apart-alone, apart-target, apart-together, apart-head}
use Rattle.source_core.proofs.expressions.Apart.{apart-later}
use Rattle.source_core.proofs.expressions.Kept.{kept}
use Rattle.source_core.proofs.expressions.Exact.{Has, leave-split, number-of_result, truth-of_result}
use Rattle.source_core.proofs.expressions.Exactly.{exactly}
use Rattle.source_core.proofs.runs.Passing.{item_passes}
use Rattle.source_core.proofs.runs.Steps.{change-size, condition-size}
use Rattle.source_core.proofs.backward.Items.{parts, control}
use Rattle.base_integers.specs.declared.integers.Integers.TheVariants.{Mathematical}

-- a result has some value
has_value : (r : Result) (y : State) → (z : ℤ) × MayResult Mathematical r y z
has_value (a_form f) y = (value f y, refl)
has_value (a_truth c) y = let t = has_truth c y in (truth_number t.0, (t.0, t.1, refl))
has_value any y = (pos 0, tt)

-- arguments behind their preludes have values, and leave what the preludes leave
all_exact : (line : ℕ) (es : Expressions) (n h : ℕ) (test : ℕ → Bool) → n ≤ h → IsTrue (are_over n es) → ApartIn test es
    → IsTrue (are_exact line es h) → (x s t : State) → Agree n x s → AllLeave (evaluated Mathematical line es h).prelude s t
    → (y : State) × AllMay Mathematical es x y × Agree n y t
all_exact line none n h test s o a q x u t g l = (x, refl, subst (λ w. Agree n x w) (sym l) g)
all_exact line (more e es) n h test s o a q x u t g l =
    let p = both_of (is_over n e) (are_over n es) o in
    let v = elaborated Mathematical line e h in
    let i = both_of (is_exact line e h) (are_exact line es v.next) q in
    let ae = apart-head test e es a in
    let k = kept Mathematical line e n h test s p.0 ae in
    let r = leave-split v.prelude (evaluated Mathematical line es v.next).prelude u t l in
    let z = has_value v.result r.0 in
    let first = exactly line e n h test s p.0 ae i.0 x u r.0 z.0 g r.1 z.1 in
    let later = all_exact line es n v.next test (omega (arith, s, k.fits.grows)) p.1 (apart-later test e es a) i.1 first.0 r.0 t
    first.2 r.2 in (later.0, (first.0, z.0, first.1, later.1), later.2)

-- a variable takes a value that the expression may have, in the state that it leaves
taken_exact : (n : ℕ) (S : ℕ → Type 0) (line var : ℕ) (P : State → ℤ → State → Type 0) (e : Elaborated) → Keeps Mathematical n S n P e
    → Has n P e → (x s y : State) → Agree n x s
    → AllLeave (taken Mathematical var line e e.result) s y → (z : ℤ) × (u : State) × P x z u × Agree n (put (pos 0) u var z) y
taken_exact n S line var P e k has x s y g l = by e.result refl l
  where
    by_number : AllLeave ((numbered Mathematical line e).prelude ++ (tree.sets var (numbered Mathematical line e).form line ∷ [])) s y
        → (z : ℤ) × (u : State) × P x z u × Agree n (put (pos 0) u var z) y
    by_number l =
        let f = (numbered Mathematical line e).form in
        let r = leave-split (numbered Mathematical line e).prelude (tree.sets var f line ∷ []) s y l in
        let above : n ≤ e.next = omega (arith, k.fits.above, k.fits.grows) in
        let v = number-of_result line n P e.prelude e.next e.result above k.over has x s r.0 g r.1 in (
          value f r.0,
          v.0,
          v.1,
          subst (λ w. Agree n (put (pos 0) v.0 var (value f r.0)) w) (sym r.2.1 ∙ sym r.2.2)
              (put-agree n var v.0 r.0 (value f r.0) v.2),
        )

    by : (r : Result) → e.result ≡ r → AllLeave (taken Mathematical var line e r) s y
        → (z : ℤ) × (u : State) × P x z u × Agree n (put (pos 0) u var z) y
    by (a_form f) q l = by_number l
    by (a_truth c) q l = by_number l
    by any q l =
        let r = leave-split e.prelude (tree.havocs var line ∷ []) s y l in
        let z = r.2.1.0 in
        let v = has x s r.0 z g r.1 (subst (λ p. MayResult Mathematical p r.0 z) (sym q) tt) in (
          z,
          v.0,
          v.1,
          subst (λ w. Agree n (put (pos 0) v.0 var z) w) (sym r.2.1.1 ∙ sym r.2.2) (put-agree n var v.0 r.0 z v.2),
        )

-- what the deeds of an exact change leave agrees on the variables with a state that the change may leave
pub change_exact : (n : ℕ) (g : Change) (x s t : State) → IsTrue (is_change_over n g) → IsTrue (is_change_apart g)
    → IsTrue (is_change_exact n g) → Agree n x s
    → AllLeave (change_deeds Mathematical n g) s t → (y : State) × Changes Mathematical g x y × Agree n y t
change_exact n (sets var e line) x s t o p q a l =
    let test = λ (i : ℕ). occurs_in i var + occurrences i e == 1 in
    let over = (both_of (nat_lt var n) (is_over n e) o).1 in
    let same : n ≤ n = omega arith in
    let k = kept Mathematical line e n n test same over (apart-target var e p) in
    let r = taken_exact n (Stepped n test (counts e)) line var (May Mathematical e) (elaborated Mathematical line e n) k
    (exactly line e n n test same over (apart-target var e p) q) x s t a l in
    (put (pos 0) r.1 var r.0, (r.0, r.1, r.2, refl), r.3)
change_exact n (evaluates es line) x s t o p q a l =
    all_exact line es n n (λ i. occurrences_in i es == 1) (omega arith) o (apart-together es p) q x s t a l

-- what a condition may be behind its prelude its expression tells, in the state that it leaves
pub condition_exact : (n line : ℕ) (e : Expression) (x s t : State) (b : Bool) → IsTrue (is_over n e) → IsTrue (steps_apart e)
    → IsTrue (is_exact line e n) → Agree n x s
    → AllLeave (condition_of Mathematical n line e).prelude s t → MayBe b (condition_of Mathematical n line e).condition t
    → (z : ℤ) × (y : State) × May Mathematical e x z y × Tells b z × Agree n y t
condition_exact n line e x s t b o p q a l m =
    truth-of_result n (May Mathematical e) (elaborated Mathematical line e n)
    (exactly line e n n (λ i. occurrences i e == 1) (omega arith) o (apart-alone e p) q) x s t b a l m

-- ---- items that are deeds alone
-- a list with an element is not empty
pub nothing_there : {A : Type 0} {B : Type 0} (x : A) (xs : List A) → x ∷ xs ≡ [] → B
nothing_there x xs e = absurd (omega (arith, ap length e))

-- what is asked of an item
pub record Asked (n : ℕ) (i : Item) : Type 0 where
  -- it has no variables but the first n
  pub over : item_passes (over_test n) i
  -- steps in it stand apart
  pub apart : item_passes apart_test i
  -- its operations are exact
  pub exact : item_passes (exact_test n) i

-- what the deeds of an item leave, where these are all of it, agrees on the variables with what the item leaves
pub completes : (n : ℕ) (i : Item) (x s t : State) → control n i ≡ [] → Asked n i → Agree n x s → length x ≡ n
    → AllLeave (parts n i) s t → (y : State) × ((exit : ℕ) (rest : List Item)
    → Does Mathematical n exit i rest x rest y) × Agree n y t × (length y ≡ n)
completes n (mark p) x s t c o a l d = nothing_there _ _ c
completes n (change g) x s t c o a l d =
    let r = change_exact n g x s t o.over o.apart o.exact a d in
    (r.0, (λ exit rest. (refl, r.1)), r.2, change-size Mathematical n g x r.0 o.over l r.1)
completes n (node (declares var line) m) x s t c o a l d =
    let z = d.1.0 in
    let v = ltb-true var n o.over in (
      put (pos 0) x var z,
      (λ exit rest. (z, tt, refl, refl)),
      subst (λ w. Agree n (put (pos 0) x var z) w) (sym d.1.1 ∙ sym d.2) (put-agree n var x s z a),
      put_size (pos 0) x var z (omega (arith, v, l)) ∙ l,
    )
completes n (node (changes g) m) x s t c o a l d =
    let r = change_exact n g x s t o.over o.apart o.exact a d in
    (r.0, (λ exit rest. (refl, r.1)), r.2, change-size Mathematical n g x r.0 o.over l r.1)
completes n (node (assumes e line) m) x s t c o a l d = nothing_there _ _ c
completes n (node (asserts e at line) m) x s t c o a l d =
    let r = leave-split (condition_of Mathematical n line e).prelude _ s t d in
    let same : r.0 ≡ t = sym r.2.1 ∙ sym r.2.2.1.1 ∙ sym r.2.2.2 in
    let m = subst (λ w. MayBe true (condition_of Mathematical n line e).condition w) r.2.1 r.2.2.1.0 in
    let k = condition_exact n line e x s r.0 true o.over o.apart o.exact a r.1 m in (
      k.1,
      (λ exit rest. (k.0, k.2, k.3, refl)),
      subst (λ w. Agree n k.1 w) same k.4,
      condition-size Mathematical n e x k.0 k.1 o.over l k.2,
    )
completes n (node (never at line) m) x s t c o a l d =
    (x, (λ exit rest. (refl, refl)), subst (λ w. Agree n x w) (sym d.1 ∙ sym d.2) a, l)
completes n (node (branch e first second line) m) x s t c o a l d = nothing_there _ _ c
completes n (node (loop kind e body line) m) x s t c o a l d = nothing_there _ _ c
completes n (node (jump kind line) m) x s t c o a l d = nothing_there _ _ c
completes n (node (label name line) m) x s t c o a l d = nothing_there _ _ c
completes n (turn kind e body line m) x s t c o a l d = nothing_there _ _ c
completes n (end kind e body line m) x s t c o a l d = nothing_there _ _ c
