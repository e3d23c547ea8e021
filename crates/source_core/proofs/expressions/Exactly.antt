-- An exact expression has each value that what it is in the core may have.
use Rattle.std.proofs.Common.{◌≡◌, inl, inr, ⊎_elim, ◌<◌, ◌≤◌, ◌+◌, ℕ, Bool, true, false, not, List, [], ◌∷◌, ◌++◌, get_or}
use Rattle.std.proofs.Common.{refl, sym, ap, ap₂, subst, ◌∙◌, arith, true≢false}
use Rattle.std.specs.Prelude.{ℤ, pos, ◌+ℤ◌, ◌-ℤ◌, neg_ℤ, ◌&&◌, IsTrue}
use Rattle.std.proofs.lemmas.Int.{ints}
use Rattle.std.proofs.lemmas.Bool.{ltb-true}
use Rattle.lang_tree.specs.declared.form.Form.{Form}
use Rattle.lang_tree.specs.declared.cond.Rel.{Rel}
use Rattle.lang_tree.specs.Tree.{Condition, Deed, havocs, wheres}
use Rattle.lang_tree.specs.Tree as tree
use Rattle.lang_tree.specs.Meaning.{State, put, value, Relates, MayBe}
use Rattle.source_tree.specs.Expressions.{Direction, up, down, Moment}
use Rattle.source_tree.specs.Expressions.{Expression, number, variable, unknown, call, element, grouped, negative, positive}
use Rattle.source_tree.specs.Expressions.{stepped, inverse, joined, compared, both, either, chosen}
use Rattle.source_tree.specs.Values.{truth_number, Tells, Compares, Gives, May, step_by}
use Rattle.source_core.specs.Forms.{constant_form, variable_form}
use Rattle.source_core.specs.Preludes.{AllLeave, all_under}
use Rattle.source_core.specs.Laws.{is_over, Agree, MayResult, is_exact_on, is_exact, occurrences, all_steps, are_steps_certain, has_no_step}
use Rattle.source_core.specs.Elaborated.{a_truth, Numbered, Tested, elaborated, numbered, tested, related, selects, step_behind, step_form}
use Rattle.source_core.proofs.forms.Tests.{both_of}
use Rattle.source_core.proofs.forms.Forms.{value-plus, value-minus, value-constant, value-variable, value-opposite}
use Rattle.source_core.proofs.forms.Over.{agree_sym, agree_trans, agree_less, value-agrees, may_be-agrees, has_truth, over_more}
use Rattle.source_core.proofs.forms.Over.{ConditionOver, condition_over_more}
use Rattle.source_core.proofs.preludes.Preludes.{WritesFrom, leave-agrees, hidden-agrees, put-agree}
use Rattle.source_core.proofs.expressions.Operands.{Stays, AndMay, OrMay}
use Rattle.source_core.proofs.expressions.Apart.{counts, Apart, apart-none, apart-first, apart-second}
use Rattle.source_core.proofs.expressions.Stepping.{moved, step-leaves}
use Rattle.source_core.proofs.expressions.Pairs.{as-number, as-truth, writes-alone, number-alone, first-stays, two-numbers}
use Rattle.source_core.proofs.expressions.Kept.{kept}
use Rattle.source_core.proofs.expressions.Exact.{Has, HasNumber, HasTruth, HasBoth, leave-split, leave-from_under, number-of_result}
use Rattle.source_core.proofs.expressions.Exact.{truth-of_result, operated-has, selected}
use Rattle.base_integers.specs.declared.integers.Integers.TheVariants.{Mathematical}

-- ---- two numbers
both-has : (n : ℕ) (P Q : State → ℤ → State → Type 0) (a b : Numbered) → Stays b.prelude a.form → HasNumber n P a → HasNumber n Q b
    → HasBoth n (λ x u v y. (w : State) × P x u w × Q w v y) (a.prelude ++ b.prelude) a.form b.form
both-has n P Q a b stays p q = λ x s t g all.
    let w = leave-split a.prelude b.prelude s t all in
    let k = p x s w.0 g w.1 in
    let j = q k.0 w.0 t k.2 w.2 in
    (j.0, (k.0, subst (λ z. P x z k.0) (stays w.0 t w.2) k.1, j.1), j.2)

-- ---- two conditions, the second behind the first
-- what both are at the end, where the second writes hidden variables alone
record BothTold (n : ℕ) (P Q : State → ℤ → State → Type 0) (a b : Tested) (x t : State) : Type 0 where
  -- the state between them
  pub between : State
  -- what the first is at the end it was there
  pub first : (c : Bool) → MayBe c a.condition t → (z : ℤ) × (w : State) × P x z w × Tells c z × Agree n w between
  -- what the second is
  pub second : (w : State) → Agree n w between → (c : Bool) → MayBe c b.condition t
      → (z : ℤ) × (y : State) × Q w z y × Tells c z × Agree n y t
  -- the second keeps the variables
  pub keeps : (w : State) → Agree n w between → Agree n w t

both-told : (n : ℕ) (P Q : State → ℤ → State → Type 0) (a b : Tested) (c : Condition) → n ≤ a.next → ConditionOver a.next a.condition
    → WritesFrom a.next b.prelude → HasTruth n P a → HasTruth n Q b → (x s t : State) → Agree n x s
    → AllLeave (a.prelude ++ all_under c b.prelude) s t → BothTold n P Q a b x t
both-told n P Q a b c above over alone p q x s t g all =
    let w = leave-split a.prelude (all_under c b.prelude) s t all in
    let second = leave-from_under c b.prelude w.0 t w.2 in
    let later = agree_sym a.next w.0 t (leave-agrees a.next b.prelude w.0 t alone second) in
    record {
      between = w.0;
      first = λ v m. p x s w.0 v g w.1 (may_be-agrees a.next v a.condition t w.0 over later m);
      second = λ k r v m. q k w.0 t v r second m;
      keeps = λ k r. hidden-agrees n a.next b.prelude k w.0 t above alone r second;
    }

is_zero : (z : ℤ) (P : ℤ → Type 0) → P z → z ≡ pos 0 → P (pos 0)
is_zero z P p e = subst P e p

compares-back : (t : Bool) (rel : Rel) (f g : Form) (y : State) → MayBe t (related rel f g) y → Compares t rel (value f y) (value g y)
compares-back true rel f g y m = subst (λ z. Relates rel z) (value-minus f g y) m
compares-back false rel f g y m = subst (λ z. ¬ (Relates rel z)) (value-minus f g y) m

negates : (a z : ℤ) → z ≡ pos 0 -ℤ a → z ≡ neg_ℤ a
negates a z e = omega (arith, ints, e)

inverts : (t : Bool) → truth_number t ≡ pos 1 -ℤ truth_number (not t)
inverts true = refl
inverts false = refl

-- what "both" may be is what `&&` tells
conjoined : (n : ℕ) (P Q : State → ℤ → State → Type 0) (a b : Tested) (x t : State) (z : ℤ)
    → MayResult Mathematical (a_truth (tree.both a.condition b.condition)) t z → BothTold n P Q a b x t
    → (y : State) × AndMay P Q x z y × Agree n y t
conjoined n P Q a b x t z (true, m, e) k =
    let c = k.first true m.0 in
    let d = k.second c.1 c.4 true m.1 in (d.1, inr (c.1, c.0, d.0, true, c.2, c.3, d.2, d.3, e), d.4)
conjoined n P Q a b x t z (false, m, e) k = ⊎_elim (λ c. left (k.first false c)) (λ d. by (has_truth a.condition t) d) m
  where
    left : (c : ℤ) × (y : State) × P x c y × Tells false c × Agree n y k.between → (y : State) × AndMay P Q x z y × Agree n y t
    left c = (c.1, inl (is_zero c.0 (λ v. P x v c.1) c.2 c.3, e), k.keeps c.1 c.4)

    by : (c : Bool) × MayBe c a.condition t → MayBe false b.condition t → (y : State) × AndMay P Q x z y × Agree n y t
    by (true, w) v =
        let c = k.first true w in
        let d = k.second c.1 c.4 false v in (d.1, inr (c.1, c.0, d.0, false, c.2, c.3, d.2, d.3, e), d.4)
    by (false, w) v = left (k.first false w)

-- what "either" may be is what `||` tells
disjoined : (n : ℕ) (P Q : State → ℤ → State → Type 0) (a b : Tested) (x t : State) (z : ℤ)
    → MayResult Mathematical (a_truth (tree.either a.condition b.condition)) t z → BothTold n P Q a b x t
    → (y : State) × OrMay P Q x z y × Agree n y t
disjoined n P Q a b x t z (false, m, e) k =
    let c = k.first false m.0 in
    let d = k.second c.1 c.4 false m.1 in
    (d.1, inr (c.1, d.0, false, is_zero c.0 (λ v. P x v c.1) c.2 c.3, d.2, d.3, e), d.4)
disjoined n P Q a b x t z (true, m, e) k = ⊎_elim (λ c. left (k.first true c)) (λ d. by (has_truth a.condition t) d) m
  where
    left : (c : ℤ) × (y : State) × P x c y × Tells true c × Agree n y k.between → (y : State) × OrMay P Q x z y × Agree n y t
    left c = (c.1, inl (c.0, c.2, c.3, e), k.keeps c.1 c.4)

    by : (c : Bool) × MayBe c a.condition t → MayBe true b.condition t → (y : State) × OrMay P Q x z y × Agree n y t
    by (true, w) v = left (k.first true w)
    by (false, w) v =
        let c = k.first false w in
        let d = k.second c.1 c.4 true v in
        (d.1, inr (c.1, d.0, true, is_zero c.0 (λ v. P x v c.1) c.2 c.3, d.2, d.3, e), d.4)

-- ---- steps
step-gives : (direction : Direction) (i : ℕ) (x s : State) → get_or x i (pos 0) ≡ get_or s i (pos 0)
    → Gives (step_by direction) (get_or x i (pos 0)) (pos 1) (value (moved direction i) s)
step-gives up i x s e =
    value-plus (variable_form i) (constant_form (pos 1)) s
    ∙ ap₂ (λ (a b : ℤ). a +ℤ b) (value-variable i s ∙ sym e) (value-constant (pos 1) s)
step-gives down i x s e =
    value-minus (variable_form i) (constant_form (pos 1)) s
    ∙ ap₂ (λ (a b : ℤ). a -ℤ b) (value-variable i s ∙ sym e) (value-constant (pos 1) s)

-- the prelude of a step is the step
step-alone : (line : ℕ) (direction : Direction) (moment : Moment) (i sign h : ℕ)
    → (step_behind Mathematical line direction moment i sign h).prelude ≡ tree.sets i (moved direction i) line ∷ []
step-alone line up moment i sign h = refl
step-alone line down moment i sign h = refl

exact-step : (line n h : ℕ) (direction : Direction) (moment : Moment) (i sign at : ℕ) → i < n
    → Has n (May Mathematical (stepped direction moment i sign at)) (step_behind Mathematical line direction moment i sign h)
exact-step line n h direction moment i sign at l x s t z g all m =
    let d = subst (λ (ds : List Deed). AllLeave ds s t) (step-alone line direction moment i sign h) all in
    let new = value (moved direction i) s in
    let old = get_or x i (pos 0) in
    let gives = step-gives direction i x s (g i l) in
    let is : t ≡ put (pos 0) s i new = d.2 ∙ d.1 in (
      put (pos 0) x i new,
      (
        new,
        gives,
        tt,
        m ∙ ap (λ w. value (step_form direction moment i) w) is ∙ sym (step-leaves direction moment i old new s gives),
        refl,
      ),
      subst (λ w. Agree n (put (pos 0) x i new) w) (sym is) (put-agree n i x s new g),
    )

-- ---- all
same : (n : ℕ) (x s t : State) → t ≡ s → Agree n x s → Agree n x t
same n x s t e g = subst (λ w. Agree n x w) (sym e) g

-- an exact expression may have each value that its result may be behind its prelude, and leaves what the prelude leaves
pub exactly : (line : ℕ) (e : Expression) (n h : ℕ) (test : ℕ → Bool) → n ≤ h → IsTrue (is_over n e) → Apart test e
    → IsTrue (is_exact line e h) → Has n (May Mathematical e) (elaborated Mathematical line e h)
exactly line (number v at) n h test s o a q = λ x u t z g l m. (x, (m ∙ value-constant v t, tt, refl), same n x u t l g)
exactly line (variable i at) n h test s o a q = λ x u t z g l m. (
  x,
  (m ∙ value-variable i t ∙ ap (λ (r : State). get_or r i (pos 0)) l ∙ sym (g i (ltb-true i n o)), refl),
  same n x u t l g,
)
exactly line (unknown at) n h test s o a q = λ x u t z g l m. (x, (tt, refl), same n x u t l g)
exactly line (call es at) n h test s o a q = absurd (true≢false (sym q))
exactly line (element is at) n h test s o a q = absurd (true≢false (sym q))
exactly line (stepped direction moment i sign at) n h test s o a q =
    exact-step line n h direction moment i sign at (ltb-true i n o)
exactly line (grouped at e) n h test s o a q = exactly line e n h test s o a q
exactly line (negative at e) n h test s o a q = λ x u t z g l m.
    let k = kept Mathematical line e n h test s o a in
    let v = elaborated Mathematical line e h in
    let w = numbered Mathematical line v in
    let r = number-of_result line n (May Mathematical e) v.prelude v.next v.result (omega (arith, s, k.fits.grows)) k.over
    (exactly line e n h test s o a q) x u t g l in
    (r.0, (value w.form t, r.1, negates (value w.form t) z (m ∙ value-opposite w.form t), tt), r.2)
exactly line (positive at e) n h test s o a q = λ x u t z g l m.
    let k = kept Mathematical line e n h test s o a in
    let v = elaborated Mathematical line e h in
    let r = number-of_result line n (May Mathematical e) v.prelude v.next v.result (omega (arith, s, k.fits.grows)) k.over
    (exactly line e n h test s o a q) x u t g l in
    (r.0, subst (λ w. May Mathematical e x w r.0) (sym m) r.1, r.2)
exactly line (inverse at e) n h test s o a q = λ x u t z g l m.
    let r = truth-of_result n (May Mathematical e) (elaborated Mathematical line e h) (exactly line e n h test s o a q) x u t (not m.0) g l
    m.1 in
    (r.1, (r.0, not m.0, r.2, r.3, m.2 ∙ inverts m.0), r.4)
exactly line (joined k sign e f) n h test s o a q =
    let p = both_of (is_over n e) (is_over n f) o in
    let v = elaborated Mathematical line e h in
    let u = numbered Mathematical line v in
    let b = elaborated Mathematical line f u.next in
    let w = numbered Mathematical line b in
    let i = both_of (is_exact line e h) (is_exact line f u.next && is_exact_on k u.form w.form) q in
    let j = both_of (is_exact line f u.next) (is_exact_on k u.form w.form) i.1 in
    let ae = apart-first test e (all_steps test f) (are_steps_certain f) (counts f) a.0 a.1 a.2 in
    let af = apart-second test e f a.0 a.1 a.2 in
    let ke = kept Mathematical line e n h test s p.0 ae in
    let later : n ≤ u.next = omega (arith, s, (as-number Mathematical line n h test e ke).fits.grows) in
    let kf = kept Mathematical line f n u.next test later p.1 af in
    let two = two-numbers Mathematical line n h test e f a.2 ke kf in
    let he = number-of_result line n (May Mathematical e) v.prelude v.next v.result (omega (arith, s, ke.fits.grows)) ke.over
    (exactly line e n h test s p.0 ae i.0) in
    let hf = number-of_result line n (May Mathematical f) b.prelude b.next b.result (omega (arith, later, kf.fits.grows)) kf.over
    (exactly line f n u.next test later p.1 af j.0) in
    let has = operated-has line n k sign (λ x b d y. (t : State) × May Mathematical e x b t × May Mathematical f t d y)
    (u.prelude ++ w.prelude) w.next u.form w.form (omega (arith, two.fits.above, two.fits.grows)) two.first_over j.1
    (both-has n (May Mathematical e) (May Mathematical f) u w (first-stays Mathematical line n h test e f a.2 ke kf) he hf) in
    λ x c t z g l m. let r = has x c t z g l m in (r.0, (r.1.2.0, r.1.0, r.1.1, r.1.2.1, r.1.2.2, r.1.3, r.1.4), r.2)
exactly line (compared rel sign e f) n h test s o a q =
    let p = both_of (is_over n e) (is_over n f) o in
    let v = elaborated Mathematical line e h in
    let u = numbered Mathematical line v in
    let b = elaborated Mathematical line f u.next in
    let w = numbered Mathematical line b in
    let i = both_of (is_exact line e h) (is_exact line f u.next) q in
    let ae = apart-first test e (all_steps test f) (are_steps_certain f) (counts f) a.0 a.1 a.2 in
    let af = apart-second test e f a.0 a.1 a.2 in
    let ke = kept Mathematical line e n h test s p.0 ae in
    let later : n ≤ u.next = omega (arith, s, (as-number Mathematical line n h test e ke).fits.grows) in
    let kf = kept Mathematical line f n u.next test later p.1 af in
    let he = number-of_result line n (May Mathematical e) v.prelude v.next v.result (omega (arith, s, ke.fits.grows)) ke.over
    (exactly line e n h test s p.0 ae i.0) in
    let hf = number-of_result line n (May Mathematical f) b.prelude b.next b.result (omega (arith, later, kf.fits.grows)) kf.over
    (exactly line f n u.next test later p.1 af i.1) in
    let has = both-has n (May Mathematical e) (May Mathematical f) u w (first-stays Mathematical line n h test e f a.2 ke kf) he hf in
    λ x c t z g l m.
    let r = has x c t g l in
    (r.0, (r.1.0, value u.form t, value w.form t, m.0, r.1.1, r.1.2, compares-back m.0 rel u.form w.form t m.1, m.2), r.2)
exactly line (both c d) n h test s o a q =
    let p = both_of (is_over n c) (is_over n d) o in
    let v = elaborated Mathematical line c h in
    let w = elaborated Mathematical line d v.next in
    let i = both_of (is_exact line c h) (is_exact line d v.next) q in
    let ac = apart-first test c (all_steps test d) (has_no_step d) (counts d) a.0 a.1 a.2 in
    let ad = apart-none d (both_of (are_steps_certain c) (has_no_step d) a.1).1 in
    let one = as-truth Mathematical line n h test c (kept Mathematical line c n h test s p.0 ac) in
    let later : n ≤ v.next = omega (arith, s, one.fits.grows) in
    let alone = writes-alone Mathematical line n v.next d (kept Mathematical line d n v.next (λ j. false) later p.1 ad) in
    let hc = truth-of_result n (May Mathematical c) v (exactly line c n h test s p.0 ac i.0) in
    let hd = truth-of_result n (May Mathematical d) w (exactly line d n v.next (λ j. false) later p.1 ad i.1) in
    λ x u t z g l m. conjoined n (May Mathematical c) (May Mathematical d) (tested v) (tested w) x t z m
    (both-told n (May Mathematical c) (May Mathematical d) (tested v) (tested w) (tested v).condition later one.over alone hc hd x u t g l)
exactly line (either c d) n h test s o a q =
    let p = both_of (is_over n c) (is_over n d) o in
    let v = elaborated Mathematical line c h in
    let w = elaborated Mathematical line d v.next in
    let i = both_of (is_exact line c h) (is_exact line d v.next) q in
    let ac = apart-first test c (all_steps test d) (has_no_step d) (counts d) a.0 a.1 a.2 in
    let ad = apart-none d (both_of (are_steps_certain c) (has_no_step d) a.1).1 in
    let one = as-truth Mathematical line n h test c (kept Mathematical line c n h test s p.0 ac) in
    let later : n ≤ v.next = omega (arith, s, one.fits.grows) in
    let alone = writes-alone Mathematical line n v.next d (kept Mathematical line d n v.next (λ j. false) later p.1 ad) in
    let hc = truth-of_result n (May Mathematical c) v (exactly line c n h test s p.0 ac i.0) in
    let hd = truth-of_result n (May Mathematical d) w (exactly line d n v.next (λ j. false) later p.1 ad i.1) in
    λ x u t z g l m. disjoined n (May Mathematical c) (May Mathematical d) (tested v) (tested w) x t z m
    (both-told n (May Mathematical c) (May Mathematical d) (tested v) (tested w) (tree.negation (tested v).condition) later one.over alone
    hc hd x u t g l)
exactly line (chosen sign c e f) n h test s o a q =
    let p = both_of (is_over n c) (is_over n e && is_over n f) o in
    let p' = both_of (is_over n e) (is_over n f) p.1 in
    let v = elaborated Mathematical line c h in
    let b = elaborated Mathematical line e v.next in
    let u = numbered Mathematical line b in
    let d = elaborated Mathematical line f u.next in
    let w = numbered Mathematical line d in
    let con = (tested v).condition in
    let i = both_of (is_exact line c h) (is_exact line e v.next && is_exact line f u.next) q in
    let j = both_of (is_exact line e v.next) (is_exact line f u.next) i.1 in
    let certain = both_of (are_steps_certain c) (has_no_step e && has_no_step f) a.1 in
    let sides = both_of (has_no_step e) (has_no_step f) certain.1 in
    let ac = apart-first test c (all_steps test e && all_steps test f) (has_no_step e && has_no_step f)
    (λ k. occurrences k e + occurrences k f) a.0 a.1 a.2 in
    let ae = apart-none e sides.0 in
    let af = apart-none f sides.1 in
    let one = as-truth Mathematical line n h test c (kept Mathematical line c n h test s p.0 ac) in
    let later : n ≤ v.next = omega (arith, s, one.fits.grows) in
    let ke = kept Mathematical line e n v.next (λ k. false) later p'.0 ae in
    let two = as-number Mathematical line n v.next (λ k. false) e ke in
    let last : n ≤ u.next = omega (arith, later, two.fits.grows) in
    let kf = kept Mathematical line f n u.next (λ k. false) last p'.1 af in
    let three = as-number Mathematical line n u.next (λ k. false) f kf in
    let alone = number-alone Mathematical line n v.next e ke in
    let alone_no = number-alone Mathematical line n u.next f kf in
    let hc = truth-of_result n (May Mathematical c) v (exactly line c n h test s p.0 ac i.0) in
    let he = number-of_result line n (May Mathematical e) b.prelude b.next b.result (omega (arith, later, ke.fits.grows)) ke.over
    (exactly line e n v.next (λ k. false) later p'.0 ae j.0) in
    let hf = number-of_result line n (May Mathematical f) d.prelude d.next d.result (omega (arith, last, kf.fits.grows)) kf.over
    (exactly line f n u.next (λ k. false) last p'.1 af j.1) in
    let over_c = condition_over_more v.next w.next con (omega (arith, two.fits.grows, three.fits.grows)) one.over in
    let over_f = over_more u.next w.next u.form three.fits.grows two.over in
    let above : n ≤ w.next = omega (arith, last, three.fits.grows) in
    let more = havocs w.next line ∷ wheres (selects con w.next u.form w.form) line ∷ [] in
    λ x t y z g l m.
    let s1 = leave-split v.prelude _ t y l in
    let s2 = leave-split (all_under con u.prelude) _ s1.0 y s1.2 in
    let s3 = leave-split (all_under (tree.negation con) w.prelude) more s2.0 y s2.2 in
    let first = leave-from_under con u.prelude s1.0 s2.0 s2.1 in
    let second = leave-from_under (tree.negation con) w.prelude s2.0 s3.0 s3.1 in
    let g12 = leave-agrees v.next u.prelude s1.0 s2.0 alone first in
    let g23 = leave-agrees u.next w.prelude s2.0 s3.0 alone_no second in
    let g13 = agree_trans v.next s1.0 s2.0 s3.0 g12 (agree_less v.next u.next s2.0 s3.0 two.fits.grows g23) in
    let back = λ (k : Bool) (r : MayBe k con s3.0).
    hc x t s1.0 k g s1.1 (may_be-agrees v.next k con s3.0 s1.0 one.over (agree_sym v.next s1.0 s3.0 g13) r) in
    ⊎_elim
    (λ k.
    let r = back true k.0 in
    let is = m ∙ k.1 ∙ sym (value-agrees u.next u.form s2.0 s3.0 two.over g23) in
    let yes = he r.1 s1.0 s2.0 r.4 first in (
      yes.0,
      inl (r.1, r.0, r.2, r.3, subst (λ k. May Mathematical e r.1 k yes.0) (sym is) yes.1),
      hidden-agrees n w.next more yes.0 s3.0 y above (omega arith, tt)
          (hidden-agrees n u.next w.prelude yes.0 s2.0 s3.0 last alone_no yes.2 second) s3.2,
    ))
    (λ k.
    let r = back false k.0 in
    let no = hf r.1 s2.0 s3.0 (hidden-agrees n v.next u.prelude r.1 s1.0 s2.0 later alone r.4 first) second in (
      no.0,
      inr (
        r.1,
        is_zero r.0 (λ k. May Mathematical c x k r.1) r.2 r.3,
        subst (λ k. May Mathematical f r.1 k no.0) (sym (m ∙ k.1)) no.1,
      ),
      hidden-agrees n w.next more no.0 s3.0 y above (omega arith, tt) no.2 s3.2,
    ))
    (selected line con w.next u.form w.form s3.0 y over_c over_f three.over s3.2)
