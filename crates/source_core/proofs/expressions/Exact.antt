-- Where no operation may give other values than it has, an expression has each value that its result has behind its prelude.
use Rattle.std.proofs.Common.{◌≡◌, ◌≢◌, ◌⊎◌, inl, inr, ⊎_elim, ◌≤◌, ℕ, zero, suc, Bool, true, false, List, [], ◌∷◌, ◌++◌}
use Rattle.std.proofs.Common.{refl, sym, ap, ap₂, subst, ◌∙◌, arith, true≢false}
use Rattle.std.specs.Prelude.{ℤ, pos, negsuc, ◌-ℤ◌, ◌*ℤ◌, int_div, int_rem, ◌||◌, IsTrue, if◌then◌else◌}
use Rattle.std.proofs.lemmas.Int.{ints}
use Rattle.lang_tree.specs.declared.form.Form.{Form}
use Rattle.lang_tree.specs.Tree.{Condition, Deed, havocs, wheres}
use Rattle.lang_tree.specs.Tree as tree
use Rattle.lang_tree.specs.Meaning.{State, value, MayBe}
use Rattle.source_tree.specs.Expressions.{Operation, plus, minus, times, over, remainder}
use Rattle.source_tree.specs.Values.{truth_number, Tells, Gives, IsHeld}
use Rattle.source_core.specs.Forms as form
use Rattle.source_core.specs.Forms.{constant_form, variable_form, scaled, is_constant}
use Rattle.source_core.specs.Preludes.{AllLeave, all_under}
use Rattle.source_core.specs.Laws.{Agree, MayResult}
use Rattle.source_core.specs.Elaborated.{Result, a_form, a_truth, any, Elaborated, Numbered, Tested, tested, as_number}
use Rattle.source_core.specs.Elaborated.{as_condition, selects, divides, operated, form_behind, havocked, quotient_by, remainder_by}
use Rattle.source_core.specs.Elaborated.{unless_zero, quotient_behind, is_unit}
use Rattle.source_core.specs.Laws.{is_exact_on}
use Rattle.std.proofs.Math.IntN.{*ℤ_comm}
use Rattle.source_core.proofs.preludes.Parts.{ResultOver}
use Rattle.source_core.proofs.expressions.Division.{rest_is, divides_quotient}
use Rattle.source_core.proofs.expressions.Operated.{Given, is_divisor_of, is_unit_of, quotient_by_unit, remainder_by_unit}
use Rattle.source_core.proofs.forms.Forms.{value-plus, value-minus, value-scaled, value-constant, value-is_constant}
use Rattle.source_core.proofs.forms.Over.{FormOver, ConditionOver, agree_sym, value-agrees, may_be-agrees}
use Rattle.source_core.proofs.forms.Over.{over_constant}
use Rattle.source_core.proofs.preludes.Preludes.{WritesFrom, leave-agrees, hidden-agrees}
use Rattle.base_integers.specs.declared.integers.Integers.TheVariants.{Mathematical}

-- ---- preludes in two parts
-- what one list of deeds and then another leave, the second leaves behind a state that the first leaves
pub leave-split : (ds es : List Deed) (x z : State) → AllLeave (ds ++ es) x z → (y : State) × AllLeave ds x y × AllLeave es y z
leave-split [] es x z h = (x, refl, h)
leave-split (d ∷ ds) es x z h = let r = leave-split ds es h.0 z h.2 in (r.0, (h.0, h.1, r.1), r.2)

-- deeds leave what they leave with their checks under a condition
pub leave-from_under : (c : Condition) (ds : List Deed) (x y : State) → AllLeave (all_under c ds) x y → AllLeave ds x y
leave-from_under c [] x y h = h
leave-from_under c (tree.sets i f line ∷ ds) x y h = (h.0, h.1, leave-from_under c ds h.0 y h.2)
leave-from_under c (tree.havocs i line ∷ ds) x y h = (h.0, h.1, leave-from_under c ds h.0 y h.2)
leave-from_under c (tree.wheres d line ∷ ds) x y h = (h.0, h.1, leave-from_under c ds h.0 y h.2)
leave-from_under c (tree.checks about d line ∷ ds) x y h = (h.0, h.1, leave-from_under c ds h.0 y h.2)

-- ---- what an operand has
-- the values of a result behind its prelude are among these, in the states that are left
abbrev pub Has : ℕ → (State → ℤ → State → Type 0) → Elaborated → Type 0
Has n P e = (x s t : State) (z : ℤ) → Agree n x s → AllLeave e.prelude s t → MayResult Mathematical e.result t z
    → (y : State) × P x z y × Agree n y t

-- the values of a form behind its prelude are among these
abbrev pub HasNumber : ℕ → (State → ℤ → State → Type 0) → Numbered → Type 0
HasNumber n P e = (x s t : State) → Agree n x s → AllLeave e.prelude s t → (y : State) × P x (value e.form t) y × Agree n y t

-- what a condition may be behind its prelude is what one of these tells
abbrev pub HasTruth : ℕ → (State → ℤ → State → Type 0) → Tested → Type 0
HasTruth n P e = (x s t : State) (b : Bool) → Agree n x s → AllLeave e.prelude s t → MayBe b e.condition t
    → (z : ℤ) × (y : State) × P x z y × Tells b z × Agree n y t

-- ---- one of two values
one_zero : (a b : ℤ) → a -ℤ b ≡ pos 0 → a ≡ b
one_zero a b e = omega (arith, ints, e)

-- behind the deeds that give a hidden variable one of two forms it is the one that the condition told before
pub selected : (line : ℕ) (c : Condition) (h : ℕ) (f g : Form) (x y : State) → ConditionOver h c → FormOver h f → FormOver h g
    → AllLeave (havocs h line ∷ wheres (selects c h f g) line ∷ []) x y
    → (MayBe true c x × (value (variable_form h) y ≡ value f x)) ⊎ (MayBe false c x × (value (variable_form h) y ≡ value g x))
selected line c h f g x y o p q l =
    let writes : WritesFrom h (havocs h line ∷ wheres (selects c h f g) line ∷ []) = (omega arith, tt) in
    let a = agree_sym h x y (leave-agrees h (havocs h line ∷ wheres (selects c h f g) line ∷ []) x y writes l) in
    let is : l.0 ≡ y = sym l.2.1.1 ∙ sym l.2.2 in
    ⊎_elim
    (λ m. inl (
      may_be-agrees h true c y x o a (subst (λ s. MayBe true c s) is m.0),
      one_zero _ _ (sym (value-minus (variable_form h) f y) ∙ subst (λ s. value (form.minus (variable_form h) f) s ≡ pos 0) is m.1)
          ∙ value-agrees h f y x p a,
    ))
    (λ m. inr (
      may_be-agrees h false c y x o a (subst (λ s. MayBe false c s) is m.0),
      one_zero _ _ (sym (value-minus (variable_form h) g y) ∙ subst (λ s. value (form.minus (variable_form h) g) s ≡ pos 0) is m.1)
          ∙ value-agrees h g y x q a,
    )) l.2.1.0

-- ---- results as numbers and as conditions
-- a result has no other values as a number
pub number-of_result : (line n : ℕ) (P : State → ℤ → State → Type 0) (ds : List Deed) (h : ℕ) (r : Result) → n ≤ h → ResultOver h r
    → ((x s t : State) (z : ℤ) → Agree n x s → AllLeave ds s t → MayResult Mathematical r t z → (y : State) × P x z y × Agree n y t)
    → HasNumber n P (as_number Mathematical line ds h r)
number-of_result line n P ds h (a_form f) above o has = λ x s t a l. has x s t (value f t) a l refl
number-of_result line n P ds h (a_truth c) above o has = λ x s t a l.
    let one = constant_form (pos 1) in
    let none = constant_form (pos 0) in
    let more = havocs h line ∷ wheres (selects c h one none) line ∷ [] in
    let p = leave-split ds more s t l in
    ⊎_elim
    (λ m.
    let k = has x s p.0 (pos 1) a p.1 (true, m.0, refl) in (
      k.0,
      subst (λ z. P x z k.0) (sym (m.1 ∙ value-constant (pos 1) p.0)) k.1,
      hidden-agrees n h more k.0 p.0 t above (omega arith, tt) k.2 p.2,
    ))
    (λ m.
    let k = has x s p.0 (pos 0) a p.1 (false, m.0, refl) in (
      k.0,
      subst (λ z. P x z k.0) (sym (m.1 ∙ value-constant (pos 0) p.0)) k.1,
      hidden-agrees n h more k.0 p.0 t above (omega arith, tt) k.2 p.2,
    ))
    (selected line c h one none p.0 t o (over_constant h (pos 1)) (over_constant h (pos 0)) p.2)
number-of_result line n P ds h any above o has = λ x s t a l.
    let p = leave-split ds (havocs h line ∷ []) s t l in
    let k = has x s p.0 (value (variable_form h) t) a p.1 tt in
    (k.0, k.1, hidden-agrees n h (havocs h line ∷ []) k.0 p.0 t above (omega arith, tt) k.2 p.2)

not_unequal : (z : ℤ) → ¬ (z ≢ pos 0) → z ≡ pos 0
not_unequal (pos zero) h = refl
not_unequal (pos (suc n)) h = absurd (h (λ e. omega (arith, ints, e)))
not_unequal (negsuc n) h = absurd (h (λ e. omega (arith, ints, e)))

tells_itself : (t : Bool) → Tells t (truth_number t)
tells_itself true = λ e. omega (arith, ints, e)
tells_itself false = refl

-- a result tells nothing as a condition but what one of its values tells
pub truth-of_result : (n : ℕ) (P : State → ℤ → State → Type 0) (e : Elaborated) → Has n P e → HasTruth n P (tested e)
truth-of_result n P e has = λ x s t b a l m. by e.result b x t m (λ z. has x s t z a l)
  where
    by : (r : Result) (b : Bool) (x t : State) → MayBe b (as_condition r) t
        → ((z : ℤ) → MayResult Mathematical r t z → (y : State) × P x z y × Agree n y t)
        → (z : ℤ) × (y : State) × P x z y × Tells b z × Agree n y t
    by (a_form f) true x t m k = let r = k (value f t) refl in (value f t, r.0, r.1, m, r.2)
    by (a_form f) false x t m k = let r = k (value f t) refl in (value f t, r.0, r.1, not_unequal (value f t) m, r.2)
    by (a_truth c) b x t m k = let r = k (truth_number b) (b, m, refl) in (truth_number b, r.0, r.1, tells_itself b, r.2)
    by any b x t m k = let r = k (truth_number b) tt in (truth_number b, r.0, r.1, tells_itself b, r.2)

-- ---- quotients
-- a form has the value that it had before a hidden variable is given a quotient
same_behind : (line : ℕ) (f : Form) (c : ℤ) (h : ℕ) (x y : State) → FormOver h f
    → AllLeave (havocs h line ∷ wheres (divides f c h) line ∷ []) x y → value f y ≡ value f x
same_behind line f c h x y o l =
    let writes : WritesFrom h (havocs h line ∷ wheres (divides f c h) line ∷ []) = (omega arith, tt) in
    value-agrees h f y x o (agree_sym h x y (leave-agrees h (havocs h line ∷ wheres (divides f c h) line ∷ []) x y writes l))

behind_deeds : (line : ℕ) (f : Form) (c : ℤ) (h : ℕ) (x y : State) → FormOver h f → c ≢ pos 0
    → AllLeave (havocs h line ∷ wheres (divides f c h) line ∷ []) x y → value (variable_form h) y ≡ int_div (value f x) c
behind_deeds line f c h x y o n l =
    let is : l.0 ≡ y = sym l.2.1.1 ∙ sym l.2.2 in
    divides_quotient f c h y n (subst (λ s. MayBe true (divides f c h) s) is l.2.1.0)
    ∙ ap (λ v. int_div v c) (same_behind line f c h x y o l)

-- ---- operations
-- the values of two forms behind a prelude are among these
abbrev pub HasBoth : ℕ → (State → ℤ → ℤ → State → Type 0) → List Deed → Form → Form → Type 0
HasBoth n R ds f g = (x s t : State) → Agree n x s → AllLeave ds s t → (y : State) × R x (value f t) (value g t) y × Agree n y t

-- all numbers are among all integers
pub held_by_all : (o : Operation) (u v z : ℤ) → IsHeld Mathematical o u v z
held_by_all plus u v z = tt
held_by_all minus u v z = tt
held_by_all times u v z = tt
held_by_all over u v z = tt
held_by_all remainder u v z = (tt, tt)

given : (o : Operation) (R : State → ℤ → ℤ → State → Type 0) (x : State) (u v z w : ℤ) (y : State) → R x u v y → Gives o u v z → w ≡ z
    → Given Mathematical o R x w y
given o R x u v z w y r g e = (u, v, r, subst (λ k. Gives o u v k) (sym e) g, held_by_all o u v w)

-- the result of an exact operation has no values but numbers that the operation gives
pub operated-has : (line n : ℕ) (o : Operation) (sign : ℕ) (R : State → ℤ → ℤ → State → Type 0) (ds : List Deed) (h : ℕ) (f g : Form)
    → n ≤ h → FormOver h f
    → IsTrue (is_exact_on o f g) → HasBoth n R ds f g → Has n (Given Mathematical o R) (operated Mathematical line o sign ds h f g)
operated-has line n plus sign R ds h f g above o exact has = λ x s t z a l m.
    let k = has x s t a l in
    (k.0, given plus R x (value f t) (value g t) _ z k.0 k.1 refl (m ∙ value-plus f g t), k.2)
operated-has line n minus sign R ds h f g above o exact has = λ x s t z a l m.
    let k = has x s t a l in
    (k.0, given minus R x (value f t) (value g t) _ z k.0 k.1 refl (m ∙ value-minus f g t), k.2)
operated-has line n times sign R ds h f g above o exact has = by (is_constant f) (is_constant g) refl refl
  where
    neither : is_constant f ≡ false → is_constant g ≡ false → IsTrue (is_constant f || is_constant g) → ⊥
    neither p q t = true≢false (sym t ∙ ap₂ (λ a b. a || b) p q)

    by : (s u : Bool) → is_constant f ≡ s → is_constant g ≡ u
        → Has n (Given Mathematical times R) (if s then form_behind ds h (scaled f.constant g)
        else (if u then form_behind ds h (scaled g.constant f) else havocked Mathematical line ds h))
    by true u p q = λ x s t z a l m.
        let k = has x s t a l in (
          k.0,
          given times R x (value f t) (value g t) _ z k.0 k.1 refl
              (m ∙ value-scaled f.constant g t ∙ ap (λ k. k *ℤ value g t) (sym (value-is_constant f t p))),
          k.2,
        )
    by false true p q = λ x s t z a l m.
        let k = has x s t a l in (
          k.0,
          given times R x (value f t) (value g t) _ z k.0 k.1 refl
              (m ∙ value-scaled g.constant f t ∙ ap (λ k. k *ℤ value f t) (sym (value-is_constant g t q))
              ∙ *ℤ_comm (value g t) (value f t)),
          k.2,
        )
    by false false p q = absurd (neither p q exact)
operated-has line n over sign R ds h f g above o exact has =
    subst (λ s. Has n (Given Mathematical over R)
    (if s then quotient_by line ds h f g.constant else unless_zero Mathematical line ds h sign g)) (sym exact)
    (by (is_unit g.constant) (is_constant f) refl refl)
  where
    d : IsTrue (is_constant g) × (g.constant ≢ pos 0)
    d = is_divisor_of g exact

    divisor : (y : State) → value g y ≡ g.constant
    divisor y = value-is_constant g y d.0

    not_zero : (y : State) → value g y ≢ pos 0
    not_zero y = λ e. d.1 (sym (divisor y) ∙ e)

    by : (s u : Bool) → is_unit g.constant ≡ s → is_constant f ≡ u
        → Has n (Given Mathematical over R) (if s then form_behind ds h (scaled g.constant f)
        else (if u then form_behind ds h (constant_form (int_div f.constant g.constant))
        else form_behind (quotient_behind line ds h f g.constant) (suc h) (variable_form h)))
    by true u p q = λ x s t z a l m.
        let k = has x s t a l in (
          k.0,
          given over R x (value f t) (value g t) _ z k.0 k.1 (not_zero t, refl)
              (m ∙ value-scaled g.constant f t ∙ sym (quotient_by_unit (value f t) g.constant (is_unit_of g.constant p))
              ∙ ap (λ k. int_div (value f t) k) (sym (divisor t))),
          k.2,
        )
    by false true p q = λ x s t z a l m.
        let k = has x s t a l in (
          k.0,
          given over R x (value f t) (value g t) _ z k.0 k.1 (not_zero t, refl)
              (m ∙ value-constant (int_div f.constant g.constant) t ∙ ap₂ int_div (sym (value-is_constant f t q)) (sym (divisor t))),
          k.2,
        )
    by false false p q = λ x s t z a l m.
        let more = havocs h line ∷ wheres (divides f g.constant h) line ∷ [] in
        let w = leave-split ds more s t l in
        let r = behind_deeds line f g.constant h w.0 t o d.1 w.2 in
        let k = has x s w.0 a w.1 in (
          k.0,
          given over R x (value f w.0) (value g w.0) _ z k.0 k.1 (not_zero w.0, refl)
              (m ∙ r ∙ ap (λ k. int_div (value f w.0) k) (sym (divisor w.0))),
          hidden-agrees n h more k.0 w.0 t above (omega arith, tt) k.2 w.2,
        )
operated-has line n remainder sign R ds h f g above o exact has =
    subst (λ s. Has n (Given Mathematical remainder R)
    (if s then remainder_by line ds h f g.constant else unless_zero Mathematical line ds h sign g))
    (sym exact)
    (by (is_unit g.constant) (is_constant f) refl refl)
  where
    d : IsTrue (is_constant g) × (g.constant ≢ pos 0)
    d = is_divisor_of g exact

    divisor : (y : State) → value g y ≡ g.constant
    divisor y = value-is_constant g y d.0

    not_zero : (y : State) → value g y ≢ pos 0
    not_zero y = λ e. d.1 (sym (divisor y) ∙ e)

    by : (s u : Bool) → is_unit g.constant ≡ s → is_constant f ≡ u
        → Has n (Given Mathematical remainder R) (if s then form_behind ds h (constant_form (pos 0))
        else (if u then form_behind ds h (constant_form (int_rem f.constant g.constant))
        else form_behind (quotient_behind line ds h f g.constant) (suc h) (form.minus f (scaled g.constant (variable_form h)))))
    by true u p q = λ x s t z a l m.
        let k = has x s t a l in (
          k.0,
          given remainder R x (value f t) (value g t) _ z k.0 k.1 (not_zero t, refl)
              (m ∙ value-constant (pos 0) t ∙ sym (remainder_by_unit (value f t) g.constant (is_unit_of g.constant p))
              ∙ ap (λ k. int_rem (value f t) k) (sym (divisor t))),
          k.2,
        )
    by false true p q = λ x s t z a l m.
        let k = has x s t a l in (
          k.0,
          given remainder R x (value f t) (value g t) _ z k.0 k.1 (not_zero t, refl)
              (m ∙ value-constant (int_rem f.constant g.constant) t ∙ ap₂ int_rem (sym (value-is_constant f t q)) (sym (divisor t))),
          k.2,
        )
    by false false p q = λ x s t z a l m.
        let more = havocs h line ∷ wheres (divides f g.constant h) line ∷ [] in
        let w = leave-split ds more s t l in
        let r = behind_deeds line f g.constant h w.0 t o d.1 w.2 in
        let e = same_behind line f g.constant h w.0 t o w.2 in
        let left = value-minus f (scaled g.constant (variable_form h)) t
        ∙ ap₂ (λ (a b : ℤ). a -ℤ b) e (value-scaled g.constant (variable_form h) t ∙ ap (λ k. g.constant *ℤ k) r)
        ∙ rest_is (value f w.0) g.constant in
        let k = has x s w.0 a w.1 in (
          k.0,
          given remainder R x (value f w.0) (value g w.0) _ z k.0 k.1 (not_zero w.0, refl)
              (m ∙ left ∙ ap (λ k. int_rem (value f w.0) k) (sym (divisor w.0))),
          hidden-agrees n h more k.0 w.0 t above (omega arith, tt) k.2 w.2,
        )
