-- What an expression is in the core, but for its prelude, and what it may be by all integers, whatever the integers by which it is
-- computed.
use Rattle.std.proofs.Common.{◌≡◌, inl, inr, ⊎_elim, ℕ, suc, Bool, true, false, List, [], ◌∷◌, ◌++◌, refl, ap, ap₂, subst, ◌∙◌}
use Rattle.std.specs.Prelude.{ℤ, pos, if◌then◌else◌}
use Rattle.lang_tree.specs.declared.form.Form.{Form}
use Rattle.lang_tree.specs.declared.check.CheckKind.TheVariants.{Range}
use Rattle.lang_tree.specs.Tree as tree
use Rattle.lang_tree.specs.Tree.{Condition, Deed}
use Rattle.lang_tree.specs.Meaning.{State}
use Rattle.base_integers.specs.declared.integers.Width.{Width}
use Rattle.base_integers.specs.declared.integers.Integers.{Integers}
use Rattle.base_integers.specs.declared.integers.Integers.TheVariants.{Mathematical, Machine}
use Rattle.source_tree.specs.Expressions.{Operation, plus, minus, times, over, remainder}
use Rattle.source_tree.specs.Expressions.{Expression, Expressions, number, variable, unknown, call, element, grouped, negative, positive}
use Rattle.source_tree.specs.Expressions.{stepped, inverse, joined, compared, both, either, chosen, none, more}
use Rattle.source_tree.specs.Expressions.{Subscripts, no_subscript, subscript}
use Rattle.source_tree.specs.Values.{May, AllMay, AreIndexes, step_by}
use Rattle.source_core.specs.Forms.{constant_form, is_constant, opposite, variable_form}
use Rattle.source_core.specs.Elaborated.{Result, a_form, a_truth, any, Elaborated, Numbered, elaborated, evaluated, indexed, numbered}
use Rattle.source_core.specs.Elaborated.{as_number, has, as_condition, checked, form_behind, is_divisor}
use Rattle.source_core.specs.Elaborated.{is_held, is_unit, number_at, operated}
use Rattle.source_core.specs.Elaborated.{operation_held}
use Rattle.source_core.specs.Elaborated.{ranged, related}
use Rattle.source_core.proofs.expressions.Exact.{held_by_all}

-- ---- values
mutual
  -- each value that an expression may have by some integers it may have by all, and it leaves the same
  pub may-by_all : (integers : Integers) (e : Expression) (x : State) (z : ℤ) (y : State) → May integers e x z y → May Mathematical e x z y
  may-by_all integers (number v at) x z y m = (m.0, tt, m.2)
  may-by_all integers (variable i at) x z y m = m
  may-by_all integers (unknown at) x z y m = (tt, m.1)
  may-by_all integers (call es at) x z y m = (all-by_all integers es x y m.0, tt)
  may-by_all integers (element is at) x z y m = (indexes-by_all integers is x y m.0, tt)
  may-by_all integers (stepped direction moment i sign at) x z y m = (m.0, m.1, tt, m.3, m.4)
  may-by_all integers (grouped at e) x z y m = may-by_all integers e x z y m
  may-by_all integers (negative at e) x z y m = (m.0, may-by_all integers e x m.0 y m.1, m.2, tt)
  may-by_all integers (positive at e) x z y m = may-by_all integers e x z y m
  may-by_all integers (inverse at e) x z y m = (m.0, m.1, may-by_all integers e x m.0 y m.2, m.3, m.4)
  may-by_all integers (joined o sign e f) x z y m =
      (m.0, m.1, m.2, may-by_all integers e x m.1 m.0 m.3, may-by_all integers f m.0 m.2 y m.4, m.5, held_by_all o m.1 m.2 z)
  may-by_all integers (compared rel sign e f) x z y m =
      (m.0, m.1, m.2, m.3, may-by_all integers e x m.1 m.0 m.4, may-by_all integers f m.0 m.2 y m.5, m.6, m.7)
  may-by_all integers (both c d) x z y m =
      ⊎_elim (λ k. inl (may-by_all integers c x (pos 0) y k.0, k.1))
      (λ k. inr (k.0, k.1, k.2, k.3, may-by_all integers c x k.1 k.0 k.4, k.5, may-by_all integers d k.0 k.2 y k.6, k.7, k.8)) m
  may-by_all integers (either c d) x z y m =
      ⊎_elim (λ k. inl (k.0, may-by_all integers c x k.0 y k.1, k.2, k.3))
      (λ k. inr (k.0, k.1, k.2, may-by_all integers c x (pos 0) k.0 k.3, may-by_all integers d k.0 k.1 y k.4, k.5, k.6)) m
  may-by_all integers (chosen sign c e f) x z y m =
      ⊎_elim (λ k. inl (k.0, k.1, may-by_all integers c x k.1 k.0 k.2, k.3, may-by_all integers e k.0 z y k.4))
      (λ k. inr (k.0, may-by_all integers c x (pos 0) k.0 k.1, may-by_all integers f k.0 z y k.2)) m

  -- so each of some expressions
  pub all-by_all : (integers : Integers) (es : Expressions) (x y : State) → AllMay integers es x y → AllMay Mathematical es x y
  all-by_all integers none x y m = m
  all-by_all integers (more e es) x y m = (m.0, m.1, may-by_all integers e x m.1 m.0 m.2, all-by_all integers es m.0 y m.3)

  -- and each of some indexes
  pub indexes-by_all : (integers : Integers) (is : Subscripts) (x y : State) → AreIndexes integers is x y → AreIndexes Mathematical is x y
  indexes-by_all integers no_subscript x y m = m
  indexes-by_all integers (subscript extent bracket e is) x y m =
      (m.0, m.1, may-by_all integers e x m.1 m.0 m.2, m.3, indexes-by_all integers is m.0 y m.4)

-- ---- results
-- two expressions have one result, and take the same hidden variables
abbrev pub SameAs : Elaborated → Elaborated → Type 0
SameAs a b = (a.result ≡ b.result) × (a.next ≡ b.next)

-- so as numbers
abbrev SameNumber : Numbered → Numbered → Type 0
SameNumber a b = (a.form ≡ b.form) × (a.next ≡ b.next)

same_one : (t : Bool) (a b c d : Elaborated) → SameAs a c → SameAs b d
    → SameAs (if t then a else b) (if t then c else d)
same_one true a b c d p q = p
same_one false a b c d p q = q

module _ (integers : Integers) (line : ℕ) where
  as_number_same : (ds es : List Deed) (h : ℕ) (r : Result)
      → SameNumber (as_number integers line ds h r) (as_number Mathematical line es h r)
  as_number_same ds es h (a_form f) = (refl, refl)
  as_number_same ds es h (a_truth c) = (refl, refl)
  as_number_same ds es h any = (refl, refl)

  numbered_same : (a b : Elaborated) → SameAs a b → SameNumber (numbered integers line a) (numbered Mathematical line b)
  numbered_same a b s =
      subst (λ k. SameNumber (numbered integers line a) (as_number Mathematical line b.prelude k b.result)) s.1
      (subst (λ r. SameNumber (numbered integers line a) (as_number Mathematical line b.prelude a.next r)) s.0
      (as_number_same a.prelude b.prelude a.next a.result))

  operated_same : (o : Operation) (sign : ℕ) (ds es : List Deed) (h : ℕ) (f g : Form)
      → SameAs (operated integers line o sign ds h f g) (operated Mathematical line o sign es h f g)
  operated_same plus sign ds es h f g = (refl, refl)
  operated_same minus sign ds es h f g = (refl, refl)
  operated_same times sign ds es h f g =
      same_one (is_constant f) _ _ _ _ (refl, refl) (same_one (is_constant g) _ _ _ _ (refl, refl) (refl, refl))
  operated_same over sign ds es h f g = same_one (is_divisor g) _ _ _ _
      (same_one (is_unit g.constant) _ _ _ _ (refl, refl) (same_one (is_constant f) _ _ _ _ (refl, refl) (refl, refl))) (refl, refl)
  operated_same remainder sign ds es h f g = same_one (is_divisor g) _ _ _ _
      (same_one (is_unit g.constant) _ _ _ _ (refl, refl) (same_one (is_constant f) _ _ _ _ (refl, refl) (refl, refl))) (refl, refl)

  operated_equal : (o : Operation) (sign : ℕ) (ds es : List Deed) (h k : ℕ) (f g p q : Form) → h ≡ k → f ≡ p → g ≡ q
      → SameAs (operated integers line o sign ds h f g) (operated Mathematical line o sign es k p q)
  operated_equal o sign ds es h k f g p q a b c =
      let left = operated integers line o sign ds h f g in
      subst (λ i. SameAs left (operated Mathematical line o sign es i p q)) a
      (subst (λ i. SameAs left (operated Mathematical line o sign es h i q)) b
      (subst (λ i. SameAs left (operated Mathematical line o sign es h f i)) c (operated_same o sign ds es h f g)))

  number_same : (v : ℤ) (at h : ℕ) → SameAs (number_at integers line v at h) (number_at Mathematical line v at h)
  number_same v at h = by integers
    where
      by : (k : Integers) → SameAs (number_at k line v at h) (number_at Mathematical line v at h)
      by Mathematical = (refl, refl)
      by (Machine width) = one (has width v)
        where
          one : (t : Bool) → SameAs (if t then form_behind [] h (constant_form v)
              else form_behind (checked line Range at (is_held width (constant_form v)) ∷ []) h (constant_form v))
              (form_behind [] h (constant_form v))
          one true = (refl, refl)
          one false = (refl, refl)

  ranged_same : (place : ℕ) (holds : Width → Form → Condition) (a b : Elaborated) → SameAs a b
      → SameAs (ranged integers line place holds a) b
  ranged_same place holds a b s = by integers
    where
      by : (k : Integers) → SameAs (ranged k line place holds a) b
      by Mathematical = s
      by (Machine width) = s

  -- an expression behind another
  behind : (e : Expression) (h k : ℕ) → h ≡ k → SameAs (elaborated integers line e h) (elaborated Mathematical line e h)
      → SameAs (elaborated integers line e h) (elaborated Mathematical line e k)
  behind e h k s i = subst (λ j. SameAs (elaborated integers line e h) (elaborated Mathematical line e j)) s i

  -- a number behind another
  second : (e : Expression) (h k : ℕ) → h ≡ k → SameAs (elaborated integers line e h) (elaborated Mathematical line e h)
      → SameNumber (numbered integers line (elaborated integers line e h)) (numbered Mathematical line (elaborated Mathematical line e k))
  second e h k s i = numbered_same (elaborated integers line e h) (elaborated Mathematical line e k) (behind e h k s i)

  mutual
    -- an expression
    pub elaborated_same : (e : Expression) (h : ℕ) → SameAs (elaborated integers line e h) (elaborated Mathematical line e h)
    elaborated_same (number v at) h = number_same v at h
    elaborated_same (variable i at) h = (refl, refl)
    elaborated_same (unknown at) h = (refl, refl)
    elaborated_same (call es at) h = (refl, evaluated_same es h)
    elaborated_same (element is at) h = (refl, indexed_same is h)
    elaborated_same (stepped direction moment i sign at) h =
        let one = constant_form (pos 1) in
        let a = operated integers line (step_by direction) sign [] h (variable_form i) one in
        let b = operated Mathematical line (step_by direction) sign [] h (variable_form i) one in (
          refl,
          (ranged_same sign (λ width r. operation_held width (step_by direction) (variable_form i) one r) a b
              (operated_same (step_by direction) sign [] [] h (variable_form i) one)).1,
        )
    elaborated_same (grouped at e) h = elaborated_same e h
    elaborated_same (negative at e) h =
        let a = numbered_same (elaborated integers line e h) (elaborated Mathematical line e h) (elaborated_same e h) in
        let v = numbered integers line (elaborated integers line e h) in
        let w = numbered Mathematical line (elaborated Mathematical line e h) in
        ranged_same at is_held (form_behind v.prelude v.next (opposite v.form)) (form_behind w.prelude w.next (opposite w.form))
        (ap (λ f. a_form (opposite f)) a.0, a.1)
    elaborated_same (positive at e) h =
        let a = numbered_same (elaborated integers line e h) (elaborated Mathematical line e h) (elaborated_same e h) in
        (ap a_form a.0, a.1)
    elaborated_same (inverse at e) h =
        let a = elaborated_same e h in (ap (λ r. a_truth (tree.negation (as_condition r))) a.0, a.1)
    elaborated_same (joined o sign e f) h =
        let a = numbered_same (elaborated integers line e h) (elaborated Mathematical line e h) (elaborated_same e h) in
        let v = numbered integers line (elaborated integers line e h) in
        let w = numbered Mathematical line (elaborated Mathematical line e h) in
        let b = second f v.next w.next a.1 (elaborated_same f v.next) in
        let c = numbered integers line (elaborated integers line f v.next) in
        let d = numbered Mathematical line (elaborated Mathematical line f w.next) in
        ranged_same sign (λ width r. operation_held width o v.form c.form r)
        (operated integers line o sign (v.prelude ++ c.prelude) c.next v.form c.form)
        (operated Mathematical line o sign (w.prelude ++ d.prelude) d.next w.form d.form)
        (operated_equal o sign (v.prelude ++ c.prelude) (w.prelude ++ d.prelude) c.next d.next v.form c.form w.form d.form b.1 a.0 b.0)
    elaborated_same (compared rel sign e f) h =
        let a = numbered_same (elaborated integers line e h) (elaborated Mathematical line e h) (elaborated_same e h) in
        let v = numbered integers line (elaborated integers line e h) in
        let w = numbered Mathematical line (elaborated Mathematical line e h) in
        let b = second f v.next w.next a.1 (elaborated_same f v.next) in (ap₂ (λ p q. a_truth (related rel p q)) a.0 b.0, b.1)
    elaborated_same (both c d) h =
        let a = elaborated_same c h in
        let b = behind d (elaborated integers line c h).next (elaborated Mathematical line c h).next a.1
        (elaborated_same d (elaborated integers line c h).next) in
        (ap₂ (λ p q. a_truth (tree.both (as_condition p) (as_condition q))) a.0 b.0, b.1)
    elaborated_same (either c d) h =
        let a = elaborated_same c h in
        let b = behind d (elaborated integers line c h).next (elaborated Mathematical line c h).next a.1
        (elaborated_same d (elaborated integers line c h).next) in
        (ap₂ (λ p q. a_truth (tree.either (as_condition p) (as_condition q))) a.0 b.0, b.1)
    elaborated_same (chosen sign c e f) h =
        let a = elaborated_same c h in
        let b = second e (elaborated integers line c h).next (elaborated Mathematical line c h).next a.1
        (elaborated_same e (elaborated integers line c h).next) in
        let v = numbered integers line (elaborated integers line e (elaborated integers line c h).next) in
        let w = numbered Mathematical line (elaborated Mathematical line e (elaborated Mathematical line c h).next) in
        let d = second f v.next w.next b.1 (elaborated_same f v.next) in (ap (λ k. a_form (variable_form k)) d.1, ap suc d.1)

    -- some expressions
    pub evaluated_same : (es : Expressions) (h : ℕ) → (evaluated integers line es h).next ≡ (evaluated Mathematical line es h).next
    evaluated_same none h = refl
    evaluated_same (more e es) h =
        let a = elaborated_same e h in
        evaluated_same es (elaborated integers line e h).next ∙ ap (λ k. (evaluated Mathematical line es k).next) a.1

    -- some indexes
    pub indexed_same : (is : Subscripts) (h : ℕ) → (indexed integers line is h).next ≡ (indexed Mathematical line is h).next
    indexed_same no_subscript h = refl
    indexed_same (subscript extent bracket e is) h =
        let a = numbered_same (elaborated integers line e h) (elaborated Mathematical line e h) (elaborated_same e h) in
        indexed_same is (numbered integers line (elaborated integers line e h)).next
        ∙ ap (λ k. (indexed Mathematical line is k).next) a.1
