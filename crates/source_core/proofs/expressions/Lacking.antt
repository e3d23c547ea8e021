-- The form of an expression's result lacks the variables that don't occur in the expression, and hidden ones of others.
use Rattle.std.proofs.Common.{◌≡◌, ◌≢◌, ⊎_elim, ◌<◌, ◌≤◌, ◌+◌, ℕ, suc, Bool, true, false, List, [], ◌∷◌, ◌++◌, get_or, ◌⊎◌}
use Rattle.std.proofs.Common.{inl, inr, arith}
use Rattle.std.specs.Prelude.{ℤ, pos, negsuc, int_div, int_rem, IsTrue, if◌then◌else◌}
use Rattle.lang_tree.specs.declared.form.Form.{Form}
use Rattle.lang_tree.specs.declared.check.CheckKind.TheVariants.{Range}
use Rattle.lang_tree.specs.Tree.{Condition, Deed}
use Rattle.base_integers.specs.declared.integers.Width.{Width}
use Rattle.base_integers.specs.declared.integers.Integers.{Integers}
use Rattle.base_integers.specs.declared.integers.Integers.TheVariants.{Mathematical, Machine}
use Rattle.source_tree.specs.Expressions.{Operation, plus, minus, times, over, remainder}
use Rattle.source_tree.specs.Expressions.{Direction, up, down, Moment, before, behind}
use Rattle.source_tree.specs.Expressions.{Expression, Expressions, number, variable, unknown, call, element, grouped, negative, positive}
use Rattle.source_tree.specs.Expressions.{stepped, inverse, joined, compared, both, either, chosen, none, more}
use Rattle.source_tree.specs.Expressions.{Subscripts, no_subscript, subscript}
use Rattle.source_tree.specs.Values.{step_by}
use Rattle.source_core.specs.Forms.{constant_form, variable_form, scaled, is_constant}
use Rattle.source_core.specs.Forms as form
use Rattle.source_core.specs.Laws.{occurrences}
use Rattle.source_core.specs.Elaborated.{Result, a_form, a_truth, any, Elaborated, Numbered, elaborated, evaluated, indexed, numbered}
use Rattle.source_core.specs.Elaborated.{as_number, checked, has, form_behind, is_divisor, is_held, is_unit, number_at, operated}
use Rattle.source_core.specs.Elaborated.{operation_held, ranged, step_form}
use Rattle.source_core.proofs.forms.Tests.{below_or_not}
use Rattle.source_core.proofs.forms.Lacks.{Lacks, value-lacks, lacks-behind, lacks-constant, lacks-variable, lacks-plus, lacks-scaled}
use Rattle.source_core.proofs.forms.Lacks.{lacks-minus}
use Rattle.source_core.proofs.forms.Over.{FormOver}
use Rattle.source_core.proofs.preludes.Preludes.{leave-keeps}
use Rattle.source_core.proofs.preludes.Parts.{Written, Fits}
use Rattle.source_core.proofs.expressions.Apart.{Stepped, occurs-not}
use Rattle.source_core.proofs.expressions.Operands.{Stays}

-- a variable is none of a result's form
abbrev pub ResultLacks : ℕ → Result → Type 0
ResultLacks i (a_form f) = Lacks i f
ResultLacks i (a_truth c) = Unit {0}
ResultLacks i any = Unit {0}

-- an expression in which variables occur so often
pub record Lacking (counts : ℕ → ℕ) (h : ℕ) (e : Elaborated) : Type 0 where
  -- hidden variables are taken from h upwards
  pub grows : h ≤ e.next
  -- the result lacks the variables before these that occur not at all
  pub lacks : (i : ℕ) → i < h → counts i ≡ 0 → ResultLacks i e.result

-- the same of an operand that is a number
pub record LackingNumber (counts : ℕ → ℕ) (h : ℕ) (e : Numbered) : Type 0 where
  -- hidden variables are taken from h upwards
  pub grows : h ≤ e.next
  -- the form lacks the variables before these that occur not at all
  pub lacks : (i : ℕ) → i < h → counts i ≡ 0 → Lacks i e.form

apart : (i h : ℕ) → i < h → i ≢ h
apart i h l e = omega (arith, l, e)

number-lacks : (integers : Integers) (line : ℕ) (counts : ℕ → ℕ) (h : ℕ) (ds : List Deed) (m : ℕ) (r : Result) → h ≤ m
    → ((i : ℕ) → i < h → counts i ≡ 0 → ResultLacks i r) → LackingNumber counts h (as_number integers line ds m r)
number-lacks integers line counts h ds m (a_form f) g l = record { grows = g; lacks = l }
number-lacks integers line counts h ds m (a_truth c) g l = record {
  grows = omega (arith, g);
  lacks = λ i s z. lacks-variable i m (apart i m (omega (arith, g, s)));
}
number-lacks integers line counts h ds m any g l = record {
  grows = omega (arith, g);
  lacks = λ i s z. lacks-variable i m (apart i m (omega (arith, g, s)));
}

-- an operand lacks the same as a number
pub lacking-number : (integers : Integers) (line : ℕ) (counts : ℕ → ℕ) (h : ℕ) (e : Elaborated) → Lacking counts h e
    → LackingNumber counts h (numbered integers line e)
lacking-number integers line counts h e k = number-lacks integers line counts h e.prelude e.next e.result k.grows k.lacks

-- ---- operations
one-lacks : (t : Bool) (counts : ℕ → ℕ) (h : ℕ) (a b : Elaborated) → Lacking counts h a → Lacking counts h b
    → Lacking counts h (if t then a else b)
one-lacks true counts h a b p q = p
one-lacks false counts h a b p q = q

module _ (integers : Integers) (line : ℕ) (counts : ℕ → ℕ) (h : ℕ) where
  -- a form
  form-lacks : (ds : List Deed) (m : ℕ) (f : Form) → h ≤ m → ((i : ℕ) → i < h → counts i ≡ 0 → Lacks i f)
      → Lacking counts h (form_behind ds m f)
  form-lacks ds m f g l = record { grows = g; lacks = l }

  -- a hidden variable
  hidden-lacks : (ds : List Deed) (m : ℕ) → h ≤ m → Lacking counts h (form_behind ds (suc m) (variable_form m))
  hidden-lacks ds m g = record {
    grows = omega (arith, g);
    lacks = λ i s z. lacks-variable i m (apart i m (omega (arith, g, s)));
  }

  operated-lacks : (o : Operation) (sign : ℕ) (ds : List Deed) (m : ℕ) (f g : Form) → h ≤ m
      → ((i : ℕ) → i < h → counts i ≡ 0 → Lacks i f) → ((i : ℕ) → i < h → counts i ≡ 0 → Lacks i g)
      → Lacking counts h (operated integers line o sign ds m f g)
  operated-lacks plus sign ds m f g s p q = form-lacks ds m (form.plus f g) s (λ i l z. lacks-plus i f g (p i l z) (q i l z))
  operated-lacks minus sign ds m f g s p q = form-lacks ds m (form.minus f g) s (λ i l z. lacks-minus i f g (p i l z) (q i l z))
  operated-lacks times sign ds m f g s p q = one-lacks (is_constant f) counts h _ _
      (form-lacks ds m (scaled f.constant g) s (λ i l z. lacks-scaled i f.constant g (q i l z)))
      (one-lacks (is_constant g) counts h _ _
      (form-lacks ds m (scaled g.constant f) s (λ i l z. lacks-scaled i g.constant f (p i l z))) (hidden-lacks _ m s))
  operated-lacks over sign ds m f g s p q = one-lacks (is_divisor g) counts h _ _
      (one-lacks (is_unit g.constant) counts h _ _
      (form-lacks ds m (scaled g.constant f) s (λ i l z. lacks-scaled i g.constant f (p i l z)))
      (one-lacks (is_constant f) counts h _ _
      (form-lacks ds m (constant_form (int_div f.constant g.constant)) s (λ i l z. lacks-constant i (int_div f.constant g.constant)))
      (hidden-lacks _ m s)))
      (hidden-lacks _ m s)
  operated-lacks remainder sign ds m f g s p q = one-lacks (is_divisor g) counts h _ _
      (one-lacks (is_unit g.constant) counts h _ _ (form-lacks ds m (constant_form (pos 0)) s (λ i l z. lacks-constant i (pos 0)))
      (one-lacks (is_constant f) counts h _ _
      (form-lacks ds m (constant_form (int_rem f.constant g.constant)) s (λ i l z. lacks-constant i (int_rem f.constant g.constant)))
      record {
        grows = omega (arith, s);
        lacks = λ i l z. lacks-minus i f (scaled g.constant (variable_form m)) (p i l z)
            (lacks-scaled i g.constant (variable_form m) (lacks-variable i m (apart i m (omega (arith, s, l)))));
      }))
      (hidden-lacks _ m s)

  ranged-lacks : (place : ℕ) (holds : Width → Form → Condition) (e : Elaborated) → Lacking counts h e
      → Lacking counts h (ranged integers line place holds e)
  ranged-lacks place holds e k = by integers
    where
      by : (n : Integers) → Lacking counts h (ranged n line place holds e)
      by Mathematical = k
      by (Machine width) = record { grows = k.grows; lacks = k.lacks }

  number_at-lacks : (v : ℤ) (at : ℕ) → Lacking counts h (number_at integers line v at h)
  number_at-lacks v at = by integers
    where
      by : (n : Integers) → Lacking counts h (number_at n line v at h)
      by Mathematical = form-lacks [] h (constant_form v) (omega arith) (λ i l z. lacks-constant i v)
      by (Machine width) = one-lacks (has width v) counts h _ _
          (form-lacks [] h (constant_form v) (omega arith) (λ i l z. lacks-constant i v))
          (form-lacks (checked line Range at (is_held width (constant_form v)) ∷ []) h (constant_form v) (omega arith)
          (λ i l z. lacks-constant i v))

  step-lacks : (direction : Direction) (moment : Moment) (i j : ℕ) → i ≢ j → Lacks i (step_form direction moment j)
  step-lacks direction before i j d = lacks-variable i j d
  step-lacks up behind i j d =
      lacks-minus i (variable_form j) (constant_form (pos 1)) (lacks-variable i j d) (lacks-constant i (pos 1))
  step-lacks down behind i j d =
      lacks-plus i (variable_form j) (constant_form (pos 1)) (lacks-variable i j d) (lacks-constant i (pos 1))

none_left : (a b : ℕ) → a + b ≡ 0 → a ≡ 0
none_left a b e = omega (arith, e)

none_right : (a b : ℕ) → a + b ≡ 0 → b ≡ 0
none_right a b e = omega (arith, e)

module _ (integers : Integers) (line : ℕ) where
  mutual
    -- an expression
    pub lacking : (e : Expression) (h : ℕ) → Lacking (λ i. occurrences i e) h (elaborated integers line e h)
    lacking (number v at) h = number_at-lacks integers line (λ i. 0) h v at
    lacking (variable j at) h = record {
      grows = omega arith;
      lacks = λ i s z. lacks-variable i j (occurs-not j i z);
    }
    lacking (unknown at) h = record { grows = omega arith; lacks = λ i s z. tt }
    lacking (call es at) h = record { grows = grows_in es h; lacks = λ i s z. tt }
    lacking (element is at) h = record { grows = grows_at is h; lacks = λ i s z. tt }
    lacking (stepped direction moment j sign at) h =
        let o = operated-lacks integers line (λ i. occurrences i (stepped direction moment j sign at)) h (step_by direction) sign [] h
        (variable_form j) (constant_form (pos 1)) (omega arith) (λ i s z. lacks-variable i j (occurs-not j i z))
        (λ i s z. lacks-constant i (pos 1)) in
        let r = ranged-lacks integers line (λ i. occurrences i (stepped direction moment j sign at)) h sign
        (λ width f. operation_held width (step_by direction) (variable_form j) (constant_form (pos 1)) f) _ o in
        record {
          grows = r.grows;
          lacks = λ i s z. step-lacks integers line (λ i. 0) h direction moment i j (occurs-not j i z);
        }
    lacking (grouped at e) h = lacking e h
    lacking (negative at e) h =
        let k = lacking-number integers line (λ i. occurrences i e) h (elaborated integers line e h) (lacking e h) in
        let a = numbered integers line (elaborated integers line e h) in
        ranged-lacks integers line (λ i. occurrences i e) h at is_held (form_behind a.prelude a.next (form.opposite a.form)) record {
          grows = k.grows;
          lacks = λ i s z. lacks-scaled i (negsuc 0) a.form (k.lacks i s z);
        }
    lacking (positive at e) h =
        let k = lacking-number integers line (λ i. occurrences i e) h (elaborated integers line e h) (lacking e h) in
        record { grows = k.grows; lacks = k.lacks }
    lacking (inverse at e) h = let k = lacking e h in record { grows = k.grows; lacks = λ i s z. tt }
    lacking (joined o sign e f) h =
        let p = lacking-number integers line (λ i. occurrences i e) h (elaborated integers line e h) (lacking e h) in
        let a = numbered integers line (elaborated integers line e h) in
        let q = lacking-number integers line (λ i. occurrences i f) a.next (elaborated integers line f a.next) (lacking f a.next) in
        let b = numbered integers line (elaborated integers line f a.next) in
        let counts = λ (i : ℕ). occurrences i e + occurrences i f in
        ranged-lacks integers line counts h sign (λ width r. operation_held width o a.form b.form r)
        (operated integers line o sign (a.prelude ++ b.prelude) b.next a.form b.form)
        (operated-lacks integers line counts h o sign (a.prelude ++ b.prelude) b.next a.form b.form (omega (arith, p.grows, q.grows))
        (λ i s z. p.lacks i s (none_left (occurrences i e) (occurrences i f) z))
        (λ i s z. q.lacks i (let g = p.grows in omega (arith, s, g)) (none_right (occurrences i e) (occurrences i f) z)))
    lacking (compared rel sign e f) h =
        let p = lacking-number integers line (λ i. occurrences i e) h (elaborated integers line e h) (lacking e h) in
        let a = numbered integers line (elaborated integers line e h) in
        let q = lacking-number integers line (λ i. occurrences i f) a.next (elaborated integers line f a.next) (lacking f a.next) in
        record { grows = omega (arith, p.grows, q.grows); lacks = λ i s z. tt }
    lacking (both c d) h =
        let p = lacking c h in
        let q = lacking d (elaborated integers line c h).next in
        record { grows = omega (arith, p.grows, q.grows); lacks = λ i s z. tt }
    lacking (either c d) h =
        let p = lacking c h in
        let q = lacking d (elaborated integers line c h).next in
        record { grows = omega (arith, p.grows, q.grows); lacks = λ i s z. tt }
    lacking (chosen sign c e f) h =
        let p = lacking c h in
        let a = elaborated integers line c h in
        let q = lacking-number integers line (λ i. occurrences i e) a.next (elaborated integers line e a.next) (lacking e a.next) in
        let b = numbered integers line (elaborated integers line e a.next) in
        let r = lacking-number integers line (λ i. occurrences i f) b.next (elaborated integers line f b.next) (lacking f b.next) in
        let d = numbered integers line (elaborated integers line f b.next) in
        record {
          grows = omega (arith, p.grows, q.grows, r.grows);
          lacks = λ i s z. lacks-variable i d.next (apart i d.next (omega (arith, p.grows, q.grows, r.grows, s)));
        }

    -- some expressions
    pub grows_in : (es : Expressions) (h : ℕ) → h ≤ (evaluated integers line es h).next
    grows_in none h = omega arith
    grows_in (more e es) h =
        let p = lacking e h in let q = grows_in es (elaborated integers line e h).next in omega (arith, p.grows, q)

    -- some indexes
    pub grows_at : (is : Subscripts) (h : ℕ) → h ≤ (indexed integers line is h).next
    grows_at no_subscript h = omega arith
    grows_at (subscript extent bracket e is) h =
        let p = lacking-number integers line (λ i. occurrences i e) h (elaborated integers line e h) (lacking e h) in
        let q = grows_at is (numbered integers line (elaborated integers line e h)).next in omega (arith, p.grows, q)

-- ---- values that stay
-- a form that lacks the variables that don't occur keeps its value where other variables are stepped
pub stays : (n h m : ℕ) (test : ℕ → Bool) (counts others : ℕ → ℕ) (f : Form) (ds : List Deed) (next : ℕ) → n ≤ h → FormOver m f
    → ((i : ℕ) → i < h → counts i ≡ 0 → Lacks i f) → Fits n (Stepped n test others) m ds next
    → ((i : ℕ) → IsTrue (test i) → counts i + others i ≤ 1) → Stays ds f
stays n h m test counts others f ds next below within lacks fits once x y l = value-lacks f x y at
  where
    W : ℕ → Type 0
    W = Written (Stepped n test others) m

    at : (i : ℕ) → Lacks i f ⊎ (get_or x i (pos 0) ≡ get_or y i (pos 0))
    at i = ⊎_elim (λ s. ⊎_elim (λ v. visible s v) (λ v. inr (leave-keeps W ds x y i fits.writes l (hidden s v))) (below_or_not i n))
        (λ s. inl (lacks-behind m i f within s)) (below_or_not i m)
      where
        hidden : i < m → n ≤ i → ¬ (W i)
        hidden s v = λ w. ⊎_elim (λ k. let b = k.0 in omega (arith, b, v)) (λ k. omega (arith, k, s)) w

        occurs : i < n → 1 ≤ counts i → ¬ (W i)
        occurs v o = λ w. ⊎_elim (λ k. let c = once i k.1 in let d = k.2 in omega (arith, c, d, o))
            (λ k. let a = fits.above in omega (arith, k, a, v)) w

        visible : i < m → i < n → Lacks i f ⊎ (get_or x i (pos 0) ≡ get_or y i (pos 0))
        visible s v = ⊎_elim (λ z. inl (lacks i (omega (arith, v, below)) (let k = z in omega (arith, k))))
            (λ o. inr (leave-keeps W ds x y i fits.writes l (occurs v o))) (below_or_not (counts i) 1)
