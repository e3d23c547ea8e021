-- Checks that may be false where an operation has no value.
use Rattle.std.proofs.Common.{◌≡◌, inl, inr, ℕ, Bool, true, false, List, [], ◌∷◌, ◌++◌}
use Rattle.std.proofs.Common.{refl, sym, ap, subst, ◌∙◌, arith}
use Rattle.std.specs.Prelude.{ℤ, pos, negsuc, ◌-ℤ◌, ◌≤ℤ◌, ◌<ℤ◌, if◌then◌else◌}
use Rattle.std.proofs.lemmas.Int.{ints, by_lt_z}
use Rattle.std.proofs.lemmas.Bool.{leb-true}
use Rattle.lang_tree.specs.declared.form.Form.{Form}
use Rattle.lang_tree.specs.declared.check.Check.{Check}
use Rattle.lang_tree.specs.declared.check.CheckKind.TheVariants.{Divisor, Range}
use Rattle.lang_tree.specs.declared.cond.Rel.TheVariants.{Ne, Le}
use Rattle.lang_tree.specs.Tree as tree
use Rattle.lang_tree.specs.Tree.{Condition}
use Rattle.lang_tree.specs.Meaning.{State, value, MayBe}
use Rattle.lang_tree.specs.Tree.{Deed, checks}
use Rattle.base_integers.specs.declared.integers.Width.{Width}
use Rattle.base_integers.specs.declared.integers.Integers.{Integers}
use Rattle.base_integers.specs.declared.integers.Integers.TheVariants.{Mathematical, Machine}
use Rattle.base_integers.specs.Integers.{greatest, Has}
use Rattle.source_tree.specs.Expressions.{Operation, plus, minus, times, over, remainder, Extent, endless, elements}
use Rattle.source_tree.specs.Values.{DividesByZero, Exceeds, IsIndex}
use Rattle.source_core.specs.Forms.{constant_form, is_constant}
use Rattle.source_core.specs.Preludes.{AllLeave, MayFail}
use Rattle.source_core.specs.Elaborated.{Result, a_form, a_truth, any, Elaborated, checked, form_behind, is_held, number_at, numbered}
use Rattle.source_core.specs.Elaborated.{as_number, operated, quotient_by, ranged, remainder_by, unless_zero, is_divisor, is_unit, is_index}
use Rattle.source_core.specs.Elaborated.{has, related}
use Rattle.source_core.proofs.forms.Forms.{value-minus, value-constant, value-is_constant}
use Rattle.source_core.proofs.preludes.Preludes.{fail-before, fail-behind}
use Rattle.source_core.proofs.preludes.Held.{held-false}
use Rattle.source_core.proofs.expressions.Operated.{is_divisor_of}

-- ---- what stands before other deeds
fail-as_number : (integers : Integers) (line : ℕ) (ds : List Deed) (h : ℕ) (r : Result) (x : State) (about : Check) → MayFail ds x about
    → MayFail (as_number integers line ds h r).prelude x about
fail-as_number integers line ds h (a_form f) x about m = m
fail-as_number integers line ds h (a_truth c) x about m = fail-before ds _ x about m
fail-as_number integers line ds h any x about m = fail-before ds _ x about m

-- a check that may be false in a prelude may be so where the result is made a number
pub fail-number : (integers : Integers) (line : ℕ) (e : Elaborated) (x : State) (about : Check) → MayFail e.prelude x about
    → MayFail (numbered integers line e).prelude x about
fail-number integers line e x about m = fail-as_number integers line e.prelude e.next e.result x about m

-- whichever of two it is
fail-one : (t : Bool) (a b : Elaborated) (x : State) (about : Check) → MayFail a.prelude x about → MayFail b.prelude x about
    → MayFail (if t then a else b).prelude x about
fail-one true a b x about h k = h
fail-one false a b x about h k = k

-- a check that may be false before an operation may be so in it
pub fail-operated : (integers : Integers) (line : ℕ) (o : Operation) (sign : ℕ) (ds : List Deed) (h : ℕ) (f g : Form) (x : State)
    (about : Check) → MayFail ds x about
    → MayFail (operated integers line o sign ds h f g).prelude x about
fail-operated integers line plus sign ds h f g x about m = m
fail-operated integers line minus sign ds h f g x about m = m
fail-operated integers line times sign ds h f g x about m =
    fail-one (is_constant f) _ _ x about m (fail-one (is_constant g) _ _ x about m (fail-before ds _ x about m))
fail-operated integers line over sign ds h f g x about m =
    fail-one (is_divisor g) (quotient_by line ds h f g.constant) (unless_zero integers line ds h sign g) x about
    (fail-one (is_unit g.constant) _ _ x about m (fail-one (is_constant f) _ _ x about m (fail-before ds _ x about m)))
    (fail-before (ds ++ _) _ x about (fail-before ds _ x about m))
fail-operated integers line remainder sign ds h f g x about m =
    fail-one (is_divisor g) (remainder_by line ds h f g.constant) (unless_zero integers line ds h sign g) x about
    (fail-one (is_unit g.constant) _ _ x about m (fail-one (is_constant f) _ _ x about m (fail-before ds _ x about m)))
    (fail-before (ds ++ _) _ x about (fail-before ds _ x about m))

-- ---- a check that may be false
-- the last deed of these is a check
pub fail-last : (ds : List Deed) (about : Check) (c : tree.Condition) (line : ℕ) (x y : State) → AllLeave ds x y → MayBe false c y
    → MayFail (ds ++ checks about c line ∷ []) x about
fail-last ds about c line x y h m = fail-behind ds (checks about c line ∷ []) x y about h (inl (refl, m))

same_zero : (a b z : ℤ) → a ≡ b -ℤ z → z ≡ pos 0 → b ≡ pos 0 → a ≡ pos 0
same_zero a b z p q r = omega (arith, ints, p, q, r)

-- a divisor that is 0
fail-divisor : (integers : Integers) (line sign : ℕ) (ds : List Deed) (h : ℕ) (f g : Form) (x y : State) (v : ℤ) → AllLeave ds x y
    → v ≡ value g y → v ≡ pos 0
    → MayFail (unless_zero integers line ds h sign g).prelude x record { kind = Divisor; at = sign }
fail-divisor integers line sign ds h f g x y v l e z =
    let about : Check = record { kind = Divisor; at = sign } in
    let zero_is = same_zero _ _ _ (value-minus g (constant_form (pos 0)) y) (value-constant (pos 0) y) (sym e ∙ z) in
    fail-before (ds ++ checks about (related Ne g (constant_form (pos 0))) line ∷ []) _ x about
    (fail-last ds about (related Ne g (constant_form (pos 0))) line x y l (λ n. n zero_is))

no_zero : (g : Form) (y : State) (v : ℤ) → v ≡ value g y → v ≡ pos 0 → is_divisor g ≡ false
no_zero g y v e z = by (is_divisor g) refl
  where
    by : (t : Bool) → is_divisor g ≡ t → is_divisor g ≡ false
    by true p = let d = is_divisor_of g p in absurd (d.1 (sym (value-is_constant g y d.0) ∙ sym e ∙ z))
    by false p = p

-- an operation whose divisor is 0
pub fail-zero : (integers : Integers) (line : ℕ) (o : Operation) (sign : ℕ) (ds : List Deed) (h : ℕ) (f g : Form) (x y : State) (v : ℤ)
    (about : Check) → AllLeave ds x y → v ≡ value g y → DividesByZero o sign about v
    → MayFail (operated integers line o sign ds h f g).prelude x about
fail-zero integers line plus sign ds h f g x y v about l e m = absurd m
fail-zero integers line minus sign ds h f g x y v about l e m = absurd m
fail-zero integers line times sign ds h f g x y v about l e m = absurd m
fail-zero integers line over sign ds h f g x y v about l e m =
    subst (λ a. MayFail (operated integers line over sign ds h f g).prelude x a) (sym m.0)
    (subst (λ t. MayFail (if t then quotient_by line ds h f g.constant else unless_zero integers line ds h sign g).prelude x
    record { kind = Divisor; at = sign }) (sym (no_zero g y v e m.1)) (fail-divisor integers line sign ds h f g x y v l e m.1))
fail-zero integers line remainder sign ds h f g x y v about l e m =
    subst (λ a. MayFail (operated integers line remainder sign ds h f g).prelude x a) (sym m.0)
    (subst (λ t. MayFail (if t then remainder_by line ds h f g.constant else unless_zero integers line ds h sign g).prelude x
    record { kind = Divisor; at = sign }) (sym (no_zero g y v e m.1)) (fail-divisor integers line sign ds h f g x y v l e m.1))

-- an index that is none
below_zero : (z k i : ℤ) → z ≡ k -ℤ i → k ≡ pos 0 → i <ℤ pos 0 → ¬ (z ≤ℤ pos 0)
below_zero z k i p q r = λ s. omega (arith, ints, p, q, r, s)

above_last : (z i k : ℤ) (size : ℕ) → z ≡ i -ℤ k → k ≡ pos size -ℤ pos 1 → pos size ≤ℤ i → ¬ (z ≤ℤ pos 0)
above_last z i k size p q r = λ s. omega (arith, ints, p, q, r, s)

not_from_first : (f : Form) (y : State) (i : ℤ) → i ≡ value f y → i <ℤ pos 0
    → MayBe false (related Le (constant_form (pos 0)) f) y
not_from_first f y i e b =
    below_zero _ _ i (value-minus (constant_form (pos 0)) f y ∙ ap (λ v. value (constant_form (pos 0)) y -ℤ v) (sym e))
    (value-constant (pos 0) y) b

-- where a number is no index the condition that it is may be false
pub no_index : (extent : Extent) (f : Form) (y : State) (i : ℤ) → i ≡ value f y → ¬ (IsIndex extent i)
    → MayBe false (is_index extent f) y
no_index endless f y i e n = by_lt_z i (pos 0) (λ b. not_from_first f y i e b) (λ a. absurd (n a))
no_index (elements size) f y i e n = by_lt_z i (pos 0) (λ b. inl (not_from_first f y i e b))
    (λ a. inr (above_last _ i _ size (value-minus f (constant_form (pos size -ℤ pos 1)) y
    ∙ ap (λ v. v -ℤ value (constant_form (pos size -ℤ pos 1)) y) (sym e)) (value-constant (pos size -ℤ pos 1) y)
    (by_lt_z i (pos size) (λ l. absurd (n (a, l))) (λ g. g))))

-- ---- results that are none of the integers
-- a check that may be false before an operation's own may be so with this behind it
pub fail-ranged : (integers : Integers) (line place : ℕ) (holds : Width → Form → Condition) (e : Elaborated) (x : State) (about : Check)
    → MayFail e.prelude x about → MayFail (ranged integers line place holds e).prelude x about
fail-ranged Mathematical line place holds e x about m = m
fail-ranged (Machine width) line place holds e x about m = fail-before e.prelude _ x about m

-- a number that passes as one of the integers is one
has_held : (width : Width) (v : ℤ) → has width v ≡ true → Has (Machine width) v
has_held width (pos v) e = let l = leb-true v (greatest width) e in (omega (arith, ints), omega (arith, ints, l))
has_held width (negsuc v) e = let l = leb-true v (greatest width) e in (omega (arith, ints, l), omega (arith, ints))

-- a number that is none of the integers
pub fail-number_at : (integers : Integers) (line : ℕ) (v : ℤ) (at h : ℕ) (x : State) (about : Check) → Exceeds integers at about v
    → MayFail (number_at integers line v at h).prelude x about
fail-number_at Mathematical line v at h x about m = absurd (m.1 tt)
fail-number_at (Machine width) line v at h x about m = by (has width v) refl
  where
    c : Condition
    c = is_held width (constant_form v)

    by : (t : Bool) → has width v ≡ t
        → MayFail (if t then form_behind [] h (constant_form v) else form_behind (checked line Range at c ∷ []) h
        (constant_form v)).prelude
        x about
    by true e = absurd (m.1 (has_held width v e))
    by false e = inl (sym m.0, held-false width (constant_form v) x v (sym (value-constant v x)) m.1)
