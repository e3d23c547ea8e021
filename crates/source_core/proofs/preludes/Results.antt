-- What is kept of an operand is kept of it as a number and as a condition.
use Rattle.std.proofs.Common.{◌≡◌, ◌≤◌, ℕ, suc, Bool, true, false, List, [], ◌∷◌}
use Rattle.std.proofs.Common.{refl, sym, subst, ◌∙◌, arith}
use Rattle.std.specs.Prelude.{ℤ, pos}
use Rattle.std.proofs.lemmas.Int.{ints}
use Rattle.lang_tree.specs.Meaning.{State, put, value, MayBe}
use Rattle.lang_tree.specs.Tree.{Deed, havocs, wheres}
use Rattle.source_tree.specs.Values.{truth_number, Tells}
use Rattle.source_core.specs.Forms.{constant_form}
use Rattle.source_core.specs.Preludes.{AllLeave}
use Rattle.source_core.specs.Laws.{Agree, MayResult}
use Rattle.source_core.specs.Elaborated.{Result, a_form, a_truth, any, Elaborated, numbered, tested}
use Rattle.source_core.specs.Elaborated.{as_number, as_condition, held, selects}
use Rattle.source_core.proofs.forms.Forms.{value-constant}
use Rattle.source_core.proofs.forms.Over.{over_variable, over_constant, ConditionOver}
use Rattle.source_core.proofs.preludes.Preludes.{leave-then, hidden-agrees}
use Rattle.base_integers.specs.declared.integers.Integers.{Integers}
use Rattle.source_core.proofs.preludes.Parts.{Fits, fits-then, given-one, goes-given, hidden-is, one_of, Keeps, KeepsNumber, KeepsTruth}
use Rattle.source_core.proofs.preludes.Parts.{ResultOver}
use Rattle.source_core.proofs.preludes.Held.{take-any, fits-any, writes-any}

truth-form : (t : Bool) (x : State) → value (one_of t (constant_form (pos 1)) (constant_form (pos 0))) x ≡ truth_number t
truth-form true x = value-constant (pos 1) x
truth-form false x = value-constant (pos 0) x

keeps-as_number : (integers : Integers) (line n : ℕ) (S : ℕ → Type 0) (h : ℕ) (P : State → ℤ → State → Type 0) (ds : List Deed) (m : ℕ)
    (r : Result) → Fits n S h ds m → ResultOver m r
    → ((x s : State) (z : ℤ) (y : State) → Agree n x s → P x z y
    → (t : State) × AllLeave ds s t × Agree n y t × MayResult integers r t z)
    → KeepsNumber n S h P (as_number integers line ds m r)
keeps-as_number integers line n S h P ds m (a_form f) fits over keeps = record { fits = fits; over = over; keeps = keeps }
keeps-as_number integers line n S h P ds m (a_truth c) fits over keeps =
    let one = constant_form (pos 1) in
    let none = constant_form (pos 0) in
    let more = havocs m line ∷ wheres (selects c m one none) line ∷ [] in
    let above : n ≤ m = omega (arith, fits.above, fits.grows) in
    record {
      fits = fits-then n S h m (suc m) ds more fits (goes-given line n S c m one none above over (over_constant m (pos 1))
          (over_constant m (pos 0)));
      over = over_variable (suc m) m (omega arith);
      keeps = λ x s z y a p.
          let k = keeps x s z y a p in
          let t = k.3.0 in
          let g = given-one line t c m one none k.0 over (over_constant m (pos 1)) (over_constant m (pos 0)) k.3.1 in (
            g.0,
            leave-then ds more s k.0 g.0 k.1 g.1,
            hidden-agrees n m more y k.0 g.0 above (omega arith, tt) k.2 g.1,
            k.3.2 ∙ sym (truth-form t k.0) ∙ g.2,
          );
    }
keeps-as_number integers line n S h P ds m any fits over keeps =
    let more = havocs m line ∷ held integers line m in
    let above : n ≤ m = omega (arith, fits.above, fits.grows) in
    record {
      fits = fits-then n S h m (suc m) ds more fits (fits-any integers line n S m above);
      over = over_variable (suc m) m (omega arith);
      keeps = λ x s z y a p.
          let k = keeps x s z y a p in
          let t = put (pos 0) k.0 m z in
          let l = take-any integers line m k.0 z k.3 in (
            t,
            leave-then ds more s k.0 t k.1 l,
            hidden-agrees n m more y k.0 t above (writes-any integers line m) k.2 l,
            sym (hidden-is m k.0 z),
          );
    }

-- what is kept of an operand is kept of it as a number
pub keeps-number : (integers : Integers) (line n : ℕ) (S : ℕ → Type 0) (h : ℕ) (P : State → ℤ → State → Type 0) (e : Elaborated)
    → Keeps integers n S h P e → KeepsNumber n S h P (numbered integers line e)
keeps-number integers line n S h P e k = keeps-as_number integers line n S h P e.prelude e.next e.result k.fits k.over k.keeps

tells-one : (t b : Bool) (z : ℤ) → z ≡ truth_number t → Tells b z → t ≡ b
tells-one true true z e h = refl
tells-one true false z e h = absurd (omega (arith, ints, e, h))
tells-one false true z e h = absurd (h e)
tells-one false false z e h = refl

tells-result : (integers : Integers) (r : Result) (y : State) (z : ℤ) (t : Bool) → MayResult integers r y z → Tells t z
    → MayBe t (as_condition r) y
tells-result integers (a_form f) y z true m h = λ e. h (m ∙ e)
tells-result integers (a_form f) y z false m h = λ n. n (sym m ∙ h)
tells-result integers (a_truth c) y z t m h = subst (λ b. MayBe b c y) (tells-one m.0 t z m.2 h) m.1
tells-result integers any y z t m h = tt

condition-result : (n : ℕ) (r : Result) → ResultOver n r → ConditionOver n (as_condition r)
condition-result n (a_form f) o = o
condition-result n (a_truth c) o = o
condition-result n any o = tt

-- what is kept of an operand is kept of it as a condition
pub keeps-truth : (integers : Integers) (n : ℕ) (S : ℕ → Type 0) (h : ℕ) (P : State → ℤ → State → Type 0) (e : Elaborated)
    → Keeps integers n S h P e → KeepsTruth n S h P (tested e)
keeps-truth integers n S h P e k = record {
  fits = k.fits;
  over = condition-result e.next e.result k.over;
  keeps = λ x s z y a p.
      let r = k.keeps x s z y a p in (r.0, r.1, r.2, λ t q. tells-result integers e.result r.0 z t r.3 q);
}
