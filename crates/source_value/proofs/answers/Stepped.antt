-- Steps behind their checks.
use Rattle.std.proofs.Common.{◌≡◌, ◌∙◌, ◌++◌, ◌∷◌, [], ℕ, true, refl, subst}
use Rattle.std.proofs.lemmas.Bool.{and_from, and_parts}
use Rattle.base_integers.specs.declared.integers.Integers.{Integers}
use Rattle.base_integers.specs.declared.integers.Integers.TheVariants.{Mathematical, Machine}
use Rattle.lang_tree.specs.Limits.{has_numbers}
use Rattle.lang_tree.specs.Tree.{sets}
use Rattle.source_tree.specs.Expressions.{Direction, up, down, Moment}
use Rattle.source_core.specs.Elaborated.{Elaborated, form_behind, is_held, ranged, step_behind, step_form}
use Rattle.source_core.specs.Fits.{deeds_fit, result_fits}
use Rattle.source_value.specs.declared.value.Value.{Value}
use Rattle.source_value.specs.Kept.{kept_deeds}
use Rattle.source_value.specs.Stands.{Stands}
use Rattle.source_value.specs.Steps.{stepped_form}
use Rattle.source_value.proofs.answers.Parts.{deeds_fit_both}

-- the value of a step behind the check of what the variable takes
abbrev pub checked_step : Integers → (line : ℕ) → Direction → Moment → (var sign h : ℕ) → Elaborated
checked_step integers line d m i sign h =
    ranged integers line sign (λ width f. is_held width (stepped_form d i)) (form_behind [] h (step_form d m i))

-- and then the variable takes it
abbrev pub taken_step : Integers → (line : ℕ) → Direction → Moment → (var sign h : ℕ) → Elaborated
taken_step integers line d m i sign h =
    let e = checked_step integers line d m i sign h in
    record { prelude = e.prelude ++ sets i (stepped_form d i) line ∷ []; result = e.result; next = e.next }

-- which is the step
pub taken_is : (integers : Integers) (line : ℕ) (d : Direction) (m : Moment) (i sign h : ℕ)
    → taken_step integers line d m i sign h ≡ step_behind integers line d m i sign h
taken_is Mathematical line up m i sign h = refl
taken_is Mathematical line down m i sign h = refl
taken_is (Machine width) line up m i sign h = refl
taken_is (Machine width) line down m i sign h = refl

-- a value stands for a step that stands for it behind its check, and has the change of the variable behind that
pub step_stands : (n : ℕ) (integers : Integers) (line : ℕ) (d : Direction) (m : Moment) (i sign h : ℕ) (v w : Value)
    → Stands n v (checked_step integers line d m i sign h)
    → w.prelude ≡ kept_deeds n (checked_step integers line d m i sign h).next (taken_step integers line d m i sign h).prelude
    → w.result ≡ v.result → w.next ≡ v.next → has_numbers (stepped_form d i) ≡ true
    → Stands n w (step_behind integers line d m i sign h)
step_stands n integers line d m i sign h v w s p r k f =
    let e = checked_step integers line d m i sign h in
    let change = sets i (stepped_form d i) line ∷ [] in
    let q = and_parts (deeds_fit e.prelude) (result_fits e.result) s.numbers in
    subst (λ e. Stands n w e) (taken_is integers line d m i sign h) (record {
      prelude = p;
      result = r ∙ s.result;
      next = k ∙ s.next;
      numbers = and_from (deeds_fit (e.prelude ++ change)) (result_fits e.result)
          (deeds_fit_both e.prelude change q.0 (and_from (has_numbers (stepped_form d i)) true f refl)) q.1;
    })
