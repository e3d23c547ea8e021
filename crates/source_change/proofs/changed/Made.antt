-- What the code makes of values.
use Rattle.std.proofs.Common.{◌≡◌, ◌∙◌, ℕ, pos, Some, None, Ok, refl, sym, ap}
use Rattle.std.proofs.lemmas.List.{append-nil}
use Rattle.source_grammar.specs.Tokens as g
use Rattle.source_tree.specs.Expressions.{Expression, none, more, joined, number}
use Rattle.source_core.specs.Elaborated.{elaborated, evaluated}
use Rattle.source_core.specs.Fits.{deeds_fit, result_fits}
use Rattle.source_meaning.specs.Changes.{stepped}
use Rattle.source_meaning.specs.Expressions.{ranged}
use Rattle.source_value.specs.Kept.{kept_deeds}
use Rattle.source_value.specs.Stands.{Stands, StandsEvaluated}
use Rattle.source_value.specs.declared.value.Value.{Value}
use Rattle.source_value.specs.declared.value.Evaluated.{Evaluated}
use Rattle.source_change.specs.declared.deeds.Changed.TheVariants as changed
use Rattle.source_change.specs.Changed.{Aim, a_variable, an_element, var_of, change_to, StandsChange, step_by}
use Rattle.source_change.proofs.limited.Limits.{both_true}
use Rattle.base_integers.specs.declared.integers.Integers.{Integers}
use Rattle.base_integers.specs.declared.integers.Integers.TheVariants.{Mathematical, Machine}
use Rattle.base_integers.specs.declared.integers.Width.TheVariants.{Bits8, Bits16, Bits32}

module _ (integers : Integers) (n line : ℕ) where
  -- a variable takes a value
  pub to_some : (v : ℕ) (value : Value) (a : Aim) (e : Expression) → Some v ≡ var_of a → Stands n value (elaborated integers line e n)
      → StandsChange integers n line (changed.Sets v value) (change_to a e line)
  to_some v value (a_variable i at) e h s = let k : v ≡ i = cc in (k, refl, s)
  to_some v value (an_element old) e h s = cc

  -- an expression alone is evaluated
  pub alone : (r : Evaluated) (value : Value) (e : Expression) → r.prelude ≡ value.prelude → r.next ≡ value.next
      → Stands n value (elaborated integers line e n) → StandsEvaluated n r (evaluated integers line (more e none) n)
  alone r value e p q s =
      let x = elaborated integers line e n in
      let f = both_true (deeds_fit x.prelude) (result_fits x.result) s.numbers in
      record {
        prelude = p ∙ s.prelude ∙ ap (kept_deeds n x.next) (sym (append-nil x.prelude));
        next = q ∙ s.next;
        numbers = ap deeds_fit (append-nil x.prelude) ∙ f.0;
      }

  -- what is written to an element is evaluated
  pub to_none : (r : Evaluated) (value : Value) (a : Aim) (e : Expression) → None ≡ var_of a → r.prelude ≡ value.prelude
      → r.next ≡ value.next
      → Stands n value (elaborated integers line e n) → StandsChange integers n line (changed.Evaluates r) (change_to a e line)
  to_none r value (a_variable i at) e h p q s = cc
  to_none r value (an_element old) e h p q s = (refl, alone r value e p q s)

-- the 1 of a step is in range
pub one_ranged : (integers : Integers) (line sign h : ℕ) → ranged integers line sign h (number (pos 1) sign) ≡ Ok (number (pos 1) sign)
one_ranged Mathematical line sign h = refl
one_ranged (Machine Bits8) line sign h = refl
one_ranged (Machine Bits16) line sign h = refl
one_ranged (Machine Bits32) line sign h = refl

-- a step is an operation with 1
pub stepped_so : (d : g.Direction) (sign : ℕ) (old : Expression) → stepped d sign old ≡ joined (step_by d) sign old (number (pos 1) sign)
stepped_so g.up sign old = refl
stepped_so g.down sign old = refl
