use Rattle.std.proofs.Common.{◌≡◌, ◌∙◌, ℕ, pos, ap, refl, subst, sym}
use Rattle.base_integers.specs.declared.integers.Integers.{Integers}
use Rattle.base_integers.specs.declared.integers.Integers.TheVariants.{Mathematical, Machine}
use Rattle.base_integers.specs.declared.integers.Width.TheVariants.{Bits8, Bits16, Bits32}
use Rattle.lang_tree.specs.Tree.{Condition, compare}
use Rattle.lang_tree.specs.View.{condition_step, deeds_of}
use Rattle.lang_tree.specs.View as view
use Rattle.lang_tree.specs.declared.form.Form.{Form}
use Rattle.lang_tree.specs.declared.cond.Cond.TheFolds.{fold-roll-Cond}
use Rattle.lang_tree.specs.declared.cond.Cond.TheOpen as open_cond
use Rattle.lang_tree.specs.declared.cond.Cond.TheVariants.{Cmp, rolls-Cmp}
use Rattle.lang_tree.specs.declared.cond.Rel.TheVariants.{Le}
use Rattle.source_core.specs.Elaborated.{Tested}
use Rattle.source_core.specs.Core.{condition_of}
use Rattle.source_meaning.specs.Statements.{always}
use Rattle.source_change.specs.Tests.{IsTest}
use Rattle.source_change.specs.declared.conditions.Test.{Test}
use Rattle.source_statement.proofs.head.always.Goals as goal

-- 0 is one of the integers of each width
same_of : (integers : Integers) (n line at : ℕ) → condition_of integers n line (always at) ≡ condition_of Mathematical n line (always at)
same_of Mathematical n line at = refl
same_of (Machine Bits8) n line at = refl
same_of (Machine Bits16) n line at = refl
same_of (Machine Bits32) n line at = refl

pub returns : goal.returns
returns c = λ integers n line at.
    let zero : Form = record { coeffs = c.new-2.result; constant = pos 0 } in
    let test : Test = record { prelude = c.new-3.result; cond = Cmp Le zero } in
    let none = c.new-2.ensures ∙ c.new.ensures.items in
    subst (λ (t : Tested). IsTest test t) (sym (same_of integers n line at)) (record {
      prelude = ap deeds_of c.new-3.ensures.items;
      condition = ap view.condition_of (sym (rolls-Cmp Le zero)) ∙ fold-roll-Cond Condition condition_step (open_cond.Cmp Le zero)
          ∙ ap (λ m. compare Le (record { coeffs = m; constant = pos 0 })) none;
    })
