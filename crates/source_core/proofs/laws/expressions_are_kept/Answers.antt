use Rattle.std.specs.Prelude.{◌==◌}
use Rattle.base_integers.specs.declared.integers.Integers.TheVariants.{Mathematical}
use Rattle.source_core.specs.Laws.{occurrences}
use Rattle.source_core.proofs.forms.Over.{agree_refl}
use Rattle.source_core.proofs.expressions.Apart.{apart-alone}
use Rattle.source_core.proofs.expressions.Kept.{kept}
use Rattle.source_core.proofs.expressions.Broken.{broken}
use Rattle.source_core.proofs.expressions.Exactly.{exactly}
use Rattle.source_core.proofs.expressions.Whole.{keeps-others, agrees-whole}
use Rattle.source_core.proofs.laws.expressions_are_kept.Goals as goal

pub returns-clause-values : goal.returns-clause-values
returns-clause-values c = λ integers line e n h s o p x z y m.
    let k = kept integers line e n h (λ j. occurrences j e == 1) s o (apart-alone e p) in
    let w = k.keeps x x z y (agree_refl n x) m in
    (w.0, w.1, agrees-whole integers line e n h s o p x y w.0 z m w.1 w.2, w.3)

pub returns-clause-stops : goal.returns-clause-stops
returns-clause-stops c = λ integers line e n h s o p.
    let k = kept integers line e n h (λ j. occurrences j e == 1) s o (apart-alone e p) in
    (k.fits.goes, λ x y l i low others. keeps-others integers line e n h s o p x y l i low others)

pub returns-clause-breaks : goal.returns-clause-breaks
returns-clause-breaks c = λ integers line e n h s o p x i about m.
    broken integers line e n h (λ j. occurrences j e == 1) s o (apart-alone e p) x x (agree_refl n x) i about m

pub returns-clause-exact : goal.returns-clause-exact
returns-clause-exact c = λ line e n h s o p t x w z l m.
    let r = exactly line e n h (λ j. occurrences j e == 1) s o (apart-alone e p) t x x w z (agree_refl n x) l m in
    (r.0, r.1, agrees-whole Mathematical line e n h s o p x r.0 w z r.1 l r.2)
