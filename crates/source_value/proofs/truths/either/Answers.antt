use Rattle.std.proofs.Common.{◌∙◌, ◌++◌, ◌&&◌, ap, sym, arith}
use Rattle.std.proofs.lemmas.Bool.{and_from, and_parts}
use Rattle.lang_tree.specs.Tree as tree
use Rattle.source_core.specs.Preludes.{all_under}
use Rattle.source_value.specs.declared.value.Outcome.TheVariants as outcome
use Rattle.source_core.specs.Fits.{condition_fits, deeds_fit}
use Rattle.source_value.specs.Kept.{kept_condition}
use Rattle.source_value.proofs.answers.Parts.{deeds_fit_both, all_under_fit}
use Rattle.source_value.proofs.truths.either.Goals as goal

pub returns : goal.returns
returns c = λ a b l s t.
    let n = c.args.site.variables in
    let other = tree.negation a.condition in
    let p = and_parts (deeds_fit a.prelude) (condition_fits a.condition) s.numbers in
    let q = and_parts (deeds_fit b.prelude) (condition_fits b.condition) t.numbers in
    record {
      prelude = c.in_ok-joined.ensures n a.next b.next a.prelude (all_under other b.prelude) l s.prelude
          (c.in_ok-under.ensures n a.next b.next other b.prelude l
          (c.in_ok-not_left.ensures n a.next a.condition (c.in_ok-again.ensures ∙ s.condition)) t.prelude);
      result = ap outcome.Truth (c.in_ok-truth.ensures a.next a.condition b.condition (omega (arith, l, t.next)) s.condition
          (t.condition ∙ ap (λ k. kept_condition n k b.condition) (sym t.next))
          ∙ ap (λ k. kept_condition n k (tree.either a.condition b.condition)) t.next);
      next = t.next;
      numbers = and_from (deeds_fit (a.prelude ++ all_under other b.prelude)) (condition_fits a.condition && condition_fits b.condition)
          (deeds_fit_both a.prelude (all_under other b.prelude) p.0 (all_under_fit other b.prelude p.1 q.0))
          (and_from (condition_fits a.condition) (condition_fits b.condition) p.1 q.1);
    }
