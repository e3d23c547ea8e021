use Rattle.std.proofs.Common.{◌++◌, ap₂}
use Rattle.std.proofs.lemmas.Bool.{and_parts}
use Rattle.lang_tree.specs.Limits.{has_numbers}
use Rattle.source_core.specs.Elaborated as core
use Rattle.source_core.specs.Fits.{fits, deeds_fit}
use Rattle.source_value.specs.Stands.{Stands}
use Rattle.source_value.specs.Operations.{operation_of}
use Rattle.source_value.proofs.answers.Parts.{deeds_fit_both}
use Rattle.source_value.proofs.answers.Handed.{wanted_as}
use Rattle.source_value.proofs.operation.operated.Goals as goal

pub returns : goal.returns
returns c = λ a b l s t.
    let n = c.args.site.variables in
    let integers = c.args.site.integers in
    let line = c.args.site.line in
    let o = operation_of c.args.operation in
    let p = and_parts (deeds_fit a.prelude) (has_numbers a.form) s.numbers in
    let q = and_parts (deeds_fit b.prelude) (has_numbers b.form) t.numbers in
    wanted_as (Stands n) fits c.operation_behind.result
    (core.operation_on integers line o c.args.sign (a.prelude ++ b.prelude) b.next c.args.left.form c.args.right.form)
    (core.operation_on integers line o c.args.sign (a.prelude ++ b.prelude) b.next a.form b.form)
    (ap₂ (λ f g. core.operation_on integers line o c.args.sign (a.prelude ++ b.prelude) b.next f g) s.form t.form)
    (c.operation_behind.ensures (record { prelude = a.prelude ++ b.prelude; next = b.next }) (record {
      prelude = c.in_ok-joined.ensures n a.next b.next a.prelude b.prelude l s.prelude t.prelude;
      next = t.next;
      numbers = deeds_fit_both a.prelude b.prelude p.0 q.0;
    }))
