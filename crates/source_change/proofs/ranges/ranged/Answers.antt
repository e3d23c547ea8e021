use Rattle.std.proofs.Common.{Result, sym, subst}
use Rattle.source_core.specs.Elaborated.{elaborated}
use Rattle.source_core.specs.Fits.{fits}
use Rattle.source_meaning.specs.Expressions.{ranged}
use Rattle.source_value.specs.Stands.{Stands}
use Rattle.source_value.specs.declared.value.Value.{Value}
use Rattle.source_reader.specs.Answers.{Answers}
use Rattle.source_reader.specs.declared.stop.Stop.{Stop}
use Rattle.source_reader.proofs.Placing.{placed_answers}
use Rattle.source_change.proofs.ranges.ranged.Goals as goal

pub returns : goal.returns
returns c = λ integers n line h e a.
    let P : Result Value Stop → Type 0 = λ r. Answers (λ v x. Stands n v (elaborated integers line x h)) r
    (ranged integers line c.args.sign h e) in
    subst P (sym c.placed.ensures)
    (placed_answers (Stands n) fits (λ x. elaborated integers line x h) c.args.made c.args.sign e a (λ v s. s.numbers))
