use Rattle.std.proofs.Common.{ap, ◌∙◌, length}
use Rattle.std.specs.List.{list_all, flat_map}
use Rattle.std.proofs.lemmas.Bool.{and_from}
use Rattle.flow_rationals.specs.Equations.{is_alternative}
use Rattle.flow_rationals.specs.EquFaults.{below_faults, choice_faults}
use Rattle.flow_rationals.proofs.equ_faults.First.{back_none}
use Rattle.flow_rationals.proofs.written_sums.Limits.{alternatives_are}
use Rattle.flow_rationals.proofs.reading.make.equation_of.Goals as goal

pub returns-clause-within : goal.returns-clause-within
returns-clause-within c =
    let es = c.args.equations.now in
    and_from _ _ c.start_of-start.ensures.fits
    (ap (list_all (is_alternative (length es))) c.in_ok-alternatives.ensures
    ∙ alternatives_are es c.as_slice.result.now
    (ap (flat_map (choice_faults es)) c.as_slice.ensures ∙ back_none (below_faults c.args.equation.now.start.below) _ c.requires.sound))
