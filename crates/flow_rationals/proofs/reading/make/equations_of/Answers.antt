use Rattle.std.proofs.Common.{map, ap, ◌∙◌}
use Rattle.std.proofs.lemmas.List.{take_all}
use Rattle.flow_rationals.specs.EquationTexts.{equation_of}
use Rattle.flow_rationals.specs.EquFaults.{equation_faults}
use Rattle.flow_rationals.proofs.written_sums.Made.{flat_at}
use Rattle.flow_rationals.proofs.written_sums.Limits.{count_few, sides_sound, equations_are}
use Rattle.flow_rationals.proofs.reading.make.equations_of.Goals as goal

pub equation_of-requires-clause-few : goal.equation_of-requires-clause-few
equation_of-requires-clause-few c = count_few c.args.equations.now c.requires.sound

pub equation_of-requires-clause-sound : goal.equation_of-requires-clause-sound
equation_of-requires-clause-sound c =
    flat_at (equation_faults c.args.equations.now) c.args.equations.now c.loop-equation.equation-index c.equation-item.result
    c.loop-equation-test.true
    c.equation-item.is (sides_sound c.args.equations.now c.requires.sound)

pub new-requires : goal.new-requires
new-requires c =
    let es = c.args.equations.now in
    equations_are es c.loop-equation.made.items c.requires.sound c.requires.some
    (c.loop-equation.invariant.made ∙ ap (map (equation_of es)) (take_all c.loop-equation.equation-index es c.loop-equation-test.false))
    c.loop-equation.invariant.fit
