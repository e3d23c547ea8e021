use Rattle.std.proofs.Common.{◌∙◌, ◌∷◌, [], ap, arith}
use Rattle.theory_validity.specs.Words.{free_count}
use Rattle.solve_composition.proofs.walk.Frees.{frees_left, frees_none, frees-havoc, frees-other}
use Rattle.solve_composition.proofs.walk.count_frees.Goals as goal
use Rattle.solve_composition.proofs.walk.count_frees.Goals.{in-Havoc, in_default}

pub loop-action-preserved : goal.loop-action-preserved
loop-action-preserved c =
    let left = frees_left c.args.actions.now c.loop-action.action-index c.action-item.result c.loop-action-test.true c.action-item.is in
    let before = c.loop-action.invariant.count in
    let few = c.loop-action.invariant.few in
    elim c.match-action.branch [
      | in-Havoc w ↦
          let one = ap (λ a. free_count (a ∷ [])) w.in-Havoc.is ∙ frees-havoc w.in-Havoc.var in
          let is = w.count-is in
          record { count = omega (arith, left, before, one, is); few = omega (arith, few, is) }
      | in_default w ↦
          let none = frees-other c.action-item.result w.in_default.not-Havoc in
          let is = w.count-is in
          record { count = omega (arith, left, before, none, is); few = omega (arith, few, is) }
    ]

pub returns-clause-count : goal.returns-clause-count
returns-clause-count c = let end = frees_none c.args.actions.now c.loop-action.action-index c.loop-action-test.false in
    let all = c.loop-action.invariant.count in omega (arith, end, all)
