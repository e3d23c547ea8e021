-- Operations on numbers, and comparisons.
use Rattle.std.proofs.Common.{sym, subst}
use Rattle.source_tree.specs.Expressions as made
use Rattle.source_core.specs.Elaborated.{elaborated, numbered}
use Rattle.source_meaning.specs.Expressions.{behind_number, ranged}
use Rattle.source_value.specs.Operations.{operation_of}
use Rattle.source_reader.specs.Answers.{Answers}
use Rattle.source_reader.specs.Placed.{placed}
use Rattle.source_expression.specs.Sides.{IsRead, worked}
use Rattle.source_expression.proofs.Answering.{answers_of}
use Rattle.source_expression.proofs.Parts.{numbers_ordered}
use Rattle.source_expression.proofs.Worked.{ranged_answers}
use Rattle.source_expression.proofs.sides.of_numbers.Goals as goal

pub returns-in-Compare : goal.returns-in-Compare
returns-in-Compare c = λ x y h t i j.
    let site = c.args.site in
    let at = c.args.sign.at in
    let z = made.compared c.in-Compare.rel at x y in
    let r = c.compared.result in
    subst (λ w. Answers (IsRead site h) c.placed.result (worked site.integers site.line w at h x y)) (sym c.in-Compare.is)
    (answers_of (IsRead site h) c.placed.result (placed at r) (ranged site.integers site.line at h z) c.placed.ensures
    (ranged_answers site h z r at (c.compared.ensures (numbered site.integers site.line (elaborated site.integers site.line x h))
    (numbered site.integers site.line (elaborated site.integers site.line y (behind_number site.integers site.line x h)))
    (numbers_ordered site h x y) i j)))

pub returns-in-Operate : goal.returns-in-Operate
returns-in-Operate c = λ x y h t i j.
    let site = c.args.site in
    let at = c.args.sign.at in
    let z = made.joined (operation_of c.in-Operate.operation) at x y in
    let r = c.operated.result in
    subst (λ w. Answers (IsRead site h) c.placed-in-Operate.result (worked site.integers site.line w at h x y)) (sym c.in-Operate.is)
    (answers_of (IsRead site h) c.placed-in-Operate.result (placed at r) (ranged site.integers site.line at h z) c.placed-in-Operate.ensures
    (ranged_answers site h z r at (c.operated.ensures (numbered site.integers site.line (elaborated site.integers site.line x h))
    (numbered site.integers site.line (elaborated site.integers site.line y (behind_number site.integers site.line x h)))
    (numbers_ordered site h x y) i j)))
