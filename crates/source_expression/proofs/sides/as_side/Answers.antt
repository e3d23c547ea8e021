-- A side is the condition or the number that is asked for.
use Rattle.std.proofs.Common.{◌≡◌, ◌∙◌, true, false, Ok, sym}
use Rattle.source_core.specs.Elaborated.{elaborated}
use Rattle.source_meaning.specs.Expressions.{as_condition}
use Rattle.source_reader.specs.Placed.{placed}
use Rattle.source_expression.specs.Signs.{asks_conditions}
use Rattle.source_expression.specs.Sides.{IsTestedOf}
use Rattle.source_expression.proofs.Answering.{answers_of}
use Rattle.source_expression.proofs.Worked.{condition_side, number_side, tested_answers}
use Rattle.source_expression.proofs.sides.as_side.Goals as goal

pub returns-in_ok-placed : goal.returns-in_ok-placed
returns-in_ok-placed c = λ x h i.
    let site = c.args.site in
    let v = c.in_ok-placed.field-0 in
    let r = c.into_condition.result in
    let e : asks_conditions c.args.work ≡ true = sym c.asks_conditions.ensures ∙ c.if-asks_conditions.true in
    condition_side site h x (asks_conditions c.args.work) c.args.first v e
    (answers_of (IsTestedOf site h) (Ok v) (placed c.args.first r)
    (as_condition site.integers site.line c.args.first h x) c.in_ok-placed.ensures
    (tested_answers site h x r c.args.first (c.into_condition.ensures (elaborated site.integers site.line x h) i)))

pub returns-in_ok-into_number : goal.returns-in_ok-into_number
returns-in_ok-into_number c = λ x h i.
    let e : asks_conditions c.args.work ≡ false = sym c.asks_conditions.ensures ∙ c.if-asks_conditions.false in
    number_side c.args.site h x (asks_conditions c.args.work) c.args.first c.in_ok-into_number.field-0 e
    (c.in_ok-into_number.ensures (elaborated c.args.site.integers c.args.site.line x h) i)
