-- "And" and "or" of conditions.
use Rattle.std.proofs.Common.{Ok, refl, sym, subst}
use Rattle.source_tree.specs.Expressions as made
use Rattle.source_core.specs.Elaborated.{elaborated, tested}
use Rattle.source_meaning.specs.Expressions.{behind}
use Rattle.source_reader.specs.Answers.{Answers}
use Rattle.source_expression.specs.Sides.{IsRead, worked}
use Rattle.source_expression.proofs.Parts.{conditions_grow}
use Rattle.source_expression.proofs.sides.of_conditions.Goals as goal

pub returns-in_ok-either-in-Either : goal.returns-in_ok-either-in-Either
returns-in_ok-either-in-Either c = λ x y h sign t i j.
    let site = c.args.site in
    let v = c.in_ok-either-in-Either.field-0 in
    subst (λ w. Answers (IsRead site h) (Ok v) (worked site.integers site.line w sign h x y)) (sym c.in-Either.is) (
      made.either x y,
      refl,
      c.in_ok-either-in-Either.ensures (tested (elaborated site.integers site.line x h))
          (tested (elaborated site.integers site.line y (behind site.integers site.line x h))) (conditions_grow site h x y) i j,
    )

pub returns-in_ok-both-in-Both : goal.returns-in_ok-both-in-Both
returns-in_ok-both-in-Both c = λ x y h sign t i j.
    let site = c.args.site in
    let v = c.in_ok-both-in-Both.field-0 in
    subst (λ w. Answers (IsRead site h) (Ok v) (worked site.integers site.line w sign h x y)) (sym c.in-Both.is) (
      made.both x y,
      refl,
      c.in_ok-both-in-Both.ensures (tested (elaborated site.integers site.line x h))
          (tested (elaborated site.integers site.line y (behind site.integers site.line x h))) (conditions_grow site h x y) i j,
    )
