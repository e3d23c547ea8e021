-- Signs before operands.
use Rattle.std.proofs.Common.{Ok, refl, sym, ap, subst}
use Rattle.source_tree.specs.Expressions as made
use Rattle.source_core.specs.Elaborated.{elaborated, numbered, tested}
use Rattle.source_meaning.specs.Expressions as meaning
use Rattle.source_meaning.specs.Expressions.{as_condition}
use Rattle.source_meaning.specs.Results.{◌>>=◌}
use Rattle.source_reader.specs.Answers.{Answers}
use Rattle.source_reader.specs.Placed.{placed}
use Rattle.source_expression.specs.Signs.{prefix_of}
use Rattle.source_expression.specs.Sides.{IsRead, IsTestedOf}
use Rattle.source_expression.proofs.Answering.{answers_of}
use Rattle.source_expression.proofs.Worked.{tested_answers}
use Rattle.source_expression.proofs.sides.signed.Goals as goal

pub returns-in_ok-into_number-in-Positive : goal.returns-in_ok-into_number-in-Positive
returns-in_ok-into_number-in-Positive c = λ x h i.
    let site = c.args.site in
    let e = elaborated site.integers site.line x h in
    subst (λ p. Answers (IsRead site h) (Ok c.positive.result) (meaning.prefixed site.integers site.line
    (prefix_of p) c.args.sign c.args.first h x))
    (sym c.in-Positive.is) (
      made.positive c.args.sign x,
      refl,
      c.positive.ensures site.variables (numbered site.integers site.line e) (c.in_ok-into_number-in-Positive.ensures e i),
    )

pub returns-in_ok-inverse-in-Negation : goal.returns-in_ok-inverse-in-Negation
returns-in_ok-inverse-in-Negation c = λ x h i.
    let site = c.args.site in
    let v = c.in_ok-inverse-in-Negation.field-0 in
    let t = c.in_ok-placed-in-Negation.field-0 in
    let r = c.into_condition.result in
    let a : Answers (IsTestedOf site h) (Ok t) (as_condition site.integers site.line c.args.first h x) =
    answers_of (IsTestedOf site h) (Ok t) (placed c.args.first r) (as_condition site.integers site.line c.args.first h x)
    c.in_ok-placed-in-Negation.ensures
    (tested_answers site h x r c.args.first (c.into_condition.ensures (elaborated site.integers site.line x h) i)) in
    subst (λ p. Answers (IsRead site h) (Ok v) (meaning.prefixed site.integers site.line (prefix_of p) c.args.sign c.args.first h x))
    (sym c.in-Negation.is) (
      made.inverse c.args.sign a.0,
      ap (λ r. r >>= λ e. Ok (made.inverse c.args.sign e)) a.1,
      c.in_ok-inverse-in-Negation.ensures site.variables (tested (elaborated site.integers site.line a.0 h)) a.2,
    )
